use Rattle.std.proofs.Common.{refl}
use Rattle.forms.specs.Array.{listed, whole}
use Rattle.faults.proofs.Exits.{passed_on}
use Rattle.arrays.proofs.Lists.{numbers_kept}
use Rattle.scanner.proofs.Lines.{line_lost, line_unfinished, line_says}
use Rattle.orderlines.proofs.order.pass_order.Goals as goal

pub returns-in_err-count-clause-reads : goal.returns-in_err-count-clause-reads
returns-in_err-count-clause-reads c =
    passed_on _ _ c.from_residual-in_err-count.result c.in_err-count.field-0.0 c.from_residual-in_err-count.ensures.1 (line_lost (listed whole) refl c.in_ok-scanner.ensures c.in_err-count.ensures.reads)

pub returns-in_err-finish-clause-reads : goal.returns-in_err-finish-clause-reads
returns-in_err-finish-clause-reads c =
    passed_on _ _ c.from_residual-in_err-finish.result c.in_err-finish.field-0.0 c.from_residual-in_err-finish.ensures.1
    (line_unfinished (listed whole) refl c.in_ok-scanner.ensures c.in_ok-count.ensures.reads.step c.in_err-finish.ensures)

pub returns-clause-reads : goal.returns-clause-reads
returns-clause-reads c =
    let k = numbers_kept c.in_ok-count.ensures.reads in
    record { values = k.value; says = line_says (listed whole) refl c.in_ok-scanner.ensures k.step c.in_ok-finish.ensures; counts = k.is; kept = k.kept }
