use Rattle.std.proofs.Common.{rules}
use Rattle.faults.proofs.Exits.{passed_on}
use Rattle.hierarchypass.proofs.Bodies.{line_unopened, kind_lost, body_lost, unfinished, passed, same_fillings}
use Rattle.hierarchypass.proofs.whole.pass_hierarchy.Goals as goal

pub returns-in_err-pass-clause-reads : goal.returns-in_err-pass-clause-reads
returns-in_err-pass-clause-reads c =
    passed_on _ _ c.from_residual-in_err-pass.result c.in_err-pass.field-0.0 c.from_residual-in_err-pass.ensures.1 (line_unopened c.in_ok-scanner.ensures c.in_err-pass.ensures)

pub returns-in_err-kind-clause-reads : goal.returns-in_err-kind-clause-reads
returns-in_err-kind-clause-reads c =
    passed_on _ _ c.from_residual-in_err-kind.result c.in_err-kind.field-0.0 c.from_residual-in_err-kind.ensures.1 (kind_lost c.in_ok-scanner.ensures c.in_ok-pass.ensures c.in_err-kind.ensures)

pub returns-in_err-contents-clause-reads : goal.returns-in_err-contents-clause-reads
returns-in_err-contents-clause-reads c =
    passed_on _ _ c.from_residual-in_err-contents.result c.in_err-contents.field-0.0 c.from_residual-in_err-contents.ensures.1 (body_lost c.in_ok-scanner.ensures c.in_ok-pass.ensures c.in_ok-kind.ensures c.in_err-contents.ensures.reads)

pub returns-in_err-finish-clause-reads : goal.returns-in_err-finish-clause-reads
returns-in_err-finish-clause-reads c =
    passed_on _ _ c.from_residual-in_err-finish.result c.in_err-finish.field-0.0 c.from_residual-in_err-finish.ensures.1 (unfinished c.in_ok-scanner.ensures c.in_ok-pass.ensures c.in_ok-kind.ensures c.in_ok-contents.ensures.reads c.in_err-finish.ensures)

pub returns-clause-reads : goal.returns-clause-reads
returns-clause-reads c =
    same_fillings (search rules) (search rules) (search rules)
    (passed c.in_ok-scanner.ensures c.in_ok-pass.ensures c.in_ok-kind.ensures c.in_ok-contents.ensures.reads c.in_ok-finish.ensures)
