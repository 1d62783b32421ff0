use Rattle.std.proofs.Common.{◌+◌, ◌≤◌, sym, subst, arith}
use Rattle.faults.proofs.Exits.{passed_on}
use Rattle.scanner.proofs.Steps.{lost_first}
use Rattle.hierarchypass.specs.Passing.{Growth}
use Rattle.arrays.proofs.Lists.{numbers_kept, rows_kept}
use Rattle.hierarchypass.proofs.Parts.{error_left, error_lost, first_comma_lost, taken_lost, second_comma_lost, made_lost, end_lost, few_taken, few_made, replaced, still_fits}
use Rattle.hierarchypass.proofs.replacement.ReplacementEntryGrowing.keep.Goals as goal

pub returns-in_err-pass-clause-reads : goal.returns-in_err-pass-clause-reads
returns-in_err-pass-clause-reads c =
    passed_on _ _ c.from_residual.result c.in_err-pass.field-0.0 c.from_residual.ensures.1 (lost_first (error_left c.args.self.now.width) c.in_err-pass.ensures)

pub returns-in_err-keep-clause-reads : goal.returns-in_err-keep-clause-reads
returns-in_err-keep-clause-reads c =
    passed_on _ _ c.from_residual-in_err-keep.result c.in_err-keep.field-0.0 c.from_residual-in_err-keep.ensures.1 (error_lost c.args.self.now.width c.in_ok-pass.ensures c.in_err-keep.ensures.reads)

pub returns-in_err-pass-2-clause-reads : goal.returns-in_err-pass-2-clause-reads
returns-in_err-pass-2-clause-reads c =
    passed_on _ _ c.from_residual-in_err-pass-2.result c.in_err-pass-2.field-0.0 c.from_residual-in_err-pass-2.ensures.1 (first_comma_lost c.args.self.now.width c.in_ok-pass.ensures c.in_ok-keep.ensures.reads c.in_err-pass-2.ensures)

pub returns-in_err-takes-clause-reads : goal.returns-in_err-takes-clause-reads
returns-in_err-takes-clause-reads c =
    passed_on _ _ c.from_residual-in_err-takes.result c.in_err-takes.field-0.0 c.from_residual-in_err-takes.ensures.1 (taken_lost c.args.self.now.width c.in_ok-pass.ensures c.in_ok-keep.ensures.reads c.in_ok-pass-2.ensures c.in_err-takes.ensures.reads)

pub returns-in_err-pass-3-clause-reads : goal.returns-in_err-pass-3-clause-reads
returns-in_err-pass-3-clause-reads c =
    passed_on _ _ c.from_residual-in_err-pass-3.result c.in_err-pass-3.field-0.0 c.from_residual-in_err-pass-3.ensures.1 (second_comma_lost c.args.self.now.width c.in_ok-pass.ensures c.in_ok-keep.ensures.reads c.in_ok-pass-2.ensures (numbers_kept c.in_ok-takes.ensures.reads) c.in_err-pass-3.ensures)

pub returns-in_err-makes-clause-reads : goal.returns-in_err-makes-clause-reads
returns-in_err-makes-clause-reads c =
    passed_on _ _ c.from_residual-in_err-makes.result c.in_err-makes.field-0.0 c.from_residual-in_err-makes.ensures.1 (made_lost c.args.self.now.width c.in_ok-pass.ensures c.in_ok-keep.ensures.reads c.in_ok-pass-2.ensures (numbers_kept c.in_ok-takes.ensures.reads) c.in_ok-pass-3.ensures c.in_err-makes.ensures.reads)

pub returns-in_err-pass-4-clause-reads : goal.returns-in_err-pass-4-clause-reads
returns-in_err-pass-4-clause-reads c =
    passed_on _ _ c.from_residual-in_err-pass-4.result c.in_err-pass-4.field-0.0 c.from_residual-in_err-pass-4.ensures.1 (end_lost c.args.self.now.width c.in_ok-pass.ensures c.in_ok-keep.ensures.reads c.in_ok-pass-2.ensures (numbers_kept c.in_ok-takes.ensures.reads) c.in_ok-pass-3.ensures (rows_kept c.in_ok-makes.ensures.reads) c.in_err-pass-4.ensures)

pub count-requires-clause-few_taken : goal.count-requires-clause-few_taken
count-requires-clause-few_taken c = omega (arith, few_taken c.args.self.now.width c.in_ok-pass.ensures c.in_ok-keep.ensures.reads c.in_ok-pass-2.ensures (numbers_kept c.in_ok-takes.ensures.reads), c.args.scanner.now.short)

pub count-requires-clause-few_made : goal.count-requires-clause-few_made
count-requires-clause-few_made c = omega (arith, few_made c.args.self.now.width c.in_ok-pass.ensures c.in_ok-keep.ensures.reads c.in_ok-pass-2.ensures (numbers_kept c.in_ok-takes.ensures.reads) c.in_ok-pass-3.ensures (rows_kept c.in_ok-makes.ensures.reads), c.args.scanner.now.short)

pub returns-clause-room : goal.returns-clause-room
returns-clause-room c =
    subst (λ (g : Growth). g.takes + g.makes ≤ c.pass-4.new.self.at) (sym c.count.ensures.kept)
    (still_fits c.args.self.now.width (replaced c.args.self.now.width c.in_ok-pass.ensures c.in_ok-keep.ensures.reads c.in_ok-pass-2.ensures (numbers_kept c.in_ok-takes.ensures.reads) c.in_ok-pass-3.ensures (rows_kept c.in_ok-makes.ensures.reads) c.in_ok-pass-4.ensures _ _) c.requires)

pub returns-clause-reads : goal.returns-clause-reads
returns-clause-reads c = rw c.count.ensures.kept (replaced c.args.self.now.width c.in_ok-pass.ensures c.in_ok-keep.ensures.reads c.in_ok-pass-2.ensures (numbers_kept c.in_ok-takes.ensures.reads) c.in_ok-pass-3.ensures (rows_kept c.in_ok-makes.ensures.reads) c.in_ok-pass-4.ensures _ _)
