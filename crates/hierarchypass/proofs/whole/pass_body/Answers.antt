use Rattle.std.proofs.Common.{arith}
use Rattle.faults.proofs.Exits.{passed_on}
use Rattle.scanner.proofs.Steps.{lost_first}
use Rattle.arrays.proofs.Lists.{rows_kept}
use Rattle.hierarchypass.proofs.Sizes.{replacements_kept}
use Rattle.hierarchypass.proofs.Bodies.{at_kind, vertices_left, vertices_lost, first_comma_lost, cells_lost, second_comma_lost, replacements_lost, end_lost, few_base, few_made, bodied, with_contents}
use Rattle.hierarchypass.proofs.whole.pass_body.Goals as goal

pub returns-in_err-pass-clause-reads : goal.returns-in_err-pass-clause-reads
returns-in_err-pass-clause-reads c =
    passed_on _ _ c.from_residual.result c.in_err-pass.field-0.0 c.from_residual.ensures.1 (at_kind c.args.kind c.corners-width.result c.corners-width.ensures (lost_first (vertices_left c.corners-width.result) c.in_err-pass.ensures))

pub returns-in_err-vertices-clause-reads : goal.returns-in_err-vertices-clause-reads
returns-in_err-vertices-clause-reads c =
    passed_on _ _ c.from_residual-in_err-vertices.result c.in_err-vertices.field-0.0 c.from_residual-in_err-vertices.ensures.1 (at_kind c.args.kind c.corners-width.result c.corners-width.ensures (vertices_lost c.corners-width.result c.in_ok-pass.ensures c.in_err-vertices.ensures.reads))

pub returns-in_err-pass-2-clause-reads : goal.returns-in_err-pass-2-clause-reads
returns-in_err-pass-2-clause-reads c =
    passed_on _ _ c.from_residual-in_err-pass-2.result c.in_err-pass-2.field-0.0 c.from_residual-in_err-pass-2.ensures.1 (at_kind c.args.kind c.corners-width.result c.corners-width.ensures (first_comma_lost c.corners-width.result c.in_ok-pass.ensures (rows_kept c.in_ok-vertices.ensures.reads) c.in_err-pass-2.ensures))

pub returns-in_err-base-clause-reads : goal.returns-in_err-base-clause-reads
returns-in_err-base-clause-reads c =
    passed_on _ _ c.from_residual-in_err-base.result c.in_err-base.field-0.0 c.from_residual-in_err-base.ensures.1 (at_kind c.args.kind c.corners-width.result c.corners-width.ensures (cells_lost c.corners-width.result c.in_ok-pass.ensures (rows_kept c.in_ok-vertices.ensures.reads) c.in_ok-pass-2.ensures c.in_err-base.ensures.reads))

pub returns-in_err-pass-3-clause-reads : goal.returns-in_err-pass-3-clause-reads
returns-in_err-pass-3-clause-reads c =
    passed_on _ _ c.from_residual-in_err-pass-3.result c.in_err-pass-3.field-0.0 c.from_residual-in_err-pass-3.ensures.1 (at_kind c.args.kind c.corners-width.result c.corners-width.ensures (second_comma_lost c.corners-width.result c.in_ok-pass.ensures (rows_kept c.in_ok-vertices.ensures.reads) c.in_ok-pass-2.ensures (rows_kept c.in_ok-base.ensures.reads) c.in_err-pass-3.ensures))

pub returns-in_err-count-clause-reads : goal.returns-in_err-count-clause-reads
returns-in_err-count-clause-reads c =
    passed_on _ _ c.from_residual-in_err-count.result c.in_err-count.field-0.0 c.from_residual-in_err-count.ensures.1 (at_kind c.args.kind c.corners-width.result c.corners-width.ensures (replacements_lost c.corners-width.result c.in_ok-pass.ensures (rows_kept c.in_ok-vertices.ensures.reads) c.in_ok-pass-2.ensures (rows_kept c.in_ok-base.ensures.reads) c.in_ok-pass-3.ensures c.in_err-count.ensures.reads))

pub returns-in_err-pass-4-clause-reads : goal.returns-in_err-pass-4-clause-reads
returns-in_err-pass-4-clause-reads c =
    passed_on _ _ c.from_residual-in_err-pass-4.result c.in_err-pass-4.field-0.0 c.from_residual-in_err-pass-4.ensures.1 (at_kind c.args.kind c.corners-width.result c.corners-width.ensures (end_lost c.corners-width.result c.in_ok-pass.ensures (rows_kept c.in_ok-vertices.ensures.reads) c.in_ok-pass-2.ensures (rows_kept c.in_ok-base.ensures.reads) c.in_ok-pass-3.ensures (replacements_kept c.in_ok-count.ensures.reads) c.in_err-pass-4.ensures))

pub contents_of-requires : goal.contents_of-requires
contents_of-requires c =
    omega (arith, few_base c.corners-width.result c.in_ok-pass.ensures (rows_kept c.in_ok-vertices.ensures.reads) c.in_ok-pass-2.ensures (rows_kept c.in_ok-base.ensures.reads), few_made c.corners-width.result c.in_ok-pass.ensures (rows_kept c.in_ok-vertices.ensures.reads) c.in_ok-pass-2.ensures (rows_kept c.in_ok-base.ensures.reads) c.in_ok-pass-3.ensures (replacements_kept c.in_ok-count.ensures.reads), c.args.scanner.now.short)

pub returns-clause-reads : goal.returns-clause-reads
returns-clause-reads c =
    with_contents c.contents_of.ensures (bodied c.corners-width.result c.in_ok-pass.ensures (rows_kept c.in_ok-vertices.ensures.reads) c.in_ok-pass-2.ensures (rows_kept c.in_ok-base.ensures.reads) c.in_ok-pass-3.ensures (replacements_kept c.in_ok-count.ensures.reads) c.args.kind c.corners-width.ensures c.in_ok-pass-4.ensures)
