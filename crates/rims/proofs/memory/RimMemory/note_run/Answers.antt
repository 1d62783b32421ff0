use Rattle.std.proofs.Common.{ℕ, ap, ◌∙◌}
use Rattle.rules.specs.Raw.{cell}
use Rattle.rims.proofs.Cells.{run_more}
use Rattle.rims.proofs.Noting.{noted_run}
use Rattle.rims.proofs.memory.RimMemory.note_run.Goals as goal

pub loop-c-preserved : goal.loop-c-preserved
loop-c-preserved g c = (
  noted_run g.K.Kind.shape g.K.Kind.key g.K.Kind.real c.args.corners.now c.args.self.now c.loop-c.self c.note_cell.new.self c.args.first c.loop-c.c c.loop-c.auto.c
      c.loop-c.invariant.0 c.cell_at.result.now (c.cell_at.ensures ∙ ap (λ (k : ℕ). cell k c.args.corners.now c.loop-c.c) (c.CORNERS.ensures ∙ g.met.K.Kind.sized)) c.note_cell.ensures.noted,
  run_more g.K.Kind.shape.arity c.args.first c.loop-c.c _ _ _ c.loop-c.auto.c c.loop-c.invariant.1 c.note_cell.ensures.count,
)
