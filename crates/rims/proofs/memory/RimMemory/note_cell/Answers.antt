use Rattle.std.proofs.Common.{sym, ◌∙◌, arith}
use Rattle.rims.proofs.Noting.{noted_next}
use Rattle.rims.proofs.memory.RimMemory.note_cell.Goals as goal

pub loop-i-preserved : goal.loop-i-preserved
loop-i-preserved g c = (
  noted_next g.K.Kind.key g.K.Kind.real c.args.self.now c.loop-i.self c.note.new.self (g.K.Kind.shape.rim c.args.cell.now) c.loop-i.i c.in-Some.facet
      c.loop-i.invariant.0 (sym c.facet.ensures ∙ c.in-Some.is) c.note.ensures.noted,
  omega (arith, c.loop-i.invariant.1, c.note.ensures.count),
)
