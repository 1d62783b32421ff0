use Rattle.std.proofs.Common.{ℕ, List, length, get_or, ℤ, pos, nat_abs, ap, ◌∙◌, arith, rules}
use Rattle.rims.proofs.Cells.{cell-length, cell_read, listed_below, times_more}
use Rattle.rims.proofs.Noting.{noted_listed}
use Rattle.rims.proofs.memory.RimMemory.note_list.Goals as goal

pub note_cell-requires-clause-sided : goal.note_cell-requires-clause-sided
note_cell-requires-clause-sided g c =
    let k : ℕ = g.K.Kind.shape.arity in
    let zs : List ℤ = c.args.list.now in
    let i : ℕ = c.loop-number.number-index in
    let here = cell_read k _ c.args.corners.now zs i _ c.cell_at.result.now c.cell_at.ensures (c.CORNERS.ensures ∙ g.met.K.Kind.sized) c.unsigned_abs.ensures.value (search rules) in
    ap length here ∙ cell-length k c.args.corners.now (nat_abs (get_or zs i (pos 0))) (listed_below _ zs i c.requires.inside c.loop-number-test.true)

pub loop-number-preserved : goal.loop-number-preserved
loop-number-preserved g c =
    let k : ℕ = g.K.Kind.shape.arity in
    let zs : List ℤ = c.args.list.now in
    let i : ℕ = c.loop-number.number-index in
    let here = cell_read k _ c.args.corners.now zs i _ c.cell_at.result.now c.cell_at.ensures (c.CORNERS.ensures ∙ g.met.K.Kind.sized) c.unsigned_abs.ensures.value (search rules) in (
      noted_listed g.K.Kind.shape g.K.Kind.key g.K.Kind.real c.args.corners.now zs c.args.self.now c.loop-number.self c.note_cell.new.self i c.loop-number-test.true
          c.loop-number.invariant.0 c.cell_at.result.now here c.note_cell.ensures.noted,
      omega (arith, c.loop-number.invariant.1, c.note_cell.ensures.count, times_more k i),
    )
