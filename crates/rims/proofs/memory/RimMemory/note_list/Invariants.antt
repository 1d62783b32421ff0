use Rattle.std.proofs.Common.{◌≡◌, ◌+◌, ◌*◌, map, take, nat_abs}
use Rattle.rims.specs.Keys.{held, Noted}
use Rattle.rules.specs.Cells.{rims}
use Rattle.rims.proofs.memory.RimMemory.note_list.Given as goal

abbrev pub invariant-loop-number : goal.invariant-loop-number
invariant-loop-number g l =
    Noted g.K.Kind.key g.K.Kind.real l.initial.self l.self (rims g.K.Kind.shape l.corners (map nat_abs (take l.number-index l.list)))
    × (held l.self ≡ held l.initial.self + g.K.Kind.shape.arity * l.number-index)
