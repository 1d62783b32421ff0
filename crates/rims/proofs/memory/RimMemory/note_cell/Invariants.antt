use Rattle.std.proofs.Common.{◌≡◌, ◌+◌, take}
use Rattle.rims.specs.Keys.{held, Noted}
use Rattle.rims.proofs.memory.RimMemory.note_cell.Given as goal

abbrev pub invariant-loop-i : goal.invariant-loop-i
invariant-loop-i g l =
    Noted g.K.Kind.key g.K.Kind.real l.initial.self l.self (take l.i (g.K.Kind.shape.rim l.cell))
    × (held l.self ≡ held l.initial.self + l.i)
