use Rattle.std.proofs.Common.{◌≡◌, ◌+◌, ◌-◌, ◌*◌}
use Rattle.std.specs.List.{range_with_len}
use Rattle.rims.specs.Keys.{held, Noted}
use Rattle.rules.specs.Cells.{rims}
use Rattle.rims.proofs.memory.RimMemory.note_run.Given as goal

abbrev pub invariant-loop-c : goal.invariant-loop-c
invariant-loop-c g l =
    Noted g.K.Kind.key g.K.Kind.real l.initial.self l.self (rims g.K.Kind.shape l.corners (range_with_len l.first (l.c - l.first)))
    × (held l.self ≡ held l.initial.self + g.K.Kind.shape.arity * (l.c - l.first))
