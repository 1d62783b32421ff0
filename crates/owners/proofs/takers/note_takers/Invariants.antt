use Rattle.std.proofs.Common.{◌≡◌, ◌+◌}
use Rattle.rules.specs.Raw.{lists_of}
use Rattle.owners.specs.Owners.{makers_in, takers_in}
use Rattle.owners.specs.Claims.{Noted}
use Rattle.owners.proofs.takers.note_takers.Given as goal

abbrev pub invariant-loop-z : goal.invariant-loop-z
invariant-loop-z l =
    Noted (lists_of l.ranged.tables) (l.fn.part.list + l.z-index) (takers_in l.owners)
    × (makers_in l.owners ≡ makers_in l.initial.owners)
