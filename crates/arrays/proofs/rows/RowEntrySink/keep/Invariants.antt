use Rattle.std.proofs.Common.{◌≡◌}
use Rattle.arrays.specs.Sink.{filling}
use Rattle.arrays.specs.Listing.{RowSoFar}
use Rattle.arrays.proofs.rows.RowEntrySink.keep.Given as goal

abbrev pub invariant-loop-i : goal.invariant-loop-i
invariant-loop-i l =
    RowSoFar l.self.width l.i l.initial.scanner l.scanner (filling l.initial.lists) (filling l.lists)
    × (l.lists.places.ghost_name ≡ l.initial.lists.places.ghost_name)
