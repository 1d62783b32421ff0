use Rattle.std.proofs.Common.{◌+◌, take}
use Rattle.boxes.specs.Spots.{Smallest}
use Rattle.boxes.proofs.around.box_around.Given as goal

-- the box is the smallest around the vertices so far
abbrev pub invariant-loop-vertex : goal.invariant-loop-vertex
invariant-loop-vertex l = Smallest l.vertices (take (l.vertex-index + 1) l.list) l.around
