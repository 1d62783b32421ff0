-- Where vertices stand. A vertex table holds x, y and z of each vertex in turn. Assumes nothing.
use Rattle.std.specs.Prelude.{◌+◌, ◌*◌, cond, List, length, ℤ, pos, negsuc, ◌-ℤ◌, ◌*ℤ◌, Some, None, Option, option_map, nat_lt, slice_index_or}
use Rattle.kinds.specs.declared.places.Plane.{Plane}
use Rattle.kinds.specs.declared.places.Spot.{Spot}

abbrev pub PlanePoint : Type 0
PlanePoint = Plane ℤ

abbrev pub Way : Type 0
Way = Plane ℤ

-- the way from a to b
abbrev pub way : PlanePoint → PlanePoint → Way
way a b = record { x = b.x -ℤ a.x; y = b.y -ℤ a.y }

-- above 0 where the way w goes off to the left of the way v
abbrev pub cross : Way → Way → ℤ
cross v w = v.x *ℤ w.y -ℤ w.x *ℤ v.y

-- where the vertex with this number stands; a number that is no vertex of the table stands nowhere
abbrev pub spot : List ℤ → ℤ → Option Spot
spot vs (pos n) = cond (nat_lt (3 * n + 2) (length vs)) (Some (record { x = slice_index_or vs (3 * n) (pos 0); y = slice_index_or vs (3 * n + 1) (pos 0); z = slice_index_or vs (3 * n + 2) (pos 0) })) None
spot vs (negsuc n) = None

-- a point in space, seen from above
abbrev pub above : Spot → PlanePoint
above s = record { x = s.x; y = s.y }

-- the place of the vertex with this number, seen from above; a number that is no vertex of the table has none
abbrev pub place : List ℤ → ℤ → Option PlanePoint
place vs z = option_map above (spot vs z)
