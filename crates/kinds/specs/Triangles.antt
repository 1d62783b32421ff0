-- The triangle as a kind of cell. Assumes nothing.
use Rattle.std.specs.Prelude.{ℕ, ◌+◌, ◌*◌, ◌^◌, Bool, false, cond, ◌&&◌, ◌||◌, List, [], ◌∷◌, ℤ, pos, ◌-ℤ◌, Some, None, Option, int_le, int_lt}
use Rattle.kinds.specs.declared.kind.Signed.{Signed}
use Rattle.kinds.specs.declared.kind.Signed.TheVariants.{Plus, Minus}
use Rattle.kinds.specs.declared.numbers.VertexId.{VertexId}
use Rattle.kinds.specs.Places.{PlanePoint, way, cross, place}
use Rattle.kinds.specs.declared.triangle.Corners.{Corners}
use Rattle.kinds.specs.declared.triangle.Edge.{Edge}
use Rattle.kinds.specs.Numbers.{fits, rank, level}
use Rattle.kinds.specs.Shapes.{Shape}

-- ---- in the plane
-- above 0 where c lies strictly left of the way from a to b: (bx - ax)(cy - ay) - (cx - ax)(by - ay)
abbrev pub orient : PlanePoint → PlanePoint → PlanePoint → ℤ
orient a b c = cross (way a b) (way a c)

abbrev pub left_of : PlanePoint → PlanePoint → PlanePoint → Bool
left_of a b c = int_lt (pos 0) (orient a b c)

-- p lies between u and v, which are in no order, or at one of them
abbrev pub within : ℤ → ℤ → ℤ → Bool
within u p v = (int_le u p && int_le p v) || (int_le v p && int_le p u)

-- p lies on the closed edge of u and v
abbrev pub on_edge : PlanePoint → PlanePoint → PlanePoint → Bool
on_edge u v p = level (orient u v p) (pos 0) && (within u.x p.x v.x && within u.y p.y v.y)

-- 1 where the ray from p towards greater x meets the way from u to v, which rises there; the lower end counts, the upper does not
abbrev pub rise : PlanePoint → PlanePoint → PlanePoint → ℤ
rise u v p = cond (int_le u.y p.y && (int_lt p.y v.y && left_of u v p)) (pos 1) (pos 0)

-- ---- cells
-- the corners of a cell, which are three
abbrev pub corners_of : List ℤ → Option (Corners VertexId)
corners_of [] = None
corners_of (a ∷ []) = None
corners_of (a ∷ b ∷ []) = None
corners_of (a ∷ b ∷ c ∷ []) = Some (record { a = record { 0 = a }; b = record { 0 = b }; c = record { 0 = c } })
corners_of (a ∷ b ∷ c ∷ d ∷ rest) = None

-- where three corners stand, which are vertices
abbrev pub joined : Option PlanePoint → Option PlanePoint → Option PlanePoint → Option (Corners PlanePoint)
joined None b c = None
joined (Some a) None c = None
joined (Some a) (Some b) None = None
joined (Some a) (Some b) (Some c) = Some (record { a = a; b = b; c = c })

abbrev pub places_of : List ℤ → Corners VertexId → Option (Corners PlanePoint)
places_of vs t = joined (place vs t.a.0) (place vs t.b.0) (place vs t.c.0)

abbrev pub placed : List ℤ → Option (Corners VertexId) → Option (Corners PlanePoint)
placed vs None = None
placed vs (Some t) = places_of vs t

-- a triangle is sound where its corners turn left
abbrev pub turns : Option (Corners PlanePoint) → Bool
turns None = false
turns (Some s) = left_of s.a s.b s.c

abbrev pub sound_in : List ℤ → List ℤ → Bool
sound_in vs cell = turns (placed vs (corners_of cell))

-- it covers the points strictly left of its three edges, as it runs them
abbrev pub holds : Option (Corners PlanePoint) → PlanePoint → Bool
holds None p = false
holds (Some s) p = left_of s.a s.b p && (left_of s.b s.c p && left_of s.c s.a p)

abbrev pub covers_in : List ℤ → List ℤ → PlanePoint → Bool
covers_in vs cell p = holds (placed vs (corners_of cell)) p

-- ---- edges
-- an edge that is run from u to v: plus from the lower number to the higher, else minus
abbrev pub run : VertexId → VertexId → Signed Edge
run u v = cond (int_lt u.0 v.0) (Plus (record { low = u; high = v })) (Minus (record { low = v; high = u }))

-- the facets are the three edges, from corner to corner
abbrev pub corners_rim : Corners VertexId → List (Signed Edge)
corners_rim t = run t.a t.b ∷ run t.b t.c ∷ run t.c t.a ∷ []

abbrev pub rim_at : Option (Corners VertexId) → List (Signed Edge)
rim_at None = []
rim_at (Some t) = corners_rim t

abbrev pub rim_of : List ℤ → List (Signed Edge)
rim_of cell = rim_at (corners_of cell)

-- a point lies on an edge of two vertices
abbrev pub meets_at : Option PlanePoint → Option PlanePoint → PlanePoint → Bool
meets_at None v p = false
meets_at (Some u) None p = false
meets_at (Some u) (Some v) p = on_edge u v p

abbrev pub meets_edge : List ℤ → Edge → PlanePoint → Bool
meets_edge vs e p = meets_at (place vs e.low.0) (place vs e.high.0) p

-- an edge of two vertices counts 1 where it rises to the right of the point, and -1 where it falls there
abbrev pub weight_at : Option PlanePoint → Option PlanePoint → PlanePoint → ℤ
weight_at None v p = pos 0
weight_at (Some u) None p = pos 0
weight_at (Some u) (Some v) p = rise u v p -ℤ rise v u p

abbrev pub edge_weight : List ℤ → PlanePoint → Edge → ℤ
edge_weight vs p e = weight_at (place vs e.low.0) (place vs e.high.0) p

-- edges are the same by their numbers, and sorted by the ranks of these, first of the lower number, then of the higher
abbrev pub same_edge : Edge → Edge → Bool
same_edge e f = level e.low.0 f.low.0 && level e.high.0 f.high.0

abbrev pub real_edge : Edge → Bool
real_edge e = fits e.low.0 && fits e.high.0

abbrev pub edge_key : Edge → ℕ
edge_key e = 2 ^ 32 * rank e.low.0 + rank e.high.0

-- ---- the kind
abbrev pub triangles : Shape Edge PlanePoint
triangles = record { arity = 3; rim = rim_of; sound = sound_in; covers = covers_in; meets = meets_edge; alike = same_edge }
