-- The segment as a kind of cell. Assumes nothing.
use Rattle.std.specs.Prelude.{ℕ, Bool, false, cond, ◌&&◌, List, [], ◌∷◌, ℤ, pos, Some, None, Option, int_lt}
use Rattle.kinds.specs.declared.kind.Signed.{Signed}
use Rattle.kinds.specs.declared.kind.Signed.TheVariants.{Plus, Minus}
use Rattle.kinds.specs.declared.numbers.VertexId.{VertexId}
use Rattle.kinds.specs.Places.{PlanePoint, place}
use Rattle.kinds.specs.declared.segment.Ends.{Ends}
use Rattle.kinds.specs.Numbers.{fits, rank, level}
use Rattle.kinds.specs.Shapes.{Shape}

abbrev pub vertex : ℤ → VertexId
vertex z = record { 0 = z }

-- the corners of a cell, which are two
abbrev pub ends_of : List ℤ → Option (Ends VertexId)
ends_of [] = None
ends_of (a ∷ []) = None
ends_of (a ∷ b ∷ []) = Some (record { from = vertex a; to = vertex b })
ends_of (a ∷ b ∷ c ∷ rest) = None

-- the x of two corners, which are vertices
abbrev pub joined : Option PlanePoint → Option PlanePoint → Option (Ends ℤ)
joined None b = None
joined (Some a) None = None
joined (Some a) (Some b) = Some (record { from = a.x; to = b.x })

abbrev pub stretch_of : List ℤ → Ends VertexId → Option (Ends ℤ)
stretch_of vs e = joined (place vs e.from.0) (place vs e.to.0)

abbrev pub placed : List ℤ → Option (Ends VertexId) → Option (Ends ℤ)
placed vs None = None
placed vs (Some e) = stretch_of vs e

-- the facets are the two vertices, the first minus, the second plus
abbrev pub ends_rim : Ends VertexId → List (Signed VertexId)
ends_rim e = Minus e.from ∷ Plus e.to ∷ []

abbrev pub rim_at : Option (Ends VertexId) → List (Signed VertexId)
rim_at None = []
rim_at (Some e) = ends_rim e

abbrev pub rim_of : List ℤ → List (Signed VertexId)
rim_of cell = rim_at (ends_of cell)

-- a segment is sound where the second corner has the greater x
abbrev pub rises : Option (Ends ℤ) → Bool
rises None = false
rises (Some s) = int_lt s.from s.to

abbrev pub rising : List ℤ → List ℤ → Bool
rising vs cell = rises (placed vs (ends_of cell))

-- it covers what lies strictly between its corners
abbrev pub holds : Option (Ends ℤ) → ℤ → Bool
holds None p = false
holds (Some s) p = int_lt s.from p && int_lt p s.to

abbrev pub between : List ℤ → List ℤ → ℤ → Bool
between vs cell p = holds (placed vs (ends_of cell)) p

-- a point lies on a vertex that has its x
abbrev pub at_x : Option PlanePoint → ℤ → Bool
at_x None p = false
at_x (Some a) p = level a.x p

abbrev pub stands_at : List ℤ → VertexId → ℤ → Bool
stands_at vs v p = at_x (place vs v.0) p

-- a vertex beyond the point counts 1
abbrev pub beyond_x : Option PlanePoint → ℤ → ℤ
beyond_x None p = pos 0
beyond_x (Some a) p = cond (int_lt p a.x) (pos 1) (pos 0)

abbrev pub beyond : List ℤ → ℤ → VertexId → ℤ
beyond vs p v = beyond_x (place vs v.0) p

-- vertices are the same by their numbers, and sorted by the rank of these
abbrev pub same_vertex : VertexId → VertexId → Bool
same_vertex v w = level v.0 w.0

abbrev pub real_vertex : VertexId → Bool
real_vertex v = fits v.0

abbrev pub vertex_key : VertexId → ℕ
vertex_key v = rank v.0

-- ---- the kind
abbrev pub segments : Shape VertexId ℤ
segments = record { arity = 2; rim = rim_of; sound = rising; covers = between; meets = stands_at; alike = same_vertex }
