-- Examples of each kind, which are computed: a cell with a point that it covers, one outside and one on a facet. Assumes nothing.
use Rattle.std.specs.Prelude.{◌≡◌, true, false, List, [], ◌∷◌, ℤ, pos, negsuc}
use Rattle.kinds.specs.declared.kind.Signed.TheVariants.{Plus, Minus}
use Rattle.kinds.specs.declared.numbers.VertexId.{VertexId}
use Rattle.kinds.specs.Places.{PlanePoint}
use Rattle.kinds.specs.declared.triangle.Edge.{Edge}
use Rattle.kinds.specs.Facets.{total, Off}
use Rattle.kinds.specs.Segments as segment
use Rattle.kinds.specs.Triangles as triangle

-- four vertices: (0, 0), (4, 0), (0, 3) and (-2, -2), at heights 7 to 10
abbrev vertices : List ℤ
vertices =
    pos 0 ∷ pos 0 ∷ pos 7
    ∷ pos 4 ∷ pos 0 ∷ pos 8
    ∷ pos 0 ∷ pos 3 ∷ pos 9
    ∷ negsuc 1 ∷ negsuc 1 ∷ pos 10 ∷ []

abbrev at : ℤ → ℤ → PlanePoint
at x y = record { x = x; y = y }

abbrev vertex : ℤ → VertexId
vertex v = record { 0 = v }

abbrev edge : ℤ → ℤ → Edge
edge u v = record { low = vertex u; high = vertex v }

-- ---- the triangle
abbrev corners : List ℤ
corners = pos 0 ∷ pos 1 ∷ pos 2 ∷ []

abbrev pub TriangleExamples : Type 0
TriangleExamples =
    -- it is sound, and its rim is 0 to 1 plus, 1 to 2 plus, and 0 to 2 minus
    (triangle.sound_in vertices corners ≡ true)
    × (triangle.rim_of corners ≡ Plus (edge (pos 0) (pos 1)) ∷ Plus (edge (pos 1) (pos 2)) ∷ Minus (edge (pos 0) (pos 2)) ∷ [])
    -- it covers (1, 1), which is off its edges, and their weights say so
    × Off (λ e. triangle.meets_edge vertices e (at (pos 1) (pos 1))) (triangle.rim_of corners)
    × (triangle.covers_in vertices corners (at (pos 1) (pos 1)) ≡ true)
    × (total (triangle.edge_weight vertices (at (pos 1) (pos 1))) (triangle.rim_of corners) ≡ pos 1)
    -- it does not cover (-2, 1), which is off its edges too
    × Off (λ e. triangle.meets_edge vertices e (at (negsuc 1) (pos 1))) (triangle.rim_of corners)
    × (triangle.covers_in vertices corners (at (negsuc 1) (pos 1)) ≡ false)
    × (total (triangle.edge_weight vertices (at (negsuc 1) (pos 1))) (triangle.rim_of corners) ≡ pos 0)
    -- (2, 0) lies on the edge of 0 and 1, and is not covered; (6, 0) lies on the line of that edge, but not on the edge
    × (triangle.meets_edge vertices (edge (pos 0) (pos 1)) (at (pos 2) (pos 0)) ≡ true)
    × (triangle.covers_in vertices corners (at (pos 2) (pos 0)) ≡ false)
    × (triangle.meets_edge vertices (edge (pos 0) (pos 1)) (at (pos 6) (pos 0)) ≡ false)
    -- a corner lies on the edge of 0 and 1, and is not covered
    × (triangle.meets_edge vertices (edge (pos 0) (pos 1)) (at (pos 4) (pos 0)) ≡ true)
    × (triangle.covers_in vertices corners (at (pos 4) (pos 0)) ≡ false)
    -- a neighbour runs the edge of 0 and 1 the other way: the same edge, and the other sign
    × (triangle.sound_in vertices (pos 1 ∷ pos 0 ∷ pos 3 ∷ []) ≡ true)
    × (triangle.rim_of (pos 1 ∷ pos 0 ∷ pos 3 ∷ []) ≡ Minus (edge (pos 0) (pos 1)) ∷ Plus (edge (pos 0) (pos 3)) ∷ Minus (edge (pos 1) (pos 3)) ∷ [])
    -- three corners on one line are not sound, and three of which one is no vertex cover nothing
    × (triangle.sound_in vertices (pos 0 ∷ pos 1 ∷ pos 0 ∷ []) ≡ false)
    × (triangle.covers_in vertices (pos 0 ∷ pos 1 ∷ pos 4 ∷ []) (at (pos 1) (pos 1)) ≡ false)
    -- what turns right, has two or four corners, or a corner that is no vertex, is not sound; two corners cover nothing and have no rim
    × (triangle.sound_in vertices (pos 0 ∷ pos 2 ∷ pos 1 ∷ []) ≡ false)
    × (triangle.sound_in vertices (pos 0 ∷ pos 1 ∷ []) ≡ false)
    × (triangle.sound_in vertices (pos 0 ∷ pos 1 ∷ pos 2 ∷ pos 3 ∷ []) ≡ false)
    × (triangle.sound_in vertices (pos 0 ∷ pos 1 ∷ pos 4 ∷ []) ≡ false)
    × (triangle.sound_in vertices (negsuc 0 ∷ pos 1 ∷ pos 2 ∷ []) ≡ false)
    × (triangle.covers_in vertices (pos 0 ∷ pos 1 ∷ []) (at (pos 1) (pos 1)) ≡ false)
    × (triangle.rim_of (pos 0 ∷ pos 1 ∷ []) ≡ [])

-- ---- the segment
abbrev ends : List ℤ
ends = pos 3 ∷ pos 1 ∷ []

abbrev pub SegmentExamples : Type 0
SegmentExamples =
    -- it is sound, and its rim is 3 minus and 1 plus
    (segment.rising vertices ends ≡ true)
    × (segment.rim_of ends ≡ Minus (vertex (pos 3)) ∷ Plus (vertex (pos 1)) ∷ [])
    -- it covers 0, which is off its vertices, and their weights say so
    × Off (λ v. segment.stands_at vertices v (pos 0)) (segment.rim_of ends)
    × (segment.between vertices ends (pos 0) ≡ true)
    × (total (segment.beyond vertices (pos 0)) (segment.rim_of ends) ≡ pos 1)
    -- it does not cover 5, which is off its vertices too
    × Off (λ v. segment.stands_at vertices v (pos 5)) (segment.rim_of ends)
    × (segment.between vertices ends (pos 5) ≡ false)
    × (total (segment.beyond vertices (pos 5)) (segment.rim_of ends) ≡ pos 0)
    -- 4 lies on vertex 1, and is not covered
    × (segment.stands_at vertices (vertex (pos 1)) (pos 4) ≡ true)
    × (segment.between vertices ends (pos 4) ≡ false)
    -- what runs back or upright, has one or three corners, or a corner that is no vertex, is not sound; one corner covers nothing and has
    -- no rim
    × (segment.rising vertices (pos 1 ∷ pos 3 ∷ []) ≡ false)
    × (segment.rising vertices (pos 0 ∷ pos 2 ∷ []) ≡ false)
    × (segment.rising vertices (pos 3 ∷ []) ≡ false)
    × (segment.rising vertices (pos 3 ∷ pos 0 ∷ pos 1 ∷ []) ≡ false)
    × (segment.rising vertices (pos 3 ∷ pos 4 ∷ []) ≡ false)
    × (segment.between vertices (pos 3 ∷ []) (pos 0) ≡ false)
    × (segment.rim_of (pos 3 ∷ []) ≡ [])
