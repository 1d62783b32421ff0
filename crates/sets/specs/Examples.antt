-- A worked hierarchy, and what the words say of it: a square of ground, refined four times. Assumes nothing.
use Rattle.std.specs.Prelude.{◌≡◌, ℕ, Bool, List, [], ◌∷◌, map, pos, nat_eq}
use Rattle.kinds.specs.Places.{PlanePoint}
use Rattle.kinds.specs.Triangles.{triangles}
use Rattle.tables.specs.Tables.{Tables}
use Rattle.rules.specs.Cells.{some, made_cells, taken_cells}
use Rattle.rules.specs.Hierarchies.{MultiTriangulation}
use Rattle.sets.specs.Level.{OffFacets, times_covered}
use Rattle.sets.specs.Sets.{Needs, Closed, mesh_cells, mesh_size}

-- Four corners, their middle, and a vertex south, east and south-east of it. Replacement 1 puts the middle into the two triangles of the
-- square, 2 and 3 refine the south and the east of the four that 1 makes, and 4 refines two triangles, one of 2 and one of 3.
abbrev pub square : Tables
square = record {
  coordinates = map pos (
      0 ∷ 0 ∷ 0
      ∷ 400 ∷ 0 ∷ 0
      ∷ 400 ∷ 400 ∷ 0
      ∷ 0 ∷ 400 ∷ 0
      ∷ 200 ∷ 200 ∷ 60
      ∷ 200 ∷ 60 ∷ 20
      ∷ 340 ∷ 200 ∷ 30
      ∷ 290 ∷ 120 ∷ 50 ∷ []);
  corners = map pos (
      0 ∷ 1 ∷ 2 ∷ 0 ∷ 2 ∷ 3
      ∷ 0 ∷ 1 ∷ 4 ∷ 1 ∷ 2 ∷ 4 ∷ 2 ∷ 3 ∷ 4 ∷ 3 ∷ 0 ∷ 4
      ∷ 0 ∷ 1 ∷ 5 ∷ 1 ∷ 4 ∷ 5 ∷ 4 ∷ 0 ∷ 5
      ∷ 1 ∷ 2 ∷ 6 ∷ 2 ∷ 4 ∷ 6 ∷ 4 ∷ 1 ∷ 6
      ∷ 4 ∷ 5 ∷ 7 ∷ 5 ∷ 1 ∷ 7 ∷ 1 ∷ 6 ∷ 7 ∷ 6 ∷ 4 ∷ 7 ∷ []);
  base = pos 2;
  replacements = map pos (
      60 ∷ 2 ∷ 4
      ∷ 20 ∷ 1 ∷ 3
      ∷ 30 ∷ 1 ∷ 3
      ∷ 10 ∷ 2 ∷ 4 ∷ []);
  taken = map pos (0 ∷ 1 ∷ 2 ∷ 3 ∷ 7 ∷ 11 ∷ []);
}

-- the set of the numbers of a list
abbrev pub members : List ℕ → ℕ → Bool
members ns n = some (nat_eq n) ns

abbrev pub none : ℕ → Bool
none = members []

abbrev pub all : ℕ → Bool
all = members (1 ∷ 2 ∷ 3 ∷ 4 ∷ [])

-- a point of the ground
abbrev pub point : PlanePoint
point = record { x = pos 100; y = pos 50 }

abbrev pub MeshExamples : Type 0
MeshExamples =
    -- it keeps all the rules
    MultiTriangulation triangles square
    -- what the replacements make and take
    × (made_cells square 1 ≡ 2 ∷ 3 ∷ 4 ∷ 5 ∷ [])
    × (made_cells square 2 ≡ 6 ∷ 7 ∷ 8 ∷ [])
    × (made_cells square 3 ≡ 9 ∷ 10 ∷ 11 ∷ [])
    × (made_cells square 4 ≡ 12 ∷ 13 ∷ 14 ∷ 15 ∷ [])
    × (taken_cells square 1 ≡ 0 ∷ 1 ∷ [])
    × (taken_cells square 2 ≡ 2 ∷ [])
    × (taken_cells square 3 ≡ 3 ∷ [])
    × (taken_cells square 4 ≡ 7 ∷ 11 ∷ [])
    -- 2 needs 1, 4 needs 2 and 3, and 1 needs none
    × Needs square 2 1
    × Needs square 4 2
    × Needs square 4 3
    × ((m : ℕ) → Needs square 1 m → ⊥)
    -- a set that holds 2 and not 1 is not closed; the sets of none, of 1 and of all are
    × (Closed square (members (2 ∷ [])) → ⊥)
    × Closed square none
    × Closed square (members (1 ∷ []))
    × Closed square all
    -- the meshes of these three
    × (mesh_cells 3 square none ≡ 0 ∷ 1 ∷ [])
    × (mesh_cells 3 square (members (1 ∷ [])) ≡ 2 ∷ 3 ∷ 4 ∷ 5 ∷ [])
    × (mesh_cells 3 square all ≡ 4 ∷ 5 ∷ 6 ∷ 8 ∷ 9 ∷ 10 ∷ 12 ∷ 13 ∷ 14 ∷ 15 ∷ [])
    × (mesh_size 3 square none ≡ 2)
    × (mesh_size 3 square (members (1 ∷ [])) ≡ 4)
    × (mesh_size 3 square all ≡ 10)
    -- a point off the facets of the coarse and the finest mesh lies in one cell of each
    × OffFacets triangles square point (mesh_cells 3 square none)
    × OffFacets triangles square point (mesh_cells 3 square all)
    × (times_covered triangles square point (mesh_cells 3 square none) ≡ 1)
    × (times_covered triangles square point (mesh_cells 3 square all) ≡ 1)
