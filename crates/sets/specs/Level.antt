-- What stays the same over the mesh of every closed set: the signed count of each facet, and how often the ground is covered.
-- Assumes nothing.
use Rattle.std.specs.Prelude.{◌≡◌, ℕ, Bool, List, length, filter}
use Rattle.kinds.specs.Facets.{Off}
use Rattle.kinds.specs.Shapes.{Shape, tally}
use Rattle.tables.specs.Tables.{Tables}
use Rattle.rules.specs.Cells.{base_cells, facets_of}
use Rattle.rules.specs.Raw.{cell}
use Rattle.rules.specs.Hierarchies.{MultiTriangulation}
use Rattle.sets.specs.Sets.{Closed, mesh_cells}

-- the point lies on no facet of the cells
abbrev pub OffFacets : {F P : Type 0} → Shape F P → Tables → P → List ℕ → Type 0
OffFacets k t p cs = Off (λ f. k.meets t.coordinates f p) (facets_of k t cs)

-- how many of the cells cover the point
abbrev pub times_covered : {F P : Type 0} → Shape F P → Tables → P → List ℕ → ℕ
times_covered k t p cs = length (filter (λ c. k.covers t.coordinates (cell k.arity t.corners c) p) cs)

-- over these cells each facet has the signed count that it has over those, and a point off the facets of both lies in as many of each
pub record Level {F P : Type 0} (k : Shape F P) (t : Tables) (these those : List ℕ) : Type 0 where
  pub facets : (f : F) → tally k f (facets_of k t these) ≡ tally k f (facets_of k t those)
  pub covered : (p : P) → OffFacets k t p these → OffFacets k t p those → times_covered k t p these ≡ times_covered k t p those

-- the mesh of every closed set of a Multi-Triangulation is level with the coarse mesh
abbrev pub MeshesAreLevel : {F P : Type 0} → Shape F P → Type 0
MeshesAreLevel k = (t : Tables) (H : ℕ → Bool) → MultiTriangulation k t → Closed t H → Level k t (mesh_cells k.arity t H) (base_cells t)
