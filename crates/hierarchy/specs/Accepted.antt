-- What the check comes to. Assumes nothing.
use Rattle.std.specs.Prelude.{◌≡◌, ℕ, ◌≤◌, length, Ok, Err, vec_items, Result, MatchResult}
use Rattle.std.specs.List.{AllZip}
use Rattle.boxes.specs.declared.extent.Extent.{Extent}
use Rattle.faults.specs.declared.Fault.{Fault}
use Rattle.kinds.specs.Shapes.{Shape}
use Rattle.owners.specs.Owners.{Makers, makers_in, Takers, takers_in, parts_of}
use Rattle.tables.specs.declared.contents.Places.{Places}
use Rattle.tables.specs.Judging.{Refused}
use Rattle.tables.specs.Tables.{Tables}
use Rattle.rules.specs.Rows.{cells_in, replacements_in}
use Rattle.rules.specs.Raw.{lists_of}
use Rattle.rules.specs.Hierarchies.{hierarchy_rows, MultiTriangulation}
use Rattle.kinds.specs.declared.kind.Kind.{Ghosts}
use Rattle.hierarchy.specs.declared.hierarchy.Hierarchy.{Hierarchy}
use Rattle.hierarchy.specs.Derived.{Boxes, boxes_in, ranges_in}

-- the places that a check has for the tables: for so many corners, and of every other table just for what it has
abbrev pub places_for : Tables → ℕ → Places
places_for t corners = record { coordinates = length t.coordinates; corners = corners; replacements = length t.replacements; taken = length t.taken }

-- The hierarchy has these tables of cells with k corners, and what is worked out from them is right: the counts, the maker and the taker of
-- each cell, the ranges and the box of each replacement.
pub record Carries {K F P : Type 0} {m : Ghosts K F P} (k : ℕ) (t : Tables) (h : Hierarchy K F P m) : Type 0 where
  pub tables : lists_of h.tables ≡ t
  pub cells : length (vec_items h.owners) ≡ cells_in k t
  pub makers : Makers t (makers_in (vec_items h.owners))
  pub takers : Takers t (takers_in (vec_items h.owners))
  pub replacements : length (vec_items h.replacements) ≡ replacements_in t
  pub ranges : ranges_in (vec_items h.replacements) ≡ parts_of t
  pub boxes : Boxes k t (boxes_in (vec_items h.replacements))

-- Tables are accepted where they are a Multi-Triangulation of the kind and there are places for their corners; else the first broken rule is
-- told, at its lowest place.
abbrev pub Accepting : {K F P : Type 0} {m : Ghosts K F P} → Shape F P → Tables → ℕ → Result (Hierarchy K F P m) Fault → Type 0
Accepting k t corners r = MatchResult r (λ h. MultiTriangulation k t × (length t.corners ≤ corners) × Carries k.arity t h) (Refused (hierarchy_rows k t (places_for t corners)))

-- two boxes with the same sides
pub record SameSides (b d : Extent) : Type 0 where
  pub x : (b.x.low ≡ d.x.low) × (b.x.high ≡ d.x.high)
  pub y : (b.y.low ≡ d.y.low) × (b.y.high ≡ d.y.high)
  pub z : (b.z.low ≡ d.z.low) × (b.z.high ≡ d.z.high)

-- two hierarchies that do not differ in anything that can be asked of them
pub record Alike {K F P : Type 0} {m : Ghosts K F P} (g h : Hierarchy K F P m) : Type 0 where
  pub tables : lists_of g.tables ≡ lists_of h.tables
  pub owners : vec_items g.owners ≡ vec_items h.owners
  pub ranges : ranges_in (vec_items g.replacements) ≡ ranges_in (vec_items h.replacements)
  pub boxes : AllZip SameSides (boxes_in (vec_items g.replacements)) (boxes_in (vec_items h.replacements))

-- the same comes of both: hierarchies that do not differ, or the same fault
abbrev pub SameOutcome : {K F P : Type 0} {m : Ghosts K F P} → Result (Hierarchy K F P m) Fault → Result (Hierarchy K F P m) Fault → Type 0
SameOutcome (Ok g) (Ok h) = Alike g h
SameOutcome (Ok g) (Err f) = ⊥
SameOutcome (Err f) (Ok h) = ⊥
SameOutcome (Err e) (Err f) = e ≡ f

-- the check comes to one thing only
abbrev pub CheckedOnce : {K F P : Type 0} → Ghosts K F P → Shape F P → Type 0
CheckedOnce {K} {F} {P} m k = (t : Tables) (corners : ℕ) (r s : Result (Hierarchy K F P m) Fault) → Accepting k t corners r → Accepting k t corners s → SameOutcome r s
