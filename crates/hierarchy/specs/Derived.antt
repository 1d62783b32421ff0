-- What an accepted hierarchy is known by besides its makers, takers and ranges: the box of each replacement, and the order of its replacements.
-- Assumes nothing.
use Rattle.std.specs.Prelude.{◌≡◌, ℕ, ◌+◌, ◌-◌, ◌*◌, ◌<◌, ◌≤◌, true, List, map, length, ℤ, MatchOption}
use Rattle.std.specs.List.{flat_map, slice_get}
use Rattle.boxes.specs.declared.extent.Extent.{Extent}
use Rattle.boxes.specs.Spots.{Smallest, Spotted}
use Rattle.hierarchy.specs.declared.replacement.Replacement.{Replacement}
use Rattle.owners.specs.declared.part.Part.{Part}
use Rattle.owners.specs.Owners.{cells_made, count_of}
use Rattle.rims.specs.Rims.{Fitting}
use Rattle.tables.specs.Judging.{Clear}
use Rattle.tables.specs.Tables.{Tables}
use Rattle.rules.specs.Cells.{replacement, made_cells}
use Rattle.rules.specs.Rows.{cells_in, replacements_in}
use Rattle.rules.specs.Links.{FreshKept}
use Rattle.rules.specs.Ranges.{EarlierKept, first_made, taken_by}
use Rattle.rules.specs.Raw.{cell}
use Rattle.rules.specs.Values.{GrowthKept}

-- the corners of the cells that replacement n makes, where cells have k corners
abbrev pub made_corners : ℕ → Tables → ℕ → List ℤ
made_corners k t n = flat_map (cell k t.corners) (made_cells t n)

-- the box of replacement n: the smallest around the corners of the cells that it makes
abbrev pub BoxOf : ℕ → Tables → ℕ → Extent → Type 0
BoxOf k t n b = Smallest t.coordinates (made_corners k t n) b

-- the ranges and the boxes of a list of both
abbrev pub ranges_in : List Replacement → List Part
ranges_in rs = map (λ r. r.ranges) rs

abbrev pub boxes_in : List Replacement → List Extent
boxes_in rs = map (λ r. r.around) rs

-- one box for each replacement, at the place before its number
pub record Boxes (k : ℕ) (t : Tables) (bs : List Extent) : Type 0 where
  pub long : length bs ≡ replacements_in t
  pub each : (n : ℕ) → replacement t n ≡ true → MatchOption (slice_get bs (n - 1)) ⊥ (BoxOf k t n)

-- Base cells and made cells are all cells; each replacement makes more cells than it takes, takes earlier cells only, and none that is taken
-- already.
pub record Ordered (k : ℕ) (t : Tables) : Type 0 where
  pub some : 0 < k
  pub adds_up : cells_made t ≡ cells_in k t
  pub growth : Clear 1 (replacements_in t + 1) (GrowthKept t)
  pub earlier : Clear 1 (replacements_in t + 1) (EarlierKept t)
  pub fresh : Clear 1 (replacements_in t + 1) (FreshKept t)

-- for each replacement there is memory of so much room to judge its rim, over cells of k corners
abbrev pub RimsFit : ℕ → Tables → ℕ → Type 0
RimsFit k t room = (n : ℕ) → replacement t n ≡ true → Fitting k t.corners (first_made t n) (count_of 2 t.replacements (n - 1)) (taken_by t n) room

-- the cells that each replacement makes are whole cells of the table of corners, and their corners are vertices
pub record BoxReady (k : ℕ) (t : Tables) (n : ℕ) : Type 0 where
  pub whole : k * (first_made t n + count_of 2 t.replacements (n - 1)) ≤ length t.corners
  pub spotted : Spotted t.coordinates (made_corners k t n)

abbrev pub BoxesReady : ℕ → Tables → Type 0
BoxesReady k t = (n : ℕ) → replacement t n ≡ true → BoxReady k t n
