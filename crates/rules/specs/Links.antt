-- The rules on how replacements follow on one another: no cell is taken twice, and the rim stays. Place n is replacement n. Assumes nothing.
use Rattle.std.specs.Prelude.{◌≡◌, ℕ, ◌-◌, ◌<◌, ◌≤◌, ◌≢◌}
use Rattle.kinds.specs.Shapes.{Shape, tally}
use Rattle.tables.specs.Tables.{Tables}
use Rattle.rules.specs.Cells.{made_cells, taken_cells, facets_of}
use Rattle.rules.specs.Raw.{at}
use Rattle.rules.specs.Ranges.{before}

-- no number that replacement n takes stands earlier among the taken numbers, in its own list or in that of an earlier replacement
abbrev pub FreshKept : Tables → ℕ → Type 0
FreshKept t n = (i j : ℕ) → before 1 t.replacements (n - 1) ≤ j → j < before 1 t.replacements n → i < j → at t.taken i ≢ at t.taken j

-- each facet has the same signed count over the cells that replacement n makes as over those that it takes
abbrev pub RimKept : {F P : Type 0} → Shape F P → Tables → ℕ → Type 0
RimKept {F} k t n = (f : F) → tally k f (facets_of k t (made_cells t n)) ≡ tally k f (facets_of k t (taken_cells t n))
