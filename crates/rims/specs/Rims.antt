-- When two lists of cells have the same rim, and that there is room to judge it. Assumes nothing.
use Rattle.std.specs.Prelude.{◌≡◌, ℕ, ◌+◌, ◌/◌, ◌≤◌, List, length, ℤ}
use Rattle.std.specs.List.{AllByRecursion}
use Rattle.kinds.specs.Shapes.{Shape, tally}
use Rattle.rules.specs.Cells.{rims}
use Rattle.rules.specs.Values.{Numbered}

-- each facet has the same signed count over the cells of both lists
abbrev pub SameRim : {F P : Type 0} → Shape F P → List ℤ → List ℕ → List ℕ → Type 0
SameRim {F} k corners made taken = (f : F) → tally k f (rims k corners made) ≡ tally k f (rims k corners taken)

-- The cells from one on, and those of a list, are whole cells of the table of corners, and there is room for their facets, of which a cell
-- has as many as corners.
pub record Fitting (arity : ℕ) (corners : List ℤ) (first count : ℕ) (taken : List ℤ) (room : ℕ) : Type 0 where
  pub made : first + count ≤ length corners / arity
  pub known : AllByRecursion (Numbered (length corners / arity)) taken
  pub few : count + length taken ≤ room / arity
