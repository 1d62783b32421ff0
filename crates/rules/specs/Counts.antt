-- Counts that add up. Assumes nothing.
use Rattle.std.specs.Prelude.{◌≡◌, ℕ, ◌≤◌, List, ℤ, pos, ◌+ℤ◌}
use Rattle.std.specs.List.{AllByRecursion}
use Rattle.tables.specs.Tables.{NotNegative, total}

-- no count is below 0, and from a start they add up to n, which is at most 16,384
pub record AddsUp (counts : List ℤ) (start n : ℕ) : Type 0 where
  pub natural : AllByRecursion NotNegative counts
  pub sum : pos start +ℤ total counts ≡ pos n
  pub most : n ≤ 16384
