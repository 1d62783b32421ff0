-- Which cells a replacement makes and which numbers it takes, by the counts of the replacements before it. Replacements are counted from
-- 1. Counts are taken without their sign; none is below 0 where the counts are kept. Assumes nothing.
use Rattle.std.specs.Prelude.{ℕ, zero, suc, ◌+◌, ◌-◌, List, take, drop, ℤ, unsigned_abs}
use Rattle.std.specs.List.{AllByRecursion}
use Rattle.tables.specs.Tables.{Tables}
use Rattle.rules.specs.Raw.{field}
use Rattle.rules.specs.Values.{Numbered}

-- what the first n replacements have together in column k
abbrev pub before : ℕ → List ℤ → ℕ → ℕ
before k rs zero = 0
before k rs (suc n) = before k rs n + unsigned_abs (field rs n k)

-- the first cell that replacement n makes
abbrev pub first_made : Tables → ℕ → ℕ
first_made t n = unsigned_abs t.base + before 2 t.replacements (n - 1)

-- the numbers that replacement n takes
abbrev pub taken_by : Tables → ℕ → List ℤ
taken_by t n = take (unsigned_abs (field t.replacements (n - 1) 1)) (drop (before 1 t.replacements (n - 1)) t.taken)

-- replacement n takes cells only that come before the first cell that it makes
abbrev pub EarlierKept : Tables → ℕ → Type 0
EarlierKept t n = AllByRecursion (Numbered (first_made t n)) (taken_by t n)
