-- Which replacement makes each cell and which takes it, as lists with a place for each cell, and the ranges of each replacement; each is tied
-- to the raw tables in both directions. Assumes nothing.
use Rattle.std.specs.Prelude.{◌≡◌, ℕ, ◌+◌, ◌-◌, ◌<◌, Bool, true, false, List, map, length, ℤ, Some, None, Option, nat_eq, slice_index_or, unsigned_abs}
use Rattle.std.specs.List.{range_with_len}
use Rattle.kinds.specs.declared.numbers.ReplacementId.{ReplacementId}
use Rattle.tables.specs.Tables.{Tables}
use Rattle.rules.specs.Cells.{base_cells, some, makes, takes}
use Rattle.rules.specs.Rows.{replacements_in}
use Rattle.rules.specs.Raw.{field}
use Rattle.rules.specs.Ranges.{before, first_made}
use Rattle.owners.specs.declared.owners.Owners.{Owners}
use Rattle.owners.specs.declared.part.Part.{Part}

-- how many in column k the replacement after i others has
abbrev pub count_of : ℕ → List ℤ → ℕ → ℕ
count_of k rs i = unsigned_abs (field rs i k)

-- how many cells the base and all replacements make
abbrev pub cells_made : Tables → ℕ
cells_made t = unsigned_abs t.base + before 2 t.replacements (replacements_in t)

-- the owner is replacement n
abbrev pub is_replacement : ℕ → Option ReplacementId → Bool
is_replacement n None = false
is_replacement n (Some m) = nat_eq m.0 n

-- nobody is the owner
abbrev pub is_nobody : Option ReplacementId → Bool
is_nobody None = true
is_nobody (Some m) = false

-- the entry of each cell is Some of the replacement that makes it, and None just at the base cells
pub record Makers (t : Tables) (ms : List (Option ReplacementId)) : Type 0 where
  pub base : (c : ℕ) → c < length ms → some (nat_eq c) (base_cells t) ≡ is_nobody (slice_index_or ms c None)
  pub made : (n c : ℕ) → c < length ms → makes t n c ≡ is_replacement n (slice_index_or ms c None)

-- the entry of each cell is Some of the replacement that takes it, and None where there is none
pub record Takers (t : Tables) (ts : List (Option ReplacementId)) : Type 0 where
  pub taken : (n c : ℕ) → c < length ts → takes t n c ≡ is_replacement n (slice_index_or ts c None)

-- the makers and the takers of a list of both
abbrev pub makers_in : List Owners → List (Option ReplacementId)
makers_in os = map (λ o. o.maker) os

abbrev pub takers_in : List Owners → List (Option ReplacementId)
takers_in os = map (λ o. o.taker) os

-- the ranges of replacement n
abbrev pub part_of : Tables → ℕ → Part
part_of t n = record {
  error = count_of 0 t.replacements (n - 1);
  list = before 1 t.replacements (n - 1);
  takes = count_of 1 t.replacements (n - 1);
  first = first_made t n;
  makes = count_of 2 t.replacements (n - 1);
}

-- those of all replacements
abbrev pub parts_of : Tables → List Part
parts_of t = map (part_of t) (range_with_len 1 (replacements_in t))

-- the same, each with its number
abbrev pub numbered_parts : Tables → List (ReplacementId × Part)
numbered_parts t = map (λ n. (record { 0 = n }, part_of t n)) (range_with_len 1 (replacements_in t))
