-- The cells of raw tables, by their numbers: the base cells, and the cells that each replacement makes and takes. Replacements are counted
-- from 1. Assumes nothing.
use Rattle.std.specs.Prelude.{ℕ, ◌-◌, Bool, false, ◌&&◌, ◌||◌, List, [], ◌∷◌, map, ℤ, nat_eq, nat_le, unsigned_abs}
use Rattle.std.specs.List.{range_with_len, flat_map}
use Rattle.kinds.specs.declared.kind.Signed.{Signed}
use Rattle.kinds.specs.Shapes.{Shape}
use Rattle.tables.specs.Tables.{Tables}
use Rattle.rules.specs.Raw.{field, cell}
use Rattle.rules.specs.Ranges.{first_made, taken_by}
use Rattle.rules.specs.Rows.{replacements_in}

-- n is the number of a replacement
abbrev pub replacement : Tables → ℕ → Bool
replacement t n = nat_le 1 n && nat_le n (replacements_in t)

-- the base cells, which make up the coarse mesh
abbrev pub base_cells : Tables → List ℕ
base_cells t = range_with_len 0 (unsigned_abs t.base)

-- the cells that replacement n makes, and those that it takes
abbrev pub made_cells : Tables → ℕ → List ℕ
made_cells t n = range_with_len (first_made t n) (unsigned_abs (field t.replacements (n - 1) 2))

abbrev pub taken_cells : Tables → ℕ → List ℕ
taken_cells t n = map unsigned_abs (taken_by t n)

-- at least one passes
abbrev pub some : {X : Type 0} → (X → Bool) → List X → Bool
some p [] = false
some p (x ∷ xs) = p x || some p xs

-- n is a replacement that makes cell c, or takes it
abbrev pub makes : Tables → ℕ → ℕ → Bool
makes t n c = replacement t n && some (nat_eq c) (made_cells t n)

abbrev pub takes : Tables → ℕ → ℕ → Bool
takes t n c = replacement t n && some (nat_eq c) (taken_cells t n)

-- the signed facets of the cells of a list, one cell after the other, over a table of corners
abbrev pub rims : {F P : Type 0} → Shape F P → List ℤ → List ℕ → List (Signed F)
rims k corners cs = flat_map (λ c. k.rim (cell k.arity corners c)) cs

-- the same over raw tables
abbrev pub facets_of : {F P : Type 0} → Shape F P → Tables → List ℕ → List (Signed F)
facets_of k t cs = rims k t.corners cs
