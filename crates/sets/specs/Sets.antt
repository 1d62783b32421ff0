-- Sets of replacements and their meshes, on raw tables. A set is a yes or no for each number. Cells have k corners. Assumes nothing.
use Rattle.std.specs.Prelude.{◌≡◌, ℕ, Bool, true, not, ◌&&◌, ◌||◌, List, length, filter, nat_eq}
use Rattle.std.specs.List.{range_with_len}
use Rattle.tables.specs.Tables.{Tables}
use Rattle.rules.specs.Cells.{replacement, base_cells, some, makes, takes}
use Rattle.rules.specs.Rows.{cells_in, replacements_in}

-- every member is a replacement
abbrev pub Proper : Tables → (ℕ → Bool) → Type 0
Proper t H = (n : ℕ) → H n ≡ true → replacement t n ≡ true

-- replacement n needs replacement m: n takes a cell that m makes
pub record Needs (t : Tables) (n m : ℕ) : Type 0 where
  pub cell : ℕ
  pub taken : takes t n cell ≡ true
  pub made : makes t m cell ≡ true

-- a set is closed: it holds all that its members need
abbrev pub Closed : Tables → (ℕ → Bool) → Type 0
Closed t H = (n m : ℕ) → H n ≡ true → Needs t n m → H m ≡ true

-- some replacement is a member of H and has the property p
abbrev pub some_member : Tables → (ℕ → Bool) → (ℕ → Bool) → Bool
some_member t H p = some (λ n. H n && p n) (range_with_len 1 (replacements_in t))

-- cell c is in the mesh of H: it is a base cell or one that a member makes, and no member takes it
abbrev pub in_mesh : Tables → (ℕ → Bool) → ℕ → Bool
in_mesh t H c = (some (nat_eq c) (base_cells t) || some_member t H (λ n. makes t n c)) && not (some_member t H (λ n. takes t n c))

-- the cells of the mesh of H, by rising number, and how many they are
abbrev pub mesh_cells : ℕ → Tables → (ℕ → Bool) → List ℕ
mesh_cells k t H = filter (in_mesh t H) (range_with_len 0 (cells_in k t))

abbrev pub mesh_size : ℕ → Tables → (ℕ → Bool) → ℕ
mesh_size k t H = length (mesh_cells k t H)
