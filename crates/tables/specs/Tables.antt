-- The raw tables of a hierarchy, and how many entries they may have: 1 to 4,096 vertices, 1 to 16,384 cells with at least one base
-- cell, at most 4,096 replacements and at most 16,384 taken numbers, which make up the tables exactly. Assumes nothing.
use Rattle.std.specs.Prelude.{◌≡◌, ℕ, zero, suc, ◌*◌, ◌≤◌, List, [], ◌∷◌, length, ℤ, pos, ◌+ℤ◌, ◌≤ℤ◌}
use Rattle.std.specs.List.{AllByRecursion}
use Rattle.tables.specs.declared.contents.Places.{Places}

-- Three coordinates for each vertex; the corners of each cell, first of the base cells, then of the cells that each replacement
-- makes; the number of base cells; error, count taken and count made for each replacement; the numbers of the cells that each
-- replacement takes.
pub record Tables : Type 0 where
  pub coordinates : List ℤ
  pub corners : List ℤ
  pub base : ℤ
  pub replacements : List ℤ
  pub taken : List ℤ

-- the first, the second or else the third of three numbers
abbrev pick : ℕ → ℤ → ℤ → ℤ → ℤ
pick zero a b c = a
pick (suc zero) a b c = b
pick (suc (suc k)) a b c = c

-- column 0, 1 or 2 of the whole records of three numbers that a table has
abbrev pub column : ℕ → List ℤ → List ℤ
column k [] = []
column k (a ∷ []) = []
column k (a ∷ b ∷ []) = []
column k (a ∷ b ∷ c ∷ xs) = pick k a b c ∷ column k xs

-- the counts taken, and the counts made, of a replacement table
abbrev pub counts_taken : List ℤ → List ℤ
counts_taken = column 1

abbrev pub counts_made : List ℤ → List ℤ
counts_made = column 2

-- the sum
abbrev pub total : List ℤ → ℤ
total [] = pos 0
total (z ∷ zs) = z +ℤ total zs

-- not below 0
abbrev pub NotNegative : ℤ → Type 0
NotNegative z = pos 0 ≤ℤ z

-- there are 1 to 4,096 whole vertices, and places for them
pub record VerticesCounted (t : Tables) (p : Places) : Type 0 where
  pub vertices : ℕ
  pub whole : length t.coordinates ≡ 3 * vertices
  pub some : 1 ≤ vertices
  pub most : vertices ≤ 4096
  pub room : length t.coordinates ≤ p.coordinates

-- There are at most 16,384 whole cells of k corners, and places for them: at least one base cell, and those that the replacements
-- make. (So there is a cell, and no more base cells than cells.)
pub record CellsCounted (k : ℕ) (t : Tables) (p : Places) : Type 0 where
  pub cells : ℕ
  pub whole : length t.corners ≡ k * cells
  pub most : cells ≤ 16384
  pub some_base : pos 1 ≤ℤ t.base
  pub natural : AllByRecursion NotNegative (counts_made t.replacements)
  pub adds_up : t.base +ℤ total (counts_made t.replacements) ≡ pos cells
  pub room : length t.corners ≤ p.corners

-- there are at most 4,096 whole records of replacements, and places for them
pub record ReplacementsCounted (t : Tables) (p : Places) : Type 0 where
  pub replacements : ℕ
  pub whole : length t.replacements ≡ 3 * replacements
  pub most : replacements ≤ 4096
  pub room : length t.replacements ≤ p.replacements

-- there are at most 16,384 taken numbers, and places for them: those that the replacements take
pub record TakenCounted (t : Tables) (p : Places) : Type 0 where
  pub most : length t.taken ≤ 16384
  pub natural : AllByRecursion NotNegative (counts_taken t.replacements)
  pub adds_up : total (counts_taken t.replacements) ≡ pos (length t.taken)
  pub room : length t.taken ≤ p.taken

-- how many places the tables have themselves
abbrev pub own_places : Tables → Places
own_places t = record { coordinates = length t.coordinates; corners = length t.corners; replacements = length t.replacements; taken = length t.taken }

-- The rule of the counts, for cells of k corners, by place: 0 vertices, 1 cells, 2 replacements, 3 taken numbers.
abbrev pub Counted : ℕ → Tables → Places → ℕ → Type 0
Counted k t p zero = VerticesCounted t p
Counted k t p (suc zero) = CellsCounted k t p
Counted k t p (suc (suc zero)) = ReplacementsCounted t p
Counted k t p (suc (suc (suc zero))) = TakenCounted t p
Counted k t p (suc (suc (suc (suc q)))) = Unit {0}
