-- The rules on the numbers in the tables, place by place. Vertices and cells are counted from 0, replacements from 1, so record n − 1 is
-- that of replacement n. Assumes nothing.
use Rattle.std.specs.Prelude.{◌≡◌, ℕ, ◌-◌, ◌/◌, Bool, true, List, length, ℤ, pos, negsuc, ◌≤ℤ◌, ◌<ℤ◌}
use Rattle.std.specs.List.{AllByRecursion}
use Rattle.tables.specs.Tables.{Tables}
use Rattle.rules.specs.Raw.{field, cell}

-- from −500,000 to 500,000
abbrev pub Coordinate : ℤ → Type 0
Coordinate z = (negsuc 499999 ≤ℤ z) × (z ≤ℤ pos 500000)

-- the three coordinates of vertex v are in range
abbrev pub CoordinatesKept : Tables → ℕ → Type 0
CoordinatesKept t v = Coordinate (field t.coordinates v 0) × Coordinate (field t.coordinates v 1) × Coordinate (field t.coordinates v 2)

-- the error of replacement n is from 0 to 100,000
abbrev pub ErrorKept : Tables → ℕ → Type 0
ErrorKept t n = (pos 0 ≤ℤ field t.replacements (n - 1) 0) × (field t.replacements (n - 1) 0 ≤ℤ pos 100000)

-- z is one of the numbers below count
abbrev pub Numbered : ℕ → ℤ → Type 0
Numbered count z = (pos 0 ≤ℤ z) × (z <ℤ pos count)

-- every corner of cell c, where cells have k corners, is a vertex
abbrev pub CornersKept : ℕ → Tables → ℕ → Type 0
CornersKept k t c = AllByRecursion (Numbered (length t.coordinates / 3)) (cell k t.corners c)

-- cell c, which has k corners, is sound as its kind defines it
abbrev pub SoundnessKept : (List ℤ → List ℤ → Bool) → ℕ → Tables → ℕ → Type 0
SoundnessKept sound k t c = sound t.coordinates (cell k t.corners c) ≡ true

-- replacement n takes one cell or more, and makes more cells than it takes
abbrev pub GrowthKept : Tables → ℕ → Type 0
GrowthKept t n = (pos 0 <ℤ field t.replacements (n - 1) 1) × (field t.replacements (n - 1) 1 <ℤ field t.replacements (n - 1) 2)
