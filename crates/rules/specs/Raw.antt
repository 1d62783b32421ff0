-- The numbers of raw tables. Assumes nothing.
use Rattle.std.specs.Prelude.{ℕ, ◌+◌, ◌*◌, List, take, drop, ℤ, pos, slice_index_or}
use Rattle.tables.specs.Tables.{Tables}
use Rattle.rules.specs.declared.raw.RawTables.{RawTables}

-- the lists behind lent tables
abbrev pub lists_of : RawTables → Tables
lists_of t = record { coordinates = t.coordinates.now; corners = t.corners.now; base = t.base; replacements = t.replacements.now; taken = t.taken.now }

-- what stands at place i; 0 past the end, which no rule asks for
abbrev pub at : List ℤ → ℕ → ℤ
at xs i = slice_index_or xs i (pos 0)

-- column k of record i, where records have three numbers
abbrev pub field : List ℤ → ℕ → ℕ → ℤ
field xs i k = at xs (3 * i + k)

-- the corners of cell c, where cells have k corners
abbrev pub cell : ℕ → List ℤ → ℕ → List ℤ
cell k corners c = take k (drop (k * c) corners)
