-- The records of a replacement table. Assumes nothing.
use Rattle.std.specs.Prelude.{ℕ, List, [], ◌∷◌, ℤ}
use Rattle.rules.specs.declared.record.Record.{Record}
use Rattle.rules.specs.Raw.{field}

-- the whole records of three numbers that a table has: error, count taken and count made
abbrev pub records_of : List ℤ → List Record
records_of [] = []
records_of (a ∷ []) = []
records_of (a ∷ b ∷ []) = []
records_of (a ∷ b ∷ c ∷ xs) = record { error = a; takes = b; makes = c } ∷ records_of xs

-- the numbers of record i
abbrev pub record_at : List ℤ → ℕ → Record
record_at rs i = record { error = field rs i 0; takes = field rs i 1; makes = field rs i 2 }
