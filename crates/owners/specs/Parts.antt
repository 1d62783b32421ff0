-- The ranges of replacements that follow on one another. Assumes nothing.
use Rattle.std.specs.Prelude.{ℕ, ◌+◌, List, [], ◌∷◌, unsigned_abs}
use Rattle.kinds.specs.declared.numbers.ReplacementId.{ReplacementId}
use Rattle.rules.specs.declared.record.Record.{Record}
use Rattle.owners.specs.declared.part.Part.{Part}

-- the replacements with these records, each with its number and its ranges, where n replacements come before them, their lists begin at
-- place l of the taken numbers and their cells at cell c
abbrev pub parts_from : ℕ → ℕ → ℕ → List Record → List (ReplacementId × Part)
parts_from n l c [] = []
parts_from n l c (r ∷ rs) =
    (record { 0 = n + 1 }, record { error = unsigned_abs r.error; list = l; takes = unsigned_abs r.takes; first = c; makes = unsigned_abs r.makes })
    ∷ parts_from (n + 1) (l + unsigned_abs r.takes) (c + unsigned_abs r.makes) rs
