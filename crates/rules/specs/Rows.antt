-- The rules that look at one vertex, one cell or one replacement at a time, with those of the counts before them, in the order in which
-- they are judged. Each is judged over its whole table. Assumes nothing.
use Rattle.std.specs.Prelude.{◌≡◌, ℕ, ◌+◌, ◌/◌, Bool, List, [], ◌∷◌, length, ℤ, Result}
use Rattle.faults.specs.declared.Fault.{Fault}
use Rattle.faults.specs.declared.Refusal.TheVariants.{CountOffLimits, CoordinateOffRange, ErrorOffRange, NoSuchVertex, CellNotSound, NoRefinement, TakesNoEarlierCell}
use Rattle.tables.specs.declared.contents.Places.{Places}
use Rattle.tables.specs.Judging.{Row, Outcome}
use Rattle.tables.specs.Tables.{Tables, Counted, own_places}
use Rattle.rules.specs.Ranges.{EarlierKept}
use Rattle.rules.specs.Values.{CoordinatesKept, ErrorKept, CornersKept, SoundnessKept, GrowthKept}

-- how many whole vertices, whole cells of k corners and whole records of replacements there are
abbrev pub vertices_in : Tables → ℕ
vertices_in t = length t.coordinates / 3

abbrev pub cells_in : ℕ → Tables → ℕ
cells_in k t = length t.corners / k

abbrev pub replacements_in : Tables → ℕ
replacements_in t = length t.replacements / 3

-- those that look at one vertex, one cell or one replacement at a time, for cells of k corners and their soundness: coordinates, errors,
-- corners, soundness, growth, earlier cells only
abbrev pub value_rows : ℕ → (List ℤ → List ℤ → Bool) → Tables → List Row
value_rows k sound t =
    record { refusal = CoordinateOffRange; from = 0; upto = vertices_in t; kept = CoordinatesKept t }
    ∷ record { refusal = ErrorOffRange; from = 1; upto = replacements_in t + 1; kept = ErrorKept t }
    ∷ record { refusal = NoSuchVertex; from = 0; upto = cells_in k t; kept = CornersKept k t }
    ∷ record { refusal = CellNotSound; from = 0; upto = cells_in k t; kept = SoundnessKept sound k t }
    ∷ record { refusal = NoRefinement; from = 1; upto = replacements_in t + 1; kept = GrowthKept t }
    ∷ record { refusal = TakesNoEarlierCell; from = 1; upto = replacements_in t + 1; kept = EarlierKept t }
    ∷ []

-- and with those of the counts and places before them
abbrev pub placed_rows : ℕ → (List ℤ → List ℤ → Bool) → Tables → Places → List Row
placed_rows k sound t p = record { refusal = CountOffLimits; from = 0; upto = 4; kept = Counted k t p } ∷ value_rows k sound t

-- the same where a table has just the places that it fills
abbrev pub rows : ℕ → (List ℤ → List ℤ → Bool) → Tables → List Row
rows k sound t = placed_rows k sound t (own_places t)

-- What judging comes to: every rule holds everywhere, or the first broken one is told.
abbrev pub Judged : ℕ → (List ℤ → List ℤ → Bool) → Tables → Result (Unit {0}) Fault → Type 0
Judged k sound t = Outcome (rows k sound t)

-- judging comes to one thing only
abbrev pub JudgedOnce : Type 0
JudgedOnce = (k : ℕ) (sound : List ℤ → List ℤ → Bool) (t : Tables) (r s : Result (Unit {0}) Fault) → Judged k sound t r → Judged k sound t s → r ≡ s

-- the same of tables that are to have given places
abbrev pub PlacedJudgedOnce : Type 0
PlacedJudgedOnce = (k : ℕ) (sound : List ℤ → List ℤ → Bool) (t : Tables) (p : Places) (r s : Result (Unit {0}) Fault) → Outcome (placed_rows k sound t p) r → Outcome (placed_rows k sound t p) s → r ≡ s
