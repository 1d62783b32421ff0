-- What an accepted hierarchy answers. Assumes nothing.
use Rattle.std.specs.Prelude.{◌≡◌, ℕ, ◌-◌, true, false, Option, MatchOption}
use Rattle.boxes.specs.declared.facts.Facts.{Facts}
use Rattle.kinds.specs.declared.numbers.ReplacementId.{ReplacementId}
use Rattle.owners.specs.declared.part.Part.{Part}
use Rattle.owners.specs.Owners.{count_of, part_of}
use Rattle.rules.specs.Cells.{replacement, makes, takes}
use Rattle.tables.specs.Tables.{Tables}
use Rattle.hierarchy.specs.Derived.{BoxOf}

-- the replacement that makes cell c; None where none does
abbrev pub MakerOf : Tables → ℕ → Option ReplacementId → Type 0
MakerOf t c r = MatchOption r ((n : ℕ) → makes t n c ≡ false) (λ n. makes t n.0 c ≡ true)

-- the replacement that takes cell c; None where none does
abbrev pub TakerOf : Tables → ℕ → Option ReplacementId → Type 0
TakerOf t c r = MatchOption r ((n : ℕ) → takes t n c ≡ false) (λ n. takes t n.0 c ≡ true)

-- number, error and box of replacement n, where cells have k corners
pub record FactsGiven (k : ℕ) (t : Tables) (n : ℕ) (f : Facts) : Type 0 where
  pub is : replacement t n ≡ true
  pub number : f.number.0 ≡ n
  pub error : f.error ≡ count_of 0 t.replacements (n - 1)
  pub around : BoxOf k t n f.around

-- None where n is no replacement
abbrev pub FactsOf : ℕ → Tables → ℕ → Option Facts → Type 0
FactsOf k t n r = MatchOption r (replacement t n ≡ false) (FactsGiven k t n)

-- the error of replacement n, and where its taken numbers and its made cells begin and how many they are; None where n is no replacement
pub record RangesGiven (t : Tables) (n : ℕ) (p : Part) : Type 0 where
  pub is : replacement t n ≡ true
  pub error : p.error ≡ (part_of t n).error
  pub list : p.list ≡ (part_of t n).list
  pub takes : p.takes ≡ (part_of t n).takes
  pub first : p.first ≡ (part_of t n).first
  pub makes : p.makes ≡ (part_of t n).makes

abbrev pub RangesOf : Tables → ℕ → Option Part → Type 0
RangesOf t n r = MatchOption r (replacement t n ≡ false) (RangesGiven t n)
