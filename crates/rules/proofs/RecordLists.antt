-- The records of a replacement table: how many there are, their numbers, and a loop over them. Assumes nothing.
use Rattle.std.proofs.Common.{◌≡◌, ℕ, zero, suc, ◌+◌, ◌*◌, ◌/◌, ◌<◌, List, [], ◌∷◌, length, get_or, Option, None, Some, ℤ, map, sym, refl, ap, ◌∙◌, arith}
use Rattle.std.specs.declared.iter.Zip.{Zip}
use Rattle.std.specs.declared.ops.Range.{Range}
use Rattle.std.specs.Iterator.{Yields, YieldsFirst}
use Rattle.std.specs.Iterator.Adapters.{zip_first, zip_second}
use Rattle.std.specs.List.{range_with_len, zip}
use Rattle.std.proofs.lemmas.List.FromFn.{length-range_with_len, get_or-range_with_len}
use Rattle.std.proofs.lemmas.Slice.Zip.{get_or-zip, length-zip}
use Rattle.std.proofs.lemmas.Iterator.{YieldsList, YieldsList-from_range, YieldsList-from_zip, zips}
use Rattle.std.proofs.iter.Yields.{nat_range_steps}
use Rattle.std.proofs.lemmas.Iterator.Consumers.{YieldsList-from_first, YieldsList-turn, YieldsList-end}
use Rattle.tables.specs.Tables.{column}
use Rattle.rules.specs.declared.record.Record.{Record}
use Rattle.rules.specs.declared.record.Records.{Records}
use Rattle.rules.specs.Raw.{at}
use Rattle.rules.specs.Records.{records_of, record_at}

-- there is one for every three numbers
pub records_long : (rs : List ℤ) → length (records_of rs) ≡ length rs / 3
records_long [] = refl
records_long (a ∷ []) = refl
records_long (a ∷ b ∷ []) = refl
records_long (a ∷ b ∷ c ∷ rs) = omega (arith, records_long rs)

-- what stands at place i of them
pub record_is : (rs : List ℤ) (i : ℕ) (d : Record) → i < length (records_of rs) → get_or (records_of rs) i d ≡ record_at rs i
record_is [] i d lt = absurd (omega arith)
record_is (a ∷ []) i d lt = absurd (omega arith)
record_is (a ∷ b ∷ []) i d lt = absurd (omega arith)
record_is (a ∷ b ∷ c ∷ rs) zero d lt = refl
record_is (a ∷ b ∷ c ∷ rs) (suc i) d lt =
    let skip : (k : ℕ) → 3 * suc i + k ≡ suc (suc (suc (3 * i + k))) = λ k. omega arith in
    let numbers : (k : ℕ) → at (a ∷ b ∷ c ∷ rs) (3 * suc i + k) ≡ at rs (3 * i + k) = λ k. ap (at (a ∷ b ∷ c ∷ rs)) (skip k) in
    record_is rs i d (omega arith) ∙ (λ j. record { error = sym (numbers 0) j; takes = sym (numbers 1) j; makes = sym (numbers 2) j })

-- the columns of a table are those of its records
pub column_takes : (rs : List ℤ) → column 1 rs ≡ map (λ r. r.takes) (records_of rs)
column_takes [] = refl
column_takes (a ∷ []) = refl
column_takes (a ∷ b ∷ []) = refl
column_takes (a ∷ b ∷ c ∷ rs) = ap (λ xs. b ∷ xs) (column_takes rs)

pub column_makes : (rs : List ℤ) → column 2 rs ≡ map (λ r. r.makes) (records_of rs)
column_makes [] = refl
column_makes (a ∷ []) = refl
column_makes (a ∷ b ∷ []) = refl
column_makes (a ∷ b ∷ c ∷ rs) = ap (λ xs. c ∷ xs) (column_makes rs)

-- what a call gives where these records are left
abbrev pub Gives : Records → Option Record → Records → Type 0
Gives = YieldsFirst (λ r. records_of r.left.now)

-- an iterator over the records of a table
road : (rs : List ℤ) {s : Records} → s.left.now ≡ rs → YieldsList Gives (λ r. r) s (records_of rs)
road rs {s} e = YieldsList-from_first (λ r. r) (λ (r : Records). records_of r.left.now) {s = s} (records_of rs) (ap records_of e)

-- in a `for` over the records beside the numbers of their replacements
abbrev pub GivesNumbered : Zip (Range ℕ) Records → Option (ℕ × Record) → Zip (Range ℕ) Records → Type 0
GivesNumbered = zips nat_range_steps Gives

module _ (rs : List ℤ) {it : Records} {made s : Zip (Range ℕ) Records} (records : it.left.now ≡ rs) (numbers : zip_first made ≡ record { start = 1; end = length rs / 3 + 1 }) (beside : zip_second made ≡ it) (gives : s ≡ made) (xs : List (ℕ × Record)) (t : Zip (Range ℕ) Records) (y : Yields GivesNumbered s xs t) (r : Option (ℕ × Record)) (u : Zip (Range ℕ) Records) where
  all_numbers : List ℕ
  all_numbers = range_with_len 1 (length rs / 3)

  many : length (zip all_numbers (records_of rs)) ≡ length rs / 3
  unfolding all_numbers
  many = omega (arith, length-zip (range_with_len 1 (length rs / 3)) (records_of rs), length-range_with_len 1 (length rs / 3), records_long rs)

  numbered_road : YieldsList GivesNumbered (λ p. p) s (zip all_numbers (records_of rs))
  unfolding all_numbers
  numbered_road = YieldsList-from_zip (YieldsList-from_range 1 (length rs / 3 + 1) (length rs / 3) (ap zip_first gives ∙ numbers) (omega arith)) (road rs {s = zip_second s} (ap (λ (r : Records). r.left.now) (ap zip_second gives ∙ beside) ∙ records))

  pub numbered_turn : (p : ℕ × Record) → r ≡ Some p → GivesNumbered t r u → (length xs < length rs / 3) × (p.0 ≡ length xs + 1) × (p.1 ≡ record_at rs (length xs))
  unfolding all_numbers
  numbered_turn p is step =
      let turn = YieldsList-turn numbered_road xs t y r u p is step in
      let inside : length xs < length rs / 3 = omega (arith, turn.0, many) in
      let number : length xs < length (range_with_len 1 (length rs / 3)) = omega (arith, inside, length-range_with_len 1 (length rs / 3)) in
      let row : length xs < length (records_of rs) = omega (arith, inside, records_long rs) in
      let pair = turn.1 ∙ get_or-zip (range_with_len 1 (length rs / 3)) (records_of rs) (length xs) p number row in
      (inside, omega (arith, ap (λ (q : ℕ × Record). q.0) pair, get_or-range_with_len 1 (length rs / 3) (length xs) p.0 inside), ap (λ (q : ℕ × Record). q.1) pair ∙ record_is rs (length xs) p.1 row)

  pub numbered_end : r ≡ None → GivesNumbered t r u → length xs ≡ length rs / 3
  numbered_end is step = omega (arith, (YieldsList-end numbered_road xs t y r u is step).1, many)
