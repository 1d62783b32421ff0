-- How ranges follow on one another, and that they add up to the whole table. Assumes nothing.
use Rattle.std.proofs.Common.{◌≡◌, ℕ, zero, suc, ◌+◌, ◌-◌, ◌*◌, ◌/◌, ◌<◌, ◌≤◌, List, [], ◌∷◌, length, ℤ, pos, nat_abs, refl, ap, ◌∙◌, ⊎_elim, arith}
use native.Mathlib.Nat.{div-eq_of_eq-mul_right}
use Rattle.std.specs.List.{AllByRecursion}
use Rattle.std.proofs.lemmas.Int.{ints}
use Rattle.std.proofs.lemmas.Bool.{cases_lt}
use Rattle.tables.specs.declared.contents.Places.{Places}
use Rattle.tables.specs.Tables.{Tables, CellsCounted, TakenCounted, column, total, NotNegative}
use Rattle.rules.specs.Rows.{cells_in, replacements_in}
use Rattle.rules.specs.Raw.{at, field}
use Rattle.rules.specs.Ranges.{before}

pub before_rises : (k : ℕ) (rs : List ℤ) (m n : ℕ) → m ≤ n → before k rs m ≤ before k rs n
before_rises k rs m zero le = let e : m ≡ 0 = omega arith in omega (arith, ap (before k rs) e)
before_rises k rs m (suc n) le =
    ⊎_elim
    (λ lt. omega (arith, before_rises k rs m n (omega arith)))
    (λ ge. let e : m ≡ suc n = omega arith in omega (arith, ap (before k rs) e))
    (cases_lt m (suc n))

-- what replacement n has ends where that of replacement n + 1 begins
pub range_ends : (k : ℕ) (rs : List ℤ) (n : ℕ) → 1 ≤ n → before k rs (n - 1) + nat_abs (field rs (n - 1) k) ≡ before k rs n
range_ends k rs n some = let e : suc (n - 1) ≡ n = omega arith in ap (before k rs) e

-- it is over before a later replacement's begins
pub ranges_apart : (k : ℕ) (rs : List ℤ) (m n : ℕ) → 1 ≤ m → m < n → before k rs (m - 1) + nat_abs (field rs (m - 1) k) ≤ before k rs (n - 1)
ranges_apart k rs m n some lt = omega (arith, range_ends k rs m some, before_rises k rs m (n - 1) (omega arith))

-- where no count is below 0, it is the sum of the first counts
module _ (k : ℕ) (a b c : ℤ) (rs : List ℤ) where
  field_after : (i : ℕ) → field (a ∷ b ∷ c ∷ rs) (suc i) k ≡ field rs i k
  field_after i = let e : 3 * suc i + k ≡ suc (suc (suc (3 * i + k))) = omega arith in ap (at (a ∷ b ∷ c ∷ rs)) e

  before_after : (n : ℕ) → before k (a ∷ b ∷ c ∷ rs) (suc n) ≡ nat_abs (field (a ∷ b ∷ c ∷ rs) 0 k) + before k rs n
  before_after zero = omega arith
  before_after (suc n) = omega (arith, before_after n, ap nat_abs (field_after n))

  all_before : before k (a ∷ b ∷ c ∷ rs) (length (a ∷ b ∷ c ∷ rs) / 3) ≡ nat_abs (field (a ∷ b ∷ c ∷ rs) 0 k) + before k rs (length rs / 3)
  all_before = let e : suc (suc (suc (length rs))) / 3 ≡ suc (length rs / 3) = omega arith in ap (before k (a ∷ b ∷ c ∷ rs)) e ∙ before_after (length rs / 3)

-- where no count is below 0, they add up to what all replacements have together
total_before : (k : ℕ) (rs : List ℤ) → k < 3 → AllByRecursion NotNegative (column k rs) → total (column k rs) ≡ pos (before k rs (length rs / 3))
total_before k [] small natural = refl
total_before k (a ∷ []) small natural = refl
total_before k (a ∷ b ∷ []) small natural = refl
total_before zero (a ∷ b ∷ c ∷ rs) small natural =
    omega (arith, ints, natural.0, total_before 0 rs small natural.1, all_before 0 a b c rs)
total_before (suc zero) (a ∷ b ∷ c ∷ rs) small natural =
    omega (arith, ints, natural.0, total_before 1 rs small natural.1, all_before 1 a b c rs)
total_before (suc (suc zero)) (a ∷ b ∷ c ∷ rs) small natural =
    omega (arith, ints, natural.0, total_before 2 rs small natural.1, all_before 2 a b c rs)
total_before (suc (suc (suc k))) (a ∷ b ∷ c ∷ rs) small natural = absurd (omega arith)

-- base cells and made cells are all the cells
pub cells_add_up : (k : ℕ) (t : Tables) (p : Places) → 0 < k → CellsCounted k t p → nat_abs t.base + before 2 t.replacements (replacements_in t) ≡ cells_in k t
cells_add_up k t p some counted =
    let cells : cells_in k t ≡ counted.cells = div-eq_of_eq-mul_right some counted.whole in
    omega (arith, ints, counted.adds_up, counted.some_base, total_before 2 t.replacements (omega arith) counted.natural)

-- the lists of all replacements are all the taken numbers
pub lists_add_up : (t : Tables) (p : Places) → TakenCounted t p → before 1 t.replacements (replacements_in t) ≡ length t.taken
lists_add_up t p counted = omega (arith, ints, counted.adds_up, total_before 1 t.replacements (omega arith) counted.natural)
