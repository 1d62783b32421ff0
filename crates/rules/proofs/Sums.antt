-- Sums of counts, and a loop that adds them up. Assumes nothing.
use Rattle.std.proofs.Common.{◌≡◌, ℕ, ◌+◌, ◌<◌, ◌≤◌, List, [], ◌∷◌, ℤ, pos, ◌≤ℤ◌, sym, subst, arith}
use Rattle.std.specs.List.{AllByRecursion}
use Rattle.std.proofs.lemmas.Int.{ints}
use Rattle.tables.specs.Tables.{total, NotNegative}
use Rattle.rules.specs.Counts.{AddsUp}

pub total_natural : (xs : List ℤ) → AllByRecursion NotNegative xs → pos 0 ≤ℤ total xs
total_natural [] h = omega (arith, ints)
total_natural (x ∷ xs) h = omega (arith, ints, h.0, total_natural xs h.1)

-- a start above the limit does not add up
pub too_much : (xs : List ℤ) (start n : ℕ) → 16384 < start → AddsUp xs start n → ⊥
too_much xs start n over x = omega (arith, ints, over, x.sum, x.most, total_natural xs x.natural)

-- a count goes over to the start
add_first : (count : ℕ) (xs : List ℤ) (start n : ℕ) → AddsUp xs (start + count) n → AddsUp (pos count ∷ xs) start n
add_first count xs start n x = record { natural = (omega (arith, ints), x.natural); sum = omega (arith, ints, x.sum); most = x.most }

take_first : (count : ℕ) (xs : List ℤ) (start n : ℕ) → AddsUp (pos count ∷ xs) start n → AddsUp xs (start + count) n
take_first count xs start n x = record { natural = x.natural.1; sum = omega (arith, ints, x.sum); most = x.most }

-- of all counts the rest is still to add to a sum
pub record Adding (all : List ℤ) (start : ℕ) (rest : List ℤ) (sum : ℕ) : Type 0 where
  pub done : (n : ℕ) → AddsUp rest sum n → AddsUp all start n
  pub left : (n : ℕ) → AddsUp all start n → AddsUp rest sum n

module _ {all : List ℤ} {start : ℕ} {rest : List ℤ} {sum : ℕ} (a : Adding all start rest sum) (count : ℕ) (xs : List ℤ) (is : rest ≡ pos count ∷ xs) where
  pub add_more : Adding all start xs (sum + count)
  add_more = record {
    done = λ n x. a.done n (subst (λ (ys : List ℤ). AddsUp ys sum n) (sym is) (add_first count xs sum n x));
    left = λ n x. take_first count xs sum n (subst (λ (ys : List ℤ). AddsUp ys sum n) is (a.left n x));
  }

  pub add_over : 16384 < sum + count → (n : ℕ) → AddsUp all start n → ⊥
  add_over over n x = too_much xs (sum + count) n over (take_first count xs sum n (subst (λ (ys : List ℤ). AddsUp ys sum n) is (a.left n x)))

pub added_up : {all : List ℤ} {start : ℕ} {rest : List ℤ} {sum : ℕ} → Adding all start rest sum → rest ≡ [] → sum ≤ 16384 → AddsUp all start sum
added_up {all} {start} {rest} {sum} a is most = a.done sum (subst (λ (ys : List ℤ). AddsUp ys sum sum) (sym is) (record { natural = tt; sum = omega (arith, ints); most = most }))
