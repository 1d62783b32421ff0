-- Numbers of a cell, and whether all numbers of a list are as they should be. Assumes nothing.
use Rattle.std.proofs.Common.{◌≡◌, ℕ, ◌*◌, ◌<◌, Bool, true, false, MatchBool, List, length, drop, ℤ, pos, ◌∙◌, arith}
use Rattle.std.specs.List.{AllByRecursion, AllWithin, HoldsAt}
use Rattle.std.proofs.lemmas.List.{get_or-take, get_or-drop}
use Rattle.std.proofs.lemmas.List.Elements.{All-from_all_within, All-from_recursion, AllWithin-from_all, recursion_from_All}
use Rattle.rules.specs.Raw.{at, field, cell}

-- what stands at a place of a row of three
pub row_is : (xs : List ℤ) (i k : ℕ) → k < 3 → at (cell 3 xs i) k ≡ field xs i k
row_is xs i k small = get_or-take 3 (drop (3 * i) xs) k (pos 0) small ∙ get_or-drop (3 * i) xs k (pos 0)

-- either each element has P, or some element has not
pub all_or_not : (P : ℤ → Type 0) (xs : List ℤ) (r : Bool) → MatchBool r (AllWithin P xs 0 (length xs)) ((k : ℕ) × (k < length xs) × HoldsAt (λ z. P z → ⊥) xs k) → MatchBool r (AllByRecursion P xs) (AllByRecursion P xs → ⊥)
all_or_not P xs true h = recursion_from_All P xs (All-from_all_within P xs h)
all_or_not P xs false h = λ all. h.2 (pos 0) (AllWithin-from_all P xs (All-from_recursion P xs all) h.0 (pos 0) (omega arith) h.1)
