-- Two sorted lists have the same numbers, each as often, exactly when they are equal. Assumes nothing.
use Rattle.std.proofs.Common.{◌≡◌, ℕ, suc, ◌+◌, ◌<◌, ◌≤◌, Bool, true, false, cond, eqb, List, [], ◌∷◌, ◌++◌, length, get_or, Decides, MatchBool, sym, refl, ap, ◌∙◌, ⊎_elim, arith}
use Rattle.std.specs.List.Sorted.{IsNonDecreasing, IsPermutation}
use Rattle.std.proofs.lemmas.List.Sorted.{sum_by-IsPermutation}
use Rattle.std.proofs.lemmas.List.Sums.{sum_by-cons, sum_by-append}
use Rattle.std.proofs.lemmas.Bool.{cases_Bool, eqb-true, eq-eqb, both_ways}
use Rattle.rims.specs.Keys.{occurs, SameNumbers}

occurs-cons : (k x : ℕ) (xs : List ℕ) → occurs k (x ∷ xs) ≡ cond (eqb x k) 1 0 + occurs k xs
occurs-cons k x xs = sum_by-cons (λ y. cond (eqb y k) 1 0) x xs

pub occurs-append : (k : ℕ) (xs ys : List ℕ) → occurs k (xs ++ ys) ≡ occurs k xs + occurs k ys
occurs-append k xs ys = sum_by-append (λ y. cond (eqb y k) 1 0) xs ys

pub occurs_here : (k x : ℕ) (xs : List ℕ) → eqb x k ≡ true → occurs k (x ∷ xs) ≡ 1 + occurs k xs
occurs_here k x xs e = occurs-cons k x xs ∙ ap (λ b. cond b 1 0 + occurs k xs) e

pub occurs_not : (k x : ℕ) (xs : List ℕ) → eqb x k ≡ false → occurs k (x ∷ xs) ≡ occurs k xs
occurs_not k x xs e = let h : occurs k (x ∷ xs) ≡ 0 + occurs k xs = occurs-cons k x xs ∙ ap (λ b. cond b 1 0 + occurs k xs) e in omega arith

-- a number that occurs stands somewhere
occurs_at : (k : ℕ) (xs : List ℕ) → 0 < occurs k xs → (i : ℕ) × (i < length xs) × (get_or xs i 0 ≡ k)
occurs_at k [] h = absurd (omega arith)
occurs_at k (x ∷ xs) h = ⊎_elim
    (λ e. (0, omega arith, eqb-true x k e))
    (λ e. let r = occurs_at k xs (omega (arith, occurs_not k x xs e, h)) in (suc r.0, omega (arith, r.1), r.2))
    (cases_Bool (eqb x k))

rising_tail : (x : ℕ) (xs : List ℕ) → IsNonDecreasing (x ∷ xs) → IsNonDecreasing xs
rising_tail x xs up i j d h l = up (suc i) (suc j) d (omega arith) (omega arith)

-- the first is the least
rising_least : (k x : ℕ) (xs : List ℕ) → IsNonDecreasing (x ∷ xs) → 0 < occurs k (x ∷ xs) → x ≤ k
rising_least k x xs up h = let r = occurs_at k (x ∷ xs) h in omega (arith, up 0 r.0 0 (omega arith) r.1, r.2)

occurs_self : (x : ℕ) (xs : List ℕ) → 0 < occurs x (x ∷ xs)
occurs_self x xs = omega (arith, occurs_here x x xs (eq-eqb x x refl))

pub same_sorted : (xs ys : List ℕ) → IsNonDecreasing xs → IsNonDecreasing ys → SameNumbers xs ys → xs ≡ ys
same_sorted [] [] a b e = refl
same_sorted [] (y ∷ ys) a b e = absurd (let h : 0 ≡ occurs y (y ∷ ys) = e y in omega (arith, h, occurs_self y ys))
same_sorted (x ∷ xs) [] a b e = absurd (let h : occurs x (x ∷ xs) ≡ 0 = e x in omega (arith, h, occurs_self x xs))
same_sorted (x ∷ xs) (y ∷ ys) a b e =
    let p : x ≤ y = rising_least y x xs a (omega (arith, e y, occurs_self y ys)) in
    let q : y ≤ x = rising_least x y ys b (omega (arith, e x, occurs_self x xs)) in
    let xy : x ≡ y = omega arith in
    let t : xs ≡ ys = same_sorted xs ys (rising_tail x xs a) (rising_tail y ys b) (λ k.
    omega (arith, e k, occurs-cons k x xs, occurs-cons k y ys, ap {B = ℕ} (λ z. cond (eqb z k) 1 0) xy)) in
    ap (λ z. z ∷ xs) xy ∙ ap (λ zs. y ∷ zs) t

-- what a sort keeps
pub occurs-shuffled : (k : ℕ) (xs ys : List ℕ) → IsPermutation xs ys → occurs k ys ≡ occurs k xs
occurs-shuffled k xs ys h = sum_by-IsPermutation (λ y. cond (eqb y k) 1 0) xs ys h

-- sorted copies are equal exactly when the lists are level
pub level_from_sorted : (xs ys xs' ys' : List ℕ) → IsPermutation xs xs' → IsPermutation ys ys' → xs' ≡ ys' → SameNumbers xs ys
level_from_sorted xs ys xs' ys' p q e k = sym (occurs-shuffled k xs xs' p) ∙ ap (occurs k) e ∙ occurs-shuffled k ys ys' q

pub sorted_from_level : (xs ys xs' ys' : List ℕ) → IsPermutation xs xs' → IsPermutation ys ys' → IsNonDecreasing xs' → IsNonDecreasing ys' → SameNumbers xs ys → xs' ≡ ys'
sorted_from_level xs ys xs' ys' p q a b e = same_sorted xs' ys' a b (λ k. occurs-shuffled k xs xs' p ∙ e k ∙ sym (occurs-shuffled k ys ys' q))

-- a test of one fact is a test of another that holds as often
pub when_alike : {P Q : Type 0} (r : Bool) → Decides r Q → (Q → P) → (P → Q) → MatchBool r P (P → ⊥)
when_alike true d f g = f (d.0 refl)
when_alike false d f g = λ p. both_ways false refl (d.1 (g p))

pub when_turn : {P Q : Type 0} (r : Bool) → MatchBool r P (P → ⊥) → (P → Q) → (Q → P) → MatchBool r Q (Q → ⊥)
when_turn true d f g = f d
when_turn false d f g = λ q. d (g q)
