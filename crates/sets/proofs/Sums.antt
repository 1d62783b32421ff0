-- Sums over lists, and over those of a list that pass a test. Assumes nothing.
use Rattle.std.proofs.Common.{◌≡◌, ℕ, zero, suc, ◌+◌, ◌<◌, ◌≤◌, Bool, true, false, cond, ◌||◌, eqb, List, [], ◌∷◌, length, get_or, ℤ, pos, ◌+ℤ◌, filter, sym, refl, ap, ◌∙◌, subst, ⊎_elim, arith}
use lib.IntN.{+ℤ_idl, +ℤ_idr}
use Rattle.std.specs.List.{range_with_len, AllByRecursion}
use Rattle.std.proofs.lemmas.List.FromFn.{length-range_with_len, get_or-range_with_len}
use Rattle.std.proofs.ByRecursion.{All-from_get_or}
use Rattle.std.proofs.lemmas.Int.{ints}
use Rattle.std.proofs.lemmas.Bool.{cases_Bool, cases_eq, cond-false, eq-eqb, ne_eqb}
use Rattle.rules.specs.Cells.{some}

abbrev pub sum_of : {X : Type 0} → (X → ℤ) → List X → ℤ
sum_of v [] = pos 0
sum_of v (x ∷ xs) = v x +ℤ sum_of v xs

pub sum_like : {X : Type 0} (u v : X → ℤ) (xs : List X) → AllByRecursion (λ x. u x ≡ v x) xs → sum_of u xs ≡ sum_of v xs
sum_like u v [] h = refl
sum_like u v (x ∷ xs) h = ap (λ z. z +ℤ sum_of u xs) h.0 ∙ ap (λ z. v x +ℤ z) (sum_like u v xs h.1)

pub sum_zero : {X : Type 0} (v : X → ℤ) (xs : List X) → AllByRecursion (λ x. v x ≡ pos 0) xs → sum_of v xs ≡ pos 0
sum_zero v [] h = refl
sum_zero v (x ∷ xs) h = ap (λ z. z +ℤ sum_of v xs) h.0 ∙ +ℤ_idl (sum_of v xs) ∙ sum_zero v xs h.1

pub all_of : {X : Type 0} (P : X → Type 0) → ((x : X) → P x) → (xs : List X) → AllByRecursion P xs
all_of P h [] = tt
all_of P h (x ∷ xs) = (h x, all_of P h xs)

pub all_counting : (P : ℕ → Type 0) (a n : ℕ) → ((c : ℕ) → a ≤ c → c < a + n → P c) → AllByRecursion P (range_with_len a n)
all_counting P a n h =
    All-from_get_or P (range_with_len a n) 0
    (λ i lt.
    let l : i < n = omega (arith, length-range_with_len a n) in
    subst P (sym (get_or-range_with_len a n i 0 l)) (h (a + i) (omega arith) (omega arith)))

exchange : (a b s t : ℤ) → (a +ℤ b) +ℤ (s +ℤ t) ≡ (a +ℤ s) +ℤ (b +ℤ t)
exchange a b s t = omega (arith, ints)

pub sum_add : {X : Type 0} (u v : X → ℤ) (xs : List X) → sum_of (λ x. u x +ℤ v x) xs ≡ sum_of u xs +ℤ sum_of v xs
sum_add u v [] = refl
sum_add u v (x ∷ xs) = ap (λ z. (u x +ℤ v x) +ℤ z) (sum_add u v xs) ∙ exchange (u x) (v x) (sum_of u xs) (sum_of v xs)

-- the order of two sums does not matter
pub sum_swap : {X Y : Type 0} (v : X → Y → ℤ) (xs : List X) (ys : List Y) → sum_of (λ x. sum_of (v x) ys) xs ≡ sum_of (λ y. sum_of (λ x. v x y) xs) ys
sum_swap v [] ys = sym (sum_zero (λ y. pos 0) ys (all_of (λ y. pos 0 ≡ pos 0) (λ y. refl) ys))
sum_swap v (x ∷ xs) ys = ap (λ z. sum_of (v x) ys +ℤ z) (sum_swap v xs ys) ∙ sym (sum_add (v x) (λ y. sum_of (λ z. v z y) xs) ys)

-- x where the test passes, else 0
abbrev pub when : Bool → ℤ → ℤ
when b x = cond b x (pos 0)

pub sum_kept : {X : Type 0} (p : X → Bool) (v : X → ℤ) (xs : List X) → sum_of v (filter p xs) ≡ sum_of (λ x. when (p x) (v x)) xs
sum_kept p v [] = refl
sum_kept p v (x ∷ xs) = one (p x) ∙ ap (λ z. when (p x) (v x) +ℤ z) (sum_kept p v xs)
  where
    one : (b : Bool) → sum_of v (cond b (x ∷ filter p xs) (filter p xs)) ≡ when b (v x) +ℤ sum_of v (filter p xs)
    one true = refl
    one false = sym (+ℤ_idl (sum_of v (filter p xs)))

-- a test is passed at one place at most
abbrev pub Lone : {X : Type 0} → (X → Bool) → List X → X → Type 0
Lone p xs d = (i j : ℕ) → i < j → j < length xs → p (get_or xs i d) ≡ true → p (get_or xs j d) ≡ true → ⊥

-- then a sum over those that pass is what one of them counts
pub sum_lone : {X : Type 0} (p : X → Bool) (z : ℤ) (d : X) (xs : List X) → Lone p xs d → when (some p xs) z ≡ sum_of (λ x. when (p x) z) xs
sum_lone p z d [] lone = refl
sum_lone p z d (x ∷ xs) lone =
    ⊎_elim
    (λ yes.
    let none : AllByRecursion (λ y. when (p y) z ≡ pos 0) xs = All-from_get_or (λ y. when (p y) z ≡ pos 0) xs d (λ i lt. ⊎_elim (λ e. absurd (lone 0 (suc i) (omega arith) (omega arith) yes e)) (λ e. cond-false (p (get_or xs i d)) z (pos 0) e) (cases_Bool (p (get_or xs i d)))) in
    ap (λ b. when (b || some p xs) z) yes ∙ sym (ap (λ b. when b z +ℤ sum_of (λ y. when (p y) z) xs) yes ∙ ap (λ s. z +ℤ s) (sum_zero (λ y. when (p y) z) xs none) ∙ +ℤ_idr z))
    (λ no.
    ap (λ b. when (b || some p xs) z) no ∙ sum_lone p z d xs (λ i j lt inside a b. lone (suc i) (suc j) (omega arith) (omega arith) a b)
    ∙ sym (ap (λ b. when b z +ℤ sum_of (λ y. when (p y) z) xs) no ∙ +ℤ_idl (sum_of (λ y. when (p y) z) xs)))
    (cases_Bool (p x))

-- a test that one number passes at most is passed at one place of a stretch at most
pub lone_counting : (p : ℕ → Bool) (a n : ℕ) → ((i j : ℕ) → p i ≡ true → p j ≡ true → i ≡ j) → Lone p (range_with_len a n) 0
lone_counting p a n one i j lt inside x y =
    let l : j < n = omega (arith, length-range_with_len a n) in
    let at_i = get_or-range_with_len a n i 0 (omega arith) in
    let at_j = get_or-range_with_len a n j 0 l in
    let e : get_or (range_with_len a n) i 0 ≡ get_or (range_with_len a n) j 0 = one _ _ x y in
    omega (arith, at_i, at_j, e)

-- one number of a stretch
spike_none : (v : ℕ → ℤ) (x a n : ℕ) → x < a → sum_of (λ c. when (eqb c x) (v c)) (range_with_len a n) ≡ pos 0
spike_none v x a n lt = sum_zero (λ c. when (eqb c x) (v c)) (range_with_len a n) (all_counting (λ c. when (eqb c x) (v c) ≡ pos 0) a n (λ c ge l. cond-false (eqb c x) (v c) (pos 0) (ne_eqb c x (λ e. omega arith))))

spike : (v : ℕ → ℤ) (x a n : ℕ) → a ≤ x → x < a + n → sum_of (λ c. when (eqb c x) (v c)) (range_with_len a n) ≡ v x
spike v x a zero ge lt = absurd (omega arith)
spike v x a (suc n) ge lt =
    ⊎_elim
    (λ e.
    ap (λ b. when b (v a) +ℤ sum_of (λ c. when (eqb c x) (v c)) (range_with_len (a + 1) n)) (eq-eqb a x e)
    ∙ ap (λ z. v a +ℤ z) (spike_none v x (a + 1) n (omega arith)) ∙ +ℤ_idr (v a) ∙ ap v e)
    (λ ne.
    ap (λ b. when b (v a) +ℤ sum_of (λ c. when (eqb c x) (v c)) (range_with_len (a + 1) n)) (ne_eqb a x ne)
    ∙ +ℤ_idl (sum_of (λ c. when (eqb c x) (v c)) (range_with_len (a + 1) n)) ∙ spike v x (a + 1) n (omega (arith, ne)) (omega arith))
    (cases_eq a x)

-- a sum over a list in which no number stands twice is the sum over the numbers below n that stand in it
pub sum_listed : (v : ℕ → ℤ) (xs : List ℕ) (n : ℕ) → ((c : ℕ) → Lone (eqb c) xs 0) → AllByRecursion (λ x. x < n) xs → sum_of v xs ≡ sum_of (λ c. when (some (eqb c) xs) (v c)) (range_with_len 0 n)
sum_listed v xs n lone below =
    sym
    (sum_like (λ c. when (some (eqb c) xs) (v c)) (λ c. sum_of (λ x. when (eqb c x) (v c)) xs) (range_with_len 0 n) (all_of _ (λ c. sum_lone (eqb c) (v c) 0 xs (lone c)) (range_with_len 0 n))
    ∙ sum_swap (λ c x. when (eqb c x) (v c)) (range_with_len 0 n) xs
    ∙ sum_like (λ x. sum_of (λ c. when (eqb c x) (v c)) (range_with_len 0 n)) v xs (spikes xs below))
  where
    spikes : (ys : List ℕ) → AllByRecursion (λ x. x < n) ys → AllByRecursion (λ x. sum_of (λ c. when (eqb c x) (v c)) (range_with_len 0 n) ≡ v x) ys
    spikes [] h = tt
    spikes (y ∷ ys) h = (spike v y 0 n (omega arith) (omega (arith, h.0)), spikes ys h.1)
