-- Signed counts, and the keys with each sign. Assumes nothing.
use Rattle.std.proofs.Common.{◌≡◌, ℕ, Bool, true, false, cond, eqb, ◌⊎◌, List, [], ◌∷◌, ◌++◌, ℤ, pos, ◌+ℤ◌, neg_ℤ, sym, refl, ap, ◌∙◌, subst, inl, inr, ⊎_elim, arith}
use Rattle.std.proofs.lemmas.Int.{ints}
use Rattle.std.proofs.lemmas.Bool.{cases_Bool, eqb-true, eq-eqb, both_ways}
use Rattle.kinds.specs.declared.kind.Signed.{Signed}
use Rattle.kinds.specs.declared.kind.Signed.TheVariants.{Plus, Minus}
use Rattle.kinds.specs.Facets.{bare, counted, AllReal}
use Rattle.kinds.specs.Shapes.{Shape, tally}
use Rattle.rims.specs.Keys.{pluses, minuses, occurs, SameNumbers}
use Rattle.rims.proofs.Sorting.{occurs_here, occurs_not, occurs-append}

-- one facet more, where t says whether it is the one that is counted
plus_more : (t : Bool) (m : ℤ) (k x : ℕ) (us ds : List ℕ) → t ≡ eqb x k → m +ℤ pos (occurs k ds) ≡ pos (occurs k us)
    → (cond t (pos 1) (pos 0) +ℤ m) +ℤ pos (occurs k ds) ≡ pos (occurs k (x ∷ us))
plus_more true m k x us ds e h = omega (arith, ints, occurs_here k x us (sym e))
plus_more false m k x us ds e h = omega (arith, ints, occurs_not k x us (sym e))

minus_more : (t : Bool) (m : ℤ) (k x : ℕ) (us ds : List ℕ) → t ≡ eqb x k → m +ℤ pos (occurs k ds) ≡ pos (occurs k us)
    → (neg_ℤ (cond t (pos 1) (pos 0)) +ℤ m) +ℤ pos (occurs k (x ∷ ds)) ≡ pos (occurs k us)
minus_more true m k x us ds e h = omega (arith, ints, occurs_here k x ds (sym e))
minus_more false m k x us ds e h = omega (arith, ints, occurs_not k x ds (sym e))

-- what a kind says of its facets
pub record Told {F P : Type 0} (k : Shape F P) (key : F → ℕ) (real : F → Bool) : Type 0 where
  pub likes : (f : F) → k.alike f f ≡ true
  pub likens : (f g : F) → k.alike f g ≡ true → f ≡ g
  pub keyed : (f g : F) → real f ≡ true → real g ≡ true → key f ≡ key g → f ≡ g

module _ {F P : Type 0} (k : Shape F P) (key : F → ℕ) (real : F → Bool) (told : Told k key real) where
  -- facets with a key are told apart by it
  like_key : (g f : F) → real g ≡ true → real f ≡ true → k.alike g f ≡ eqb (key g) (key f)
  like_key g f rg rf = ⊎_elim
      (λ e. e ∙ sym (eq-eqb (key g) (key f) (ap key (told.likens g f e))))
      (λ e. ⊎_elim
      (λ q. absurd (both_ways (k.alike g f) e (subst (λ (x : F). k.alike g x ≡ true) (told.keyed g f rg rf (eqb-true (key g) (key f) q)) (told.likes g))))
      (λ q. e ∙ sym q)
      (cases_Bool (eqb (key g) (key f))))
      (cases_Bool (k.alike g f))

  -- a facet without a key stands in no list of facets that have one
  unlike : (g f : F) → real g ≡ true → real f ≡ false → k.alike g f ≡ false
  unlike g f rg rf = ⊎_elim (λ e. absurd (both_ways (real f) rf (ap real (sym (told.likens g f e)) ∙ rg))) (λ e. e) (cases_Bool (k.alike g f))

  term_none : (f : F) (s : Signed F) → k.alike (bare s) f ≡ false → counted (λ g. cond (k.alike g f) (pos 1) (pos 0)) s ≡ pos 0
  term_none f (Plus g) e = ap (λ t. cond t (pos 1) (pos 0)) e
  term_none f (Minus g) e = ap (λ t. neg_ℤ (cond t (pos 1) (pos 0))) e

  tally_none : (f : F) (ss : List (Signed F)) → AllReal real ss → real f ≡ false → tally k f ss ≡ pos 0
  tally_none f [] a r = refl
  tally_none f (s ∷ ss) a r = ap (λ (z : ℤ). z +ℤ tally k f ss) (term_none f s (unlike (bare s) f a.0 r)) ∙ ap (λ (z : ℤ). pos 0 +ℤ z) (tally_none f ss a.1 r)

  -- a signed count is the pluses less the minuses
  tally_keys : (f : F) (ss : List (Signed F)) → AllReal real ss → real f ≡ true → tally k f ss +ℤ pos (occurs (key f) (minuses key ss)) ≡ pos (occurs (key f) (pluses key ss))
  tally_keys f [] a r = refl
  tally_keys f (Plus g ∷ ss) a r = plus_more (k.alike g f) (tally k f ss) (key f) (key g) (pluses key ss) (minuses key ss) (like_key g f a.0 r) (tally_keys f ss a.1 r)
  tally_keys f (Minus g ∷ ss) a r = minus_more (k.alike g f) (tally k f ss) (key f) (key g) (pluses key ss) (minuses key ss) (like_key g f a.0 r) (tally_keys f ss a.1 r)

  -- a key that occurs is that of a facet
  skip : (n : ℕ) (s : Signed F) (ss : List (Signed F)) → eqb (key (bare s)) n ≡ false → occurs n (pluses key ss) ≡ 0 → occurs n (minuses key ss) ≡ 0
      → (occurs n (pluses key (s ∷ ss)) ≡ 0) × (occurs n (minuses key (s ∷ ss)) ≡ 0)
  skip n (Plus f) ss e a b = (occurs_not n (key f) (pluses key ss) e ∙ a, b)
  skip n (Minus f) ss e a b = (a, occurs_not n (key f) (minuses key ss) e ∙ b)

  facet_of : (n : ℕ) (ss : List (Signed F)) → AllReal real ss → ((f : F) × (real f ≡ true) × (key f ≡ n)) ⊎ ((occurs n (pluses key ss) ≡ 0) × (occurs n (minuses key ss) ≡ 0))
  facet_of n [] a = inr (refl, refl)
  facet_of n (s ∷ ss) a = ⊎_elim
      (λ e. inl (bare s, a.0, eqb-true (key (bare s)) n e))
      (λ e. ⊎_elim (λ r. inl r) (λ r. inr (skip n s ss e r.0 r.1)) (facet_of n ss a.1))
      (cases_Bool (eqb (key (bare s)) n))

  module _ (ms ts : List (Signed F)) (am : AllReal real ms) (at : AllReal real ts) where
    abbrev made : List ℕ
    made = pluses key ms ++ minuses key ts

    abbrev taken : List ℕ
    taken = minuses key ms ++ pluses key ts

    -- for facets with a key, the signed counts agree exactly when the keys do
    pub tallies_from_level : SameNumbers made taken → (f : F) → tally k f ms ≡ tally k f ts
    tallies_from_level h f = ⊎_elim
        (λ r.
        let n = key f in
        omega (arith, ints, tally_keys f ms am r, tally_keys f ts at r, h n, occurs-append n (pluses key ms) (minuses key ts), occurs-append n (minuses key ms) (pluses key ts)))
        (λ r. tally_none f ms am r ∙ sym (tally_none f ts at r))
        (cases_Bool (real f))

    level_at : ((f : F) → tally k f ms ≡ tally k f ts) → (f : F) → real f ≡ true → occurs (key f) made ≡ occurs (key f) taken
    level_at h f r =
        let n = key f in
        omega (arith, ints, tally_keys f ms am r, tally_keys f ts at r, h f, occurs-append n (pluses key ms) (minuses key ts), occurs-append n (minuses key ms) (pluses key ts))

    pub level_from_tallies : ((f : F) → tally k f ms ≡ tally k f ts) → SameNumbers made taken
    level_from_tallies h n =
        let found : ((f : F) × (real f ≡ true) × (key f ≡ n)) → occurs n made ≡ occurs n taken = λ r. subst (λ (x : ℕ). occurs x made ≡ occurs x taken) r.2 (level_at h r.0 r.1) in
        ⊎_elim found
        (λ a. ⊎_elim found
        (λ b. omega (arith, occurs-append n (pluses key ms) (minuses key ts), occurs-append n (minuses key ms) (pluses key ts), a.0, a.1, b.0, b.1))
        (facet_of n ts at))
        (facet_of n ms am)
