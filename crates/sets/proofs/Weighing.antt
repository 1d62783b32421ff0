-- Where each facet has the same signed count over two lists, so has the signed sum of any weights of facets. Assumes nothing.
use Rattle.std.proofs.Common.{◌≡◌, ◌*◌, Bool, true, false, cond, List, [], ◌∷◌, ◌++◌, ℤ, pos, ◌+ℤ◌, ◌*ℤ◌, neg_ℤ, sym, refl, ap, ◌∙◌, arith}
use lib.IntN.{+ℤ_idl, +ℤ_assoc}
use borrow.Author.Differences.{up, down, sum_is_lem}
use Rattle.std.specs.List.{flat_map, AllByRecursion}
use Rattle.std.proofs.lemmas.Int.{ints}
use Rattle.kinds.specs.declared.kind.Signed.{Signed}
use Rattle.kinds.specs.declared.kind.Signed.TheVariants.{Plus, Minus}
use Rattle.kinds.specs.Facets.{bare, counted, total}
use Rattle.kinds.specs.Shapes.{Shape, tally}
use Rattle.sets.proofs.Sums.{sum_of}

pub all_parts : {X : Type 0} (P : X → Type 0) (xs ys : List X) → AllByRecursion P (xs ++ ys) → AllByRecursion P xs × AllByRecursion P ys
all_parts P [] ys h = (tt, h)
all_parts P (x ∷ xs) ys h = let rest = all_parts P xs ys h.1 in ((h.0, rest.0), rest.1)

pub total-append : {F : Type 0} (w : F → ℤ) (ss us : List (Signed F)) → total w (ss ++ us) ≡ total w ss +ℤ total w us
total-append w [] us = sym (+ℤ_idl (total w us))
total-append w (s ∷ ss) us = ap (λ z. counted w s +ℤ z) (total-append w ss us) ∙ sym (+ℤ_assoc (counted w s) (total w ss) (total w us))

-- the signed sum over joined lists is the sum of their signed sums
pub total-joined : {F X : Type 0} (w : F → ℤ) (rim : X → List (Signed F)) (xs : List X) → total w (flat_map rim xs) ≡ sum_of (λ x. total w (rim x)) xs
total-joined w rim [] = refl
total-joined w rim (x ∷ xs) = total-append w (rim x) (flat_map rim xs) ∙ ap (λ z. total w (rim x) +ℤ z) (total-joined w rim xs)

spread : (k x y : ℤ) → k *ℤ (x +ℤ y) ≡ (k *ℤ x) +ℤ (k *ℤ y)
spread k x y = omega (arith, ints, ap (λ n. up k * n) (sum_is_lem x y), ap (λ n. down k * n) (sum_is_lem x y))

distribute : (k x y a b c d : ℤ) → a +ℤ (k *ℤ x) ≡ c → b +ℤ (k *ℤ y) ≡ d → (a +ℤ b) +ℤ (k *ℤ (x +ℤ y)) ≡ c +ℤ d
distribute k x y a b c d p q = omega (arith, ints, spread k x y)

times_one : (x : ℤ) → pos 0 +ℤ (x *ℤ pos 1) ≡ x
times_one x = omega (arith, ints)

times_minus : (x : ℤ) → pos 0 +ℤ (x *ℤ neg_ℤ (pos 1)) ≡ neg_ℤ x
times_minus x = omega (arith, ints)

times_none : (a x : ℤ) → a +ℤ (x *ℤ pos 0) ≡ a
times_none a x = omega (arith, ints)

module _ {F P : Type 0} (k : Shape F P) where
  -- w, but 0 at the facet f
  abbrev without : F → (F → ℤ) → F → ℤ
  without f w g = cond (k.alike g f) (pos 0) (w g)

  -- w, but 0 at each facet of the list
  abbrev without_all : List (Signed F) → (F → ℤ) → F → ℤ
  without_all [] w = w
  without_all (s ∷ ss) w = without_all ss (without (bare s) w)

  stays_zero : (ss : List (Signed F)) (w : F → ℤ) (g : F) → w g ≡ pos 0 → without_all ss w g ≡ pos 0
  stays_zero [] w g e = e
  stays_zero (s ∷ ss) w g e = stays_zero ss (without (bare s) w) g (one (k.alike g (bare s)))
    where
      one : (b : Bool) → cond b (pos 0) (w g) ≡ pos 0
      one true = refl
      one false = e

  zero_total : (w : F → ℤ) (ss : List (Signed F)) → AllByRecursion (λ s. w (bare s) ≡ pos 0) ss → total w ss ≡ pos 0
  zero_total w [] h = refl
  zero_total w (s ∷ ss) h = ap (λ z. z +ℤ total w ss) (none s h.0) ∙ ap (λ z. pos 0 +ℤ z) (zero_total w ss h.1)
    where
      none : (s : Signed F) → w (bare s) ≡ pos 0 → counted w s ≡ pos 0
      none (Plus f) e = e
      none (Minus f) e = ap neg_ℤ e

  module _ (likes : (f : F) → k.alike f f ≡ true) (likens : (f g : F) → k.alike f g ≡ true → f ≡ g) where
    all_zero : (ss : List (Signed F)) (w : F → ℤ) → AllByRecursion (λ s. without_all ss w (bare s) ≡ pos 0) ss
    all_zero [] w = tt
    all_zero (s ∷ ss) w = (stays_zero ss (without (bare s) w) (bare s) (ap (λ b. cond b (pos 0) (w (bare s))) (likes (bare s))), all_zero ss (without (bare s) w))

    -- one signed facet: what is left without f, and f's part
    one_split : (f : F) (w : F → ℤ) (s : Signed F) (b : Bool) → k.alike (bare s) f ≡ b → counted (without f w) s +ℤ (w f *ℤ counted (λ g. cond (k.alike g f) (pos 1) (pos 0)) s) ≡ counted w s
    one_split f w (Plus g) true e = ap (λ b. cond b (pos 0) (w g) +ℤ (w f *ℤ cond b (pos 1) (pos 0))) e ∙ times_one (w f) ∙ sym (ap w (likens g f e))
    one_split f w (Plus g) false e = ap (λ b. cond b (pos 0) (w g) +ℤ (w f *ℤ cond b (pos 1) (pos 0))) e ∙ times_none (w g) (w f)
    one_split f w (Minus g) true e = ap (λ b. neg_ℤ (cond b (pos 0) (w g)) +ℤ (w f *ℤ neg_ℤ (cond b (pos 1) (pos 0)))) e ∙ times_minus (w f) ∙ sym (ap (λ x. neg_ℤ (w x)) (likens g f e))
    one_split f w (Minus g) false e = ap (λ b. neg_ℤ (cond b (pos 0) (w g)) +ℤ (w f *ℤ neg_ℤ (cond b (pos 1) (pos 0)))) e ∙ times_none (neg_ℤ (w g)) (w f)

    total_split : (f : F) (w : F → ℤ) (ss : List (Signed F)) → total (without f w) ss +ℤ (w f *ℤ tally k f ss) ≡ total w ss
    total_split f w [] = times_none (pos 0) (w f)
    total_split f w (s ∷ ss) =
        distribute (w f) (counted (λ g. cond (k.alike g f) (pos 1) (pos 0)) s) (tally k f ss) (counted (without f w) s) (total (without f w) ss) (counted w s) (total w ss)
        (one_split f w s (k.alike (bare s) f) refl) (total_split f w ss)

    module _ (ss us : List (Signed F)) (each : (f : F) → tally k f ss ≡ tally k f us) where
      by_facets : (gs : List (Signed F)) (w : F → ℤ) → total (without_all gs w) ss ≡ total (without_all gs w) us → total w ss ≡ total w us
      by_facets [] w e = e
      by_facets (g ∷ gs) w e =
          sym (total_split (bare g) w ss)
          ∙ ap (λ z. z +ℤ (w (bare g) *ℤ tally k (bare g) ss)) (by_facets gs (without (bare g) w) e)
          ∙ ap (λ z. total (without (bare g) w) us +ℤ (w (bare g) *ℤ z)) (each (bare g))
          ∙ total_split (bare g) w us

      -- equal signed counts are equal signed sums of any weight
      pub same_weight : (w : F → ℤ) → total w ss ≡ total w us
      same_weight w =
          let gs = ss ++ us in
          let zero = all_parts (λ s. without_all gs w (bare s) ≡ pos 0) ss us (all_zero gs w) in
          by_facets gs w (zero_total (without_all gs w) ss zero.0 ∙ sym (zero_total (without_all gs w) us zero.1))
