-- The keys of facets, one after the other. Assumes nothing.
use Rattle.std.proofs.Common.{◌≡◌, ℕ, zero, suc, ◌+◌, ◌-◌, ◌<◌, ◌≤◌, Bool, true, List, [], ◌∷◌, ◌++◌, map, length, get_or, take, ℤ, pos, nat_abs, Some, None, vec_items, sym, refl, ap, ◌∙◌, subst, append_assoc, append-nil, add-one, arith}
use Rattle.std.specs.List.{range_with_len, flat_map, slice_get}
use Rattle.std.proofs.ByRecursion.{All-append}
use Rattle.std.proofs.lemmas.List.{map_more}
use Rattle.kinds.specs.declared.kind.Signed.{Signed}
use Rattle.kinds.specs.declared.kind.Signed.TheVariants.{Plus, Minus}
use Rattle.kinds.specs.Facets.{bare}
use Rattle.rims.specs.declared.memory.RimMemory.{RimMemory}
use Rattle.kinds.specs.Shapes.{Shape}
use Rattle.rules.specs.Raw.{cell}
use Rattle.rules.specs.Cells.{rims}
use Rattle.rims.specs.Keys.{pluses, minuses, Noted}

module _ {F : Type 0} (key : F → ℕ) where
  pub pluses-append : (ss ts : List (Signed F)) → pluses key (ss ++ ts) ≡ pluses key ss ++ pluses key ts
  pluses-append [] ts = refl
  pluses-append (Plus f ∷ ss) ts = ap (λ us. key f ∷ us) (pluses-append ss ts)
  pluses-append (Minus f ∷ ss) ts = pluses-append ss ts

  pub minuses-append : (ss ts : List (Signed F)) → minuses key (ss ++ ts) ≡ minuses key ss ++ minuses key ts
  minuses-append [] ts = refl
  minuses-append (Plus f ∷ ss) ts = minuses-append ss ts
  minuses-append (Minus f ∷ ss) ts = ap (λ us. key f ∷ us) (minuses-append ss ts)

  -- lists of keys after more facets
  pluses_more : (old now then : List ℕ) (ss ts : List (Signed F)) → now ≡ old ++ pluses key ss → then ≡ now ++ pluses key ts → then ≡ old ++ pluses key (ss ++ ts)
  pluses_more old now then ss ts p q = q ∙ ap (λ l. l ++ pluses key ts) p ∙ append_assoc old (pluses key ss) (pluses key ts) ∙ ap (λ l. old ++ l) (sym (pluses-append ss ts))

  minuses_more : (old now then : List ℕ) (ss ts : List (Signed F)) → now ≡ old ++ minuses key ss → then ≡ now ++ minuses key ts → then ≡ old ++ minuses key (ss ++ ts)
  minuses_more old now then ss ts p q = q ∙ ap (λ l. l ++ minuses key ts) p ∙ append_assoc old (minuses key ss) (minuses key ts) ∙ ap (λ l. old ++ l) (sym (minuses-append ss ts))

module _ {F : Type 0} (key : F → ℕ) (real : F → Bool) where
  -- facets that are noted one after the other
  pub noted_more : (m m' m'' : RimMemory) (ss ts : List (Signed F)) → Noted key real m m' ss → Noted key real m' m'' ts → Noted key real m m'' (ss ++ ts)
  noted_more m m' m'' ss ts x y = record {
    plus = pluses_more key (vec_items m.plus) (vec_items m'.plus) (vec_items m''.plus) ss ts x.plus y.plus;
    minus = minuses_more key (vec_items m.minus) (vec_items m'.minus) (vec_items m''.minus) ss ts x.minus y.minus;
    room = y.room ∙ x.room;
    known = All-append (λ (s : Signed F). real (bare s) ≡ true) ss ts x.known y.known;
  }

-- the facet at place i comes next
pub take_nth : {X : Type 0} (xs : List X) (i : ℕ) (x : X) → slice_get xs i ≡ Some x → take (i + 1) xs ≡ take i xs ++ x ∷ []
take_nth {X} xs i x e = ap (λ (n : ℕ). take n xs) (add-one i) ∙ go xs i e
  where
    go : (ys : List X) (j : ℕ) → slice_get ys j ≡ Some x → take (suc j) ys ≡ take j ys ++ x ∷ []
    go [] j h = absurd (let z : ◌≡◌ {A = ℕ} 0 1 = cc in omega arith)
    go (y ∷ ys) zero h = let s : y ≡ x = cc in ap (λ (w : X). w ∷ []) s
    go (y ∷ ys) (suc j) h = ap (λ (l : List X). y ∷ l) (go ys j h)

-- no facet is past the end
pub nth_inside : {X : Type 0} (xs : List X) (i : ℕ) → slice_get xs i ≡ None → length xs ≤ i
nth_inside [] i e = omega arith
nth_inside (x ∷ xs) zero e = absurd (let z : ◌≡◌ {A = ℕ} 0 1 = cc in omega arith)
nth_inside (x ∷ xs) (suc i) e = omega (arith, nth_inside xs i e)

pub joined-push : {X A : Type 0} (f : X → List A) (xs : List X) (x : X) → flat_map f (xs ++ x ∷ []) ≡ flat_map f xs ++ f x
joined-push f [] x = append-nil (f x)
joined-push f (y ∷ xs) x = ap (λ l. f y ++ l) (joined-push f xs x) ∙ sym (append_assoc (f y) (flat_map f xs) (f x))

pub counting_more : (a n : ℕ) → range_with_len a (n + 1) ≡ range_with_len a n ++ (a + n) ∷ []
counting_more a n = ap (range_with_len a) (add-one n) ∙ snoc a n
  where
    snoc : (b m : ℕ) → range_with_len b (suc m) ≡ range_with_len b m ++ (b + m) ∷ []
    snoc b zero = ap (λ x. x ∷ []) (omega arith)
    snoc b (suc m) = ap (λ l. b ∷ l) (snoc (b + 1) m ∙ ap (λ x. range_with_len (b + 1) m ++ (x ∷ [])) (omega arith))

-- one facet of a cell, one cell of a run, one of a list more
pub noted_next : {F : Type 0} (key : F → ℕ) (real : F → Bool) (m m' m'' : RimMemory) (ss : List (Signed F)) (i : ℕ) (s : Signed F) → Noted key real m m' (take i ss) → slice_get ss i ≡ Some s → Noted key real m' m'' (s ∷ []) → Noted key real m m'' (take (i + 1) ss)
noted_next key real m m' m'' ss i s x e y = subst (Noted key real m m'') (sym (take_nth ss i s e)) (noted_more key real m m' m'' (take i ss) (s ∷ []) x y)

pub noted_run : {F P : Type 0} (k : Shape F P) (key : F → ℕ) (real : F → Bool) (corners : List ℤ) (m m' m'' : RimMemory) (first c : ℕ) → first ≤ c → Noted key real m m' (rims k corners (range_with_len first (c - first))) → (here : List ℤ) → here ≡ cell k.arity corners c → Noted key real m' m'' (k.rim here) → Noted key real m m'' (rims k corners (range_with_len first (c + 1 - first)))
noted_run k key real corners m m' m'' first c le x here e y =
    let rim : ℕ → List (Signed _) = λ n. k.rim (cell k.arity corners n) in
    let n : ℕ = c - first in
    let next : rims k corners (range_with_len first n) ++ rim c ≡ rims k corners (range_with_len first (c + 1 - first))
    = ap (λ d. rims k corners (range_with_len first n) ++ rim d) (omega arith) ∙ sym (joined-push rim (range_with_len first n) (first + n)) ∙ ap (flat_map rim) (sym (counting_more first n)) ∙ ap (λ d. flat_map rim (range_with_len first d)) (omega arith) in
    subst (Noted key real m m'') next (noted_more key real m m' m'' (rims k corners (range_with_len first n)) (rim c) x (subst (λ (l : List ℤ). Noted key real m' m'' (k.rim l)) e y))

pub noted_listed : {F P : Type 0} (k : Shape F P) (key : F → ℕ) (real : F → Bool) (corners zs : List ℤ) (m m' m'' : RimMemory) (i : ℕ) → i < length zs → Noted key real m m' (rims k corners (map nat_abs (take i zs))) → (here : List ℤ) → here ≡ cell k.arity corners (nat_abs (get_or zs i (pos 0))) → Noted key real m' m'' (k.rim here) → Noted key real m m'' (rims k corners (map nat_abs (take (i + 1) zs)))
noted_listed k key real corners zs m m' m'' i lt x here e y =
    let rim : ℕ → List (Signed _) = λ n. k.rim (cell k.arity corners n) in
    let c : ℕ = nat_abs (get_or zs i (pos 0)) in
    let next : rims k corners (map nat_abs (take i zs)) ++ rim c ≡ rims k corners (map nat_abs (take (i + 1) zs))
    = sym (joined-push rim (map nat_abs (take i zs)) c) ∙ ap (flat_map rim) (sym (map_more nat_abs zs i (pos 0) lt)) in
    subst (Noted key real m m'') next (noted_more key real m m' m'' (rims k corners (map nat_abs (take i zs))) (rim c) x (subst (λ (l : List ℤ). Noted key real m' m'' (k.rim l)) e y))
