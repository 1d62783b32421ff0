-- Polynomial identities of whole numbers, by computing.
--     ring env e f tt   is `value env e ≡ value env f`, for expressions e and f over the numbers of the list env, which # 0, # 1 .. name
-- e ⊖ f is multiplied out into terms, a coefficient times a sorted list of variables, and every coefficient must come to 0.
-- Where one does not, `tt` is refused. Assumes nothing.
use mathlib.Core.Path.{◌≡◌, refl, sym, ap, subst, ◌∙◌}
use mathlib.Core.Bool.{Bool, true, false, ◌&&◌}
use mathlib.Core.List.{List, [], ◌∷◌}
use Prim.Native.Nat.{ℕ, zero, suc, ◌+◌, ◌*◌}
use native.Mathlib.Omega.{arith}
use lib.Dec.{T, eqb, ltb, eqb→eq}
use lib.IntN.{ℤ, pos, negsuc, ◌+ℤ◌, ◌-ℤ◌, ◌*ℤ◌, neg_ℤ}
use borrow.Author.Differences.{up, down, sum_is_lem, neg_is, product_is, same_in}

-- ---- small identities, over ℕ: z is `up z - down z`, and `omega` multiplies out at most 64 monomials
infixl 6 ◌⊞◌ ◌⊟◌
infixl 7 ◌⊠◌
data Few : Type 0 where
  ‵ : ℤ → Few
  ◌⊞◌ : Few → Few → Few
  ◌⊟◌ : Few → Few → Few
  ◌⊠◌ : Few → Few → Few

abbrev few : Few → ℤ
few (‵ z) = z
few (e ⊞ f) = few e +ℤ few f
few (e ⊟ f) = few e -ℤ few f
few (e ⊠ f) = few e *ℤ few f

abbrev mutual
  plus : Few → ℕ
  plus (‵ z) = up z
  plus (e ⊞ f) = plus e + plus f
  plus (e ⊟ f) = plus e + minus f
  plus (e ⊠ f) = plus e * plus f + minus e * minus f

  minus : Few → ℕ
  minus (‵ z) = down z
  minus (e ⊞ f) = minus e + minus f
  minus (e ⊟ f) = minus e + plus f
  minus (e ⊠ f) = plus e * minus f + minus e * plus f

times : (u d p m u' d' p' m' : ℕ) → u + m ≡ d + p → u' + m' ≡ d' + p' → (u * u' + d * d') + (p * m' + m * p') ≡ (u * d' + d * u') + (p * p' + m * m')
times u d p m u' d' p' m' h k = omega (arith, ap (λ n. n * u') h, ap (λ n. n * d') h, ap (λ n. p * n) k, ap (λ n. m * n) k)

reads : (e : Few) → up (few e) + minus e ≡ down (few e) + plus e
reads (‵ z) = omega arith
reads (e ⊞ f) = omega (arith, reads e, reads f, sum_is_lem (few e) (few f))
reads (e ⊟ f) = omega (arith, reads e, reads f, sum_is_lem (few e) (neg_ℤ (few f)), neg_is (few f))
reads (e ⊠ f) = omega (arith, product_is (few e) (few f), times (up (few e)) (down (few e)) (plus e) (minus e) (up (few f)) (down (few f)) (plus f) (minus f) (reads e) (reads f))

by_parts : (e f : Few) → plus e + minus f ≡ plus f + minus e → few e ≡ few f
by_parts e f h = same_in (few e) (few f) (omega (arith, reads e, reads f))

-- ---- expressions and terms
infixl 6 ◌⊕◌ ◌⊖◌
infixl 7 ◌⊗◌
pub data Ex : Type 0 where
  # : ℕ → Ex
  lit : ℤ → Ex
  ◌⊕◌ : Ex → Ex → Ex
  ◌⊖◌ : Ex → Ex → Ex
  ◌⊗◌ : Ex → Ex → Ex
  ⊝ : Ex → Ex

abbrev pub look : List ℤ → ℕ → ℤ
look [] n = pos 0
look (z ∷ zs) zero = z
look (z ∷ zs) (suc n) = look zs n

abbrev pub value : List ℤ → Ex → ℤ
value env (# i) = look env i
value env (lit z) = z
value env (e ⊕ f) = value env e +ℤ value env f
value env (e ⊖ f) = value env e -ℤ value env f
value env (e ⊗ f) = value env e *ℤ value env f
value env (⊝ e) = neg_ℤ (value env e)

pub data Terms : Type 0 where
  none : Terms
  term : ℤ → List ℕ → Terms → Terms

abbrev mono : List ℤ → List ℕ → ℤ
mono env [] = pos 1
mono env (x ∷ m) = look env x *ℤ mono env m

abbrev total : List ℤ → Terms → ℤ
total env none = pos 0
total env (term c m s) = c *ℤ mono env m +ℤ total env s

-- ---- the operations, and what they keep
abbrev pub same : List ℕ → List ℕ → Bool
same [] [] = true
same [] (y ∷ n) = false
same (x ∷ m) [] = false
same (x ∷ m) (y ∷ n) = eqb x y && same m n

abbrev pub insert : ℕ → List ℕ → List ℕ
insert x [] = x ∷ []
insert x (y ∷ m) = elim (ltb y x) [ true ↦ y ∷ insert x m | false ↦ x ∷ y ∷ m ]

abbrev pub merge : List ℕ → List ℕ → List ℕ
merge [] n = n
merge (x ∷ m) n = insert x (merge m n)

abbrev pub put : ℤ → List ℕ → Terms → Terms
put c m none = term c m none
put c m (term d n s) = elim (same m n) [ true ↦ term (c +ℤ d) n s | false ↦ term d n (put c m s) ]

-- c m times s, onto t
abbrev pub spread : ℤ → List ℕ → Terms → Terms → Terms
spread c m none t = t
spread c m (term d n s) t = put (c *ℤ d) (merge m n) (spread c m s t)

-- r times s, onto t
abbrev pub cross : Terms → Terms → Terms → Terms
cross none s t = t
cross (term c m r) s t = spread c m s (cross r s t)

abbrev pub terms : Ex → Terms
terms (# i) = term (pos 1) (i ∷ []) none
terms (lit z) = term z [] none
terms (e ⊕ f) = spread (pos 1) [] (terms e) (terms f)
terms (e ⊖ f) = spread (negsuc 0) [] (terms f) (terms e)
terms (e ⊗ f) = cross (terms e) (terms f) none
terms (⊝ e) = spread (negsuc 0) [] (terms e) none

abbrev pub is_zero : ℤ → Bool
is_zero (pos zero) = true
is_zero (pos (suc n)) = false
is_zero (negsuc n) = false

abbrev pub vanishes : Terms → Bool
vanishes none = true
vanishes (term c m s) = is_zero c && vanishes s

both : (a b : Bool) → T (a && b) → T a × T b
both true true t = (tt, tt)
both true false t = absurd t
both false b t = absurd t

same_is : (m n : List ℕ) → T (same m n) → m ≡ n
same_is [] [] t = refl
same_is [] (y ∷ n) t = absurd t
same_is (x ∷ m) [] t = absurd t
same_is (x ∷ m) (y ∷ n) t = let b = both (eqb x y) (same m n) t in rw (eqb→eq x y b.0, same_is m n b.1)

swap : (a b c : ℤ) → a *ℤ (b *ℤ c) ≡ b *ℤ (a *ℤ c)
swap a b c = by_parts (‵ a ⊠ (‵ b ⊠ ‵ c)) (‵ b ⊠ (‵ a ⊠ ‵ c)) (omega arith)

gather : (c d n s : ℤ) → (c +ℤ d) *ℤ n +ℤ s ≡ c *ℤ n +ℤ (d *ℤ n +ℤ s)
gather c d n s = by_parts ((‵ c ⊞ ‵ d) ⊠ ‵ n ⊞ ‵ s) (‵ c ⊠ ‵ n ⊞ (‵ d ⊠ ‵ n ⊞ ‵ s)) (omega arith)

pass : (a b s : ℤ) → a +ℤ (b +ℤ s) ≡ b +ℤ (a +ℤ s)
pass a b s = by_parts (‵ a ⊞ (‵ b ⊞ ‵ s)) (‵ b ⊞ (‵ a ⊞ ‵ s)) (omega arith)

across : (a r s t : ℤ) → a *ℤ s +ℤ (r *ℤ s +ℤ t) ≡ (a +ℤ r) *ℤ s +ℤ t
across a r s t = by_parts (‵ a ⊠ ‵ s ⊞ (‵ r ⊠ ‵ s ⊞ ‵ t)) ((‵ a ⊞ ‵ r) ⊠ ‵ s ⊞ ‵ t) (omega arith)

nothing : (c m t : ℤ) → t ≡ (c *ℤ m) *ℤ pos 0 +ℤ t
nothing c m t = by_parts (‵ t) ((‵ c ⊠ ‵ m) ⊠ ‵ (pos 0) ⊞ ‵ t) (omega arith)

nothing₁ : (s t : ℤ) → t ≡ pos 0 *ℤ s +ℤ t
nothing₁ s t = by_parts (‵ t) (‵ (pos 0) ⊠ ‵ s ⊞ ‵ t) (omega arith)

one_var : (z : ℤ) → pos 1 *ℤ (z *ℤ pos 1) +ℤ pos 0 ≡ z
one_var z = by_parts (‵ (pos 1) ⊠ (‵ z ⊠ ‵ (pos 1)) ⊞ ‵ (pos 0)) (‵ z) (omega arith)

one_lit : (z : ℤ) → z *ℤ pos 1 +ℤ pos 0 ≡ z
one_lit z = by_parts (‵ z ⊠ ‵ (pos 1) ⊞ ‵ (pos 0)) (‵ z) (omega arith)

once : (a b : ℤ) → (pos 1 *ℤ pos 1) *ℤ a +ℤ b ≡ a +ℤ b
once a b = by_parts ((‵ (pos 1) ⊠ ‵ (pos 1)) ⊠ ‵ a ⊞ ‵ b) (‵ a ⊞ ‵ b) (omega arith)

less : (a b : ℤ) → (negsuc 0 *ℤ pos 1) *ℤ b +ℤ a ≡ a -ℤ b
less a b = by_parts ((‵ (negsuc 0) ⊠ ‵ (pos 1)) ⊠ ‵ b ⊞ ‵ a) (‵ a ⊟ ‵ b) (omega arith)

turned : (a : ℤ) → (negsuc 0 *ℤ pos 1) *ℤ a +ℤ pos 0 ≡ neg_ℤ a
turned a = less (pos 0) a ∙ same_in (pos 0 -ℤ a) (neg_ℤ a) (omega (arith, sum_is_lem (pos 0) (neg_ℤ a)))

ends : (a : ℤ) → a +ℤ pos 0 ≡ a
ends a = by_parts (‵ a ⊞ ‵ (pos 0)) (‵ a) (omega arith)

starts : (a : ℤ) → a ≡ pos 1 *ℤ a
starts a = by_parts (‵ a) (‵ (pos 1) ⊠ ‵ a) (omega arith)

assoc : (a b c : ℤ) → a *ℤ (b *ℤ c) ≡ (a *ℤ b) *ℤ c
assoc a b c = by_parts (‵ a ⊠ (‵ b ⊠ ‵ c)) ((‵ a ⊠ ‵ b) ⊠ ‵ c) (omega arith)

over : (c m d n s t : ℤ) → (c *ℤ d) *ℤ (m *ℤ n) +ℤ ((c *ℤ m) *ℤ s +ℤ t) ≡ (c *ℤ m) *ℤ (d *ℤ n +ℤ s) +ℤ t
over c m d n s t = ap (λ z. z +ℤ ((c *ℤ m) *ℤ s +ℤ t)) (sym (assoc c d (m *ℤ n)) ∙ ap (λ z. c *ℤ z) (swap d m n) ∙ assoc c m (d *ℤ n))
    ∙ by_parts (‵ (c *ℤ m) ⊠ ‵ (d *ℤ n) ⊞ (‵ (c *ℤ m) ⊠ ‵ s ⊞ ‵ t)) (‵ (c *ℤ m) ⊠ (‵ (d *ℤ n) ⊞ ‵ s) ⊞ ‵ t) (onto (up (c *ℤ m)) (down (c *ℤ m)) (up (d *ℤ n)) (down (d *ℤ n)) (up s) (down s) (up t) (down t))
  where
    onto : (a b e f s s' t t' : ℕ) → (a * e + b * f + (a * s + b * s' + t)) + (a * (f + s') + b * (e + s) + t') ≡ (a * (e + s) + b * (f + s') + t) + (a * f + b * e + (a * s' + b * s + t'))
    onto a b e f s s' t t' = omega arith

apart : (a b : ℤ) → a -ℤ b ≡ pos 0 → a ≡ b
apart a b e = same_in a b (omega (arith, sum_is_lem a (neg_ℤ b), neg_is b, ap up e, ap down e))

no_term : (n s : ℤ) → s ≡ pos 0 → pos 0 *ℤ n +ℤ s ≡ pos 0
no_term n s e = sym (nothing₁ n s) ∙ e

module _ (env : List ℤ) where
  insert_is : (x : ℕ) (m : List ℕ) → mono env (insert x m) ≡ look env x *ℤ mono env m
  insert_is x [] = refl
  insert_is x (y ∷ m) = elim (ltb y x) as (λ b. mono env (elim b [ true ↦ y ∷ insert x m | false ↦ x ∷ y ∷ m ]) ≡ look env x *ℤ (look env y *ℤ mono env m)) [
    | true ↦ ap (λ z. look env y *ℤ z) (insert_is x m) ∙ swap (look env y) (look env x) (mono env m)
    | false ↦ refl
  ]

  merge_is : (m n : List ℕ) → mono env (merge m n) ≡ mono env m *ℤ mono env n
  merge_is [] n = starts (mono env n)
  merge_is (x ∷ m) n = insert_is x (merge m n) ∙ ap (λ z. look env x *ℤ z) (merge_is m n) ∙ assoc (look env x) (mono env m) (mono env n)

  put_is : (c : ℤ) (m : List ℕ) (s : Terms) → total env (put c m s) ≡ c *ℤ mono env m +ℤ total env s
  put_is c m none = refl
  put_is c m (term d n s) = go (same m n) refl (put_is c m s)
    where
      go : (b : Bool) → same m n ≡ b → total env (put c m s) ≡ c *ℤ mono env m +ℤ total env s
          → total env (elim b [ true ↦ term (c +ℤ d) n s | false ↦ term d n (put c m s) ]) ≡ c *ℤ mono env m +ℤ (d *ℤ mono env n +ℤ total env s)
      go true e ih = rw (same_is m n (subst T (sym e) tt)) (gather c d (mono env n) (total env s))
      go false e ih = rw ih (pass (d *ℤ mono env n) (c *ℤ mono env m) (total env s))

  spread_is : (c : ℤ) (m : List ℕ) (s t : Terms) → total env (spread c m s t) ≡ (c *ℤ mono env m) *ℤ total env s +ℤ total env t
  spread_is c m none t = nothing c (mono env m) (total env t)
  spread_is c m (term d n s) t = put_is (c *ℤ d) (merge m n) (spread c m s t)
      ∙ rw (merge_is m n, spread_is c m s t) (over c (mono env m) d (mono env n) (total env s) (total env t))

  cross_is : (r s t : Terms) → total env (cross r s t) ≡ total env r *ℤ total env s +ℤ total env t
  cross_is none s t = nothing₁ (total env s) (total env t)
  cross_is (term c m r) s t = spread_is c m s (cross r s t)
      ∙ rw (cross_is r s t) (across (c *ℤ mono env m) (total env r) (total env s) (total env t))

  terms_is : (e : Ex) → total env (terms e) ≡ value env e
  terms_is (# i) = one_var (look env i)
  terms_is (lit z) = one_lit z
  terms_is (e ⊕ f) = spread_is (pos 1) [] (terms e) (terms f) ∙ rw (terms_is e, terms_is f) (once (value env e) (value env f))
  terms_is (e ⊖ f) = spread_is (negsuc 0) [] (terms f) (terms e) ∙ rw (terms_is e, terms_is f) (less (value env e) (value env f))
  terms_is (e ⊗ f) = cross_is (terms e) (terms f) none ∙ rw (terms_is e, terms_is f) (ends (value env e *ℤ value env f))
  terms_is (⊝ e) = spread_is (negsuc 0) [] (terms e) none ∙ rw (terms_is e) (turned (value env e))

  vanishes_is : (s : Terms) → T (vanishes s) → total env s ≡ pos 0
  vanishes_is none t = refl
  vanishes_is (term (pos zero) m s) t = no_term (mono env m) (total env s) (vanishes_is s t)
  vanishes_is (term (pos (suc n)) m s) t = absurd t
  vanishes_is (term (negsuc n) m s) t = absurd t

  pub ring : (e f : Ex) → T (vanishes (terms (e ⊖ f))) → value env e ≡ value env f
  ring e f t = apart (value env e) (value env f) (sym (terms_is (e ⊖ f)) ∙ vanishes_is (terms (e ⊖ f)) t)
