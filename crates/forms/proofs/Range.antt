-- Laws of the range of numbers. Assumes nothing.
use Rattle.std.proofs.Common.{◌≡◌, ℕ, zero, suc, min, Bool, true, false, cond, ltb, List, [], ◌∷◌, ◌++◌, map, ℤ, pos, negsuc, neg_ℤ, nat_abs, Some, None, Option, sym, refl, ap, ◌∙◌, arith, ltb-false}
use Rattle.forms.specs.Form.{Item, Token, figure, symbol}
use Rattle.forms.specs.Range.{beyond, clip, seen, said, token_far, earlier, first_far}
use Rattle.forms.specs.Line.{token}

pub earlier_none : (q : Option ℕ) → earlier q None ≡ q
earlier_none (Some p) = refl
earlier_none None = refl

pub earlier_assoc : (p q r : Option ℕ) → earlier p (earlier q r) ≡ earlier (earlier p q) r
earlier_assoc (Some p) q r = refl
earlier_assoc None q r = refl

pub first_far_append : (o p : List Item) → first_far (o ++ p) ≡ earlier (first_far o) (first_far p)
first_far_append [] p = refl
first_far_append (x ∷ o) p = ap (earlier _) (first_far_append o p) ∙ earlier_assoc _ (first_far o) (first_far p)

-- a number that is cut is as far as it was
pub clip_far : (z : ℤ) → beyond (clip z) ≡ beyond z
clip_far (pos n) = grind arith
clip_far (negsuc n) = ap (ltb 999999999) (neg_abs (min (suc n) 1000000000)) ∙ grind arith
  where
    neg_abs : (k : ℕ) → nat_abs (neg_ℤ (pos k)) ≡ k
    neg_abs zero = refl
    neg_abs (suc k) = refl

-- a number in range is not cut
clip_near : (z : ℤ) → beyond z ≡ false → clip z ≡ z
clip_near (pos n) h = ap pos (omega (arith, ltb-false 999999999 n h))
clip_near (negsuc n) h = ap (λ (k : ℕ). neg_ℤ (pos k)) (let e : min (suc n) 1000000000 ≡ suc n = omega (arith, ltb-false 999999999 (suc n) h) in e)

seen_near : (p : ℕ) (x : Token) (q : Option ℕ) → earlier (token_far p x) q ≡ None → (seen x ≡ x) × (q ≡ None)
seen_near p (symbol b) q h = (refl, h)
seen_near p (figure z) q h = go (beyond z) refl
  where
    go : (b : Bool) → beyond z ≡ b → (seen (figure z) ≡ figure z) × (q ≡ None)
    go true e = let y : Some p ≡ None = ap (λ (k : Bool). earlier (cond k (Some p) None) q) (sym e) ∙ h in cc
    go false e = (ap figure (clip_near z e), ap (λ (k : Bool). earlier (cond k (Some p) None) q) (sym e) ∙ h)

-- of a line whose numbers are in range everything is kept
pub said_near : (o : List Item) → first_far o ≡ None → map token o ≡ map said o
said_near [] h = refl
said_near (x ∷ o) h =
    let r = seen_near x.place x.token (first_far o) h in
    λ i. sym r.0 i ∷ said_near o r.1 i
