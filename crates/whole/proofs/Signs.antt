-- Order of whole numbers for `omega`, with each product an unknown, and the signs of products.
--     omega (arith, linear, FACTS)   a linear goal; a product's sign comes in as a fact, and an identity as `ring ..`
-- A fact on signs is named by its factors: `above` and `below` are above and below 0, `natural` is at least 0, `nonpos` at most 0.
-- Assumes nothing.
use mathlib.Core.Path.{◌≡◌, refl}
use mathlib.Core.List.{[], ◌∷◌}
use mathlib.Core.Bool.{Bool, true, false}
use Prim.Native.Nat.{zero, suc}
use native.Mathlib.Omega.{arith}
use lib.IntN.{ℤ, pos, negsuc, ◌-ℤ◌, ◌*ℤ◌, neg_ℤ}
use lib.Signed.{lt_z, ◌<ℤ◌, ◌≤ℤ◌}
use borrow.Author.Differences.{ints, lt-true, lt-false, same_out, Apart-out, lt_out, le_out, same_in, below_in, at_most_in, sum_is_lem, neg_is}
use Rattle.whole.proofs.Identities.{ring, #, ◌⊗◌, ⊝}

-- the rules by which `omega` reads a whole number as a difference of two naturals
pub ruleset linear = (same_out, Apart-out, lt_out, le_out, same_in, below_in, at_most_in, sum_is_lem, neg_is)

pub above_above : {x y : ℤ} → pos 0 <ℤ x → pos 0 <ℤ y → pos 0 <ℤ (x *ℤ y)
above_above {x = pos zero} {y} h k = omega (arith, linear)
above_above {x = negsuc m} {y} h k = omega (arith, linear)
above_above {x = pos (suc m)} {y = pos zero} h k = omega (arith, linear)
above_above {x = pos (suc m)} {y = negsuc n} h k = omega (arith, linear)
above_above {x = pos (suc m)} {y = pos (suc n)} h k = omega (arith, linear)

pub natural_natural : {x y : ℤ} → pos 0 ≤ℤ x → pos 0 ≤ℤ y → pos 0 ≤ℤ (x *ℤ y)
natural_natural {x = negsuc m} {y} h k = omega (arith, linear)
natural_natural {x = pos m} {y = negsuc n} h k = omega (arith, linear)
natural_natural {x = pos m} {y = pos n} h k = omega (arith, linear)

turn : (x y : ℤ) → neg_ℤ x *ℤ y ≡ neg_ℤ (x *ℤ y)
turn x y = ring (x ∷ y ∷ []) (⊝ (# 0) ⊗ # 1) (⊝ (# 0 ⊗ # 1)) tt

pub below_above : {x y : ℤ} → x <ℤ pos 0 → pos 0 <ℤ y → (x *ℤ y) <ℤ pos 0
below_above {x} {y} h k = let n : pos 0 <ℤ neg_ℤ x = omega (arith, linear) in omega (arith, linear, above_above n k, turn x y)

pub nonpos_natural : {x y : ℤ} → x ≤ℤ pos 0 → pos 0 ≤ℤ y → (x *ℤ y) ≤ℤ pos 0
nonpos_natural {x} {y} h k = let n : pos 0 ≤ℤ neg_ℤ x = omega (arith, linear) in omega (arith, linear, natural_natural n k, turn x y)

pub nonpos_nonpos : {x y : ℤ} → x ≤ℤ pos 0 → y ≤ℤ pos 0 → pos 0 ≤ℤ (x *ℤ y)
nonpos_nonpos {x} {y} h k = let n : pos 0 ≤ℤ neg_ℤ y = omega (arith, linear) in omega (arith, linear, nonpos_natural h n, other x y)
  where
    other : (x y : ℤ) → x *ℤ neg_ℤ y ≡ neg_ℤ (x *ℤ y)
    other x y = ring (x ∷ y ∷ []) (# 0 ⊗ ⊝ (# 1)) (⊝ (# 0 ⊗ # 1)) tt

pub above_below : {x y : ℤ} → pos 0 <ℤ x → y <ℤ pos 0 → (x *ℤ y) <ℤ pos 0
above_below {x} {y} h k = omega (arith, linear, below_above k h, ring (x ∷ y ∷ []) (# 0 ⊗ # 1) (# 1 ⊗ # 0) tt)

-- the same with a strict second factor
pub nonpos_above : {x y : ℤ} → x ≤ℤ pos 0 → pos 0 <ℤ y → (x *ℤ y) ≤ℤ pos 0
nonpos_above h k = nonpos_natural h (omega (arith, linear))

pub nonpos_below : {x y : ℤ} → x ≤ℤ pos 0 → y <ℤ pos 0 → pos 0 ≤ℤ (x *ℤ y)
nonpos_below h k = nonpos_nonpos h (omega (arith, linear))

-- two numbers in order: the first is less, equal or more
pub data Order (x y : ℤ) : Type 0 where
  less : x <ℤ y → Order x y
  equal : x ≡ y → Order x y
  more : y <ℤ x → Order x y

pub order : (x y : ℤ) → Order x y
order x y = by (lt_z x y) refl (lt_z y x) refl
  where
    by : (s : Bool) → lt_z x y ≡ s → (t : Bool) → lt_z y x ≡ t → Order x y
    by true e t f = less (omega (arith, linear, lt-true x y e))
    by false e true f = more (omega (arith, linear, lt-true y x f))
    by false e false f = equal (omega (arith, linear, lt-false x y e, lt-false y x f))

-- a number is less than another where the difference is above 0
pub less_by : (x y : ℤ) → lt_z y x ≡ lt_z (pos 0) (x -ℤ y)
less_by x y = grind (arith, ints)
