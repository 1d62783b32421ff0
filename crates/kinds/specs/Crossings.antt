-- What an edge counts at a point, by where its ends and the point lie. Assumes nothing.
use Rattle.std.specs.Prelude.{◌≡◌, cond, ◌&&◌, ℤ, pos, negsuc, ◌-ℤ◌, ◌≤ℤ◌, ◌<ℤ◌, int_le, int_lt}
use Rattle.std.proofs.Common.{arith}
use Rattle.std.proofs.lemmas.Int.{ints}
use Rattle.whole.proofs.Signs.{linear}
use Rattle.kinds.specs.Places.{PlanePoint}
use Rattle.kinds.specs.Sides.{side, turned}

-- what a rising edge counts, as `rise` of the specs says it, kept shut
unfoldable pub half : PlanePoint → PlanePoint → PlanePoint → ℤ
half u v p = cond (int_le u.y p.y && (int_lt p.y v.y && int_lt (pos 0) (side u v p))) (pos 1) (pos 0)

one_of : (u p v o : ℤ) → u ≤ℤ p → p <ℤ v → pos 0 <ℤ o → cond (int_le u p && (int_lt p v && int_lt (pos 0) o)) (pos 1) (pos 0) ≡ pos 1
one_of u p v o h k l = grind (arith, ints)

none_low : (u p v o : ℤ) → v ≤ℤ p → cond (int_le u p && (int_lt p v && int_lt (pos 0) o)) (pos 1) (pos 0) ≡ pos 0
none_low u p v o h = grind (arith, ints)

none_high : (u p v o : ℤ) → p <ℤ u → cond (int_le u p && (int_lt p v && int_lt (pos 0) o)) (pos 1) (pos 0) ≡ pos 0
none_high u p v o h = grind (arith, ints)

none_right : (u p v o : ℤ) → o ≤ℤ pos 0 → cond (int_le u p && (int_lt p v && int_lt (pos 0) o)) (pos 1) (pos 0) ≡ pos 0
none_right u p v o h = grind (arith, ints)

-- what an edge counts that is run from u to v
abbrev pub turn : PlanePoint → PlanePoint → PlanePoint → ℤ
turn u v p = half u v p -ℤ half v u p

module _ (u v p : PlanePoint) where
  half_low : v.y ≤ℤ p.y → half u v p ≡ pos 0
  unfolding half
  half_low h = none_low u.y p.y v.y (side u v p) h

  half_high : p.y <ℤ u.y → half u v p ≡ pos 0
  unfolding half
  half_high h = none_high u.y p.y v.y (side u v p) h

  half_right : side u v p ≤ℤ pos 0 → half u v p ≡ pos 0
  unfolding half
  half_right h = none_right u.y p.y v.y (side u v p) h

  half_one : u.y ≤ℤ p.y → p.y <ℤ v.y → pos 0 <ℤ side u v p → half u v p ≡ pos 1
  unfolding half
  half_one h k l = one_of u.y p.y v.y (side u v p) h k l

-- an edge below p, above it, rising with p on its left or its right, and falling
pub flat_low : (u v p : PlanePoint) → u.y ≤ℤ p.y → v.y ≤ℤ p.y → turn u v p ≡ pos 0
flat_low u v p h k = rw (half_low u v p k, half_low v u p h)

pub flat_high : (u v p : PlanePoint) → p.y <ℤ u.y → p.y <ℤ v.y → turn u v p ≡ pos 0
flat_high u v p h k = rw (half_high u v p h, half_high v u p k)

pub up_left : (u v p : PlanePoint) → u.y ≤ℤ p.y → p.y <ℤ v.y → pos 0 <ℤ side u v p → turn u v p ≡ pos 1
up_left u v p h k l = rw (half_one u v p h k l, half_high v u p k)

pub up_right : (u v p : PlanePoint) → u.y ≤ℤ p.y → p.y <ℤ v.y → side u v p <ℤ pos 0 → turn u v p ≡ pos 0
up_right u v p h k l = rw (half_right u v p (omega (arith, linear)), half_high v u p k)

pub down_left : (u v p : PlanePoint) → p.y <ℤ u.y → v.y ≤ℤ p.y → pos 0 <ℤ side u v p → turn u v p ≡ pos 0
down_left u v p h k l = rw (half_high u v p h, half_right v u p (omega (arith, linear, turned u v p p)))

pub down_right : (u v p : PlanePoint) → p.y <ℤ u.y → v.y ≤ℤ p.y → side u v p <ℤ pos 0 → turn u v p ≡ negsuc 0
down_right u v p h k l = rw (half_high u v p h, half_one v u p k h (omega (arith, linear, turned u v p p)))
