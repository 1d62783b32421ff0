-- Points on an edge: where the sides of a point come to 0 it lies on the edge, and not only on the line. Assumes nothing.
use Rattle.std.specs.Prelude.{◌≡◌, Bool, true, false, ◌⊎◌, [], ◌∷◌, ℤ, pos, ◌+ℤ◌, ◌-ℤ◌, ◌*ℤ◌, neg_ℤ, ◌≤ℤ◌, ◌<ℤ◌, int_lt, refl}
use Rattle.std.proofs.Common.{inl, inr, sym, arith}
use Rattle.std.proofs.Math.IntN.{*ℤ-zero}
use borrow.Author.Differences.{lt-true, lt-false}
use Rattle.whole.proofs.Identities.{ring, #, ◌⊖◌, ◌⊗◌, ⊝, lit}
use Rattle.whole.proofs.Signs.{linear, natural_natural, Order, less, equal, more, order}
use Rattle.kinds.specs.Places.{PlanePoint}
use Rattle.kinds.specs.Sides.{side, turned, balance_x, balance_y, apart}

-- p lies between u and v, which are in no order, or at one of them
abbrev pub Between : ℤ → ℤ → ℤ → Type 0
Between u p v = (u ≤ℤ p × p ≤ℤ v) ⊎ (v ≤ℤ p × p ≤ℤ u)

-- p lies on the closed edge from u to v
pub record On (u v p : PlanePoint) : Type 0 where
  pub line : side u v p ≡ pos 0
  pub wide : Between u.x p.x v.x
  pub high : Between u.y p.y v.y

-- a height u is not above p, or it is
pub data Height (u p : ℤ) : Type 0 where
  low : u ≤ℤ p → Height u p
  above : p <ℤ u → Height u p

pub height : (u p : ℤ) → Height u p
height u p = by (int_lt p u) refl
  where
    by : (t : Bool) → int_lt p u ≡ t → Height u p
    by true e = above (omega (arith, linear, lt-true p u e))
    by false e = low (omega (arith, linear, lt-false p u e))

-- a factor of at least 1, or of at most -1
grows : (u p A : ℤ) → p <ℤ u → pos 0 ≤ℤ A → A ≤ℤ ((u -ℤ p) *ℤ A)
grows u p A h k =
    let n : pos 0 ≤ℤ (u -ℤ p -ℤ pos 1) = omega (arith, linear) in
    omega (arith, linear, natural_natural n k, ring (u ∷ p ∷ A ∷ []) ((# 0 ⊖ # 1 ⊖ lit (pos 1)) ⊗ # 2) ((# 0 ⊖ # 1) ⊗ # 2 ⊖ # 2) tt)

falls : (u p A : ℤ) → u <ℤ p → pos 0 ≤ℤ A → ((u -ℤ p) *ℤ A) ≤ℤ neg_ℤ A
falls u p A h k = omega (arith, linear, grows p u A h k, ring (u ∷ p ∷ A ∷ []) ((# 0 ⊖ # 1) ⊗ # 2) (⊝ ((# 1 ⊖ # 0) ⊗ # 2)) tt)

-- a weighted mean of u and v lies between them
between : (u v p A B : ℤ) → pos 0 ≤ℤ A → pos 0 ≤ℤ B → pos 0 <ℤ (A +ℤ B) → (u -ℤ p) *ℤ A +ℤ (v -ℤ p) *ℤ B ≡ pos 0 → Between u p v
between u v p A B hA hB hS e = go (order u p) (order v p)
  where
    go : Order u p → Order v p → Between u p v
    go (less h) (less k) = absurd (omega (arith, linear, falls u p A h hA, falls v p B k hB))
    go (less h) (equal k) = inl (omega (arith, linear), omega (arith, linear))
    go (less h) (more k) = inl (omega (arith, linear), omega (arith, linear))
    go (equal h) (less k) = inr (omega (arith, linear), omega (arith, linear))
    go (equal h) (equal k) = inl (omega (arith, linear), omega (arith, linear))
    go (equal h) (more k) = inl (omega (arith, linear), omega (arith, linear))
    go (more h) (less k) = inr (omega (arith, linear), omega (arith, linear))
    go (more h) (equal k) = inr (omega (arith, linear), omega (arith, linear))
    go (more h) (more k) = absurd (omega (arith, linear, grows u p A h hA, grows v p B k hB))

swap_between : {u p v : ℤ} → Between u p v → Between v p u
swap_between (inl h) = inr h
swap_between (inr h) = inl h

pub flip : {a b p : PlanePoint} → On b a p → On a b p
flip {a} {b} {p} o = record {
  line = omega (arith, linear, o.line, turned a b p p);
  wide = swap_between o.wide;
  high = swap_between o.high;
}

-- an edge that passes the height of p, and whose side is 0
pub crosses_down : (a b p : PlanePoint) → p.y <ℤ a.y → b.y ≤ℤ p.y → pos 0 ≡ side a b p → On a b p
crosses_down a b p h k e = record {
  line = sym e;
  wide = between a.x b.x p.x (p.y -ℤ b.y) (a.y -ℤ p.y) (omega (arith, linear)) (omega (arith, linear)) (omega (arith, linear)) (omega (arith, linear, apart a b p p));
  high = inr (k, omega (arith, linear));
}

pub crosses_up : (a b p : PlanePoint) → a.y ≤ℤ p.y → p.y <ℤ b.y → pos 0 ≡ side a b p → On a b p
crosses_up a b p h k e = flip (crosses_down b a p k h (omega (arith, linear, turned a b p p)))

-- where p is left of two ways of a triangle and its side of the third is 0, it lies on that edge
pub third : (a b c p : PlanePoint) → pos 0 ≡ side b c p → pos 0 <ℤ side c a p → pos 0 <ℤ side a b p → On b c p
third a b c p e h k = record {
  line = sym e;
  wide = between b.x c.x p.x (side c a p) (side a b p) (omega (arith, linear)) (omega (arith, linear)) (omega (arith, linear)) (rest (a.x -ℤ p.x) (side b c p) _ _ e (balance_x a b c p));
  high = between b.y c.y p.y (side c a p) (side a b p) (omega (arith, linear)) (omega (arith, linear)) (omega (arith, linear)) (rest (a.y -ℤ p.y) (side b c p) _ _ e (balance_y a b c p));
}
  where
    rest : (x A s t : ℤ) → pos 0 ≡ A → x *ℤ A +ℤ s +ℤ t ≡ pos 0 → s +ℤ t ≡ pos 0
    rest x A s t e h = omega (arith, linear, (rw (← e) at h), *ℤ-zero x)
