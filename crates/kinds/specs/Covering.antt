-- The law of the triangle: what its edges count, as it runs them, adds up to 1 at a point that it covers, and to 0 at any other that is
-- on no edge. By the heights of the corners: none or all above the point, one alone above it, or one alone below. Assumes nothing.
use Rattle.std.specs.Prelude.{◌≡◌, [], ◌∷◌, ℤ, pos, ◌+ℤ◌, ◌-ℤ◌, ◌*ℤ◌, ◌≤ℤ◌, ◌<ℤ◌}
use Rattle.std.proofs.Common.{◌∙◌, arith}
use Rattle.std.proofs.Math.IntN.{*ℤ-zero}
use Rattle.whole.proofs.Identities.{ring, #, ◌⊕◌, ◌⊖◌, ◌⊗◌, lit}
use Rattle.whole.proofs.Signs.{linear, above_above, above_below, nonpos_natural, nonpos_nonpos, nonpos_above, nonpos_below, Order, less, equal, more, order}
use Rattle.kinds.specs.Places.{PlanePoint}
use Rattle.kinds.specs.Sides.{side, parts, rotated, balance_y, apart}
use Rattle.kinds.specs.OnEdge.{On, Height, low, above, height, crosses_down, crosses_up, third}
use Rattle.kinds.specs.Crossings.{turn, flat_low, flat_high, up_left, up_right, down_left, down_right}

-- p lies strictly left of the three ways
pub record Covers (a b c p : PlanePoint) : Type 0 where
  pub ab : pos 0 <ℤ side a b p
  pub bc : pos 0 <ℤ side b c p
  pub ca : pos 0 <ℤ side c a p

-- p lies on no edge
pub record Off (a b c p : PlanePoint) : Type 0 where
  pub ab : ¬ (On a b p)
  pub bc : ¬ (On b c p)
  pub ca : ¬ (On c a p)

abbrev pub Sound : (a b c : PlanePoint) → Type 0
Sound a b c = pos 0 <ℤ side a b c

abbrev pub Sum : PlanePoint → PlanePoint → PlanePoint → PlanePoint → ℤ
Sum a b c p = turn a b p +ℤ turn b c p +ℤ turn c a p

-- the sum is 1 where the triangle covers p, else 0
abbrev pub Says : PlanePoint → PlanePoint → PlanePoint → PlanePoint → Type 0
Says a b c p = (Covers a b c p → Sum a b c p ≡ pos 1) × (¬ (Covers a b c p) → Sum a b c p ≡ pos 0)

sums : (a b c p : PlanePoint) (i j k : ℤ) → turn a b p ≡ i → turn b c p ≡ j → turn c a p ≡ k → Sum a b c p ≡ i +ℤ j +ℤ k
sums a b c p i j k d e f = rw (d, e, f)

yes_so : (a b c p : PlanePoint) → Covers a b c p → Sum a b c p ≡ pos 1 → Says a b c p
yes_so a b c p h e = (λ _. e, λ n. absurd (n h))

not_so : (a b c p : PlanePoint) → ¬ (Covers a b c p) → Sum a b c p ≡ pos 0 → Says a b c p
not_so a b c p n e = (λ h. absurd (n h), λ _. e)

rotate : (a b c p : PlanePoint) → Says b c a p → Says a b c p
rotate a b c p s = (λ h. again ∙ s.0 (record { ab = h.bc; bc = h.ca; ca = h.ab }), λ n. again ∙ s.1 (λ h. n (record { ab = h.ca; bc = h.ab; ca = h.bc })))
  where
    shift : (x y z : ℤ) → x +ℤ y +ℤ z ≡ y +ℤ z +ℤ x
    shift x y z = ring (x ∷ y ∷ z ∷ []) (# 0 ⊕ # 1 ⊕ # 2) (# 1 ⊕ # 2 ⊕ # 0) tt

    again : Sum a b c p ≡ Sum b c a p
    again = shift (turn a b p) (turn b c p) (turn c a p)

module _ (a b c p : PlanePoint) (sound : Sound a b c) (off : Off a b c p) where
  whole : pos 0 <ℤ (side a b p +ℤ side b c p +ℤ side c a p)
  whole = rw (parts a b c p) at sound

  -- a is above p, b and c are not
  alone_up : p.y <ℤ a.y → b.y ≤ℤ p.y → c.y ≤ℤ p.y → Says a b c p
  alone_up ha hb hc = go (order (pos 0) (side c a p)) (order (pos 0) (side a b p))
    where
      ya : pos 0 <ℤ (a.y -ℤ p.y)
      ya = omega (arith, linear)

      yb : (b.y -ℤ p.y) ≤ℤ pos 0
      yb = omega (arith, linear)

      yc : (c.y -ℤ p.y) ≤ℤ pos 0
      yc = omega (arith, linear)

      left : pos 0 <ℤ side c a p → pos 0 <ℤ side a b p → Order (pos 0) (side b c p) → pos 0 <ℤ side b c p
      left hB hC (less hA) = hA
      left hB hC (equal e) = absurd (off.bc (third a b c p e hB hC))
      left hB hC (more hA) = absurd (omega (arith, linear, balance_y a b c p, above_below ya hA, nonpos_above yb hB, nonpos_above yc hC))

      go : Order (pos 0) (side c a p) → Order (pos 0) (side a b p) → Says a b c p
      go (equal e) y = absurd (off.ca (crosses_up c a p hc ha e))
      go (less hB) (equal e) = absurd (off.ab (crosses_down a b p ha hb e))
      go (more hB) (equal e) = absurd (off.ab (crosses_down a b p ha hb e))
      go (less hB) (less hC) = yes_so a b c p (record { ab = hC; bc = left hB hC (order (pos 0) (side b c p)); ca = hB })
          (sums a b c p _ _ _ (down_left a b p ha hb hC) (flat_low b c p hb hc) (up_left c a p hc ha hB))
      go (less hB) (more hC) = not_so a b c p (λ h. omega (arith, linear, h.ab))
          (sums a b c p _ _ _ (down_right a b p ha hb hC) (flat_low b c p hb hc) (up_left c a p hc ha hB))
      go (more hB) (less hC) = not_so a b c p (λ h. omega (arith, linear, h.ca))
          (sums a b c p _ _ _ (down_left a b p ha hb hC) (flat_low b c p hb hc) (up_right c a p hc ha hB))
      go (more hB) (more hC) =
          let hA : pos 0 <ℤ side b c p = omega (arith, linear, whole) in
          absurd (omega (arith, linear, balance_y a b c p, above_above ya hA, nonpos_below yb hB, nonpos_below yc hC))

  -- b and c are above p, a is not
  alone_down : a.y ≤ℤ p.y → p.y <ℤ b.y → p.y <ℤ c.y → Says a b c p
  alone_down ha hb hc = go (order (pos 0) (side c a p)) (order (pos 0) (side a b p))
    where
      ya : (a.y -ℤ p.y) ≤ℤ pos 0
      ya = omega (arith, linear)

      yb : pos 0 <ℤ (b.y -ℤ p.y)
      yb = omega (arith, linear)

      yc : pos 0 <ℤ (c.y -ℤ p.y)
      yc = omega (arith, linear)

      left : pos 0 <ℤ side c a p → pos 0 <ℤ side a b p → Height (side b c p) (pos 0) → pos 0 <ℤ side b c p
      left hB hC (above hA) = hA
      left hB hC (low hA) = absurd (omega (arith, linear, balance_y a b c p, nonpos_nonpos ya hA, above_above yb hB, above_above yc hC))

      go : Order (pos 0) (side c a p) → Order (pos 0) (side a b p) → Says a b c p
      go (equal e) y = absurd (off.ca (crosses_down c a p hc ha e))
      go (less hB) (equal e) = absurd (off.ab (crosses_up a b p ha hb e))
      go (more hB) (equal e) = absurd (off.ab (crosses_up a b p ha hb e))
      go (less hB) (less hC) = yes_so a b c p (record { ab = hC; bc = left hB hC (height (side b c p) (pos 0)); ca = hB })
          (sums a b c p _ _ _ (up_left a b p ha hb hC) (flat_high b c p hb hc) (down_left c a p hc ha hB))
      go (less hB) (more hC) = not_so a b c p (λ h. omega (arith, linear, h.ab))
          (sums a b c p _ _ _ (up_right a b p ha hb hC) (flat_high b c p hb hc) (down_left c a p hc ha hB))
      go (more hB) (less hC) = not_so a b c p (λ h. omega (arith, linear, h.ca))
          (sums a b c p _ _ _ (up_left a b p ha hb hC) (flat_high b c p hb hc) (down_right c a p hc ha hB))
      go (more hB) (more hC) =
          let hA : pos 0 <ℤ side b c p = omega (arith, linear, whole) in
          absurd (omega (arith, linear, balance_y a b c p, nonpos_above ya hA, above_below yb hB, above_below yc hC))

  all_above : p.y <ℤ a.y → p.y <ℤ b.y → p.y <ℤ c.y → Says a b c p
  all_above ha hb hc = not_so a b c p out (sums a b c p _ _ _ (flat_high a b p ha hb) (flat_high b c p hb hc) (flat_high c a p hc ha))
    where
      rises : (u A : ℤ) → p.y <ℤ u → pos 0 <ℤ A → pos 0 <ℤ ((u -ℤ p.y) *ℤ A)
      rises u A h k = let d : pos 0 <ℤ (u -ℤ p.y) = omega (arith, linear) in above_above d k

      out : ¬ (Covers a b c p)
      out h = omega (arith, linear, balance_y a b c p, rises a.y (side b c p) ha h.bc, rises b.y (side c a p) hb h.ca, rises c.y (side a b p) hc h.ab)

  none_above : a.y ≤ℤ p.y → b.y ≤ℤ p.y → c.y ≤ℤ p.y → Says a b c p
  none_above ha hb hc = not_so a b c p out (sums a b c p _ _ _ (flat_low a b p ha hb) (flat_low b c p hb hc) (flat_low c a p hc ha))
    where
      sinks : (u A : ℤ) → u ≤ℤ p.y → pos 0 <ℤ A → ((u -ℤ p.y) *ℤ A) ≤ℤ (u -ℤ p.y)
      sinks u A h k =
          let d : (u -ℤ p.y) ≤ℤ pos 0 = omega (arith, linear) in
          let m : pos 0 ≤ℤ (A -ℤ pos 1) = omega (arith, linear) in
          omega (arith, linear, nonpos_natural d m, ring (u ∷ p.y ∷ A ∷ []) ((# 0 ⊖ # 1) ⊗ (# 2 ⊖ lit (pos 1))) ((# 0 ⊖ # 1) ⊗ # 2 ⊖ (# 0 ⊖ # 1)) tt)

      out : ¬ (Covers a b c p)
      out h =
          let sa = sinks a.y (side b c p) ha h.bc in
          let sb = sinks b.y (side c a p) hb h.ca in
          let sc = sinks c.y (side a b p) hc h.ab in
          let eb : b.y -ℤ p.y ≡ pos 0 = omega (arith, linear, balance_y a b c p) in
          let ec : p.y -ℤ c.y ≡ pos 0 = omega (arith, linear, balance_y a b c p) in
          omega (arith, linear, h.bc, (rw (ec, eb) at (apart b c p p)), *ℤ-zero (b.x -ℤ p.x), *ℤ-zero (c.x -ℤ p.x))

rotate_off : {a b c p : PlanePoint} → Off a b c p → Off b c a p
rotate_off o = record { ab = o.bc; bc = o.ca; ca = o.ab }

pub says : (a b c p : PlanePoint) → Sound a b c → Off a b c p → Says a b c p
says a b c p s o = go (height a.y p.y) (height b.y p.y) (height c.y p.y)
  where
    s₁ : Sound b c a
    s₁ = rw (rotated a b c p) s

    s₂ : Sound c a b
    s₂ = rw (rotated b c a p) s₁

    o₁ : Off b c a p
    o₁ = rotate_off o

    o₂ : Off c a b p
    o₂ = rotate_off o₁

    go : Height a.y p.y → Height b.y p.y → Height c.y p.y → Says a b c p
    go (above x) (above y) (above z) = all_above a b c p s o x y z
    go (above x) (above y) (low z) = rotate a b c p (rotate b c a p (alone_down c a b p s₂ o₂ z x y))
    go (above x) (low y) (above z) = rotate a b c p (alone_down b c a p s₁ o₁ y z x)
    go (above x) (low y) (low z) = alone_up a b c p s o x y z
    go (low x) (above y) (above z) = alone_down a b c p s o x y z
    go (low x) (above y) (low z) = rotate a b c p (alone_up b c a p s₁ o₁ y z x)
    go (low x) (low y) (above z) = rotate a b c p (rotate b c a p (alone_up c a b p s₂ o₂ z x y))
    go (low x) (low y) (low z) = none_above a b c p s o x y z
