-- On which side of the way from a to b a point c lies, and the identities that tie the sides of three ways round. Assumes nothing.
use Rattle.std.specs.Prelude.{◌≡◌, List, [], ◌∷◌, ℤ, pos, ◌+ℤ◌, ◌-ℤ◌, ◌*ℤ◌, neg_ℤ}
use Rattle.whole.proofs.Identities.{ring, Ex, #, ◌⊕◌, ◌⊖◌, ◌⊗◌, ⊝, lit}
use Rattle.kinds.specs.Places.{PlanePoint}
use Rattle.kinds.specs.Triangles.{orient}

-- the orientation of three points, kept shut: only the identities look inside
unfoldable pub side : PlanePoint → PlanePoint → PlanePoint → ℤ
side a b c = orient a b c

abbrev sideE : Ex → Ex → Ex → Ex → Ex → Ex → Ex
sideE ax ay bx by cx cy = (bx ⊖ ax) ⊗ (cy ⊖ ay) ⊖ (cx ⊖ ax) ⊗ (by ⊖ ay)

module _ (a b c p : PlanePoint) where
  abbrev env : List ℤ
  env = a.x ∷ a.y ∷ b.x ∷ b.y ∷ c.x ∷ c.y ∷ p.x ∷ p.y ∷ []

  abbrev abp : Ex
  abp = sideE (# 0) (# 1) (# 2) (# 3) (# 6) (# 7)

  abbrev bcp : Ex
  bcp = sideE (# 2) (# 3) (# 4) (# 5) (# 6) (# 7)

  abbrev cap : Ex
  cap = sideE (# 4) (# 5) (# 0) (# 1) (# 6) (# 7)

  pub parts : side a b c ≡ side a b p +ℤ side b c p +ℤ side c a p
  unfolding side
  parts = ring env (sideE (# 0) (# 1) (# 2) (# 3) (# 4) (# 5)) (abp ⊕ bcp ⊕ cap) tt

  pub rotated : side b c a ≡ side a b c
  unfolding side
  rotated = ring env (sideE (# 2) (# 3) (# 4) (# 5) (# 0) (# 1)) (sideE (# 0) (# 1) (# 2) (# 3) (# 4) (# 5)) tt

  pub turned : side b a p ≡ neg_ℤ (side a b p)
  unfolding side
  turned = ring env (sideE (# 2) (# 3) (# 0) (# 1) (# 6) (# 7)) (⊝ abp) tt

  pub balance_x : (a.x -ℤ p.x) *ℤ side b c p +ℤ (b.x -ℤ p.x) *ℤ side c a p +ℤ (c.x -ℤ p.x) *ℤ side a b p ≡ pos 0
  unfolding side
  balance_x = ring env ((# 0 ⊖ # 6) ⊗ bcp ⊕ (# 2 ⊖ # 6) ⊗ cap ⊕ (# 4 ⊖ # 6) ⊗ abp) (lit (pos 0)) tt

  pub balance_y : (a.y -ℤ p.y) *ℤ side b c p +ℤ (b.y -ℤ p.y) *ℤ side c a p +ℤ (c.y -ℤ p.y) *ℤ side a b p ≡ pos 0
  unfolding side
  balance_y = ring env ((# 1 ⊖ # 7) ⊗ bcp ⊕ (# 3 ⊖ # 7) ⊗ cap ⊕ (# 5 ⊖ # 7) ⊗ abp) (lit (pos 0)) tt

  pub apart : neg_ℤ (side a b p) ≡ (a.x -ℤ p.x) *ℤ (p.y -ℤ b.y) +ℤ (b.x -ℤ p.x) *ℤ (a.y -ℤ p.y)
  unfolding side
  apart = ring env (⊝ abp) ((# 0 ⊖ # 6) ⊗ (# 7 ⊖ # 3) ⊕ (# 2 ⊖ # 6) ⊗ (# 1 ⊖ # 7)) tt
