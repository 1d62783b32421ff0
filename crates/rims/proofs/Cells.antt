-- Whole cells of a table of corners, and room for so many. Assumes nothing.
use Rattle.std.proofs.Common.{◌≡◌, ℕ, ◌+◌, ◌-◌, ◌*◌, ◌/◌, ◌<◌, ◌≤◌, List, length, get_or, drop, ap, ℤ, pos, negsuc, nat_abs, mul-le-mul_left, mul-add, ◌∙◌, w32, SFits, to_z, of_z, arith}
use native.Mathlib.Nat.{div-add-mod}
use Rattle.std.proofs.lemmas.List.{length-take-le, length-drop}
use Rattle.std.proofs.lemmas.Int.{ints, to_z-of_z}
use Rattle.std.proofs.ByRecursion.{All-get_or}
use Rattle.std.specs.List.{AllByRecursion}
use Rattle.rules.specs.Raw.{cell}
use Rattle.rules.specs.Values.{Numbered}

-- so many times k, up to a quotient by k, is no more than the whole
pub within : (k n len : ℕ) → n ≤ len / k → k * n ≤ len
within k n len h = let m : k * n ≤ k * (len / k) = mul-le-mul_left k h in omega (arith, div-add-mod len k)

pub cell-length : (k : ℕ) (cs : List ℤ) (c : ℕ) → c < length cs / k → length (cell k cs c) ≡ k
cell-length k cs c h =
    let m : k * (c + 1) ≤ length cs = within k (c + 1) (length cs) (omega arith) in
    length-take-le k (drop (k * c) cs) (omega (arith, length-drop (k * c) cs, mul-add k c 1))

-- one more of so many
pub times_more : (k i : ℕ) → k * i + k ≡ k * (i + 1)
times_more k i = omega (arith, mul-add k i 1)

pub below : (z : ℤ) (n : ℕ) → Numbered n z → nat_abs z < n
below (pos m) n h = omega (arith, ints, h.1)
below (negsuc m) n h = absurd (omega (arith, ints, h.0))

-- so many more after one cell more of a run
pub run_more : (k first c h i j : ℕ) → first ≤ c → i ≡ h + k * (c - first) → j ≡ i + k → j ≡ h + k * (c + 1 - first)
run_more k first c h i j le e f = omega (arith, times_more k (c - first), e, f, ap (λ n. k * n) (one c first le))
  where
    one : (c first : ℕ) → first ≤ c → c + 1 - first ≡ c - first + 1
    one c first le = omega arith

-- a number of a list of numbers of cells
pub listed_below : (n : ℕ) (zs : List ℤ) (i : ℕ) → AllByRecursion (Numbered n) zs → i < length zs → nat_abs (get_or zs i (pos 0)) < n
listed_below n zs i h lt = below (get_or zs i (pos 0)) n (All-get_or (Numbered n) zs i (pos 0) lt h)

-- the cell that a number of a list, of 32 bits, numbers
pub cell_read : (k w : ℕ) (cs zs : List ℤ) (i n : ℕ) (here : List ℤ) → here ≡ cell w cs n → w ≡ k → n ≡ nat_abs (to_z w32 (of_z w32 (get_or zs i (pos 0)))) → SFits w32 (get_or zs i (pos 0))
    → here ≡ cell k cs (nat_abs (get_or zs i (pos 0)))
cell_read k w cs zs i n here e f g fits = e ∙ ap (λ v. cell v cs n) f ∙ ap (cell k cs) (g ∙ ap nat_abs (to_z-of_z w32 (get_or zs i (pos 0)) fits))
