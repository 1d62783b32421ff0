-- The corners of cells that follow on one another. Assumes nothing.
use Rattle.std.proofs.Common.{◌≡◌, ℕ, zero, suc, ◌+◌, ◌*◌, List, ◌++◌, take, drop, ℤ, sym, ap, ◌∙◌, mul-zero, mul-add, arith, take-add}
use Rattle.std.proofs.lemmas.List.{drop-drop}
use Rattle.std.specs.List.{range_with_len, flat_map}
use Rattle.rules.specs.Raw.{cell}

-- cells from a on, one after the other, are one stretch of the table of corners
pub run_of_cells : (k : ℕ) (cs : List ℤ) (a m : ℕ) → flat_map (cell k cs) (range_with_len a m) ≡ take (k * m) (drop (k * a) cs)
run_of_cells k cs a zero = ap (λ (n : ℕ). take n (drop (k * a) cs)) (sym (mul-zero k))
run_of_cells k cs a (suc m) =
    let long : k * suc m ≡ k + k * m = omega (arith, mul-add k m 1) in
    let next : drop (k * (a + 1)) cs ≡ drop k (drop (k * a) cs) = ap (λ (n : ℕ). drop n cs) (omega (arith, mul-add k a 1)) ∙ sym (drop-drop k (k * a) cs) in
    ap (λ (l : List ℤ). cell k cs a ++ l) (run_of_cells k cs (a + 1) m ∙ ap (take (k * m)) next)
    ∙ sym (take-add k (k * m) (drop (k * a) cs))
    ∙ ap (λ (n : ℕ). take n (drop (k * a) cs)) (sym long)
