-- A closed set that holds another has no fewer cells in its mesh. Assumes nothing.
use Rattle.std.proofs.Common.{◌≡◌, ℕ, ◌+◌, ◌<◌, ◌≤◌, Bool, true, false, List, [], ◌∷◌, length, drop, ℤ, pos, ◌+ℤ◌, nat_abs, ◌≤ℤ◌, refl, ap, ◌∙◌, arith}
use Rattle.std.specs.List.{range_with_len, AllByRecursion}
use Rattle.std.proofs.lemmas.List.FromFn.{length-range_with_len}
use Rattle.std.proofs.lemmas.List.{length-map, length-take}
use Rattle.std.proofs.lemmas.Int.{ints}
use Rattle.std.proofs.lemmas.Bool.{false≢true}
use Rattle.kinds.specs.Shapes.{Shape}
use Rattle.tables.specs.declared.contents.Places.{Places}
use Rattle.tables.specs.Judging.{Clear}
use Rattle.tables.specs.Tables.{Tables}
use Rattle.rules.specs.Cells.{base_cells, made_cells, taken_cells}
use Rattle.rules.specs.Rows.{replacements_in}
use Rattle.rules.specs.Links.{FreshKept}
use Rattle.rules.specs.Ranges.{first_made, taken_by}
use Rattle.rules.specs.Values.{GrowthKept}
use Rattle.rules.proofs.Cells.{made_by}
use Rattle.rules.proofs.Links.{first_taken, count_taken}
use Rattle.rules.proofs.Rows.{Plain}
use Rattle.sets.specs.Sets.{Closed, mesh_cells, mesh_size}
use Rattle.sets.proofs.Balance.{sum_members, mesh_sum}
use Rattle.sets.proofs.Levelling.{ordered}
use Rattle.sets.proofs.Sums.{sum_of, when, all_counting}

-- how many there are, as a sum
ones : {X : Type 0} (xs : List X) → sum_of (λ x. pos 1) xs ≡ pos (length xs)
ones [] = refl
ones (x ∷ xs) = ap (λ z. pos 1 +ℤ z) (ones xs) ∙ omega (arith, ints)

-- a replacement makes more cells than it takes
grows : (t : Tables) (n : ℕ) → GrowthKept t n → length (taken_cells t n) < length (made_cells t n)
grows t n growth =
    omega (
      arith,
      ints,
      growth.0,
      growth.1,
      length-range_with_len (first_made t n) (made_by t n),
      length-map (taken_by t n) nat_abs,
      length-take (count_taken t n) (drop (first_taken t n) t.taken),
    )

le_ones : {X Y : Type 0} (xs : List X) (ys : List Y) → length xs ≤ length ys → sum_of (λ x. pos 1) xs ≤ℤ sum_of (λ y. pos 1) ys
le_ones xs ys le = omega (arith, ints, ones xs, ones ys)

one_more : (g h : Bool) (made taken a b c d : ℤ) → (g ≡ true → h ≡ true) → taken ≤ℤ made → (a +ℤ b) ≤ℤ (c +ℤ d)
    → ((when g made +ℤ a) +ℤ (when h taken +ℤ b)) ≤ℤ ((when h made +ℤ c) +ℤ (when g taken +ℤ d))
one_more true true made taken a b c d within le rest = omega (arith, ints)
one_more true false made taken a b c d within le rest = absurd (false≢true (within refl))
one_more false true made taken a b c d within le rest = omega (arith, ints)
one_more false false made taken a b c d within le rest = omega (arith, ints)

-- the larger set gains what it makes and loses what it takes
gains : (G H : ℕ → Bool) (made taken : ℕ → ℤ) (ns : List ℕ) → ((n : ℕ) → G n ≡ true → H n ≡ true) → AllByRecursion (λ n. taken n ≤ℤ made n) ns
    → (sum_of (λ n. when (G n) (made n)) ns +ℤ sum_of (λ n. when (H n) (taken n)) ns) ≤ℤ (sum_of (λ n. when (H n) (made n)) ns +ℤ sum_of (λ n. when (G n) (taken n)) ns)
gains G H made taken [] within le = omega (arith, ints)
gains G H made taken (n ∷ ns) within le =
    one_more (G n) (H n) (made n) (taken n) (sum_of (λ m. when (G m) (made m)) ns) (sum_of (λ m. when (H m) (taken m)) ns) (sum_of (λ m. when (H m) (made m)) ns) (sum_of (λ m. when (G m) (taken m)) ns)
    (within n) le.0 (gains G H made taken ns within le.1)

compare : (g h : ℕ) (x y base made_g made_h taken_g taken_h : ℤ) → x ≡ pos g → y ≡ pos h → x +ℤ taken_g ≡ base +ℤ made_g → y +ℤ taken_h ≡ base +ℤ made_h → (made_g +ℤ taken_h) ≤ℤ (made_h +ℤ taken_g) → g ≤ h
compare g h x y base made_g made_h taken_g taken_h p q r s le = omega (arith, ints)

pub mesh_grows : {F P : Type 0} (k : Shape F P) (t : Tables) (p : Places) → 0 < k.arity → Plain k t p → Clear 1 (replacements_in t + 1) (FreshKept t)
    → (G H : ℕ → Bool) → Closed t G → Closed t H → ((n : ℕ) → G n ≡ true → H n ≡ true) → mesh_size k.arity t G ≤ mesh_size k.arity t H
mesh_grows k t p some plain fresh G H closed-g closed-h within =
    let order = ordered k t p some plain fresh in
    let one : ℕ → ℤ = λ c. pos 1 in
    let made : ℕ → ℤ = λ n. sum_of one (made_cells t n) in
    let taken : ℕ → ℤ = λ n. sum_of one (taken_cells t n) in
    compare (mesh_size k.arity t G) (mesh_size k.arity t H) (sum_of one (mesh_cells k.arity t G)) (sum_of one (mesh_cells k.arity t H)) (sum_of one (base_cells t))
    (sum_members t G made) (sum_members t H made) (sum_members t G taken) (sum_members t H taken)
    (ones (mesh_cells k.arity t G)) (ones (mesh_cells k.arity t H))
    (mesh_sum k.arity t order G one closed-g) (mesh_sum k.arity t order H one closed-h)
    (gains G H made taken (range_with_len 1 (replacements_in t)) within
    (all_counting (λ n. taken n ≤ℤ made n) 1 (replacements_in t) (λ n low high. le_ones (taken_cells t n) (made_cells t n) (let more = grows t n (plain.growth n low (omega arith)) in omega arith))))
