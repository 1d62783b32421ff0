-- The worked hierarchy keeps the rules, and its sets and meshes are what is said of them. Assumes nothing.
use Rattle.std.proofs.Common.{◌≡◌, ℕ, zero, suc, ◌+◌, ◌-◌, ◌*◌, ◌<◌, ◌≤◌, Bool, true, false, cond, not, ◌||◌, eqb, List, [], ◌∷◌, drop, ℤ, pos, negsuc, ◌+ℤ◌, neg_ℤ, nat_abs, refl, ap, ◌∙◌, subst, arith}
use lib.Signed.{le_z, lt_z}
use Rattle.std.specs.List.{range_with_len, AllByRecursion}
use Rattle.std.proofs.lemmas.List.FromFn.{length-range_with_len, get_or-range_with_len}
use Rattle.std.proofs.ByRecursion.{All-get_or, All-weaker, All-take, All-drop}
use Rattle.std.proofs.lemmas.Int.{ints}
use Rattle.std.proofs.lemmas.Bool.{eq-eqb, not-false, or_parts, false≢true}
use Rattle.kinds.specs.declared.triangle.Edge.{Edge}
use Rattle.kinds.specs.Facets.{bare}
use Rattle.kinds.specs.Triangles.{triangles, same_edge}
use Rattle.tables.specs.Judging.{Clear}
use Rattle.tables.specs.Tables.{Counted, own_places}
use Rattle.rules.specs.Cells.{some, facets_of}
use Rattle.rules.specs.Links.{FreshKept, RimKept}
use Rattle.rules.specs.Raw.{at, cell}
use Rattle.rules.specs.Hierarchies.{MultiTriangulation}
use Rattle.rules.specs.Ranges.{EarlierKept}
use Rattle.rules.specs.Values.{Coordinate, Numbered, CoordinatesKept, ErrorKept, CornersKept, SoundnessKept, GrowthKept}
use Rattle.rules.proofs.Cells.{some_counting, counting_tells, makes_tells}
use Rattle.rules.proofs.Ranges.{before_rises}
use Rattle.sets.specs.Examples.{square, members, none, all, point}
use Rattle.sets.specs.Level.{OffFacets}
use Rattle.sets.specs.Sets.{Needs, Closed, mesh_cells}

-- ---- what it needs
pub needs_none : (m : ℕ) → Needs square 1 m → ⊥
needs_none m x =
    let base : x.cell < 2 = ((counting_tells x.cell 0 2).0 x.taken).1 in
    let made : 2 ≤ x.cell = omega (arith, ((makes_tells square m x.cell).0 x.made).from) in
    omega arith

pub not_closed : Needs square 2 1 → Closed square (members (2 ∷ [])) → ⊥
not_closed x closed = false≢true (closed 2 1 refl x)

pub none_closed : Closed square none
none_closed n m e x = absurd (false≢true e)

pub first_closed : Closed square (members (1 ∷ []))
first_closed n m e x = let is : n ≡ 1 = omega (arith, (counting_tells n 1 1).0 e) in absurd (needs_none m (subst (λ (q : ℕ). Needs square q m) is x))

pub all_closed : Closed square all
all_closed n m e x =
    let made = (makes_tells square m x.cell).0 x.made in
    (counting_tells m 1 4).1 (made.least, omega (arith, made.most))

-- ---- a point off facets
off_by : {X : Type 0} (p : X → Bool) (xs : List X) → some p xs ≡ false → AllByRecursion (λ x. p x ≡ false) xs
off_by p [] e = tt
off_by p (x ∷ xs) e = let both = or_parts (p x) (some p xs) e in (both.0, off_by p xs both.1)

pub off_coarse : OffFacets triangles square point (mesh_cells 3 square none)
off_coarse = off_by (λ s. triangles.meets square.coordinates (bare s) point) (facets_of triangles square (mesh_cells 3 square none)) refl

pub off_finest : OffFacets triangles square point (mesh_cells 3 square all)
off_finest = off_by (λ s. triangles.meets square.coordinates (bare s) point) (facets_of triangles square (mesh_cells 3 square all)) refl

-- ---- the rules
clear_listed : (K : ℕ → Type 0) (a n : ℕ) → AllByRecursion K (range_with_len a n) → Clear a (a + n) K
clear_listed K a n h q ge lt =
    let inside : q - a < n = omega arith in
    let e : a + (q - a) ≡ q = omega arith in
    subst K (get_or-range_with_len a n (q - a) 0 inside ∙ e) (All-get_or K (range_with_len a n) (q - a) 0 (omega (arith, length-range_with_len a n)) h)

counts : (q : ℕ) → Counted 3 square (own_places square) q
counts zero = record { vertices = 8; whole = refl; some = omega arith; most = omega arith; room = omega arith }
counts (suc zero) = record { cells = 16; whole = refl; most = omega arith; some_base = omega (arith, ints); natural = omega (arith, ints); adds_up = refl; room = omega arith }
counts (suc (suc zero)) = record { replacements = 4; whole = refl; most = omega arith; room = omega arith }
counts (suc (suc (suc zero))) = record { most = omega arith; natural = omega (arith, ints); adds_up = refl; room = omega arith }
counts (suc (suc (suc (suc q)))) = tt

coordinates : Clear 0 8 (CoordinatesKept square)
coordinates v ge lt =
    let vs : List ℤ = square.coordinates in
    let out : ℤ → Bool = λ z. lt_z z (negsuc 499999) || lt_z (pos 500000) z in
    let inside : AllByRecursion Coordinate vs = All-weaker (λ z. out z ≡ false) Coordinate (λ z e. let both = or_parts (lt_z z (negsuc 499999)) (lt_z (pos 500000) z) e in (omega (arith, ints, both.0), omega (arith, ints, both.1))) vs (off_by out vs refl) in
    (All-get_or Coordinate vs (3 * v + 0) (pos 0) (omega arith) inside, All-get_or Coordinate vs (3 * v + 1) (pos 0) (omega arith) inside, All-get_or Coordinate vs (3 * v + 2) (pos 0) (omega arith) inside)

errors : Clear 1 5 (ErrorKept square)
errors = clear_listed (ErrorKept square) 1 4 (omega (arith, ints))

corners : Clear 0 16 (CornersKept 3 square)
corners c ge lt =
    let out : ℤ → Bool = λ z. lt_z z (pos 0) || le_z (pos 8) z in
    let inside : AllByRecursion (Numbered 8) square.corners = All-weaker (λ z. out z ≡ false) (Numbered 8) (λ z e. let both = or_parts (lt_z z (pos 0)) (le_z (pos 8) z) e in (omega (arith, ints, both.0), omega (arith, ints, both.1))) square.corners (off_by out square.corners refl) in
    All-take (Numbered 8) 3 (drop (3 * c) square.corners) (All-drop (Numbered 8) (3 * c) square.corners inside)

sound : Clear 0 16 (SoundnessKept triangles.sound 3 square)
sound =
    let turns : ℕ → Bool = λ c. triangles.sound square.coordinates (cell 3 square.corners c) in
    clear_listed (SoundnessKept triangles.sound 3 square) 0 16 (All-weaker (λ c. not (turns c) ≡ false) (λ c. turns c ≡ true) (λ c e. not-false (turns c) e) (range_with_len 0 16) (off_by (λ c. not (turns c)) (range_with_len 0 16) refl))

growth : Clear 1 5 (GrowthKept square)
growth = clear_listed (GrowthKept square) 1 4 (omega (arith, ints))

earlier : Clear 1 5 (EarlierKept square)
earlier = clear_listed (EarlierKept square) 1 4 (omega (arith, ints))

fresh : Clear 1 5 (FreshKept square)
fresh n low high i j from upto lt e =
    let number : ℕ → ℕ = λ q. nat_abs (at square.taken q) in
    let same : ℕ → ℕ → Bool = λ b a. eqb (number a) (number b) in
    let again : some (λ b. some (same b) (range_with_len 0 b)) (range_with_len 0 6) ≡ true
    = some_counting (λ b. some (same b) (range_with_len 0 b)) 0 6 j (omega arith) (omega (arith, before_rises 1 square.replacements n 4 (omega arith)))
    (some_counting (same j) 0 j i (omega arith) (omega arith) (eq-eqb (number i) (number j) (ap nat_abs e))) in
    false≢true again

-- what an edge counts towards the signed count of f
abbrev edge : Edge → ℕ → ℕ → ℤ
edge f u v = cond (same_edge (record { low = record { 0 = pos u }; high = record { 0 = pos v } }) f) (pos 1) (pos 0)

-- in a ring of four triangles the spokes cancel, and so does the edge between two triangles
ring : (a b c d e g h i : ℤ) → a +ℤ (b +ℤ (neg_ℤ c +ℤ (d +ℤ (e +ℤ (neg_ℤ b +ℤ (g +ℤ (h +ℤ (neg_ℤ e +ℤ (neg_ℤ i +ℤ (c +ℤ (neg_ℤ h +ℤ pos 0))))))))))) ≡ a +ℤ (d +ℤ (g +ℤ neg_ℤ i))
ring a b c d e g h i = omega (arith, ints)

pair : (a d g i j : ℤ) → a +ℤ (d +ℤ (g +ℤ neg_ℤ i)) ≡ a +ℤ (d +ℤ (neg_ℤ j +ℤ (j +ℤ (g +ℤ (neg_ℤ i +ℤ pos 0)))))
pair a d g i j = omega (arith, ints)

pair_across : (a d g i j : ℤ) → a +ℤ (d +ℤ (g +ℤ neg_ℤ i)) ≡ j +ℤ (a +ℤ (d +ℤ (neg_ℤ j +ℤ (g +ℤ (neg_ℤ i +ℤ pos 0)))))
pair_across a d g i j = omega (arith, ints)

rim_first : RimKept triangles square 1
rim_first f = ring (edge f 0 1) (edge f 1 4) (edge f 0 4) (edge f 1 2) (edge f 2 4) (edge f 2 3) (edge f 3 4) (edge f 0 3) ∙ pair (edge f 0 1) (edge f 1 2) (edge f 2 3) (edge f 0 3) (edge f 0 2)

rim_fourth : RimKept triangles square 4
rim_fourth f = ring (edge f 4 5) (edge f 5 7) (edge f 4 7) (neg_ℤ (edge f 1 5)) (edge f 1 7) (edge f 1 6) (edge f 6 7) (edge f 4 6) ∙ pair_across (edge f 4 5) (neg_ℤ (edge f 1 5)) (edge f 1 6) (edge f 4 6) (edge f 1 4)

rim : Clear 1 5 (RimKept triangles square)
rim = clear_listed (RimKept triangles square) 1 4 (rim_first, ((λ f. omega (arith, ints)), ((λ f. omega (arith, ints)), (rim_fourth, tt))))

pub kept : MultiTriangulation triangles square
kept = ((λ q ge lt. counts q), (coordinates, (errors, (corners, (sound, (growth, (earlier, (fresh, (rim, tt)))))))))
