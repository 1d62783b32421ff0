-- What the mesh of a closed set sums up to, whatever cells count: the coarse mesh, and what its members make less what they take.
-- Assumes nothing.
use Rattle.std.proofs.Common.{◌≡◌, ℕ, ◌+◌, ◌<◌, ◌≤◌, Bool, true, false, not, ◌&&◌, ◌||◌, eqb, List, ℤ, pos, ◌+ℤ◌, nat_abs, sym, refl, ap, ◌∙◌, ⊎_elim, arith}
use lib.IntN.{+ℤ_comm}
use Rattle.std.specs.List.{range_with_len, AllByRecursion}
use Rattle.std.proofs.ByRecursion.{All-weaker}
use Rattle.std.proofs.lemmas.Int.{ints}
use Rattle.std.proofs.lemmas.Bool.{cases_lt, and_parts, eqb-true, or_left, or_right, false≢true}
use Rattle.tables.specs.Judging.{Clear}
use Rattle.tables.specs.Tables.{Tables}
use Rattle.rules.specs.Cells.{replacement, base_cells, made_cells, taken_cells, some, makes, takes}
use Rattle.rules.specs.Rows.{cells_in, replacements_in}
use Rattle.rules.specs.Links.{FreshKept}
use Rattle.rules.specs.Ranges.{before, first_made, EarlierKept}
use Rattle.rules.proofs.Cells.{counting_tells, replacement_tells, made_by, makes_tells, one_maker, maker, range_within}
use Rattle.rules.proofs.Links.{takes_tells, taken_before, one_taker, taken_once}
use Rattle.sets.specs.Sets.{Closed, some_member, in_mesh, mesh_cells}
use Rattle.sets.proofs.Sets.{member_tells}
use Rattle.sets.proofs.Sums.{sum_of, sum_like, sum_zero, all_of, all_counting, sum_add, sum_swap, when, sum_kept, Lone, sum_lone, lone_counting, sum_listed}

-- a cell of the mesh or taken by a member is a base cell or made by one, and never both
four : (base made taken : Bool) (v : ℤ) → (taken ≡ true → (base || made) ≡ true) → (base ≡ true → made ≡ true → ⊥)
    → when ((base || made) && not taken) v +ℤ when taken v ≡ when base v +ℤ when made v
four true true taken v covered apart = absurd (apart refl refl)
four true false true v covered apart = +ℤ_comm (pos 0) v
four true false false v covered apart = refl
four false true true v covered apart = refl
four false true false v covered apart = +ℤ_comm v (pos 0)
four false false true v covered apart = absurd (false≢true (covered refl))
four false false false v covered apart = refl

-- what the members' own lists of cells sum up to
abbrev pub sum_members : Tables → (ℕ → Bool) → (ℕ → ℤ) → ℤ
sum_members t H each = sum_of (λ n. when (H n) (each n)) (range_with_len 1 (replacements_in t))

-- Lists of cells below bound, one for each replacement; no number stands twice in a list, and none in two lists.
record Owned (t : Tables) (bound : ℕ) (list : ℕ → List ℕ) : Type 0 where
  below : (n : ℕ) → 1 ≤ n → n ≤ replacements_in t → AllByRecursion (λ c. c < bound) (list n)
  once : (n c : ℕ) → 1 ≤ n → n ≤ replacements_in t → Lone (eqb c) (list n) 0
  one : (c m n : ℕ) → (replacement t m && some (eqb c) (list m)) ≡ true → (replacement t n && some (eqb c) (list n)) ≡ true → m ≡ n

-- then the members' lists sum up to the cells that stand in one of them
by_member : (t : Tables) (bound : ℕ) (list : ℕ → List ℕ) → Owned t bound list → (H : ℕ → Bool) (v : ℕ → ℤ)
    → sum_members t H (λ n. sum_of v (list n)) ≡ sum_of (λ c. when (some_member t H (λ n. replacement t n && some (eqb c) (list n))) (v c)) (range_with_len 0 bound)
by_member t bound list owned H v =
    let cells : List ℕ = range_with_len 0 bound in
    let reps : List ℕ = range_with_len 1 (replacements_in t) in
    let owns : ℕ → ℕ → Bool = λ n c. replacement t n && some (eqb c) (list n) in
    sum_like (λ n. when (H n) (sum_of v (list n))) (λ n. sum_of (λ c. when (H n && owns n c) (v c)) cells) reps
    (all_counting _ 1 (replacements_in t) (λ n low high. one (H n) n low (omega arith)))
    ∙ sum_swap (λ n c. when (H n && owns n c) (v c)) reps cells
    ∙ sum_like (λ c. sum_of (λ n. when (H n && owns n c) (v c)) reps) (λ c. when (some_member t H (λ n. owns n c)) (v c)) cells
    (all_of _ (λ c. sym (sum_lone (λ n. H n && owns n c) (v c) 0 reps (lone_counting (λ n. H n && owns n c) 1 (replacements_in t) (λ i j x y. owned.one c i j (and_parts (H i) (owns i c) x).1 (and_parts (H j) (owns j c) y).1)))) cells)
  where
    one : (h : Bool) (n : ℕ) → 1 ≤ n → n ≤ replacements_in t → when h (sum_of v (list n)) ≡ sum_of (λ c. when (h && (replacement t n && some (eqb c) (list n))) (v c)) (range_with_len 0 bound)
    one true n low high =
        sum_listed v (list n) bound (λ c. owned.once n c low high) (owned.below n low high)
        ∙ sum_like (λ c. when (some (eqb c) (list n)) (v c)) (λ c. when (replacement t n && some (eqb c) (list n)) (v c)) (range_with_len 0 bound)
        (all_of _ (λ c. sym (ap (λ b. when (b && some (eqb c) (list n)) (v c)) ((replacement_tells t n).1 (low, high)))) (range_with_len 0 bound))
    one false n low high = sym (sum_zero (λ c. pos 0) (range_with_len 0 bound) (all_of _ (λ c. refl) (range_with_len 0 bound)))

-- What the tables have to keep for that: base cells and made cells are all the cells, replacements take earlier cells, and none twice.
pub record Ordered (k : ℕ) (t : Tables) : Type 0 where
  pub adds_up : nat_abs t.base + before 2 t.replacements (replacements_in t) ≡ cells_in k t
  pub earlier : Clear 1 (replacements_in t + 1) (EarlierKept t)
  pub fresh : Clear 1 (replacements_in t + 1) (FreshKept t)

lone_stretch : (c a n : ℕ) → Lone (eqb c) (range_with_len a n) 0
lone_stretch c a n = lone_counting (eqb c) a n (λ i j x y. sym (eqb-true c i x) ∙ eqb-true c j y)

module _ (k : ℕ) (t : Tables) (ordered : Ordered k t) where
  made_owned : Owned t (cells_in k t) (made_cells t)
  made_owned = record {
    below = λ n low high. all_counting _ (first_made t n) (made_by t n) (λ c ge lt. omega (arith, range_within k t ordered.adds_up n low high));
    once = λ n c low high. lone_stretch c (first_made t n) (made_by t n);
    one = λ c m n x y. one_maker t m n c ((makes_tells t m c).0 x) ((makes_tells t n c).0 y);
  }

  taken_owned : Owned t (cells_in k t) (taken_cells t)
  taken_owned = record {
    below = λ n low high. All-weaker (λ c. c < first_made t n) (λ c. c < cells_in k t) (λ c lt. omega (arith, range_within k t ordered.adds_up n low high)) (taken_cells t n) (taken_before t ordered.earlier n low high);
    once = λ n c low high i j. taken_once t ordered.earlier ordered.fresh n c i j low high;
    one = λ c m n. one_taker t ordered.earlier ordered.fresh m n c;
  }

  -- what a member takes is a base cell or made by a member: only here it matters that the set is closed
  there_if_taken : (H : ℕ → Bool) (c : ℕ) → Closed t H → some_member t H (λ n. takes t n c) ≡ true → (some (eqb c) (base_cells t) || some_member t H (λ n. makes t n c)) ≡ true
  there_if_taken H c closed e =
      let taker = (member_tells t H (λ n. takes t n c)).0 e in
      let taken = takes_tells t ordered.earlier taker.0 c taker.1.has in
      ⊎_elim
      (λ lt. or_left (some (eqb c) (base_cells t)) _ ((counting_tells c 0 (nat_abs t.base)).1 (omega arith, omega arith)))
      (λ ge.
      let made = maker k t ordered.adds_up c ge (omega (arith, taken.1.earlier, range_within k t ordered.adds_up taker.0 taken.1.least taken.1.most)) in
      let makes_it : makes t made.0 c ≡ true = (makes_tells t made.0 c).1 made.1 in
      let needed = closed taker.0 made.0 taker.1.held (record { cell = c; taken = taker.1.has; made = makes_it }) in
      or_right (some (eqb c) (base_cells t)) _ ((member_tells t H (λ n. makes t n c)).1 (made.0, record { least = made.1.least; most = made.1.most; held = needed; has = makes_it })))
      (cases_lt c (nat_abs t.base))

  -- no base cell is made
  apart : (H : ℕ → Bool) (c : ℕ) → some (eqb c) (base_cells t) ≡ true → some_member t H (λ n. makes t n c) ≡ true → ⊥
  apart H c base made =
      let x = (member_tells t H (λ n. makes t n c)).0 made in
      omega (arith, ((counting_tells c 0 (nat_abs t.base)).0 base).1, ((makes_tells t x.0 c).0 x.1.has).from)

  module _ (H : ℕ → Bool) (v : ℕ → ℤ) (closed : Closed t H) where
    -- the mesh and what members take, beside the coarse mesh and what members make
    pub mesh_sum : sum_of v (mesh_cells k t H) +ℤ sum_members t H (λ n. sum_of v (taken_cells t n)) ≡ sum_of v (base_cells t) +ℤ sum_members t H (λ n. sum_of v (made_cells t n))
    mesh_sum =
        let cells : List ℕ = range_with_len 0 (cells_in k t) in
        let base : ℕ → ℤ = λ c. when (some (eqb c) (base_cells t)) (v c) in
        let made : ℕ → ℤ = λ c. when (some_member t H (λ n. makes t n c)) (v c) in
        let taken : ℕ → ℤ = λ c. when (some_member t H (λ n. takes t n c)) (v c) in
        let here : ℕ → ℤ = λ c. when (in_mesh t H c) (v c) in
        let left : sum_of v (mesh_cells k t H) +ℤ sum_members t H (λ n. sum_of v (taken_cells t n)) ≡ sum_of here cells +ℤ sum_of taken cells
        = (λ i. sum_kept (in_mesh t H) v cells i +ℤ by_member t (cells_in k t) (taken_cells t) taken_owned H v i) in
        let right : sum_of v (base_cells t) +ℤ sum_members t H (λ n. sum_of v (made_cells t n)) ≡ sum_of base cells +ℤ sum_of made cells
        = (λ i. sum_listed v (base_cells t) (cells_in k t) (λ c. lone_stretch c 0 (nat_abs t.base)) (all_counting _ 0 (nat_abs t.base) (λ c ge lt. omega (arith, ordered.adds_up))) i +ℤ by_member t (cells_in k t) (made_cells t) made_owned H v i) in
        left
        ∙ sym (sum_add here taken cells)
        ∙ sum_like (λ c. here c +ℤ taken c) (λ c. base c +ℤ made c) cells (all_of _ (λ c. four (some (eqb c) (base_cells t)) (some_member t H (λ n. makes t n c)) (some_member t H (λ n. takes t n c)) (v c) (there_if_taken H c closed) (apart H c)) cells)
        ∙ sum_add base made cells
        ∙ sym right

    cancel : (a b c d : ℤ) → a +ℤ b ≡ c +ℤ d → b ≡ d → a ≡ c
    cancel a b c d h e = omega (arith, ints)

    -- what each replacement keeps, the mesh of a closed set keeps
    pub mesh_keeps : ((n : ℕ) → 1 ≤ n → n ≤ replacements_in t → sum_of v (made_cells t n) ≡ sum_of v (taken_cells t n)) → sum_of v (mesh_cells k t H) ≡ sum_of v (base_cells t)
    mesh_keeps each =
        cancel (sum_of v (mesh_cells k t H)) (sum_members t H (λ n. sum_of v (taken_cells t n))) (sum_of v (base_cells t)) (sum_members t H (λ n. sum_of v (made_cells t n))) mesh_sum
        (sum_like (λ n. when (H n) (sum_of v (taken_cells t n))) (λ n. when (H n) (sum_of v (made_cells t n))) (range_with_len 1 (replacements_in t)) (all_counting _ 1 (replacements_in t) (λ n low high. ap (when (H n)) (sym (each n low (omega arith))))))
