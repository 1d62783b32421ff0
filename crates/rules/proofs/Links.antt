-- Which cells replacements take: earlier ones, each of them once, and each by one replacement at most. Assumes nothing.
use Rattle.std.proofs.Common.{◌≡◌, ℕ, ◌+◌, ◌-◌, ◌<◌, ◌≤◌, true, eqb, length, get_or, drop, ℤ, pos, nat_abs, sym, ◌∙◌, ⊎_elim, arith}
use Rattle.std.specs.List.{AllByRecursion}
use Rattle.std.proofs.lemmas.List.Elements.{All-get_or, All-map, All-weaker, All-from_recursion, recursion_from_All}
use Rattle.std.proofs.lemmas.List.{length-map, length-take, get_or-map, get_or-take, get_or-drop}
use Rattle.std.proofs.lemmas.Int.{ints}
use Rattle.std.proofs.lemmas.Bool.{eqb-true, and_parts, cases_order}
use Rattle.tables.specs.Judging.{Clear}
use Rattle.tables.specs.Tables.{Tables}
use Rattle.rules.specs.Cells.{replacement, some, taken_cells, takes}
use Rattle.rules.specs.Rows.{replacements_in}
use Rattle.rules.specs.Links.{FreshKept}
use Rattle.rules.specs.Raw.{at, field}
use Rattle.rules.specs.Ranges.{before, first_made, taken_by, EarlierKept}
use Rattle.rules.specs.Values.{Numbered}
use Rattle.rules.proofs.Cells.{some_tells, replacement_tells}
use Rattle.rules.proofs.Ranges.{range_ends, ranges_apart}

-- where the numbers that replacement n takes begin, and how many they are
abbrev pub first_taken : Tables → ℕ → ℕ
first_taken t n = before 1 t.replacements (n - 1)

abbrev pub count_taken : Tables → ℕ → ℕ
count_taken t n = nat_abs (field t.replacements (n - 1) 1)

-- replacement n takes cell c, and its number stands at place j of the taken numbers
pub record TakenAt (t : Tables) (n c j : ℕ) : Type 0 where
  pub least : 1 ≤ n
  pub most : n ≤ replacements_in t
  pub from : first_taken t n ≤ j
  pub upto : j < first_taken t n + count_taken t n
  pub is : at t.taken j ≡ pos c
  pub earlier : c < first_made t n

taken_short : (t : Tables) (n q : ℕ) → q < length (taken_by t n) → q < count_taken t n
taken_short t n q lt = omega (arith, length-take (count_taken t n) (drop (first_taken t n) t.taken))

taken_at : (t : Tables) (n q : ℕ) → q < length (taken_by t n) → get_or (taken_by t n) q (pos 0) ≡ at t.taken (first_taken t n + q)
taken_at t n q lt = get_or-take (count_taken t n) (drop (first_taken t n) t.taken) q (pos 0) (taken_short t n q lt) ∙ get_or-drop (first_taken t n) t.taken q (pos 0)

natural_is : (z : ℤ) (c m : ℕ) → c ≡ nat_abs z → Numbered m z → (z ≡ pos c) × (c < m)
natural_is z c m e h = (omega (arith, ints), omega (arith, ints))

-- what stands at place q of replacement n's own list
taken_place : (t : Tables) (n c q : ℕ) → 1 ≤ n → n ≤ replacements_in t → EarlierKept t n → q < length (taken_cells t n) → c ≡ get_or (taken_cells t n) q 0 → TakenAt t n c (first_taken t n + q)
taken_place t n c q low high earlier lt e =
    let inside : q < length (taken_by t n) = omega (arith, length-map (taken_by t n) nat_abs) in
    let z : ℤ = get_or (taken_by t n) q (pos 0) in
    let is = natural_is z c (first_made t n) (e ∙ get_or-map nat_abs (taken_by t n) q (pos 0) 0 inside) (All-get_or (Numbered (first_made t n)) (taken_by t n) q (pos 0) inside (All-from_recursion (Numbered (first_made t n)) (taken_by t n) earlier)) in
    record {
      least = low;
      most = high;
      from = omega arith;
      upto = omega (arith, taken_short t n q inside);
      is = sym (taken_at t n q inside) ∙ is.0;
      earlier = is.1;
    }

-- no number stands twice
taken_apart : (t : Tables) (m n c i j : ℕ) → FreshKept t n → TakenAt t m c i → TakenAt t n c j → i < j → ⊥
taken_apart t m n c i j fresh x y lt = fresh i j y.from (omega (arith, range_ends 1 t.replacements n y.least)) lt (x.is ∙ sym y.is)

module _ (t : Tables) (earlier : Clear 1 (replacements_in t + 1) (EarlierKept t)) where
  pub takes_tells : (n c : ℕ) → takes t n c ≡ true → (j : ℕ) × TakenAt t n c j
  takes_tells n c e =
      let both = and_parts (replacement t n) (some (eqb c) (taken_cells t n)) e in
      let real = (replacement_tells t n).0 both.0 in
      let x = (some_tells (eqb c) (taken_cells t n)).0 both.1 in
      (first_taken t n + x.0, taken_place t n c x.0 real.0 real.1 (earlier n real.0 (omega arith)) x.1 (eqb-true c _ (x.2 0)))

  -- a taken cell comes before what its taker makes
  pub taken_before : (n : ℕ) → 1 ≤ n → n ≤ replacements_in t → AllByRecursion (λ c. c < first_made t n) (taken_cells t n)
  taken_before n low high =
      let numbered = All-from_recursion (Numbered (first_made t n)) (taken_by t n) (earlier n low (omega arith)) in
      recursion_from_All (λ c. c < first_made t n) (taken_cells t n)
      (All-map (λ c. c < first_made t n) nat_abs (taken_by t n)
      (All-weaker (Numbered (first_made t n)) (λ z. nat_abs z < first_made t n) (λ z h. omega (arith, ints)) (taken_by t n) numbered))

  module _ (fresh : Clear 1 (replacements_in t + 1) (FreshKept t)) where
    takers_apart : (m n c : ℕ) → takes t m c ≡ true → takes t n c ≡ true → m < n → ⊥
    takers_apart m n c x y lt =
        let a = takes_tells m c x in
        let b = takes_tells n c y in
        taken_apart t m n c a.0 b.0 (fresh n b.1.least (omega (arith, b.1.most))) a.1 b.1 (omega (arith, ranges_apart 1 t.replacements m n a.1.least lt, a.1.upto, b.1.from))

    -- a cell has one taker at most
    pub one_taker : (m n c : ℕ) → takes t m c ≡ true → takes t n c ≡ true → m ≡ n
    one_taker m n c x y = ⊎_elim (λ e. e) (λ o. ⊎_elim (λ lt. absurd (takers_apart m n c x y lt)) (λ gt. absurd (takers_apart n m c y x gt)) o) (cases_order m n)

    -- and stands once in its list
    pub taken_once : (n c i j : ℕ) → 1 ≤ n → n ≤ replacements_in t → i < j → j < length (taken_cells t n) → eqb c (get_or (taken_cells t n) i 0) ≡ true → eqb c (get_or (taken_cells t n) j 0) ≡ true → ⊥
    taken_once n c i j low high lt inside p q =
        let here = earlier n low (omega arith) in
        taken_apart t n n c (first_taken t n + i) (first_taken t n + j) (fresh n low (omega arith)) (taken_place t n c i low high here (omega arith) (eqb-true c _ p)) (taken_place t n c j low high here inside (eqb-true c _ q)) (omega arith)
