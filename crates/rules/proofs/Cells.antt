-- Which cells replacements make: each cell that is no base cell is made by one, and no base cell is made. Assumes nothing.
use Rattle.std.proofs.Common.{◌≡◌, ℕ, zero, suc, ◌+◌, ◌-◌, ◌<◌, ◌≤◌, Bool, true, eqb, leb, List, length, nat_abs, Decides, sym, refl, ap, ◌∙◌, subst, ⊎_elim, arith}
use Rattle.std.specs.List.{range_with_len, HoldsAt}
use Rattle.std.proofs.lemmas.List.FromFn.{length-range_with_len, get_or-range_with_len}
use Rattle.std.proofs.lemmas.Bool.{eqb-true, eq-eqb, leb-true, le-leb, and_parts, and_from, cases_lt, cases_order}
use Rattle.std.proofs.lemmas.Bool.Decides.{Decides-by_or}
use Rattle.tables.specs.Tables.{Tables}
use Rattle.rules.specs.Cells.{replacement, some, made_cells, makes}
use Rattle.rules.specs.Rows.{cells_in, replacements_in}
use Rattle.rules.specs.Raw.{field}
use Rattle.rules.specs.Ranges.{before, first_made}
use Rattle.rules.proofs.Ranges.{before_rises, range_ends, ranges_apart}

-- some element passes where there is a place of one that does
pub some_tells : {X : Type 0} (p : X → Bool) (xs : List X) → Decides (some p xs) ((k : ℕ) × (k < length xs) × HoldsAt (λ x. p x ≡ true) xs k)
some_tells p xs = Decides-by_or p (λ x. p x ≡ true) (some p) (λ x. (λ e. e, λ e. e)) refl (λ x ys. refl) xs

-- a number of a stretch of numbers that passes
pub some_counting : (p : ℕ → Bool) (a n c : ℕ) → a ≤ c → c < a + n → p c ≡ true → some p (range_with_len a n) ≡ true
some_counting p a n c low high passes =
    let e : a + (c - a) ≡ c = omega arith in
    (some_tells p (range_with_len a n)).1 (c - a, omega (arith, length-range_with_len a n), λ d. subst (λ (x : ℕ). p x ≡ true) (sym (get_or-range_with_len a n (c - a) d (omega arith) ∙ e)) passes)

-- a number stands in a stretch of numbers
pub counting_tells : (c a n : ℕ) → Decides (some (eqb c) (range_with_len a n)) ((a ≤ c) × (c < a + n))
counting_tells c a n = (
  λ e.
      let x = (some_tells (eqb c) (range_with_len a n)).0 e in
      let lt : x.0 < n = omega (arith, x.1, length-range_with_len a n) in
      let is : c ≡ a + x.0 = eqb-true c _ (x.2 0) ∙ get_or-range_with_len a n x.0 0 lt in
      (omega arith, omega arith),
  λ h. some_counting (eqb c) a n c h.0 h.1 (eq-eqb c c refl),
)

pub replacement_tells : (t : Tables) (n : ℕ) → Decides (replacement t n) ((1 ≤ n) × (n ≤ replacements_in t))
replacement_tells t n = (
  λ e. let both = and_parts (leb 1 n) (leb n (replacements_in t)) e in (leb-true 1 n both.0, leb-true n (replacements_in t) both.1),
  λ h. and_from (leb 1 n) (leb n (replacements_in t)) (le-leb 1 n h.0) (le-leb n (replacements_in t) h.1),
)

-- how many cells replacement n makes
abbrev pub made_by : Tables → ℕ → ℕ
made_by t n = nat_abs (field t.replacements (n - 1) 2)

-- replacement n makes the cells of its range
pub record Makes (t : Tables) (n c : ℕ) : Type 0 where
  pub least : 1 ≤ n
  pub most : n ≤ replacements_in t
  pub from : first_made t n ≤ c
  pub upto : c < first_made t n + made_by t n

pub makes_tells : (t : Tables) (n c : ℕ) → Decides (makes t n c) (Makes t n c)
makes_tells t n c =
    let real = replacement_tells t n in
    let inside = counting_tells c (first_made t n) (made_by t n) in (
      λ e.
          let both = and_parts (replacement t n) (some (eqb c) (made_cells t n)) e in
          let r = real.0 both.0 in
          let i = inside.0 both.1 in
          record { least = r.0; most = r.1; from = i.0; upto = i.1 },
      λ m. and_from (replacement t n) (some (eqb c) (made_cells t n)) (real.1 (m.least, m.most)) (inside.1 (m.from, m.upto)),
    )

-- a cell has one maker at most
makers_apart : (t : Tables) (m n c : ℕ) → Makes t m c → Makes t n c → m < n → ⊥
makers_apart t m n c x y lt = omega (arith, ranges_apart 2 t.replacements m n x.least lt)

pub one_maker : (t : Tables) (m n c : ℕ) → Makes t m c → Makes t n c → m ≡ n
one_maker t m n c x y = ⊎_elim (λ e. e) (λ o. ⊎_elim (λ lt. absurd (makers_apart t m n c x y lt)) (λ gt. absurd (makers_apart t n m c y x gt)) o) (cases_order m n)

-- a cell below the end of the first n ranges that is no base cell is made by one of the first n
maker_among : (t : Tables) (c n : ℕ) → n ≤ replacements_in t → nat_abs t.base ≤ c → c < nat_abs t.base + before 2 t.replacements n → (m : ℕ) × Makes t m c
maker_among t c zero le ge lt = absurd (omega arith)
maker_among t c (suc n) le ge lt =
    ⊎_elim
    (λ low. maker_among t c n (omega arith) ge low)
    (λ high.
    let e : suc n - 1 ≡ n = omega arith in
    let first : before 2 t.replacements (suc n - 1) ≡ before 2 t.replacements n = ap (before 2 t.replacements) e in
    (suc n, record { least = omega arith; most = le; from = omega arith; upto = omega (arith, range_ends 2 t.replacements (suc n) (omega arith)) }))
    (cases_lt c (nat_abs t.base + before 2 t.replacements n))

module _ (k : ℕ) (t : Tables) (adds_up : nat_abs t.base + before 2 t.replacements (replacements_in t) ≡ cells_in k t) where
  pub maker : (c : ℕ) → nat_abs t.base ≤ c → c < cells_in k t → (m : ℕ) × Makes t m c
  maker c ge lt = maker_among t c (replacements_in t) (omega arith) ge (omega arith)

  -- the cells of each range are cells of the table
  pub range_within : (n : ℕ) → 1 ≤ n → n ≤ replacements_in t → first_made t n + made_by t n ≤ cells_in k t
  range_within n some le = omega (arith, range_ends 2 t.replacements n some, before_rises 2 t.replacements n (replacements_in t) le)
