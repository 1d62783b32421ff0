-- What the plain rules give to those who build on them. Assumes nothing.
use Rattle.std.proofs.Common.{◌≡◌, ℕ, zero, suc, ◌+◌, ◌-◌, ◌*◌, ◌/◌, ◌<◌, ◌≤◌, Bool, true, cond, List, length, get_or, take, drop, ℤ, pos, negsuc, ◌<ℤ◌, is_some, Some, None, sym, ap, ◌∙◌, subst, ⊎_elim, mul_comm, mul-le-mul_left, le-div_iff_mul-le, mul-add, arith}
use native.Mathlib.Nat.{div-eq_of_eq-mul_right}
use Rattle.std.proofs.ByRecursion.{All-append, All-get_or, All-weaker}
use Rattle.std.proofs.lemmas.List.{get_or-take, get_or-drop, length-take, length-take-le, length-drop}
use Rattle.std.proofs.lemmas.Int.{ints}
use Rattle.std.proofs.lemmas.Bool.{cases_lt, lt-ltb}
use Rattle.std.specs.List.{range_with_len, flat_map, AllByRecursion}
use Rattle.kinds.specs.declared.places.Spot.{Spot}
use Rattle.kinds.specs.Places.{spot}
use Rattle.kinds.specs.Shapes.{Shape}
use Rattle.owners.specs.Owners.{cells_made, count_of}
use Rattle.rules.specs.Rows.{cells_in, replacements_in}
use Rattle.rules.specs.Raw.{at, cell, field}
use Rattle.rules.specs.Ranges.{before, first_made, taken_by}
use Rattle.rules.specs.Values.{Numbered}
use Rattle.rules.proofs.Cells.{range_within, replacement_tells}
use Rattle.rules.proofs.Ranges.{before_rises, range_ends, cells_add_up, lists_add_up}
use Rattle.rules.proofs.Rows.{Plain}
use Rattle.tables.specs.declared.contents.Places.{Places}
use Rattle.tables.specs.Tables.{Tables, CellsCounted, ReplacementsCounted, TakenCounted}
use Rattle.hierarchy.specs.Derived.{made_corners, RimsFit, BoxesReady}
use Rattle.hierarchy.proofs.Cells.{run_of_cells}

-- ---- numbers
wider : (z : ℤ) (a b : ℕ) → a ≤ b → Numbered a z → Numbered b z
wider z a b le h = (h.0, omega (arith, ints, h.1))

all_wider : (a b : ℕ) → a ≤ b → (zs : List ℤ) → AllByRecursion (Numbered a) zs → AllByRecursion (Numbered b) zs
all_wider a b le zs h = All-weaker (Numbered a) (Numbered b) (λ z x. wider z a b le x) zs h

-- a number of a vertex stands somewhere
spotted : (vs : List ℤ) (z : ℤ) → Numbered (length vs / 3) z → is_some (spot vs z) ≡ true
spotted vs (pos n) h =
    ap (λ (b : Bool). is_some {T = Spot} (cond b (Some (record { x = get_or vs (3 * n) (pos 0); y = get_or vs (3 * n + 1) (pos 0); z = get_or vs (3 * n + 2) (pos 0) })) None)) (lt-ltb (3 * n + 2) (length vs) (omega (arith, ints, h.1)))
spotted vs (negsuc n) h = absurd (omega (arith, ints, h.0))

module _ {F P : Type 0} (k : Shape F P) (t : Tables) (p : Places) (some : 0 < k.arity) (plain : Plain k t p) where
  abbrev reps : ℕ
  reps = replacements_in t

  abbrev a : ℕ
  a = k.arity

  cells_counted : CellsCounted a t p
  cells_counted = plain.counted 1 (omega arith) (omega arith)

  pub adds_up : cells_made t ≡ cells_in a t
  adds_up = cells_add_up a t p some cells_counted

  whole : length t.corners ≡ a * cells_in a t
  whole = cells_counted.whole ∙ ap (λ (n : ℕ). a * n) (sym (div-eq_of_eq-mul_right some cells_counted.whole))

  pub corners_room : length t.corners ≤ p.corners
  corners_room = cells_counted.room

  pub few_cells : cells_made t ≤ 16384
  few_cells = omega (arith, adds_up, div-eq_of_eq-mul_right some cells_counted.whole, cells_counted.most)

  pub few : reps ≤ 4096
  few = let c : ReplacementsCounted t p = plain.counted 2 (omega arith) (omega arith) in omega (arith, c.whole, c.most)

  taken_counted : TakenCounted t p
  taken_counted = plain.counted 3 (omega arith) (omega arith)

  pub short : length t.taken ≤ 16384
  short = taken_counted.most

  pub listed : before 1 t.replacements reps ≡ length t.taken
  listed = lists_add_up t p taken_counted

  grows : (i : ℕ) → i < reps → (0 < count_of 1 t.replacements i) × (count_of 1 t.replacements i < count_of 2 t.replacements i)
  grows i h =
      let e : i + 1 - 1 ≡ i = omega arith in
      let g = subst (λ (j : ℕ). (pos 0 <ℤ field t.replacements j 1) × (field t.replacements j 1 <ℤ field t.replacements j 2)) e (plain.growth (i + 1) (omega arith) (omega arith)) in
      (omega (arith, ints, g.0), omega (arith, ints, g.0, g.1))

  pub takes : (i : ℕ) → i < reps → 0 < count_of 1 t.replacements i
  takes i h = (grows i h).0

  -- ---- taken numbers
  lists_known : (n : ℕ) → 1 ≤ n → n ≤ reps → AllByRecursion (Numbered (cells_made t)) (taken_by t n)
  lists_known n low high = all_wider (first_made t n) (cells_made t) (omega (arith, before_rises 2 t.replacements (n - 1) reps (omega arith))) (taken_by t n) (plain.earlier n low (omega arith))

  -- the list in which a place stands
  owner : (n j : ℕ) → j < before 1 t.replacements n → (i : ℕ) × (i < n) × (before 1 t.replacements i ≤ j) × (j < before 1 t.replacements i + count_of 1 t.replacements i)
  owner zero j h = absurd (omega arith)
  owner (suc n) j h =
      ⊎_elim
      (λ lt. let r = owner n j lt in (r.0, omega (arith, r.1), r.2, r.3))
      (λ ge. (n, omega arith, ge, omega (arith, h)))
      (cases_lt j (before 1 t.replacements n))

  pub known : (j : ℕ) → j < length t.taken → Numbered (cells_made t) (at t.taken j)
  known j h =
      let o = owner reps j (omega (arith, listed)) in
      let i : ℕ = o.0 in
      let e : i + 1 - 1 ≡ i = omega arith in
      let from : ℕ = before 1 t.replacements i in
      let count : ℕ = count_of 1 t.replacements i in
      let inside : from + count ≤ length t.taken = omega (arith, o.1, listed, range_ends 1 t.replacements (i + 1) (omega arith), ap (before 1 t.replacements) e, ap (count_of 1 t.replacements) e, before_rises 1 t.replacements (i + 1) reps (omega (arith, o.1))) in
      let xs : List ℤ = drop from t.taken in
      let long : length (take count xs) ≡ count = length-take-le count xs (omega (arith, length-drop from t.taken)) in
      let q : ℕ = j - from in
      let place : from + q ≡ j = omega (arith, o.2) in
      let here : AllByRecursion (Numbered (cells_made t)) (take count xs) = subst (λ (m : ℕ). AllByRecursion (Numbered (cells_made t)) (take (count_of 1 t.replacements m) (drop (before 1 t.replacements m) t.taken))) e (lists_known (i + 1) (omega arith) (omega (arith, o.1))) in
      let lt : q < count = omega (arith, o.2, o.3) in
      subst (Numbered (cells_made t)) (get_or-take count xs q (pos 0) lt ∙ get_or-drop from t.taken q (pos 0) ∙ ap (at t.taken) place)
      (All-get_or (Numbered (cells_made t)) (take count xs) q (pos 0) (omega arith) here)

  -- ---- rims
  -- there is room for the facets of every replacement where there is twice as much as there are corners
  pub rims_fit : (room : ℕ) → 2 * length t.corners ≤ room → RimsFit a t room
  rims_fit room wide n real =
      let r = (replacement_tells t n).0 real in
      let e : n - 1 + 1 ≡ n = omega (arith, r.0) in
      let within : first_made t n + count_of 2 t.replacements (n - 1) ≤ cells_in a t = range_within a t adds_up n r.0 r.1 in
      let g = grows (n - 1) (omega (arith, r.0, r.1)) in
      let short' : length (taken_by t n) ≤ count_of 1 t.replacements (n - 1) = omega (arith, length-take (count_of 1 t.replacements (n - 1)) (drop (before 1 t.replacements (n - 1)) t.taken)) in
      let twice : 2 * cells_in a t ≤ room / a = (le-div_iff_mul-le some).1 (omega (arith, whole, wide, mul_comm (2 * cells_in a t) a, mul-add a (cells_in a t) (cells_in a t))) in
      record {
        made = within;
        known = subst (λ (m : ℕ). AllByRecursion (Numbered m) (taken_by t n)) adds_up (lists_known n r.0 r.1);
        few = omega arith;
      }

  -- ---- boxes
  run_numbered : (c m : ℕ) → c + m ≤ cells_in a t → AllByRecursion (Numbered (length t.coordinates / 3)) (flat_map (cell a t.corners) (range_with_len c m))
  run_numbered c zero h = tt
  run_numbered c (suc m) h =
      All-append (Numbered (length t.coordinates / 3)) (cell a t.corners c) (flat_map (cell a t.corners) (range_with_len (c + 1) m)) (plain.corners c (omega arith) (omega arith)) (run_numbered (c + 1) m (omega arith))

  run_long : (c m : ℕ) → c + m ≤ cells_in a t → length (flat_map (cell a t.corners) (range_with_len c m)) ≡ a * m
  run_long c m h = ap length (run_of_cells a t.corners c m) ∙ length-take-le (a * m) (drop (a * c) t.corners) (omega (arith, length-drop (a * c) t.corners, whole, mul-le-mul_left a h, mul-add a c m))

  pub boxes_ready : BoxesReady a t
  boxes_ready n real =
      let r = (replacement_tells t n).0 real in
      let within : first_made t n + count_of 2 t.replacements (n - 1) ≤ cells_in a t = range_within a t adds_up n r.0 r.1 in
      let g = grows (n - 1) (omega (arith, r.0, r.1)) in
      let own : ℕ = count_of 2 t.replacements (n - 1) in
      record {
        whole = omega (arith, whole, mul-le-mul_left a within);
        spotted = record {
          one = let least : a * 1 ≤ a * own = mul-le-mul_left a (omega (arith, g.1)) in omega (arith, run_long (first_made t n) own within, some, least);
          all = All-weaker (Numbered (length t.coordinates / 3)) (λ z. is_some (spot t.coordinates z) ≡ true) (spotted t.coordinates) (made_corners a t n) (run_numbered (first_made t n) (count_of 2 t.replacements (n - 1)) within);
        };
      }
