-- The pass over the taken numbers that notes the taker of each cell. Assumes nothing.
use Rattle.std.proofs.Common.{◌≡◌, ℕ, ◌+◌, ◌-◌, ◌<◌, ◌≤◌, true, eqb, ◌≢◌, List, length, get_or, set, take, drop, ℤ, pos, nat_abs, Some, None, Option, sym, refl, ap, ◌∙◌, subst, ⊎_elim, arith, length-set, get_or-set_other, get_or-set_same}
use Rattle.std.proofs.lemmas.Bool.{cases_eq, cases_order, eq-eqb, eqb-true, and_parts, and_from}
use Rattle.std.proofs.lemmas.List.{get_or-take, get_or-drop, get_or-map, length-take, length-drop, length-map}
use Rattle.std.proofs.lemmas.Int.{ints}
use Rattle.std.specs.Cmp.{both_ways}
use Rattle.kinds.specs.declared.numbers.ReplacementId.{ReplacementId}
use Rattle.tables.specs.Judging.{Clear, First}
use Rattle.tables.specs.Tables.{Tables}
use Rattle.rules.specs.Cells.{replacement, some, taken_cells, takes}
use Rattle.rules.specs.Rows.{replacements_in}
use Rattle.rules.specs.Links.{FreshKept}
use Rattle.rules.specs.Raw.{at}
use Rattle.rules.specs.Ranges.{before, taken_by}
use Rattle.rules.specs.Values.{Numbered}
use Rattle.rules.proofs.Cells.{some_tells, replacement_tells}
use Rattle.rules.proofs.Ranges.{before_rises, range_ends, ranges_apart}
use Rattle.owners.specs.declared.part.Part.{Part}
use Rattle.owners.specs.Claims.{InList, Noted}
use Rattle.owners.specs.Owners.{count_of, is_replacement, part_of, Takers}

-- a number that is not below 0
pub natural : (z : ℤ) (n : ℕ) → Numbered n z → (z ≡ pos (nat_abs z)) × (nat_abs z < n)
natural z n h = (omega (arith, ints, h.0), omega (arith, ints, h.0, h.1))

module _ (t : Tables) where
  abbrev reps : ℕ
  reps = replacements_in t

  numbered : (n : ℕ) → replacement t n ≡ true → (1 ≤ n) × (n ≤ reps)
  numbered n h = (replacement_tells t n).0 h

  -- place q of a replacement's own list
  pub own_place : (n : ℕ) (p : Part) (zs : List ℤ) (q : ℕ) → replacement t n ≡ true → p ≡ part_of t n → zs ≡ take p.takes (drop p.list t.taken) → q < length zs
      → (get_or zs q (pos 0) ≡ at t.taken (p.list + q)) × (p.list + q < length t.taken) × InList t n (p.list + q)
  own_place n p zs q is e own lt =
      let long : length zs ≤ p.takes = omega (arith, ap length own, length-take p.takes (drop p.list t.taken)) in
      let list : p.list ≡ before 1 t.replacements (n - 1) = ap (λ (x : Part). x.list) e in
      let takes : p.takes ≡ count_of 1 t.replacements (n - 1) = ap (λ (x : Part). x.takes) e in (
        ap (λ (l : List ℤ). get_or l q (pos 0)) own ∙ get_or-take p.takes (drop p.list t.taken) q (pos 0) (omega arith) ∙ get_or-drop p.list t.taken q (pos 0),
        omega (arith, ap length own, length-take p.takes (drop p.list t.taken), length-drop p.list t.taken),
        record { is = is; from = omega arith; upto = omega arith },
      )

  -- the list of a replacement ends within the taken numbers
  inside_all : before 1 t.replacements reps ≡ length t.taken → (n : ℕ) → replacement t n ≡ true → before 1 t.replacements (n - 1) + count_of 1 t.replacements (n - 1) ≤ length t.taken
  inside_all fill n h = let r = numbered n h in omega (arith, fill, range_ends 1 t.replacements n r.0, before_rises 1 t.replacements n reps r.1)

  -- it is as long as it says
  pub own_full : before 1 t.replacements reps ≡ length t.taken → (n : ℕ) (p : Part) (zs : List ℤ) → replacement t n ≡ true → p ≡ part_of t n → zs ≡ take p.takes (drop p.list t.taken) → length zs ≡ p.takes
  own_full fill n p zs is e own = omega (arith, ap length own, length-take p.takes (drop p.list t.taken), length-drop p.list t.taken, inside_all fill n is, ap (λ (x : Part). x.list) e, ap (λ (x : Part). x.takes) e)

  -- a place is in one list only
  lists_apart : (m n i : ℕ) → InList t m i → InList t n i → m < n → ⊥
  lists_apart m n i a b lt = omega (arith, ranges_apart 1 t.replacements m n (numbered m a.is).0 lt, a.upto, b.from)

  pub one_list : (m n i : ℕ) → InList t m i → InList t n i → m ≡ n
  one_list m n i a b = ⊎_elim (λ e. e) (λ o. ⊎_elim (λ lt. absurd (lists_apart m n i a b lt)) (λ gt. absurd (lists_apart n m i b a gt)) o) (cases_order m n)

  pos_one : (a b : ℕ) → pos a ≡ pos b → a ≡ b
  pos_one a b e = ap nat_abs e

  none_some : (n : ReplacementId) → ◌≡◌ {A = Option ReplacementId} None (Some n) → ⊥
  none_some n e = cc

  -- place j names the cell c, which has no taker yet
  module _ (j : ℕ) (n : ReplacementId) (c : ℕ) (ts : List (Option ReplacementId)) (p : Noted t j ts) (mine : InList t n.0 j) (inside : c < length ts) (here : at t.taken j ≡ pos c) (free : get_or ts c None ≡ None) where
    abbrev next : List (Option ReplacementId)
    next = set ts c (Some n)

    same : get_or (set ts c (Some n)) c None ≡ Some n
    same = get_or-set_same ts c (Some n) None inside

    other : (d : ℕ) → d ≢ c → get_or (set ts c (Some n)) d None ≡ get_or ts d None
    other d ne = get_or-set_other ts c d (Some n) None ne

    unnamed : (k : ℕ) → k < j → at t.taken k ≡ at t.taken j → ⊥
    unnamed k lt e = let r = p.named c k inside lt (e ∙ here) in none_some r.0 (sym free ∙ r.1)

    pub note_more : Noted t (j + 1) (set ts c (Some n))
    note_more = record {
      named = λ d i l lt e. ⊎_elim
          (λ w.
          let q : d ≡ c = pos_one d c (sym e ∙ ap (at t.taken) w ∙ here) in
          (n, ap (λ (x : ℕ). get_or next x None) q ∙ same, subst (λ (x : ℕ). InList t n.0 x) (sym w) mine))
          (λ w.
          let low : i < j = omega (arith, w, lt) in ⊎_elim
          (λ q. absurd (unnamed i low (e ∙ ap pos q ∙ sym here)))
          (λ ne. let r = p.named d i (omega (arith, length-set ts c (Some n), l)) low e in (r.0, other d ne ∙ r.1, r.2))
          (cases_eq d c))
          (cases_eq i j);
      real = λ d m e. ⊎_elim
          (λ q.
          let is : ◌≡◌ {A = Option ReplacementId} (Some n) (Some m) = sym same ∙ ap (λ (x : ℕ). get_or next x None) (sym q) ∙ e in
          let one : n ≡ m = cc in
          (j, omega arith, here ∙ ap pos (sym q), subst (λ (x : ReplacementId). InList t x.0 j) one mine))
          (λ ne. let r = p.real d m (sym (other d ne) ∙ e) in (r.0, omega (arith, r.1), r.2, r.3))
          (cases_eq d c);
      apart = λ i k lt low e. ⊎_elim
          (λ w. unnamed k (omega (arith, w, low)) (e ∙ ap (at t.taken) w))
          (λ w. p.apart i k (omega (arith, w, lt)) low e)
          (cases_eq i j);
    }

  -- place j names a cell that has a taker
  pub note_broken : (j : ℕ) (n : ReplacementId) (c : ℕ) (ts : List (Option ReplacementId)) (m : ReplacementId) → Noted t j ts → InList t n.0 j → at t.taken j ≡ pos c → get_or ts c None ≡ Some m
      → First 1 (reps + 1) (FreshKept t) n.0
  note_broken j n c ts m p mine here held =
      let real = numbered n.0 mine.is in
      record {
        low = real.0;
        inside = omega (arith, real.1);
        before = λ q low high i k from upto l h. p.apart k i (omega (arith, mine.from, before_rises 1 t.replacements q (n.0 - 1) (omega arith))) l h;
        broken = λ kept. let b = p.real c m held in kept b.0 j mine.from (omega (arith, mine.upto, range_ends 1 t.replacements n.0 real.0)) b.1 (b.2 ∙ sym here);
      }

  -- ---- all places are noted
  module _ (ts : List (Option ReplacementId)) (p : Noted t (length t.taken) ts) (fill : before 1 t.replacements reps ≡ length t.taken) (whole : (k : ℕ) → k < length t.taken → at t.taken k ≡ pos (nat_abs (at t.taken k))) where
    pub note_clear : Clear 1 (reps + 1) (FreshKept t)
    note_clear n low high i k from upto l h = p.apart k i (omega (arith, fill, before_rises 1 t.replacements n reps (omega arith))) l h

    takes_at : (n c : ℕ) → takes t n c ≡ true → (i : ℕ) × InList t n i × (nat_abs (at t.taken i) ≡ c)
    takes_at n c e =
        let both = and_parts (replacement t n) (some (eqb c) (taken_cells t n)) e in
        let x = (some_tells (eqb c) (taken_cells t n)).0 both.1 in
        let lt : x.0 < length (taken_by t n) = omega (arith, x.1, length-map (taken_by t n) nat_abs) in
        let own = own_place n (part_of t n) (taken_by t n) x.0 both.0 refl refl lt in
        (before 1 t.replacements (n - 1) + x.0, own.2, sym (eqb-true c _ (x.2 0) ∙ get_or-map nat_abs (taken_by t n) x.0 (pos 0) 0 lt ∙ ap nat_abs own.0))

    at_takes : (n c i : ℕ) → InList t n i → nat_abs (at t.taken i) ≡ c → takes t n c ≡ true
    at_takes n c i x e =
        let from : ℕ = before 1 t.replacements (n - 1) in
        let q : ℕ = i - from in
        let place : from + q ≡ i = omega (arith, x.from) in
        let lt : q < length (taken_by t n) = omega (arith, own_full fill n (part_of t n) (taken_by t n) x.is refl refl, x.from, x.upto) in
        let inside : q < length (taken_cells t n) = omega (arith, length-map (taken_by t n) nat_abs, lt) in
        let own = own_place n (part_of t n) (taken_by t n) q x.is refl refl lt in
        let is : (d : ℕ) → get_or (taken_cells t n) q d ≡ c = λ d. get_or-map nat_abs (taken_by t n) q (pos 0) d lt ∙ ap nat_abs (own.0 ∙ ap (at t.taken) place) ∙ e in
        and_from (replacement t n) (some (eqb c) (taken_cells t n)) x.is ((some_tells (eqb c) (taken_cells t n)).1 (q, inside, λ d. eq-eqb c _ (sym (is d))))

    taken_told : (n c : ℕ) → c < length ts → (o : Option ReplacementId) → get_or ts c None ≡ o → takes t n c ≡ is_replacement n o
    taken_told n c l o e = both_ways (takes t n c) (is_replacement n o)
        (λ b.
        let w = takes_at n c b in
        let lt : w.0 < length t.taken = omega (arith, w.1.upto, inside_all fill n w.1.is) in
        held (p.named c w.0 l lt (whole w.0 lt ∙ ap pos w.2)) w.1)
        (λ b. back o e b)
      where
        held : {i : ℕ} → (m : ReplacementId) × (get_or ts c None ≡ Some m) × InList t m.0 i → InList t n i → is_replacement n o ≡ true
        held {i} r x = subst (λ (y : Option ReplacementId). is_replacement n y ≡ true) (sym r.1 ∙ e) (eq-eqb r.0.0 n (one_list r.0.0 n i r.2 x))

        back : (o : Option ReplacementId) → get_or ts c None ≡ o → is_replacement n o ≡ true → takes t n c ≡ true
        back None e b = cc
        back (Some m) e b =
            let r = p.real c m e in
            let one : m.0 ≡ n = eqb-true m.0 n b in
            at_takes n c r.0 (subst (λ (x : ℕ). InList t x r.0) one r.3) (ap nat_abs r.2)

    pub note_all : Takers t ts
    note_all = record { taken = λ n c l. taken_told n c l (get_or ts c None) refl }
