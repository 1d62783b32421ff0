-- The list of makers, made in the order of the cells. Assumes nothing.
use Rattle.std.proofs.Common.{◌≡◌, ℕ, ◌+◌, ◌<◌, ◌≤◌, true, eqb, List, length, get_or, nat_abs, Some, None, Option, MatchOption, sym, refl, ap, ◌∙◌, subst, ⊎_elim, arith}
use Rattle.std.proofs.lemmas.List.{length-map, get_or-map, get_or_past}
use Rattle.std.proofs.lemmas.Bool.{cases_lt, eqb-true, eq-eqb, false_from_ne_true}
use Rattle.std.specs.Cmp.{both_ways}
use Rattle.kinds.specs.declared.numbers.ReplacementId.{ReplacementId}
use Rattle.tables.specs.Tables.{Tables}
use Rattle.rules.specs.Cells.{base_cells, some, makes}
use Rattle.rules.specs.Ranges.{before}
use Rattle.rules.proofs.Cells.{counting_tells, Makes, makes_tells, one_maker}
use Rattle.owners.specs.declared.owners.Owners.{Owners}
use Rattle.owners.specs.declared.part.Part.{Part}
use Rattle.owners.specs.Owners.{is_nobody, is_replacement, Makers, makers_in, takers_in}
use Rattle.owners.proofs.Listing.{Turn}

-- the owners of a cell that nobody takes
abbrev pub entry : Option ReplacementId → Owners
entry m = record { maker = m; taker = None }

module _ (t : Tables) where
  -- who makes cell c
  abbrev Maker : ℕ → Option ReplacementId → Type 0
  Maker c m = MatchOption m (c < nat_abs t.base) (λ n. Makes t n.0 c)

  -- each entry says who makes its cell, and that nobody takes it
  abbrev pub Entered : List Owners → Type 0
  Entered os = (c : ℕ) → c < length os → Maker c (get_or os c (entry None)).maker × ((get_or os c (entry None)).taker ≡ None)

  -- the cells of the next replacement are entered after the others
  pub made_more : {k : ℕ} {n : ReplacementId} {p : Part} {left : List (ReplacementId × Part)} → Turn t k n p left → (os new : List Owners) → length os ≡ nat_abs t.base + before 2 t.replacements k → length new ≡ length os + p.makes
      → ((c : ℕ) (d : Owners) → c < length os → get_or new c d ≡ get_or os c d) → ((c : ℕ) (d : Owners) → length os ≤ c → c < length new → get_or new c d ≡ entry (Some n)) → Entered os → Entered new
  made_more {n} x os new long more old next h c lt = ⊎_elim
      (λ low. subst (λ (o : Owners). Maker c o.maker × (o.taker ≡ None)) (sym (old c (entry None) low)) (h c low))
      (λ high. subst (λ (o : Owners). Maker c o.maker × (o.taker ≡ None)) (sym (next c (entry None) high lt)) (made c high lt, refl))
      (cases_lt c (length os))
    where
      made : (c : ℕ) → length os ≤ c → c < length new → Makes t n.0 c
      made c high lt =
          let first = ap (λ (y : Part). y.first) x.is in
          let count = ap (λ (y : Part). y.makes) x.is in
          record { least = omega (arith, x.number); most = omega (arith, x.number, x.inside); from = omega (arith, first, x.first); upto = omega (arith, first, x.first, count) }

  -- ---- all cells are entered
  base_told : (c : ℕ) (m : Option ReplacementId) → Maker c m → some (eqb c) (base_cells t) ≡ is_nobody m
  base_told c None low = (counting_tells c 0 (nat_abs t.base)).1 (omega arith, omega (arith, low))
  base_told c (Some n) x = false_from_ne_true _ (λ e. let r = (counting_tells c 0 (nat_abs t.base)).0 e in omega (arith, r.1, x.from))

  made_told : (n c : ℕ) (m : Option ReplacementId) → Maker c m → makes t n c ≡ is_replacement n m
  made_told n c None low = false_from_ne_true _ (λ e. let x = (makes_tells t n c).0 e in omega (arith, x.from, low))
  made_told n c (Some m) x = both_ways (makes t n c) (eqb m.0 n)
      (λ e. eq-eqb m.0 n (one_maker t m.0 n c x ((makes_tells t n c).0 e)))
      (λ e. subst (λ (k : ℕ). makes t k c ≡ true) (eqb-true m.0 n e) ((makes_tells t m.0 c).1 x))

  module _ (os : List Owners) (h : Entered os) where
    pub are_makers : Makers t (makers_in os)
    are_makers = record {
      base = λ c lt. base_told c (get_or os c (entry None)).maker (h c (inside c lt)).0 ∙ ap is_nobody (sym (read c lt));
      made = λ n c lt. made_told n c (get_or os c (entry None)).maker (h c (inside c lt)).0 ∙ ap (is_replacement n) (sym (read c lt));
    }
      where
        inside : (c : ℕ) → c < length (makers_in os) → c < length os
        inside c lt = omega (arith, length-map os (λ o. o.maker))

        read : (c : ℕ) → c < length (makers_in os) → get_or (makers_in os) c None ≡ (get_or os c (entry None)).maker
        read c lt = get_or-map (λ o. o.maker) os c (entry None) None (inside c lt)

    pub none_taken : (c : ℕ) → get_or (takers_in os) c None ≡ None
    none_taken c = ⊎_elim
        (λ lt. get_or-map (λ o. o.taker) os c (entry None) None lt ∙ (h c lt).1)
        (λ ge. get_or_past (takers_in os) c None (omega (arith, length-map os (λ o. o.taker))))
        (cases_lt c (length os))
