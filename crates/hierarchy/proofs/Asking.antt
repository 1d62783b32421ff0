-- What the lists of makers, takers, ranges and boxes answer. Assumes nothing.
use Rattle.std.proofs.Common.{◌≡◌, ℕ, ◌-◌, ◌<◌, Bool, true, false, List, map, length, get_or, Some, None, Option, sym, refl, ap, ◌∙◌, ⊎_elim, arith, MatchOption}
use mathlib.Core.Bool.{Bool-set}
use mathlib.Core.Logic.{∥∥₁_elim, ∥∥₁_map₂}
use native.Mathlib.Nat.{ℕ_set}
use Rattle.std.proofs.Props.{props}
use Rattle.std.proofs.lemmas.Bool.{cases_Bool, cases_lt, eq-eqb}
use Rattle.std.proofs.lemmas.List.{get_or_past, length-map}
use Rattle.std.proofs.lemmas.Option.{MatchOption-at_some, get_or_from_slice_get, slice_get-map, unwrap_or-slice_get}
use Rattle.std.proofs.lemmas.List.FromFn.{get_or-map-range_with_len}
use Rattle.std.specs.List.{slice_get}
use Rattle.std.specs.Option.{option_map, unwrap_or}
use Rattle.kinds.specs.declared.numbers.ReplacementId.{ReplacementId}
use Rattle.owners.specs.declared.owners.Owners.{Owners}
use Rattle.owners.specs.declared.part.Part.{Part}
use Rattle.owners.specs.Owners.{is_replacement, Makers, makers_in, Takers, takers_in, part_of, parts_of}
use Rattle.tables.specs.Tables.{Tables}
use Rattle.rules.specs.Cells.{replacement, makes, takes}
use Rattle.rules.specs.Rows.{cells_in, replacements_in}
use Rattle.rules.proofs.Cells.{makes_tells, range_within, replacement_tells}
use Rattle.rules.proofs.Links.{takes_tells}
use Rattle.rules.proofs.Ranges.{before_rises}
use Rattle.hierarchy.specs.declared.replacement.Replacement.{Replacement}
use Rattle.hierarchy.specs.Asked.{MakerOf, TakerOf}
use Rattle.hierarchy.specs.Derived.{BoxOf, Boxes, boxes_in, Ordered, ranges_in}

-- ---- owners
-- what is owned is one of the entries, each of which tells its owner
pub record Owned (owns : ℕ → ℕ → Bool) (os : List (Option ReplacementId)) : Type 0 where
  pub tells : (n c : ℕ) → c < length os → owns n c ≡ is_replacement n (get_or os c None)
  pub inside : (n c : ℕ) → owns n c ≡ true → c < length os

module _ (owns : ℕ → ℕ → Bool) (os : List (Option ReplacementId)) where
  unowned : Owned owns os → (c : ℕ) → get_or os c None ≡ None → (n : ℕ) → owns n c ≡ false
  unowned o c e n = ⊎_elim (λ y. o.tells n c (o.inside n c y) ∙ ap (is_replacement n) e) (λ f. f) (cases_Bool (owns n c))

  owned : Owned owns os → (c : ℕ) (n : ReplacementId) → get_or os c None ≡ Some n → owns n.0 c ≡ true
  owned o c n e = ⊎_elim
      (λ lt. o.tells n.0 c lt ∙ ap (is_replacement n.0) e ∙ eq-eqb n.0 n.0 refl)
      (λ ge. let none : ◌≡◌ {A = Option ReplacementId} None (Some n) = sym (get_or_past os c None ge) ∙ e in cc)
      (cases_lt c (length os))

  pub asked : ∥ Owned owns os ∥₁ → (c : ℕ) (r : Option ReplacementId) → r ≡ get_or os c None → MatchOption r ((n : ℕ) → owns n c ≡ false) (λ n. owns n.0 c ≡ true)
  asked o c None e = λ n. ∥∥₁_elim o (Bool-set (owns n c) false) (λ x. unowned x c (sym e) n)
  asked o c (Some n) e = ∥∥₁_elim o (Bool-set (owns n.0 c) true) (λ x. owned x c n (sym e))

-- what is read of an entry, and None past the end
owner_read : (f : Owners → Option ReplacementId) (os : List Owners) (c : ℕ) (x : Option Owners) → x ≡ slice_get os c → unwrap_or (option_map f x) None ≡ get_or (map f os) c None
owner_read f os c x e = ap (λ (y : Option Owners). unwrap_or (option_map f y) None) e ∙ ap (λ (y : Option (Option ReplacementId)). unwrap_or y None) (sym (slice_get-map f os c)) ∙ unwrap_or-slice_get (map f os) c None

module _ (k : ℕ) (t : Tables) where
  made : (ms : List (Option ReplacementId)) → length ms ≡ cells_in k t → Ordered k t → Makers t ms → Owned (makes t) ms
  made ms long o m = record {
    tells = m.made;
    inside = λ n c e. let x = (makes_tells t n c).0 e in omega (arith, long, x.upto, range_within k t o.adds_up n x.least x.most);
  }

  taken : (ts : List (Option ReplacementId)) → length ts ≡ cells_in k t → Ordered k t → Takers t ts → Owned (takes t) ts
  taken ts long o m = record {
    tells = m.taken;
    inside = λ n c e. let x = (takes_tells t o.earlier n c e).1 in omega (arith, long, o.adds_up, x.earlier, before_rises 2 t.replacements (n - 1) (replacements_in t) (omega (arith, x.most)));
  }

  pub maker_asked : (os : List Owners) → length os ≡ cells_in k t → ∥ Ordered k t ∥₁ → ∥ Makers t (makers_in os) ∥₁ → (c : ℕ) (x : Option Owners) → x ≡ slice_get os c
      → MakerOf t c (unwrap_or (option_map (λ o. o.maker) x) None)
  maker_asked os long o m c x e =
      asked (makes t) (makers_in os) (∥∥₁_map₂ o m (made (makers_in os) (length-map os (λ y. y.maker) ∙ long))) c (unwrap_or (option_map (λ y. y.maker) x) None) (owner_read (λ y. y.maker) os c x e)

  pub taker_asked : (os : List Owners) → length os ≡ cells_in k t → ∥ Ordered k t ∥₁ → ∥ Takers t (takers_in os) ∥₁ → (c : ℕ) (x : Option Owners) → x ≡ slice_get os c
      → TakerOf t c (unwrap_or (option_map (λ o. o.taker) x) None)
  taker_asked os long o m c x e =
      asked (takes t) (takers_in os) (∥∥₁_map₂ o m (taken (takers_in os) (length-map os (λ y. y.taker) ∙ long))) c (unwrap_or (option_map (λ y. y.taker) x) None) (owner_read (λ y. y.taker) os c x e)

-- ---- replacements
module _ (t : Tables) (rs : List Replacement) (n : ℕ) (r : Replacement) (real : replacement t n ≡ true) (here : slice_get rs (n - 1) ≡ Some r) where
  pub range_asked : ∥ ranges_in rs ≡ parts_of t ∥₁ → (f : Part → ℕ) → f r.ranges ≡ f (part_of t n)
  range_asked e f = ∥∥₁_elim e (ℕ_set (f r.ranges) (f (part_of t n))) (λ x.
      let among = (replacement_tells t n).0 real in
      let own : slice_get (ranges_in rs) (n - 1) ≡ Some r.ranges = slice_get-map (λ y. y.ranges) rs (n - 1) ∙ ap (option_map (λ y. y.ranges)) here in
      let listed : get_or (parts_of t) (n - 1) r.ranges ≡ part_of t n = get_or-map-range_with_len (part_of t) 1 (replacements_in t) (n - 1) n r.ranges (omega (arith, among.0, among.1)) (omega (arith, among.0)) in
      ap f (sym (get_or_from_slice_get (ranges_in rs) (n - 1) r.ranges r.ranges own) ∙ ap (λ (l : List Part). get_or l (n - 1) r.ranges) x ∙ listed))

  pub box_asked : (k : ℕ) → ∥ Boxes k t (boxes_in rs) ∥₁ → BoxOf k t n r.around
  box_asked k b = ∥∥₁_elim b (hlevel props) (λ x. MatchOption-at_some ⊥ (BoxOf k t n) r.around (slice_get-map (λ y. y.around) rs (n - 1) ∙ ap (option_map (λ y. y.around)) here) (x.each n real))
