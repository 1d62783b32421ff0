-- Boxes that are widened vertex by vertex. Assumes nothing.
use Rattle.std.proofs.Common.{◌≡◌, ℕ, ◌+◌, ◌-◌, ◌<◌, List, [], ◌∷◌, ◌++◌, length, get_or, take, drop, ℤ, pos, ◌≤ℤ◌, true, is_some, Some, None, Option, sym, ap, ◌∙◌, subst, arith, w32, SFits, to_z, of_z, MatchOption}
use Rattle.std.specs.Int.{int_max, int_min}
use Rattle.std.proofs.lemmas.Int.{ints, to_z-of_z}
use Rattle.std.proofs.lemmas.Bool.{both_ways}
use Rattle.std.proofs.lemmas.List.{get_or-take, length-take, take_more}
use Rattle.std.proofs.lemmas.Grind.{get_or_after_one}
use Rattle.std.proofs.ByRecursion.{All-append, All-get_or, All-weaker}
use Rattle.std.specs.List.{AllByRecursion}
use Rattle.kinds.specs.declared.places.Spot.{Spot}
use Rattle.kinds.specs.Places.{spot}
use Rattle.boxes.specs.declared.extent.Extent.{Extent}
use Rattle.boxes.specs.Spots.{Contains, Inside, Smallest, Spotted, Surrounds, Widened}

pub min_under : (a b r : ℤ) → r ≡ int_min a b → (r ≤ℤ a) × (r ≤ℤ b)
min_under a b r e = (grind (arith, ints), grind (arith, ints))

pub min_greatest : (a b r d : ℤ) → r ≡ int_min a b → d ≤ℤ a → d ≤ℤ b → d ≤ℤ r
min_greatest a b r d e h k = grind (arith, ints)

pub max_over : (a b r : ℤ) → r ≡ int_max a b → (a ≤ℤ r) × (b ≤ℤ r)
max_over a b r e = (grind (arith, ints), grind (arith, ints))

pub max_least : (a b r d : ℤ) → r ≡ int_max a b → a ≤ℤ d → b ≤ℤ d → r ≤ℤ d
max_least a b r d e h k = grind (arith, ints)

-- a box whose sides are stretched to a point is widened to it
abbrev pub Reached : Extent → Spot → Extent → Type 0
Reached b p r =
    ((r.x.low ≡ int_min b.x.low p.x) × (r.x.high ≡ int_max b.x.high p.x))
    × ((r.y.low ≡ int_min b.y.low p.y) × (r.y.high ≡ int_max b.y.high p.y))
    × ((r.z.low ≡ int_min b.z.low p.z) × (r.z.high ≡ int_max b.z.high p.z))

pub reached : (b : Extent) (p : Spot) (r : Extent) → Reached b p r → Widened b p r
reached b p r e = record {
  holds_box = record {
    x = ((min_under _ _ _ e.0.0).0, (max_over _ _ _ e.0.1).0);
    y = ((min_under _ _ _ e.1.0).0, (max_over _ _ _ e.1.1).0);
    z = ((min_under _ _ _ e.2.0).0, (max_over _ _ _ e.2.1).0);
  };
  holds_point = record {
    x = ((min_under _ _ _ e.0.0).1, (max_over _ _ _ e.0.1).1);
    y = ((min_under _ _ _ e.1.0).1, (max_over _ _ _ e.1.1).1);
    z = ((min_under _ _ _ e.2.0).1, (max_over _ _ _ e.2.1).1);
  };
  least = λ d i k. record {
    x = (min_greatest _ _ _ _ e.0.0 i.x.0 k.x.0, max_least _ _ _ _ e.0.1 i.x.1 k.x.1);
    y = (min_greatest _ _ _ _ e.1.0 i.y.0 k.y.0, max_least _ _ _ _ e.1.1 i.y.1 k.y.1);
    z = (min_greatest _ _ _ _ e.2.0 i.z.0 k.z.0, max_least _ _ _ _ e.2.1 i.z.1 k.z.1);
  };
}

-- a box that lies within another
contains_wider : (b d : Extent) (p : Spot) → Inside b d → Contains b p → Contains d p
contains_wider b d p i k = record {
  x = (more i.x.0 k.x.0, more k.x.1 i.x.1);
  y = (more i.y.0 k.y.0, more k.y.1 i.y.1);
  z = (more i.z.0 k.z.0, more k.z.1 i.z.1);
}
  where
    more : {s t u : ℤ} → s ≤ℤ t → t ≤ℤ u → s ≤ℤ u
    more {s} {t} {u} h k = omega (arith, ints)

cases_wider : (o : Option Spot) (b d : Extent) → Inside b d → MatchOption o ⊥ (Contains b) → MatchOption o ⊥ (Contains d)
cases_wider (Some p) b d i h = contains_wider b d p i h
cases_wider None b d i h = h

-- a number of the list that stands nowhere
pub not_spotted : (vs zs : List ℤ) (i : ℕ) → i < length zs → spot vs (get_or zs i (pos 0)) ≡ None → Spotted vs zs → ⊥
not_spotted vs zs i lt e s = both_ways (is_some (spot vs (get_or zs i (pos 0)))) (ap is_some e) (All-get_or (λ (z : ℤ). is_some (spot vs z) ≡ true) zs i (pos 0) lt s.all)

-- the numbers of a list after the first, which are numbers of 32 bits
pub read_rest : (zs : List ℤ) (i : ℕ) → i < length zs - 1 → SFits w32 (get_or (take (length zs - 1) (drop 1 zs)) i (pos 0))
    → to_z w32 (of_z w32 (get_or (take (length zs - 1) (drop 1 zs)) i (pos 0))) ≡ get_or zs (i + 1) (pos 0)
read_rest zs i lt fits =
    to_z-of_z w32 (get_or (take (length zs - 1) (drop 1 zs)) i (pos 0)) fits
    ∙ get_or-take (length zs - 1) (drop 1 zs) i (pos 0) lt ∙ get_or_after_one zs i (pos 0) ∙ ap (λ (n : ℕ). get_or zs n (pos 0)) (omega arith)

-- the parts of a list
all_parts : {X : Type 0} (P : X → Type 0) (xs ys : List X) → AllByRecursion P (xs ++ ys) → AllByRecursion P xs × AllByRecursion P ys
all_parts P [] ys h = (tt, h)
all_parts P (x ∷ xs) ys h = let rest = all_parts P xs ys h.1 in ((h.0, rest.0), rest.1)

module _ (vs zs : List ℤ) (i : ℕ) (lt : i < length zs) (p : Spot) (here : spot vs (get_or zs i (pos 0)) ≡ Some p) where
  abbrev z : ℤ
  z = get_or zs i (pos 0)

  here_in : (d : Extent) → Contains d p → MatchOption (spot vs z) ⊥ (Contains d)
  here_in d = subst (λ (o : Option Spot). MatchOption o ⊥ (Contains d)) (sym here)

  out_of : (d : Extent) → MatchOption (spot vs z) ⊥ (Contains d) → Contains d p
  out_of d = subst (λ (o : Option Spot). MatchOption o ⊥ (Contains d)) here

  -- the smallest box around one vertex
  pub smallest_one : (b : Extent) → Contains b p × ((d : Extent) → Contains d p → Inside b d) → Smallest vs (z ∷ []) b
  smallest_one b h = record { around = (here_in b h.0, tt); least = λ d s. h.1 d (out_of d s.0) }

  -- a box around some vertices, widened to one more, is around that as well
  pub surrounds_more : (b r : Extent) → Surrounds vs (take i zs) b → Widened b p r → Surrounds vs (take (i + 1) zs) r
  surrounds_more b r s w = subst (λ (ys : List ℤ). Surrounds vs ys r) (sym (take_more zs i (pos 0) lt)) (
      All-append (λ y. MatchOption (spot vs y) ⊥ (Contains r)) (take i zs) (z ∷ [])
      (All-weaker (λ y. MatchOption (spot vs y) ⊥ (Contains b)) (λ y. MatchOption (spot vs y) ⊥ (Contains r)) (λ y h. cases_wider (spot vs y) b r w.holds_box h) (take i zs) s)
      (here_in r w.holds_point, tt))

  -- a box around the first vertices has this one in it, if it is one of them
  pub contains_here : (n : ℕ) (d : Extent) → i < n → Surrounds vs (take n zs) d → Contains d p
  contains_here n d h s = out_of d (subst (λ (y : ℤ). MatchOption (spot vs y) ⊥ (Contains d)) (get_or-take n zs i (pos 0) h) (All-get_or (λ y. MatchOption (spot vs y) ⊥ (Contains d)) (take n zs) i (pos 0) (omega (arith, length-take n zs)) s))

  -- the smallest box around some vertices, widened to one more, is the smallest around these
  pub smallest_more : (b r : Extent) → Smallest vs (take i zs) b → Widened b p r → Smallest vs (take (i + 1) zs) r
  smallest_more b r s w = record {
    around = surrounds_more b r s.around w;
    least = λ d h.
        let parts = all_parts (λ y. MatchOption (spot vs y) ⊥ (Contains d)) (take i zs) (z ∷ []) (subst (λ (ys : List ℤ). Surrounds vs ys d) (take_more zs i (pos 0) lt) h) in
        w.least d (s.least d parts.0) (out_of d parts.1.0);
  }
