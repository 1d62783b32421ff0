-- The tables fix what is worked out from them. Assumes nothing.
use Rattle.std.proofs.Common.{◌≡◌, ℕ, suc, ◌+◌, ◌-◌, ◌<◌, List, [], ◌∷◌, map, length, get_or, ℤ, ◌≤ℤ◌, Some, None, Ok, Err, vec_items, Option, sym, refl, ap, ◌∙◌, subst, arith, MatchOption}
use Rattle.std.proofs.lemmas.List.{ext_get_or, length-map}
use Rattle.std.proofs.lemmas.Int.{ints}
use Rattle.std.proofs.lemmas.Bool.{eqb-true, eq-eqb, false≢true}
use Rattle.std.specs.List.{AllZip, slice_get}
use Rattle.boxes.specs.declared.extent.Extent.{Extent}
use Rattle.boxes.specs.Spots.{Inside}
use Rattle.kinds.specs.declared.numbers.ReplacementId.{ReplacementId}
use Rattle.kinds.specs.Shapes.{Shape}
use Rattle.owners.specs.declared.owners.Owners.{Owners}
use Rattle.owners.specs.Owners.{is_replacement, Makers, makers_in, Takers, takers_in}
use Rattle.rules.proofs.Cells.{replacement_tells}
use Rattle.rules.specs.Hierarchies.{hierarchy_rows}
use Rattle.tables.specs.Tables.{Tables}
use Rattle.tables.proofs.Rows.{lawful_or_refused, refused_once}
use Rattle.kinds.specs.declared.kind.Kind.{Ghosts}
use Rattle.hierarchy.specs.declared.hierarchy.Hierarchy.{Hierarchy}
use Rattle.hierarchy.specs.Accepted.{Alike, Carries, CheckedOnce, SameSides, places_for}
use Rattle.hierarchy.specs.Derived.{BoxOf, Boxes, boxes_in}
use Rattle.hierarchy.proofs.Joining.{placed_lawful}

-- the numbers of which an owner is tell who it is
same_owner : (a b : Option ReplacementId) → ((n : ℕ) → is_replacement n a ≡ is_replacement n b) → a ≡ b
same_owner None None h = refl
same_owner None (Some n) h = absurd (false≢true (h n.0 ∙ eq-eqb n.0 n.0 refl))
same_owner (Some m) None h = absurd (false≢true (sym (h m.0) ∙ eq-eqb m.0 m.0 refl))
same_owner (Some m) (Some n) h = let e : m.0 ≡ n.0 = sym (eqb-true n.0 m.0 (sym (h m.0) ∙ eq-eqb m.0 m.0 refl)) in λ j. Some (record { 0 = e j })

same_makers : (t : Tables) (ms ns : List (Option ReplacementId)) → length ms ≡ length ns → Makers t ms → Makers t ns → ms ≡ ns
same_makers t ms ns long x y = ext_get_or None ms ns long (λ c l. same_owner (get_or ms c None) (get_or ns c None) (λ n. sym (x.made n c l) ∙ y.made n c (omega arith)))

same_takers : (t : Tables) (ts us : List (Option ReplacementId)) → length ts ≡ length us → Takers t ts → Takers t us → ts ≡ us
same_takers t ts us long x y = ext_get_or None ts us long (λ c l. same_owner (get_or ts c None) (get_or us c None) (λ n. sym (x.taken n c l) ∙ y.taken n c (omega arith)))

same_owners : (os ps : List Owners) → makers_in os ≡ makers_in ps → takers_in os ≡ takers_in ps → os ≡ ps
same_owners [] [] m t = refl
same_owners [] (p ∷ ps) m t = cc
same_owners (o ∷ os) [] m t = cc
same_owners (o ∷ os) (p ∷ ps) m t =
    let maker : o.maker ≡ p.maker = cc in
    let taker : o.taker ≡ p.taker = cc in
    let makers : makers_in os ≡ makers_in ps = cc in
    let takers : takers_in os ≡ takers_in ps = cc in
    let rest : os ≡ ps = same_owners os ps makers takers in
    λ j. record { maker = maker j; taker = taker j } ∷ rest j

both_ways : (a b : ℤ) → a ≤ℤ b → b ≤ℤ a → a ≡ b
both_ways a b h k = omega (arith, ints)

same_sides : (b d : Extent) → Inside b d → Inside d b → SameSides b d
same_sides b d i j = record {
  x = (both_ways _ _ j.x.0 i.x.0, both_ways _ _ i.x.1 j.x.1);
  y = (both_ways _ _ j.y.0 i.y.0, both_ways _ _ i.y.1 j.y.1);
  z = (both_ways _ _ j.z.0 i.z.0, both_ways _ _ i.z.1 j.z.1);
}

-- lists whose entries agree place by place
each_place : (bs ds : List Extent) → length bs ≡ length ds → ((i : ℕ) (b d : Extent) → i < length bs → slice_get bs i ≡ Some b → slice_get ds i ≡ Some d → SameSides b d) → AllZip SameSides bs ds
each_place [] [] long h = tt
each_place [] (d ∷ ds) long h = absurd (omega arith)
each_place (b ∷ bs) [] long h = absurd (omega arith)
each_place (b ∷ bs) (d ∷ ds) long h = (h 0 b d (omega arith) refl refl, each_place bs ds (omega arith) (λ i x y l e f. h (suc i) x y (omega arith) e f))

same_boxes : (k : ℕ) (t : Tables) (bs ds : List Extent) → Boxes k t bs → Boxes k t ds → AllZip SameSides bs ds
same_boxes k t bs ds x y = each_place bs ds (x.long ∙ sym y.long) (λ i b d l e f.
    let n : i + 1 - 1 ≡ i = omega arith in
    let real = (replacement_tells t (i + 1)).1 (omega arith, omega (arith, x.long)) in
    let p : BoxOf k t (i + 1) b = subst (λ (o : Option Extent). MatchOption o ⊥ (BoxOf k t (i + 1))) (ap (slice_get bs) n ∙ e) (x.each (i + 1) real) in
    let q : BoxOf k t (i + 1) d = subst (λ (o : Option Extent). MatchOption o ⊥ (BoxOf k t (i + 1))) (ap (slice_get ds) n ∙ f) (y.each (i + 1) real) in
    same_sides b d (p.least d q.around) (q.least b p.around))

carried_once : {K F P : Type 0} {m : Ghosts K F P} (k : ℕ) (t : Tables) (g h : Hierarchy K F P m) → Carries k t g → Carries k t h → Alike g h
carried_once k t g h x y =
    let os : List Owners = vec_items g.owners in
    let ps : List Owners = vec_items h.owners in
    let long : (f : Owners → Option ReplacementId) → length (map f os) ≡ length (map f ps) = λ f. omega (arith, length-map os f, length-map ps f, x.cells, y.cells) in
    record {
      tables = x.tables ∙ sym y.tables;
      owners = same_owners os ps (same_makers t (makers_in os) (makers_in ps) (long (λ o. o.maker)) x.makers y.makers) (same_takers t (takers_in os) (takers_in ps) (long (λ o. o.taker)) x.takers y.takers);
      ranges = x.ranges ∙ sym y.ranges;
      boxes = same_boxes k t (boxes_in (vec_items g.replacements)) (boxes_in (vec_items h.replacements)) x.boxes y.boxes;
    }

pub checked_once : {K F P : Type 0} (m : Ghosts K F P) (k : Shape F P) → CheckedOnce m k
checked_once m k t corners (Ok g) (Ok h) x y = carried_once k.arity t g h x.2 y.2
checked_once m k t corners (Ok g) (Err f) x y = lawful_or_refused (hierarchy_rows k t (places_for t corners)) f (placed_lawful k t corners x.0 x.1) y
checked_once m k t corners (Err f) (Ok h) x y = lawful_or_refused (hierarchy_rows k t (places_for t corners)) f (placed_lawful k t corners y.0 y.1) x
checked_once m k t corners (Err e) (Err f) x y = refused_once (hierarchy_rows k t (places_for t corners)) e f x y
