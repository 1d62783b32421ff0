-- Lists with one entry for each replacement, to which the next is added. Assumes nothing.
use Rattle.std.proofs.Common.{◌≡◌, ℕ, ◌+◌, ◌-◌, ◌*◌, ◌≤◌, true, List, [], ◌∷◌, ◌++◌, map, length, take, drop, ℤ, Option, MatchOption, sym, ap, ◌∙◌, subst, ⊎_elim, arith}
use Rattle.std.proofs.lemmas.Bool.{cases_lt}
use Rattle.std.proofs.lemmas.List.{map-append, length-map}
use Rattle.std.proofs.lemmas.List.FromFn.{map-range_with_len_more}
use Rattle.std.proofs.iter.runs.Lists.{nth_left, nth_seam}
use Rattle.std.specs.List.{range_with_len, slice_get}
use Rattle.boxes.specs.declared.extent.Extent.{Extent}
use Rattle.boxes.specs.Spots.{Smallest}
use Rattle.owners.specs.declared.part.Part.{Part}
use Rattle.owners.specs.Owners.{count_of, part_of}
use Rattle.rules.specs.Cells.{replacement}
use Rattle.rules.specs.Ranges.{first_made}
use Rattle.rules.proofs.Cells.{replacement_tells}
use Rattle.tables.specs.Tables.{Tables}
use Rattle.hierarchy.specs.declared.replacement.Replacement.{Replacement}
use Rattle.hierarchy.specs.Derived.{BoxOf, boxes_in, ranges_in}
use Rattle.hierarchy.proofs.Cells.{run_of_cells}

-- the first n replacements have their boxes
abbrev pub Boxed : ℕ → Tables → ℕ → List Extent → Type 0
Boxed k t m bs = (n : ℕ) → replacement t n ≡ true → n ≤ m → MatchOption (slice_get bs (n - 1)) ⊥ (BoxOf k t n)

pub ranges_more : (t : Tables) (rs : List Replacement) (r : Replacement) (m : ℕ) → ranges_in rs ≡ map (part_of t) (range_with_len 1 m) → r.ranges ≡ part_of t (m + 1)
    → ranges_in (rs ++ r ∷ []) ≡ map (part_of t) (range_with_len 1 (m + 1))
ranges_more t rs r m e is =
    map-append (λ x. x.ranges) rs (r ∷ [])
    ∙ ap (λ (l : List Part). l ++ r.ranges ∷ []) e
    ∙ ap (λ (p : Part). map (part_of t) (range_with_len 1 m) ++ p ∷ []) is
    ∙ sym (map-range_with_len_more (part_of t) 1 m (m + 1) (omega arith))

pub boxes_more : (k : ℕ) (t : Tables) (rs : List Replacement) (r : Replacement) (m : ℕ) → length rs ≡ m → Boxed k t m (boxes_in rs) → BoxOf k t (m + 1) r.around → Boxed k t (m + 1) (boxes_in (rs ++ r ∷ []))
boxes_more k t rs r m long so_far new n real le =
    let bs : List Extent = boxes_in rs in
    let size : length bs ≡ m = length-map rs (λ x. x.around) ∙ long in
    subst (λ (l : List Extent). MatchOption (slice_get l (n - 1)) ⊥ (BoxOf k t n)) (sym (map-append (λ x. x.around) rs (r ∷ [])))
    (⊎_elim
    (λ lt. subst (λ (o : Option Extent). MatchOption o ⊥ (BoxOf k t n)) (sym (nth_left bs (r.around ∷ []) (n - 1) (omega (arith, size, ((replacement_tells t n).0 real).0)))) (so_far n real (omega arith)))
    (λ ge.
    let last : n ≡ m + 1 = omega arith in
    let place : length bs ≡ n - 1 = omega (arith, size) in
    subst (λ (o : Option Extent). MatchOption o ⊥ (BoxOf k t n)) (sym (ap (slice_get (bs ++ r.around ∷ [])) (sym place) ∙ nth_seam bs r.around)) (subst (λ (i : ℕ). BoxOf k t i r.around) (sym last) new))
    (cases_lt n (m + 1)))

-- the corners of the cells that a replacement makes stand in one stretch
pub box_is : (k : ℕ) (t : Tables) (n : ℕ) (p : Part) (b : Extent) → p ≡ part_of t n → Smallest t.coordinates (take (k * p.makes) (drop (k * p.first) t.corners)) b → BoxOf k t n b
box_is k t n p b e x =
    subst (λ (l : List ℤ). Smallest t.coordinates l b) (sym (run_of_cells k t.corners (first_made t n) (count_of 2 t.replacements (n - 1))))
    (subst (λ (q : Part). Smallest t.coordinates (take (k * q.makes) (drop (k * q.first) t.corners)) b) e x)
