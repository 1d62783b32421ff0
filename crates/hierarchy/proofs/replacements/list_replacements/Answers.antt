use Rattle.std.proofs.Common.{◌≡◌, ℕ, ◌+◌, ◌*◌, ◌≤◌, true, List, map, length, take, drop, ℤ, vec_items, vec_len, sym, ap, ◌∙◌, subst, arith}
use Rattle.std.proofs.lemmas.List.{length-map}
use Rattle.std.specs.List.{range_with_len}
use Rattle.boxes.specs.Spots.{Spotted}
use Rattle.owners.specs.declared.part.Part.{Part}
use Rattle.owners.specs.Owners.{part_of}
use Rattle.owners.proofs.Listing.{later_parts, turn, turns_end}
use Rattle.rules.specs.Cells.{replacement}
use Rattle.rules.specs.Ranges.{first_made}
use Rattle.rules.specs.Raw.{lists_of}
use Rattle.rules.specs.Rows.{replacements_in}
use Rattle.rules.proofs.Cells.{replacement_tells}
use Rattle.hierarchy.specs.declared.replacement.Replacement.{Replacement}
use Rattle.hierarchy.specs.Derived.{BoxReady, boxes_in, ranges_in}
use Rattle.hierarchy.proofs.Cells.{run_of_cells}
use Rattle.hierarchy.proofs.Listing.{Boxed, ranges_more, boxes_more, box_is}
use Rattle.hierarchy.proofs.replacements.list_replacements.Goals as goal

pub box_of-around-requires : goal.box_of-around-requires
box_of-around-requires g c =
    let t = lists_of c.args.ranged.now.tables in
    let m : ℕ = vec_len c.loop-ranges.replacements in
    let w : ℕ = g.K.Kind.shape.arity in
    let x = turn t (sym c.loop-ranges.invariant.left ∙ c.in-Some.ensures.steps) in
    let is : c.in-Some.ranges ≡ part_of t (m + 1) = x.is ∙ ap (part_of t) x.number in
    let ready : BoxReady w t (m + 1) = c.requires (m + 1) (subst (λ (n : ℕ). replacement t n ≡ true) x.number x.real) in
    record {
      whole = subst (λ (p : Part). w * (p.first + p.makes) ≤ length t.corners) (sym is) ready.whole;
      spotted = subst (λ (p : Part). Spotted t.coordinates (take (w * p.makes) (drop (w * p.first) t.corners))) (sym is)
          (subst (λ (l : List ℤ). Spotted t.coordinates l) (run_of_cells w t.corners (first_made t (m + 1)) (part_of t (m + 1)).makes) ready.spotted);
    }

pub loop-ranges-preserved : goal.loop-ranges-preserved
loop-ranges-preserved g c =
    let t = lists_of c.args.ranged.now.tables in
    let k = g.K.Kind.shape in
    let m : ℕ = vec_len c.loop-ranges.replacements in
    let x = turn t (sym c.loop-ranges.invariant.left ∙ c.in-Some.ensures.steps) in
    let e = c.push_reserved.ensures in
    let new : Replacement = record { ranges = c.in-Some.ranges; around = c.box_of-around.result } in
    let is : c.in-Some.ranges ≡ part_of t (m + 1) = x.is ∙ ap (part_of t) x.number in
    record {
      inside = omega (arith, e.len, x.inside);
      left = x.rest ∙ ap (later_parts t) (sym e.len);
      ranges = ap ranges_in e.items ∙ ranges_more t (vec_items c.loop-ranges.replacements) new m c.loop-ranges.invariant.ranges is ∙ ap (λ (i : ℕ). map (part_of t) (range_with_len 1 i)) (sym e.len);
      boxes = subst (λ (i : ℕ). Boxed k.arity t i (boxes_in (vec_items c.push_reserved.new.self))) (sym e.len)
          (subst (λ (l : List Replacement). Boxed k.arity t (m + 1) (boxes_in l)) (sym e.items)
          (boxes_more k.arity t (vec_items c.loop-ranges.replacements) new m (sym c.loop-ranges.replacements.ok.0) c.loop-ranges.invariant.boxes (box_is k.arity t (m + 1) c.in-Some.ranges c.box_of-around.result is c.box_of-around.ensures)));
      capacity = omega (arith, e.capacity, c.loop-ranges.invariant.capacity);
    }

pub returns : goal.returns
returns g c =
    let t = lists_of c.args.ranged.now.tables in
    let k : ℕ = vec_len c.loop-ranges.replacements in
    let done : k ≡ replacements_in t = omega (arith, turns_end t (sym c.loop-ranges.invariant.left ∙ c.in-None.ensures.steps.0), c.loop-ranges.invariant.inside) in
    record {
      ranges = c.loop-ranges.invariant.ranges ∙ ap (λ (m : ℕ). map (part_of t) (range_with_len 1 m)) done;
      boxes = record {
        long = length-map (vec_items c.loop-ranges.replacements) (λ r. r.around) ∙ sym c.loop-ranges.replacements.ok.0 ∙ done;
        each = λ n real. c.loop-ranges.invariant.boxes n real (omega (arith, done, ((replacement_tells t n).0 real).1));
      };
    }
