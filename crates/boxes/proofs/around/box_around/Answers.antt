use Rattle.std.proofs.Common.{ℕ, ◌+◌, ◌<◌, length, get_or, List, ℤ, pos, ◌≡◌, ◌≤◌, Some, None, Option, MatchOption, sym, ap, ◌∙◌, subst, rules}
use Rattle.std.proofs.lemmas.List.{take_all, take_more}
use Rattle.kinds.specs.Places.{spot}
use Rattle.boxes.specs.declared.extent.Extent.{Extent}
use Rattle.boxes.specs.Spots.{Smallest, Spotted}
use Rattle.boxes.proofs.Surrounding.{not_spotted, read_rest, smallest_one, smallest_more}
use Rattle.boxes.proofs.around.box_around.Goals as goal

pub loop-vertex-init : goal.loop-vertex-init
loop-vertex-init c =
    let vs : List ℤ = c.args.vertices.now in
    let zs : List ℤ = c.args.list.now in
    let some : 0 < length zs = search rules in
    let here : spot vs (get_or zs 0 (pos 0)) ≡ Some c.in_ok-numbered.field-0 = search rules in
    subst (λ (ys : List ℤ). Smallest vs ys c.at-around.result) (sym (take_more zs 0 (pos 0) some)) (smallest_one vs zs 0 some c.in_ok-numbered.field-0 here c.at-around.result c.at-around.ensures)

pub loop-vertex-preserved : goal.loop-vertex-preserved
loop-vertex-preserved c =
    let vs : List ℤ = c.args.vertices.now in
    let zs : List ℤ = c.args.list.now in
    let i : ℕ = c.loop-vertex.vertex-index + 1 in
    let lt : i < length zs = search rules in
    let read = read_rest zs c.loop-vertex.vertex-index (search rules) (search rules) in
    let here : spot vs (get_or zs i (pos 0)) ≡ Some c.in_ok-numbered-2.field-0 = ap (spot vs) (sym read) ∙ sym c.numbered-in-loop-vertex.ensures ∙ c.in_ok-numbered-2.was in
    smallest_more vs zs i lt c.in_ok-numbered-2.field-0 here c.loop-vertex.around c.with-around.result c.loop-vertex.invariant c.with-around.ensures

pub returns-in_err-numbered-2 : goal.returns-in_err-numbered-2
returns-in_err-numbered-2 c =
    let vs : List ℤ = c.args.vertices.now in
    let zs : List ℤ = c.args.list.now in
    let i : ℕ = c.loop-vertex.vertex-index + 1 in
    let lt : i < length zs = search rules in
    let read = read_rest zs c.loop-vertex.vertex-index (search rules) (search rules) in
    let none : spot vs (get_or zs i (pos 0)) ≡ None = ap (spot vs) (sym read) ∙ sym c.numbered-in-loop-vertex.ensures ∙ c.in_err-numbered-2.was in
    subst (λ (o : Option Extent). MatchOption o (Spotted vs zs → ⊥) (Smallest vs zs)) (sym c.from_residual-in_err-numbered-2.ensures) (not_spotted vs zs i lt none)

pub returns : goal.returns
returns c =
    let zs : List ℤ = c.args.list.now in
    let i : ℕ = c.loop-vertex.vertex-index + 1 in
    let done : length zs ≤ i = search rules in
    subst (λ (ys : List ℤ). Smallest c.args.vertices.now ys c.loop-vertex.around) (take_all i zs done) c.loop-vertex.invariant
