use Rattle.std.proofs.Common.{◌≡◌, vec_items, vec_len, sym, ◌∙◌, arith}
use Rattle.std.proofs.lemmas.List.{length-map}
use Rattle.rules.specs.Rows.{replacements_in}
use Rattle.rules.specs.Raw.{lists_of}
use Rattle.rules.proofs.Rows.{plainly}
use Rattle.hierarchy.specs.Accepted.{places_for}
use Rattle.hierarchy.proofs.Facts.{adds_up, few_cells, few, short, listed, takes, known, corners_room, rims_fit, boxes_ready}
use Rattle.hierarchy.proofs.hierarchy.accept.link.Goals as goal

pub invariant_of-ranged : goal.invariant_of-ranged
invariant_of-ranged g c =
    let k = g.K.Kind.shape in
    let t = lists_of c.args.tables in
    let p = places_for t c.args.work.corners in
    let some = g.met.K.Kind.some in
    let plain = plainly k t p c.requires in
    record {
      few = few k t p some plain;
      made = few_cells k t p some plain;
      short = short k t p some plain;
      listed = listed k t p some plain;
      takes = takes k t p some plain;
      known = known k t p some plain;
    }

pub judge_rims-requires : goal.judge_rims-requires
judge_rims-requires g c =
    let k = g.K.Kind.shape in
    let t = lists_of c.args.tables in
    let p = places_for t c.args.work.corners in
    let some = g.met.K.Kind.some in
    let plain = plainly k t p c.requires in
    rims_fit k t p some plain c.args.work.rims.room (omega (arith, c.args.work.ample, corners_room k t p some plain))

pub list_replacements-replacements-requires : goal.list_replacements-replacements-requires
list_replacements-replacements-requires g c =
    let t = lists_of c.args.tables in
    let p = places_for t c.args.work.corners in
    let some = g.met.K.Kind.some in
    boxes_ready g.K.Kind.shape t p some (plainly g.K.Kind.shape t p c.requires)

pub invariant_of-result : goal.invariant_of-result
invariant_of-result g c =
    let k = g.K.Kind.shape in
    let t = lists_of c.args.tables in
    let p = places_for t c.args.work.corners in
    let some = g.met.K.Kind.some in
    let plain = plainly k t p c.requires in
    let up = adds_up k t p some plain in
    let owners = c.in_ok-owners.ensures in
    let found = c.list_replacements-replacements.ensures in
    let rs = c.list_replacements-replacements.result in
    let long : vec_len rs ≡ replacements_in t = rs.ok.0 ∙ sym (length-map (vec_items rs) (λ r. r.around)) ∙ found.boxes.long in
    record {
      few = (omega (arith, owners.0, few_cells k t p some plain), omega (arith, long, few k t p some plain));
      counted = (owners.0 ∙ up, long);
      made = ∣ owners.2 ∣₁;
      taken = ∣ owners.3 ∣₁;
      ranged = ∣ found.ranges ∣₁;
      boxed = ∣ found.boxes ∣₁;
      ordered = ∣ record { some = some; adds_up = up; growth = plain.growth; earlier = plain.earlier; fresh = owners.1 } ∣₁;
    }
