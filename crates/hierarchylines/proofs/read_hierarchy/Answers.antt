use Rattle.std.proofs.Common.{refl, inr, rules}
use Rattle.faults.proofs.Exits.{passed_on}
use Rattle.arrays.specs.Sink.{filling}
use Rattle.hierarchypass.specs.Passing.{fillings}
use Rattle.hierarchylines.specs.Reading.{lists}
use Rattle.hierarchylines.proofs.Outcomes.{off_limits, second_pass, same_lists}
use Rattle.hierarchylines.proofs.read_hierarchy.Goals as goal

pub returns-in_err-judge : goal.returns-in_err-judge
returns-in_err-judge c =
    passed_on _ _ c.from_residual-in_err-judge.result c.in_err-judge.field-0.0 c.from_residual-in_err-judge.ensures.1
    (inr (off_limits c.in_ok-contents.ensures (lists c.args.coordinates.now c.args.corners.now c.args.replacements.now c.args.taken.now) c.places_in-places.ensures c.in_err-judge.ensures), refl)

pub returns : goal.returns
returns c =
    let last = c.pass_hierarchy.new in
    second_pass c.in_ok-contents.ensures (lists c.args.coordinates.now c.args.corners.now c.args.replacements.now c.args.taken.now) _ (fillings (filling last.coordinates) (filling last.corners) (filling last.replacements) (filling last.taken)) c.pass_hierarchy.result
    c.places_in-places.result c.places_in-places.ensures c.in_ok-judge.ensures
    (rw (c.over.ensures.unused, c.over-2.ensures.unused, c.over-3.ensures.unused, c.over-4.ensures.unused) at c.pass_hierarchy.ensures.reads)
    (same_lists (search rules) (search rules) (search rules) (search rules))
