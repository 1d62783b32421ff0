use Rattle.std.proofs.lemmas.Result.{MatchResult-weaker}
use Rattle.rules.specs.Raw.{lists_of}
use Rattle.rules.specs.Hierarchies.{plain_rows, linked_rows}
use Rattle.rules.proofs.Rows.{plainly}
use Rattle.hierarchy.specs.Accepted.{places_for}
use Rattle.hierarchy.proofs.Facts.{corners_room}
use Rattle.hierarchy.proofs.Joining.{multi_triangulation, refused_later}
use Rattle.hierarchy.proofs.hierarchy.accept.accept.Goals as goal

pub returns : goal.returns
returns g c =
    let k = g.K.Kind.shape in
    let t = lists_of c.args.tables in
    let p = places_for t c.args.work.corners in
    let plain = c.in_ok-judge_placed_tables.ensures in
    MatchResult-weaker c.link.result c.link.ensures
    (λ h x. (multi_triangulation k t p plain x.0, corners_room k t p g.met.K.Kind.some (plainly k t p plain), x.1))
    (λ f x. refused_later (plain_rows k t p) (linked_rows k t) f plain x)
