use Rattle.std.proofs.Common.{vec_items, refl}
use Rattle.rules.specs.Raw.{lists_of}
use Rattle.hierarchy.proofs.Asking.{range_asked, box_asked}
use Rattle.hierarchy.proofs.hierarchy.Hierarchy.facts.Goals as goal

pub returns : goal.returns
returns g c =
    let h = c.args.self.now in
    let t = lists_of h.tables in
    let x = c.in_ok-known.ensures in
    record {
      is = x.0;
      number = refl;
      error = range_asked t (vec_items h.replacements) c.args.n.0 c.in_ok-known.known.now x.0 x.1 h.ranged (λ p. p.error);
      around = box_asked t (vec_items h.replacements) c.args.n.0 c.in_ok-known.known.now x.0 x.1 g.K.Kind.shape.arity h.boxed;
    }
