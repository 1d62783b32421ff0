use Rattle.std.proofs.Common.{ℕ, vec_items}
use Rattle.owners.specs.declared.part.Part.{Part}
use Rattle.rules.specs.Raw.{lists_of}
use Rattle.hierarchy.proofs.Asking.{range_asked}
use Rattle.hierarchy.proofs.hierarchy.Hierarchy.ranges.Goals as goal

pub returns : goal.returns
returns g c =
    let h = c.args.self.now in
    let x = c.in_ok-entry.ensures in
    let read = λ (f : Part → ℕ). range_asked (lists_of h.tables) (vec_items h.replacements) c.args.n.0 c.in_ok-entry.field-0.now x.0 x.1 h.ranged f in
    record {
      is = x.0;
      error = read (λ p. p.error);
      list = read (λ p. p.list);
      takes = read (λ p. p.takes);
      first = read (λ p. p.first);
      makes = read (λ p. p.makes);
    }
