use Rattle.std.proofs.Common.{◌≡◌, ◌≤◌, map, vec_items, vec_len, vec_capacity}
use Rattle.std.specs.List.{range_with_len}
use Rattle.owners.specs.Owners.{part_of}
use Rattle.owners.specs.Parts.{parts_from}
use Rattle.owners.proofs.Listing.{later_parts}
use Rattle.rules.specs.Raw.{lists_of}
use Rattle.rules.specs.Records.{records_of}
use Rattle.rules.specs.Rows.{replacements_in}
use Rattle.hierarchy.specs.Derived.{boxes_in, ranges_in}
use Rattle.hierarchy.proofs.Listing.{Boxed}
use Rattle.hierarchy.proofs.replacements.list_replacements.Given as goal

abbrev pub invariant-loop-ranges : goal.invariant-loop-ranges
invariant-loop-ranges g l =
    let t = lists_of l.ranged.tables in
    let p = l.ranges-iterator in
    let k = vec_len l.replacements in record {
      inside : k ≤ replacements_in t;
      left : parts_from p.number p.list p.first (records_of p.records.left.now) ≡ later_parts t k;
      ranges : ranges_in (vec_items l.replacements) ≡ map (part_of t) (range_with_len 1 k);
      boxes : Boxed g.K.Kind.shape.arity t k (boxes_in (vec_items l.replacements));
      capacity : 4096 ≤ vec_capacity l.replacements;
    }
