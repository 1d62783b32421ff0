use Rattle.std.proofs.Common.{◌≡◌, ℕ, ◌+◌, ◌≤◌, nat_abs, vec_items, vec_len, vec_capacity}
use Rattle.rules.specs.Ranges.{before}
use Rattle.rules.specs.Raw.{lists_of}
use Rattle.rules.specs.Records.{records_of}
use Rattle.rules.specs.Rows.{replacements_in}
use Rattle.owners.specs.Parts.{parts_from}
use Rattle.owners.proofs.Listing.{later_parts}
use Rattle.owners.proofs.Making.{Entered}
use Rattle.owners.proofs.makers.list_makers.Given as goal

abbrev pub invariant-loop-n : goal.invariant-loop-n
invariant-loop-n l =
    let p = l.n-iterator in
    let t = lists_of l.ranged.tables in record {
      gone : ℕ;
      inside : gone ≤ replacements_in t;
      left : parts_from p.number p.list p.first (records_of p.records.left.now) ≡ later_parts t gone;
      long : vec_len l.owners ≡ nat_abs t.base + before 2 t.replacements gone;
      entered : Entered t (vec_items l.owners);
      capacity : 16384 ≤ vec_capacity l.owners;
    }
