use Rattle.std.proofs.Common.{◌≡◌, ℕ, ◌+◌, ◌≤◌}
use Rattle.owners.specs.Parts.{parts_from}
use Rattle.owners.proofs.Listing.{later_parts}
use Rattle.rules.specs.Links.{RimKept}
use Rattle.rules.specs.Raw.{lists_of}
use Rattle.rules.specs.Records.{records_of}
use Rattle.rules.specs.Rows.{replacements_in}
use Rattle.tables.specs.Judging.{Clear}
use Rattle.hierarchy.proofs.rim_rule.judge_rims.Given as goal

abbrev pub invariant-loop-n : goal.invariant-loop-n
invariant-loop-n g l =
    let t = lists_of l.ranged.tables in
    let p = l.n-iterator in record {
      gone : ℕ;
      inside : gone ≤ replacements_in t;
      left : parts_from p.number p.list p.first (records_of p.records.left.now) ≡ later_parts t gone;
      clear : Clear 1 (gone + 1) (RimKept g.K.Kind.shape t);
      room : l.rims.room ≡ l.initial.rims.room;
    }
