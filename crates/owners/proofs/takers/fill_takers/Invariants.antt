use Rattle.std.proofs.Common.{◌≡◌, ℕ, ◌≤◌}
use Rattle.rules.specs.Ranges.{before}
use Rattle.rules.specs.Raw.{lists_of}
use Rattle.rules.specs.Records.{records_of}
use Rattle.rules.specs.Rows.{replacements_in}
use Rattle.owners.specs.Owners.{makers_in, takers_in}
use Rattle.owners.specs.Claims.{Noted}
use Rattle.owners.specs.Parts.{parts_from}
use Rattle.owners.proofs.Listing.{later_parts}
use Rattle.owners.proofs.takers.fill_takers.Given as goal

abbrev pub invariant-loop-n : goal.invariant-loop-n
invariant-loop-n l =
    let p = l.n-iterator in
    let t = lists_of l.ranged.tables in record {
      gone : ℕ;
      inside : gone ≤ replacements_in t;
      left : parts_from p.number p.list p.first (records_of p.records.left.now) ≡ later_parts t gone;
      noted : Noted t (before 1 t.replacements gone) (takers_in l.owners);
      makers : makers_in l.owners ≡ makers_in l.initial.owners;
    }
