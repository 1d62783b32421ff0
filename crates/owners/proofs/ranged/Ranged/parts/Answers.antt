use Rattle.std.proofs.Common.{ℕ, List, ℤ, nat_abs, length, ap, ◌∙◌, arith}
use Rattle.std.specs.List.{sum_by}
use Rattle.rules.specs.Raw.{lists_of}
use Rattle.rules.specs.Records.{records_of}
use Rattle.rules.proofs.RecordLists.{records_long}
use Rattle.owners.specs.Parts.{parts_from}
use Rattle.owners.proofs.Listing.{all_parts, all_takes, all_makes}
use Rattle.owners.proofs.ranged.Ranged.parts.Goals as goal

pub invariant_of-result : goal.invariant_of-result
invariant_of-result c =
    let t = lists_of c.args.self.now.tables in
    let e = c.records.ensures in
    record {
      few = omega (arith, ap (λ (rs : List ℤ). length (records_of rs)) e, records_long t.replacements, c.args.self.now.few);
      listed = omega (arith, ap (λ (rs : List ℤ). sum_by (λ r. nat_abs r.takes) (records_of rs)) e, all_takes t, c.args.self.now.listed, c.args.self.now.short);
      made = omega (arith, ap (λ (rs : List ℤ). sum_by (λ r. nat_abs r.makes) (records_of rs)) e, all_makes t, c.args.self.now.made, c.base.ensures);
    }

pub returns : goal.returns
returns c =
    ap (λ (rs : List ℤ). parts_from 0 0 c.base.result (records_of rs)) c.records.ensures
    ∙ ap (λ (b : ℕ). parts_from 0 0 b (records_of c.args.self.now.tables.replacements.now)) c.base.ensures
    ∙ all_parts (lists_of c.args.self.now.tables)
