use Rattle.std.proofs.Common.{List, ℕ, ℤ, map, MatchOption, sym, ap, ◌∙◌, subst, rules}
use Rattle.rules.specs.Counts.{AddsUp}
use Rattle.rules.specs.Records.{records_of}
use Rattle.rules.proofs.RecordLists.{column_makes}
use Rattle.rules.proofs.raw.RawTables.cells_by_counts.Goals as goal

pub returns : goal.returns
returns c =
    subst (λ (xs : List ℤ). MatchOption c.add_up.result ((n : ℕ) → AddsUp xs c.args.base n → ⊥) (AddsUp xs c.args.base))
    (ap (λ rs. map (λ r. r.makes) (records_of rs)) c.records.ensures ∙ sym (column_makes c.args.self.now.replacements.now))
    (c.add_up.ensures (λ r. r.makes) (λ r z is. search rules))
