use Rattle.std.proofs.Common.{List, ℕ, ℤ, map, MatchOption, sym, ap, ◌∙◌, subst, rules}
use Rattle.rules.specs.Counts.{AddsUp}
use Rattle.rules.specs.Records.{records_of}
use Rattle.rules.proofs.RecordLists.{column_takes}
use Rattle.rules.proofs.raw.RawTables.taken_by_counts.Goals as goal

pub returns : goal.returns
returns c =
    subst (λ (xs : List ℤ). MatchOption c.add_up.result ((n : ℕ) → AddsUp xs 0 n → ⊥) (AddsUp xs 0))
    (ap (λ rs. map (λ r. r.takes) (records_of rs)) c.records.ensures ∙ sym (column_takes c.args.self.now.replacements.now))
    (c.add_up.ensures (λ r. r.takes) (λ r z is. search rules))
