use Rattle.std.proofs.Common.{◌≡◌, ◌≤◌, ℤ, map}
use Rattle.rules.specs.declared.record.Record.{Record}
use Rattle.rules.specs.Records.{records_of}
use Rattle.rules.proofs.Sums.{Adding}
use Rattle.rules.proofs.counts.add_up.Given as goal

abbrev pub invariant-loop-record : goal.invariant-loop-record
invariant-loop-record g l =
    (l.sum ≤ 16384)
    × ((counts : Record → ℤ) → ((r : Record) (z : ℤ) → goal.F-post g l.count_of r z → z ≡ counts r) → Adding (map counts (records_of l.fn.records.left.now)) l.start (map counts (records_of l.record-iterator.left.now)) l.sum)
