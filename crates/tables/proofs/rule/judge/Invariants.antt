use Rattle.tables.specs.Judging.{Clear}
use Rattle.tables.proofs.rule.judge.Given as goal

abbrev pub invariant-loop-place : goal.invariant-loop-place
invariant-loop-place g l = Clear l.from l.place (g.R.Rule.kept l.rule)
