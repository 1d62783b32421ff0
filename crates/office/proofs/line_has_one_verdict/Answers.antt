use Rattle.office.proofs.Verdicts.{one_verdict}
use Rattle.office.proofs.line_has_one_verdict.Goals as goal

pub returns : goal.returns
returns c = one_verdict
