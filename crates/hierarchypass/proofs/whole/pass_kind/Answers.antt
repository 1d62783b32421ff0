use Rattle.faults.proofs.Exits.{passed_on}
use Rattle.hierarchypass.proofs.Bodies.{no_kind, kind_passed}
use Rattle.hierarchypass.proofs.whole.pass_kind.Goals as goal

pub returns-in_err-pass : goal.returns-in_err-pass
returns-in_err-pass c = passed_on _ _ c.from_residual.result c.in_err-pass.field-0.0 c.from_residual.ensures.1 (no_kind c.next_kind-kind.ensures (rw c.digit.ensures at c.in_err-pass.ensures))

pub returns : goal.returns
returns c = kind_passed c.next_kind-kind.ensures (rw c.digit.ensures at c.in_ok-pass.ensures)
