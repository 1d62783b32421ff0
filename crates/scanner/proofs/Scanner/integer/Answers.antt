use Rattle.std.proofs.Common.{sym, refl, subst, arith}
use Rattle.forms.specs.Form.{Wrong}
use Rattle.forms.proofs.Onto.{stuck, shuns_number}
use Rattle.faults.proofs.Exits.{passed_on}
use Rattle.forms.proofs.Numbers.{plain_numbered, minus_numbered, plain_cast, minus_cast, minus_stuck}
use Rattle.scanner.proofs.Scanner.integer.Goals as goal

pub returns-in_err-amount : goal.returns-in_err-amount
returns-in_err-amount c =
    let told = c.in_err-amount.ensures in
    passed_on _ _ c.from_residual.result c.in_err-amount.field-0.0 c.from_residual.ensures.1
    (record { refusal = told.reads.0; wrong = λ L K e h. subst (Wrong L _) (sym told.reads.1) (minus_stuck c.if-sees.ensures.1 told.reads.2 h) })

pub returns-in_err-amount-2 : goal.returns-in_err-amount-2
returns-in_err-amount-2 c =
    let told = c.in_err-amount-2.ensures in
    passed_on _ _ c.from_residual-in_err-amount-2.result c.in_err-amount-2.field-0.0 c.from_residual-in_err-amount-2.ensures.1
    (record { refusal = told.reads.0; wrong = λ L K e h. subst (Wrong L _) (sym told.reads.1) (stuck refl (shuns_number told.reads.2 c.if-sees.ensures) h) })

pub returns-in_ok-amount : goal.returns-in_ok-amount
returns-in_ok-amount c =
    let told = c.in_ok-amount.ensures in
    let n = minus_numbered _ _ _ c.in_ok-amount.amount _ c.if-sees.ensures.1 told.reads (minus_cast _ (omega (arith, told.reads.amount))) in
    record { denotes = n.denotes; clipped = n.clipped; same = told.same.0; on = omega (arith, told.on); within = told.on.1; took = n.reads; far = told.same.1 }

pub returns-in_ok-amount-2 : goal.returns-in_ok-amount-2
returns-in_ok-amount-2 c =
    let told = c.in_ok-amount-2.ensures in
    let n = plain_numbered _ _ _ c.in_ok-amount-2.amount _ told.reads (plain_cast _ (omega (arith, told.reads.amount))) in
    record { denotes = n.denotes; clipped = n.clipped; same = told.same.0; on = told.on.0; within = told.on.1; took = n.reads; far = told.same.1 }
