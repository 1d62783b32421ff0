-- The number that the order form is told. Assumes nothing.
use mathlib.Core.Path.{sym, ap, ◌∙◌}
use mathlib.Core.Logic.{⊎_elim}
use Rattle.forms.proofs.Lines.{says_or_not, misread_once}
use Rattle.office.specs.Verdict.{code, OneVerdict}

pub one_verdict : OneVerdict
one_verdict bs r s x y =
    ⊎_elim
    (λ a. ⊎_elim (λ b. a.zero ∙ sym b.zero) (λ b. absurd (says_or_not a.order.says b.why)) y)
    (λ a. ⊎_elim
    (λ b. absurd (says_or_not b.order.says a.why))
    (λ b. a.coded ∙ ap code (misread_once a.fault b.fault a.why b.why) ∙ sym b.coded)
    y)
    x
