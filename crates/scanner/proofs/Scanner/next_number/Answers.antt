use Rattle.std.proofs.Common.{[], ◌∷◌, ℤ, sym, ap, ◌∙◌, subst, w32, SFits, rules}
use Rattle.std.proofs.lemmas.Int.{to_z-of_z}
use Rattle.forms.specs.Array.{blanks, whole}
use Rattle.forms.specs.Range.{earlier, far}
use Rattle.scanner.specs.Scanner.{Step}
use Rattle.forms.specs.Form.{nothing, figure}
use Rattle.faults.proofs.Exits.{passed_on}
use Rattle.scanner.proofs.Steps.{lost_first, one_step}
use Rattle.scanner.proofs.Scanner.next_number.Goals as goal

pub returns-in_err-value : goal.returns-in_err-value
returns-in_err-value c = passed_on _ _ c.from_residual.result c.in_err-value.field-0.0 c.from_residual.ensures.1 (lost_first blanks c.in_err-value.ensures)

pub returns : goal.returns
returns c =
    let fits : SFits w32 c.in_ok-value.value = search rules in
    let back = to_z-of_z w32 c.in_ok-value.value fits in
    let n = c.note.ensures in
    subst (λ (z : ℤ). Step c.args.self.now c.skip_blanks.new.self whole nothing (figure z ∷ [])) (sym back)
    (one_step c.in_ok-value.ensures n.same.0 n.same.1 (n.far ∙ ap (λ (z : ℤ). earlier c.integer.new.self.far (far c.args.self.now.at z)) back) c.skip_blanks.ensures)
