use Rattle.std.proofs.Common.{sym, refl, subst, arith}
use Rattle.forms.specs.Form.{Wrong, ◌then◌}
use Rattle.forms.specs.Array.{blanks}
use Rattle.forms.proofs.Steps.{step_mark}
use Rattle.forms.proofs.Onto.{shuns_mark, stuck}
use Rattle.scanner.proofs.Scanner.pass.Goals as goal

pub returns-then-not-sees : goal.returns-then-not-sees
returns-then-not-sees c =
    record { refusal = c.wrong.ensures.0; wrong = λ L K e h. subst (Wrong L _) (sym c.wrong.ensures.1) (stuck refl (shuns_mark c.if-not-sees.ensures) h) }

pub returns : goal.returns
returns c =
    let k = c.skip_blanks.ensures in
    record {
      same = k.same;
      on = omega (arith, k.on);
      within = k.within (omega (arith, c.if-not-sees.ensures.0));
      took = λ L K e clear h. k.took L K _ clear (step_mark c.args.mark (blanks then K) c.if-not-sees.ensures.1 h);
      far = k.far;
    }
