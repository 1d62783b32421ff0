use Rattle.std.proofs.Common.{ℕ, List, length, drop, ap, subst, arith}
use Rattle.forms.specs.Progress.{BlankNext}
use Rattle.forms.proofs.Onto.{blank_on, blanks_off}
use Rattle.scanner.proofs.Scanner.skip_blanks.Goals as goal

pub loop-self-preserved : goal.loop-self-preserved
loop-self-preserved c =
    let same = c.loop-self.invariant.0 in
    let b = subst (λ (w : List ℕ). BlankNext (drop c.loop-self.self.at w)) same c.loop-self-test.ensures.1 in
    (same, omega arith, λ L K e clear h. blank_on clear b.is b.next (c.loop-self.invariant.2 L K e clear h), c.loop-self.invariant.3, λ h. omega (arith, ap length same, c.loop-self-test.ensures.0))

pub returns : goal.returns
returns c =
    let same = c.loop-self.invariant.0 in
    let none = subst (λ (w : List ℕ). BlankNext (drop c.loop-self.self.at w) → ⊥) same c.loop-self-test.ensures in
    record { same = same; on = c.loop-self.invariant.1; took = λ L K e clear h. blanks_off none (c.loop-self.invariant.2 L K e clear h); far = c.loop-self.invariant.3; within = c.loop-self.invariant.4 }
