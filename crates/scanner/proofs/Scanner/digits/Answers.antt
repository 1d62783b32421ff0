use Rattle.std.proofs.Common.{◌≡◌, ℕ, ◌+◌, List, length, drop, Some, ap, subst, arith}
use Rattle.forms.specs.Progress.{ahead, NoDigit}
use Rattle.forms.proofs.Numbers.{zero_counted, counting_more, all_counted}
use Rattle.scanner.proofs.Scanner.digits.Goals as goal

pub returns-then-not-leads-clause-reads : goal.returns-then-not-leads-clause-reads
returns-then-not-leads-clause-reads c = zero_counted _ _ c.in-Some.first _ c.if-not-leads.ensures c.in-Some.ensures.2

pub loop-d-preserved : goal.loop-d-preserved
loop-d-preserved c =
    let same = c.loop-d.invariant.0 in
    let next = subst (λ (w : List ℕ). ahead (drop c.loop-d.self.at w) ≡ Some (48 + c.in-Some-digit.d)) same c.in-Some-digit.ensures.2 in
    (same, counting_more _ _ _ _ _ c.in-Some-digit.d _ _ c.loop-d.invariant.1 c.in-Some-digit.ensures.0 next c.with_digit-amount.ensures, c.loop-d.invariant.2, omega (arith, ap length same, c.in-Some-digit.ensures.1))

pub returns-clause-reads : goal.returns-clause-reads
returns-clause-reads c =
    let none = subst (λ (w : List ℕ). NoDigit (ahead (drop c.loop-d.self.at w))) c.loop-d.invariant.0 c.in_default-digit.ensures in
    all_counted _ _ c.in-Some.first _ _ _ c.loop-d.invariant.1 c.if-not-leads.ensures c.in-Some.ensures.0 c.in-Some.ensures.2 none
