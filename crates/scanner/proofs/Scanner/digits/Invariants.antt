use Rattle.std.proofs.Common.{◌≡◌, ◌-◌, ◌≤◌, length}
use Rattle.forms.specs.Progress.{DigitsSoFar}
use Rattle.scanner.proofs.Scanner.digits.Given as goal

abbrev pub invariant-loop-d : goal.invariant-loop-d
invariant-loop-d l =
    (l.self.bytes.now ≡ l.initial.self.bytes.now)
    × DigitsSoFar l.initial.self.bytes.now l.initial.self.at l.first l.self.at l.amount 1000000000
    × (l.self.far ≡ l.initial.self.far)
    × (l.self.at ≤ length l.initial.self.bytes.now)

abbrev pub decreases-loop-d : goal.decreases-loop-d
decreases-loop-d l = length l.initial.self.bytes.now - l.self.at
