use Rattle.std.proofs.Common.{◌≡◌, ◌-◌, ◌≤◌, List, length}
use Rattle.forms.specs.Form.{Form, Item, ◌then◌}
use Rattle.forms.specs.Array.{blanks}
use Rattle.forms.specs.Progress.{After, BlankFree}
use Rattle.scanner.proofs.Scanner.skip_blanks.Given as goal

abbrev pub invariant-loop-self : goal.invariant-loop-self
invariant-loop-self l =
    (l.self.bytes.now ≡ l.initial.self.bytes.now)
    × (l.initial.self.at ≤ l.self.at)
    × ((L K : Form) (e : List Item) → BlankFree K → After L l.initial.self.bytes.now l.initial.self.at e (blanks then K) → After L l.initial.self.bytes.now l.self.at e (blanks then K))
    × (l.self.far ≡ l.initial.self.far)
    × (l.initial.self.at ≤ length l.initial.self.bytes.now → l.self.at ≤ length l.initial.self.bytes.now)

abbrev pub decreases-loop-self : goal.decreases-loop-self
decreases-loop-self l = length l.initial.self.bytes.now - l.self.at
