-- Order lines: what a pass over one comes to, and that an order line has one list of values. Assumes nothing.
use Rattle.std.proofs.Common.{◌≡◌, ℕ, ◌<◌, ◌≤◌, ◌⊎◌, List, length, ℤ, Ok, Err, Result, sym, ap, ◌∙◌, subst, ⊎_elim, arith, MatchResult}
use Rattle.faults.specs.declared.Fault.{Fault}
use Rattle.forms.specs.Array.{single}
use Rattle.forms.specs.Line.{Misread}
use Rattle.forms.proofs.Lines.{same_fault, says_once, says_or_not, misread_once}
use Rattle.forms.proofs.Printing.{array_only, single_sharp}
use Rattle.arrays.specs.Sink.{Filling, lent, written}
use Rattle.arrays.proofs.Filled.{filled}
use Rattle.orderlines.specs.Order.{order, Order, OrderOf, OrderRead, OrderOffLimits, OrderReading, OrderPassed, OrderCheckedOnce, OrderReadOnce}

pub one_order : {bs : List ℕ} (v w : List ℤ) → Order bs v → Order bs w → v ≡ w
one_order v w x y = array_only single single_sharp v w (says_once x y)

pub passed_of : {bs : List ℕ} {n : ℕ} {before after : Filling} → OrderPassed bs n before after → OrderOf bs n
passed_of x = record { values = x.values; says = x.says; counts = x.counts }

one_count : {bs : List ℕ} {m n : ℕ} → OrderOf bs m → OrderOf bs n → m ≡ n
one_count x y = sym x.counts ∙ ap length (one_order x.values y.values x.says y.says) ∙ y.counts

pub checked_once : OrderCheckedOnce
checked_once bs (Ok m) (Ok n) x y = ap {B = Result ℕ Fault} Ok (one_count x y)
checked_once bs (Ok m) (Err g) x y = absurd (says_or_not x.says y)
checked_once bs (Err f) (Ok n) x y = absurd (says_or_not y.says x)
checked_once bs (Err f) (Err g) x y = ap {B = Result ℕ Fault} Err (misread_once f g x y)

-- the second pass over a line that was checked
pub order_read : {bs : List ℕ} {m n : ℕ} {before : List ℤ} {after : Filling} → OrderOf bs m → 0 < m → m ≤ length before → OrderPassed bs n (lent before 0) after → OrderRead bs before after.places n
order_read {bs} {m} {n} {before} {after} x some room p =
    let same : m ≡ n = one_count x (passed_of p) in
    record {
      values = p.values;
      says = p.says;
      counts = p.counts;
      some = omega (arith, same);
      room = omega (arith, same);
      kept = ap (λ (s : Filling). s.places) p.kept ∙ filled before p.values (omega (arith, p.counts, same));
    }

pub second_pass : {bs : List ℕ} {m : ℕ} (before after : List ℤ) (filled_to : Filling) (r : Result ℕ Fault) → OrderOf bs m → (0 < m) × (m ≤ length before) → MatchResult r (λ n. OrderPassed bs n (lent before 0) filled_to) (Misread order bs) → after ≡ filled_to.places → OrderReading bs before r after
second_pass {bs} {m} before after filled_to (Ok n) x fit p e = subst (λ (l : List ℤ). OrderRead bs before l n) (sym e) (order_read x fit.0 fit.1 p)
second_pass before after filled_to (Err f) x fit p e = absurd (says_or_not x.says p)

-- an order that is off limits is not read
off_or_not : {bs : List ℕ} {before after : List ℤ} {n : ℕ} {f : Fault} → OrderRead bs before after n → OrderOffLimits bs (length before) f → ⊥
off_or_not x y =
    let same = ap length (one_order x.values y.values x.says y.says) in
    ⊎_elim (λ e. omega (arith, same, x.counts, x.some)) (λ lt. omega (arith, same, x.counts, x.room)) y.off

refused_once : {bs : List ℕ} {places : ℕ} (f g : Fault) → Misread order bs f ⊎ OrderOffLimits bs places f → Misread order bs g ⊎ OrderOffLimits bs places g → f ≡ g
refused_once f g x y =
    ⊎_elim
    (λ a. ⊎_elim (λ b. misread_once f g a b) (λ b. absurd (says_or_not b.says a)) y)
    (λ a. ⊎_elim (λ b. absurd (says_or_not a.says b)) (λ b. same_fault f g (a.refusal ∙ sym b.refusal) (a.place ∙ sym b.place)) y)
    x

pub read_once : OrderReadOnce
read_once bs before (Ok m) (Ok n) after also x y =
    let values = one_order x.values y.values x.says y.says in
    let count : m ≡ n = sym x.counts ∙ ap length values ∙ y.counts in
    (ap {B = Result ℕ Fault} Ok count, x.kept ∙ ap (λ (v : List ℤ). written v before) values ∙ sym y.kept)
read_once bs before (Ok m) (Err g) after also x y = absurd (⊎_elim (λ b. says_or_not x.says b) (λ b. off_or_not x b) y.0)
read_once bs before (Err f) (Ok n) after also x y = absurd (⊎_elim (λ b. says_or_not y.says b) (λ b. off_or_not y b) x.0)
read_once bs before (Err f) (Err g) after also x y = (ap {B = Result ℕ Fault} Err (refused_once f g x.0 y.0), x.1 ∙ sym y.1)
