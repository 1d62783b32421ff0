-- What the office's order form is told of a line. Assumes nothing.
use Rattle.std.specs.Prelude.{◌≡◌, ◌⊎◌, List, ℕ, ◌+◌, ◌*◌}
use Rattle.faults.specs.Number.{number_of}
use Rattle.faults.specs.declared.Fault.{Fault}
use Rattle.forms.specs.Line.{Misread}
use Rattle.orderlines.specs.Order.{order, OrderOf}

-- a fault as one number: its refusal's number times a million, and its place
abbrev pub code : Fault → ℕ
code f = number_of f.refusal * 1000000 + f.place

-- the line is an order with all numbers in range, of any count of values
pub record WellFormed (bs : List ℕ) (r : ℕ) : Type 0 where
  pub count : ℕ
  pub order : OrderOf bs count
  pub zero : r ≡ 0

-- the line is refused as 18, as 1 or as 2
pub record Refused (bs : List ℕ) (r : ℕ) : Type 0 where
  pub fault : Fault
  pub why : Misread order bs fault
  pub coded : r ≡ code fault

abbrev pub Verdict : List ℕ → ℕ → Type 0
Verdict bs r = WellFormed bs r ⊎ Refused bs r

-- a line has one verdict only
abbrev pub OneVerdict : Type 0
OneVerdict = (bs : List ℕ) (r s : ℕ) → Verdict bs r → Verdict bs s → r ≡ s
