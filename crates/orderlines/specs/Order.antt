-- Order lines: their form, and what checking and reading one comes to. Assumes nothing.
use Rattle.std.specs.Prelude.{◌≡◌, ℕ, ◌<◌, ◌≤◌, ◌⊎◌, List, length, ℤ, Result, MatchResult}
use Rattle.faults.specs.declared.Fault.{Fault}
use Rattle.faults.specs.declared.Refusal.TheVariants.{CountOffLimits}
use Rattle.forms.specs.Form.{Form, ◌then◌}
use Rattle.forms.specs.Array.{blanks, listed, whole, array, single}
use Rattle.forms.specs.Line.{Says, Misread}
use Rattle.arrays.specs.Sink.{Filling, put_all, written}

-- one flat array of numbers
abbrev pub order : Form
order = blanks then listed whole

-- the line is the array of these values, all in range
abbrev pub Order : List ℕ → List ℤ → Type 0
Order bs values = Says order bs (array single values)

-- the line is an order of n values
pub record OrderOf (bs : List ℕ) (n : ℕ) : Type 0 where
  pub values : List ℤ
  pub says : Order bs values
  pub counts : length values ≡ n

-- What checking a line comes to: the number of its values, or its refusal as 18, as 1 or as 2.
abbrev pub OrderChecked : List ℕ → Result ℕ Fault → Type 0
OrderChecked bs r = MatchResult r (OrderOf bs) (Misread order bs)

-- the line is an order of n values, at least one, which stand in the first places now; the others are as they were
pub record OrderRead (bs : List ℕ) (before after : List ℤ) (n : ℕ) : Type 0 where
  pub values : List ℤ
  pub says : Order bs values
  pub counts : length values ≡ n
  pub some : 0 < n
  pub room : n ≤ length before
  pub kept : after ≡ written values before

-- the line is an order of no value, or of more values than there are places
pub record OrderOffLimits (bs : List ℕ) (places : ℕ) (f : Fault) : Type 0 where
  pub refusal : f.refusal ≡ CountOffLimits
  pub place : f.place ≡ 4
  pub values : List ℤ
  pub says : Order bs values
  pub off : (length values ≡ 0) ⊎ (places < length values)

-- What reading a line into a list comes to: its values stand in the list, or it is refused, as 18, as 1, as 2 or as 3, and the
-- list is as it was.
abbrev pub OrderReading : List ℕ → List ℤ → Result ℕ Fault → List ℤ → Type 0
OrderReading bs before r after =
    MatchResult r (OrderRead bs before after) (λ f. (Misread order bs f ⊎ OrderOffLimits bs (length before) f) × (after ≡ before))

-- checking, and reading, come to one thing only
abbrev pub OrderCheckedOnce : Type 0
OrderCheckedOnce = (bs : List ℕ) (r s : Result ℕ Fault) → OrderChecked bs r → OrderChecked bs s → r ≡ s

abbrev pub OrderReadOnce : Type 0
OrderReadOnce =
    (bs : List ℕ) (before : List ℤ) (r s : Result ℕ Fault) (after also : List ℤ)
    → OrderReading bs before r after → OrderReading bs before s also → (r ≡ s) × (after ≡ also)

-- a pass over an order line kept its n values
pub record OrderPassed (bs : List ℕ) (n : ℕ) (before after : Filling) : Type 0 where
  pub values : List ℤ
  pub says : Order bs values
  pub counts : length values ≡ n
  pub kept : after ≡ put_all values before
