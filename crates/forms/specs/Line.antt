-- What is to be said of a whole line of a form: what it says, or by which of the refusals 18, 1 and 2 it is refused, and where.
-- Assumes nothing.
use Rattle.std.specs.Prelude.{◌≡◌, ℕ, ◌<◌, ◌≤◌, ◌⊎◌, List, map, length, Some, None}
use Rattle.faults.specs.declared.Fault.{Fault}
use Rattle.faults.specs.declared.Refusal.TheVariants.{InputTooLong, NotOfForm, NumberTooFar}
use Rattle.forms.specs.Form.{Form, Item, Token, Wrong, Denotes}
use Rattle.forms.specs.Range.{first_far}

abbrev pub token : Item → Token
token x = x.token

-- the line is not too long, it is of the form L, every number of it is in range, and it says t, token by token
pub record Says (L : Form) (bs : List ℕ) (t : List Token) : Type 0 where
  pub short : length bs ≤ 65536
  pub items : List Item
  pub denotes : Denotes L bs items
  pub near : first_far items ≡ None
  pub says : map token items ≡ t

-- the line has more than 65,536 bytes
pub record Overlong (bs : List ℕ) (f : Fault) : Type 0 where
  pub refusal : f.refusal ≡ InputTooLong
  pub place : f.place ≡ 65536
  pub long : 65536 < length bs

-- the line is not too long and not of the form, and the fault is at the end of its longest beginning that begins a line of the form
pub record Misformed (L : Form) (bs : List ℕ) (f : Fault) : Type 0 where
  pub refusal : f.refusal ≡ NotOfForm
  pub short : length bs ≤ 65536
  pub wrong : Wrong L bs f.place

-- the line is not too long and of the form, and the fault is at the first byte of its first number beyond the range
pub record TooFar (L : Form) (bs : List ℕ) (f : Fault) : Type 0 where
  pub refusal : f.refusal ≡ NumberTooFar
  pub short : length bs ≤ 65536
  pub items : List Item
  pub denotes : Denotes L bs items
  pub far : first_far items ≡ Some f.place

-- the line is refused as 18, as 1 or as 2
abbrev pub Misread : Form → List ℕ → Fault → Type 0
Misread L bs f = Overlong bs f ⊎ (Misformed L bs f ⊎ TooFar L bs f)
