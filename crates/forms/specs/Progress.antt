-- How far a line is read: what may still come, by the bytes that may come first. Contracts of the scanner speak in these words.
-- Assumes nothing.
use Rattle.std.specs.Prelude.{◌≡◌, ℕ, zero, suc, ◌+◌, ◌≤◌, min, Bool, true, false, cond, ◌⊎◌, List, [], ◌∷◌, ◌++◌, length, take, drop, Some, None, Option, ◌==◌, ◌≢◌, nat_eq, nat_le}
use Rattle.forms.specs.Number.{Digit, Digits, Natural, denoted}
use Rattle.forms.specs.Form.{Form, nothing, byte, mark, number, ◌then◌, ◌or◌, many, Item, Ends, Line}

-- the byte that comes next
abbrev pub ahead : List ℕ → Option ℕ
ahead [] = None
ahead (b ∷ w) = Some b

-- After the first i bytes of bs, with the items e among them, a line of the form L goes on by F, if it goes on by the byte that bs has
-- there, or ends where bs ends.
pub record After (L : Form) (bs : List ℕ) (i : ℕ) (e : List Item) (F : Form) : Type 0 where
  pub within : i ≤ length bs
  pub sound : (v : List ℕ) (o : List Item) → Ends F i v o → Line L (take i bs ++ v) (e ++ o)
  pub complete : (v : List ℕ) (o : List Item) → ahead v ≡ ahead (drop i bs) → Line L (take i bs ++ v) o → (p : List Item) × (o ≡ e ++ p) × Ends F i v p

-- F and then K, with no brackets to the left: it computes at a form that is written out
abbrev pub onto : Form → Form → Form
onto nothing K = K
onto (byte b) K = byte b then K
onto (mark b) K = mark b then K
onto number K = number then K
onto (F then G) K = onto F (onto G K)
onto (F or G) K = onto F K or onto G K
onto (many F) K = many F then K

-- whether a form has the empty text
abbrev pub nullable : Form → Bool
nullable nothing = true
nullable (byte b) = false
nullable (mark b) = false
nullable number = false
nullable (F then G) = cond (nullable F) (nullable G) false
nullable (F or G) = cond (nullable F) true (nullable G)
nullable (many F) = true

-- n numbers from a on
abbrev pub from : ℕ → ℕ → List ℕ
from a zero = []
from a (suc n) = a ∷ from (suc a) n

-- the bytes that a text of the form can begin with
abbrev pub firsts : Form → List ℕ
firsts nothing = []
firsts (byte b) = b ∷ []
firsts (mark b) = b ∷ []
firsts number = 45 ∷ from 48 10
firsts (F then G) = firsts F ++ cond (nullable F) (firsts G) []
firsts (F or G) = firsts F ++ firsts G
firsts (many F) = firsts F

-- p fits none of these
abbrev pub none : (ℕ → Bool) → List ℕ → Bool
none p [] = true
none p (b ∷ bs) = cond (p b) false (none p bs)

abbrev pub is_blank : ℕ → Bool
is_blank b = cond (b == 32) true (cond (b == 9) true (b == 13))

abbrev pub is_digit : ℕ → Bool
is_digit b = cond (nat_le 48 b) (nat_le b 57) false

-- K begins with no space, tab or CR, and so can stand after them
abbrev pub BlankFree : Form → Type 0
BlankFree K = none is_blank (firsts K) ≡ true

-- K begins with no digit, and so can stand after a number
abbrev pub DigitFree : Form → Type 0
DigitFree K = none is_digit (firsts K) ≡ true

abbrev pub Apt : Form → Type 0
Apt K = BlankFree K × DigitFree K

-- what can be an entry of an array: it is not empty, and begins with no white space and not with ']'
pub record Element (F : Form) : Type 0 where
  pub clear : (K : Form) → BlankFree (onto F K)
  pub ends : (K : Form) → none (nat_eq 93) (firsts (onto F K)) ≡ true

-- no text of the form F begins with c, or is empty where c is None
pub record Shuns (F : Form) (c : Option ℕ) : Type 0 where
  pub never : (i : ℕ) (v : List ℕ) (o : List Item) → ahead v ≡ c → Ends F i v o → ⊥

-- a space, tab or CR
abbrev pub Blank : ℕ → Type 0
Blank b = (b ≡ 32) ⊎ ((b ≡ 9) ⊎ (b ≡ 13))

pub record BlankNext (w : List ℕ) : Type 0 where
  pub which : ℕ
  pub is : Blank which
  pub next : ahead w ≡ Some which

-- no digit comes next
abbrev pub NoDigit : Option ℕ → Type 0
NoDigit c = (d : ℕ) → Digit d → c ≢ Some d

-- the digits of an integer, all that come, stand between i and j, and m is what they denote, cut to the limit
pub record DigitsRead (bs : List ℕ) (i j m limit : ℕ) : Type 0 where
  pub digits : List ℕ
  pub natural : Natural digits
  pub amount : m ≡ min (denoted 0 digits) limit
  pub front : drop i bs ≡ digits ++ drop j bs
  pub reach : j ≡ i + length digits
  pub all : (digits ≡ 48 ∷ []) ⊎ NoDigit (ahead (drop j bs))

-- the same, on the way: after a first digit, more digits stand between i and j
pub record DigitsSoFar (bs : List ℕ) (i first j m limit : ℕ) : Type 0 where
  pub more : List ℕ
  pub are : Digits more
  pub amount : m ≡ min (denoted first more) limit
  pub front : drop i bs ≡ more ++ drop j bs
  pub reach : j ≡ i + length more
