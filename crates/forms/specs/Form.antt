-- Forms of text: a small language of what may stand where in a line, and its meaning. A form stands between two points of a
-- line; what the line says there are items: its numbers, and the marks between them. Assumes nothing.
use Rattle.std.specs.Prelude.{◌≡◌, ℕ, zero, suc, ◌+◌, ◌≤◌, ◌⊎◌, List, [], ◌∷◌, ◌++◌, length, take, ℤ}
use Rattle.forms.specs.Number.{Integer}

infixr 30 ◌then◌
infixr 25 ◌or◌
-- The language: nothing at all; a byte that says nothing; a mark, which is a byte that is reported as an item (a bracket, a comma, the
-- digit of a kind); a number; one form after another; one or another; none or more of one.
pub data Form : Type 0 where
  nothing : Form
  byte : ℕ → Form
  mark : ℕ → Form
  number : Form
  ◌then◌ : Form → Form → Form
  ◌or◌ : Form → Form → Form
  many : Form → Form

-- what a line says, one by one
pub data Token : Type 0 where
  figure : ℤ → Token
  symbol : ℕ → Token

-- a token and the index of its first byte
pub record Item : Type 0 where
  pub place : ℕ
  pub token : Token

abbrev pub item : ℕ → Token → Item
item p x = record { place = p; token = x }

-- a point of a line: its index, the bytes from there on, and the items among these
pub record Point : Type 0 where
  pub index : ℕ
  pub text : List ℕ
  pub items : List Item

abbrev pub at : ℕ → List ℕ → List Item → Point
at i w o = record { index = i; text = w; items = o }

-- k steps of R, one after the other
abbrev pub Times : (Point → Point → Type 0) → ℕ → Point → Point → Type 0
Times R zero s t = s ≡ t
Times R (suc k) s t = (m : Point) × R s m × Times R k m t

-- F stands between the points s and t
abbrev pub Reads : Form → Point → Point → Type 0
Reads nothing s t = s ≡ t
Reads (byte b) s t = s ≡ at s.index (b ∷ t.text) t.items × (t.index ≡ s.index + 1)
Reads (mark b) s t = s ≡ at s.index (b ∷ t.text) (item s.index (symbol b) ∷ t.items) × (t.index ≡ s.index + 1)
Reads number s t =
    (u : List ℕ) × (z : ℤ) × Integer u z
    × (s ≡ at s.index (u ++ t.text) (item s.index (figure z) ∷ t.items)) × (t.index ≡ s.index + length u)
Reads (F then G) s t = (m : Point) × Reads F s m × Reads G m t
Reads (F or G) s t = Reads F s t ⊎ Reads G s t
Reads (many F) s t = (k : ℕ) × Times (Reads F) k s t

-- the text w, from index i of a line to its end, is of the form F, and o are its items
abbrev pub Ends : Form → ℕ → List ℕ → List Item → Type 0
Ends F i w o = (n : ℕ) × Reads F (at i w o) (at n [] [])

-- the line w is of the form F, and o are its items
abbrev pub Line : Form → List ℕ → List Item → Type 0
Line F w o = Ends F 0 w o

-- w also begins some line of the form F, of any length
abbrev pub Viable : Form → List ℕ → Type 0
Viable F w = (v : List ℕ) × (o : List Item) × Line F (w ++ v) o

-- the line w is not of the form F, and its first p bytes are its longest beginning that also begins some line of the form
pub record Wrong (F : Form) (w : List ℕ) (p : ℕ) : Type 0 where
  pub refused : (o : List Item) → Line F w o → ⊥
  pub within : p ≤ length w
  pub viable : Viable F (take p w)
  pub longest : (q : ℕ) → q ≤ length w → Viable F (take q w) → q ≤ p

-- the line is of the form F, and o are its items, by any reading of it
pub record Denotes (F : Form) (w : List ℕ) (o : List Item) : Type 0 where
  pub line : Line F w o
  pub only : (p : List Item) → Line F w p → p ≡ o
