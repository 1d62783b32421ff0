-- How a scanner gets on in its line. Each relation speaks of a scanner before and after, of the form that was to come and of the
-- form that comes now, whatever line it is part of and whatever follows. Assumes nothing.
use Rattle.std.specs.Prelude.{◌≡◌, ℕ, ◌+◌, ◌<◌, ◌≤◌, ◌⊎◌, List, [], ◌∷◌, ◌++◌, map, length, drop, ℤ, Some, None, Option}
use Rattle.faults.specs.declared.Fault.{Fault}
use Rattle.faults.specs.declared.Refusal.TheVariants.{NotOfForm, NumberTooFar}
use Rattle.forms.specs.Form.{Form, number, ◌then◌, Item, item, Token, figure, symbol, Wrong}
use Rattle.forms.specs.Array.{sign, blanks}
use Rattle.forms.specs.Progress.{ahead, After, onto, BlankFree, DigitFree, Apt}
use Rattle.forms.specs.Range.{clip, said, earlier, first_far}
use Rattle.scanner.specs.declared.Scanner.{Scanner}

-- the line that is read
abbrev pub text : Scanner → List ℕ
text r = r.bytes.now

-- the byte that comes next
abbrev pub next_byte : Scanner → Option ℕ
next_byte r = ahead (drop r.at (text r))

-- From r to s the scanner read the tokens t, with numbers beyond the range cut: where the form F was to come, G is now, whatever follows. The tokens are no more than
-- the bytes, and the first number beyond the range is kept in mind.
pub record Step (r s : Scanner) (F G : Form) (t : List Token) : Type 0 where
  pub items : List Item
  pub same : text s ≡ text r
  pub on : r.at + length t ≤ s.at
  pub within : r.at ≤ length (text r) → s.at ≤ length (text r)
  pub took : (L K : Form) (e : List Item) → Apt K → After L (text r) r.at e (onto F K) → After L (text r) s.at (e ++ items) (onto G K)
  pub says : map said items ≡ t
  pub far : s.far ≡ earlier r.far (first_far items)

-- it skipped white space
pub record Skipped (r s : Scanner) : Type 0 where
  pub same : text s ≡ text r
  pub on : r.at ≤ s.at
  pub within : r.at ≤ length (text r) → s.at ≤ length (text r)
  pub took : (L K : Form) (e : List Item) → BlankFree K → After L (text r) r.at e (blanks then K) → After L (text r) s.at e K
  pub far : s.far ≡ r.far

-- it read the mark b, and the white space after it
pub record Passed (r s : Scanner) (b : ℕ) : Type 0 where
  pub same : text s ≡ text r
  pub on : r.at < s.at
  pub within : s.at ≤ length (text r)
  pub took : (L K : Form) (e : List Item) → BlankFree K → After L (text r) r.at e (onto (sign b) K) → After L (text r) s.at (e ++ item r.at (symbol b) ∷ []) K
  pub far : s.far ≡ r.far

-- it read the text of a number, which is v, cut where it is beyond the range
pub record Numbered (r s : Scanner) (v : ℤ) : Type 0 where
  pub denotes : ℤ
  pub clipped : clip denotes ≡ v
  pub same : text s ≡ text r
  pub on : r.at < s.at
  pub within : s.at ≤ length (text r)
  pub took : (L K : Form) (e : List Item) → DigitFree K → After L (text r) r.at e (number then K) → After L (text r) s.at (e ++ item r.at (figure denotes) ∷ []) K
  pub far : s.far ≡ r.far

-- F does not come, and the line goes wrong at the fault's place, whatever follows F
pub record Missed (r : Scanner) (F : Form) (f : Fault) : Type 0 where
  pub refusal : f.refusal ≡ NotOfForm
  pub wrong : (L K : Form) (e : List Item) → After L (text r) r.at e (onto F K) → Wrong L (text r) f.place

-- the same, where F is followed by what can stand after a number and after white space
pub record Lost (r : Scanner) (F : Form) (f : Fault) : Type 0 where
  pub refusal : f.refusal ≡ NotOfForm
  pub wrong : (L K : Form) (e : List Item) → Apt K → After L (text r) r.at e (onto F K) → Wrong L (text r) f.place

-- a scanner at the first byte of a line that is no white space, or at its end
pub record Begun (bs : List ℕ) (r : Scanner) : Type 0 where
  pub short : length bs ≤ 65536
  pub same : text r ≡ bs
  pub within : r.at ≤ length bs
  pub took : (L K : Form) → BlankFree K → After L bs 0 [] (blanks then K) → After L bs r.at [] K
  pub far : r.far ≡ None

-- a scanner at the end of its line that met no number beyond the range
pub record Finished (r : Scanner) : Type 0 where
  pub past : length (text r) ≤ r.at
  pub near : r.far ≡ None

-- a scanner that is not at the end of its line, and the fault at the byte that comes next
pub record Unread (r : Scanner) (f : Fault) : Type 0 where
  pub refusal : f.refusal ≡ NotOfForm
  pub place : f.place ≡ r.at
  pub more : r.at < length (text r)

-- a scanner at the end of its line that met a number beyond the range, and the fault at the first such number
pub record MetFar (r : Scanner) (f : Fault) : Type 0 where
  pub refusal : f.refusal ≡ NumberTooFar
  pub past : length (text r) ≤ r.at
  pub far : r.far ≡ Some f.place

abbrev pub Unfinished : Scanner → Fault → Type 0
Unfinished r f = Unread r f ⊎ MetFar r f
