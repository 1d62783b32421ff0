-- Values and arrays of values that are read and kept. Assumes nothing.
use Rattle.std.specs.Prelude.{◌≡◌, ℕ, zero, suc, ◌+◌, ◌-◌, ◌≤◌, List, [], ◌∷◌, length, ℤ}
use Rattle.std.specs.List.{AllByRecursion}
use Rattle.faults.specs.declared.Fault.{Fault}
use Rattle.forms.specs.Form.{Form, nothing, ◌then◌, Token, symbol}
use Rattle.forms.specs.Array.{sign, whole, tail, inner, listed, row, columns, parts, array, single, row_tokens}
use Rattle.forms.specs.Progress.{onto, BlankFree, Apt, Element}
use Rattle.scanner.specs.Scanner.{text, Step, Lost}
use Rattle.scanner.specs.declared.Scanner.{Scanner}
use Rattle.arrays.specs.Sink.{Filling, put, puts, put_all, put_rows}

-- A scanner read the form F, which says a value of which P holds; what it keeps was `before`, and is that with the value now.
pub record Kept {A S : Type 0} (P : A → Type 0) (print : A → List Token) (keep : A → S → S) (F : Form) (r s : Scanner) (before after : S) : Type 0 where
  pub value : A
  pub is : P value
  pub step : Step r s F nothing (print value)
  pub kept : after ≡ keep value before

-- what may come after so many entries of an array, and what stands before the next entry
abbrev pub rest : ℕ → Form → Form
rest zero F = inner F
rest (suc n) F = tail F

abbrev pub lead : ℕ → List Token
lead zero = []
lead (suc n) = symbol 44 ∷ []

-- the same, of the first entries F of an array
pub record Listing {A S : Type 0} (P : A → Type 0) (print : A → List Token) (keep : A → S → S) (F : Form) (r s : Scanner) (count : ℕ) (before after : S) : Type 0 where
  pub values : List A
  pub counts : length values ≡ count
  pub each : AllByRecursion P values
  pub step : Step r s (inner F) (rest count F) (parts print values)
  pub few : r.at + count ≤ s.at
  pub inside : s.at ≤ length (text r)
  pub kept : after ≡ puts keep values before

-- K, after a comma unless it comes first
abbrev pub comma : ℕ → Form → Form
comma zero K = K
comma (suc n) K = sign 44 then K

-- what a scanner finds after n entries of an array, whatever these are: that another one comes, or that the array ends
pub record Comes (r : Scanner) (n : ℕ) : Type 0 where
  pub step : (F : Form) → Element F → Step r r (rest n F) (comma n (F then tail F)) []

pub record Ended (r : Scanner) (n : ℕ) : Type 0 where
  pub step : (F : Form) → Element F → Step r r (rest n F) (sign 93) []

-- the comma before an entry, of which n came before, whatever begins with it; or that it is missing
pub record Separated (r s : Scanner) (n : ℕ) : Type 0 where
  pub step : (K : Form) → ((J : Form) → Apt J → BlankFree (onto K J)) → Step r s (comma n K) K (lead n)

pub record NotSeparated (r : Scanner) (n : ℕ) (f : Fault) : Type 0 where
  pub lost : (K : Form) → Lost r (comma n K) f

-- so many values of which P holds
abbrev pub Several : {A : Type 0} → (A → Type 0) → ℕ → List A → Type 0
Several P n x = (length x ≡ n) × AllByRecursion P x

abbrev pub Any : ℤ → Type 0
Any z = Unit {0}

-- a row of n
abbrev pub Long : ℕ → List ℤ → Type 0
Long n x = length x ≡ n

-- so many rows of n
abbrev pub Rows : ℕ → ℕ → List (List ℤ) → Type 0
Rows n = Several (Long n)

-- a number, an array of so many numbers, a row of n numbers, an array of so many such rows
abbrev pub NumberKept : Scanner → Scanner → Filling → Filling → Type 0
NumberKept = Kept Any single put whole

abbrev pub NumbersKept : ℕ → Scanner → Scanner → Filling → Filling → Type 0
NumbersKept count = Kept (Long count) (array single) put_all (listed whole)

abbrev pub RowKept : ℕ → Scanner → Scanner → Filling → Filling → Type 0
RowKept n = Kept (Long n) row_tokens put_all (row n)

abbrev pub RowsKept : ℕ → ℕ → Scanner → Scanner → Filling → Filling → Type 0
RowsKept n count = Kept (Rows n count) (array row_tokens) put_rows (listed (row n))

-- the first i numbers of a row of n
pub record RowSoFar (n i : ℕ) (r s : Scanner) (before after : Filling) : Type 0 where
  pub values : List ℤ
  pub counts : length values ≡ i
  pub step : Step r s (columns 0 n) (columns i (n - i)) (parts single values)
  pub kept : after ≡ put_all values before
