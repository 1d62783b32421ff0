-- Hierarchy lines: their form, the hierarchy that a line says, and its tables. Assumes nothing.
use Rattle.std.specs.Prelude.{ℕ, ◌+◌, List, [], ◌∷◌, ◌++◌, length, ℤ, pos}
use Rattle.std.specs.List.{AllByRecursion}
use Rattle.forms.specs.Form.{Form, ◌then◌, ◌or◌, Token, figure, symbol}
use Rattle.forms.specs.Array.{blanks, sign, whole, listed, row, array, single, row_tokens}
use Rattle.forms.specs.Line.{Says}
use Rattle.arrays.specs.Sink.{flat}
use Rattle.arrays.specs.Listing.{Long}
use Rattle.tables.specs.Kind.{corners_of}
use Rattle.tables.specs.Tables.{Tables}
use Rattle.tables.specs.declared.contents.Contents.{Contents}
use Rattle.tables.specs.declared.kind.CellKind.{CellKind}

-- The form. '[' is 91, ',' is 44, ']' is 93, '3' is 51 and '2' is 50.

-- [error,[taken numbers],[made cells]], with cells of k corners
abbrev pub replacement : ℕ → Form
replacement k = sign 91 then whole then sign 44 then listed whole then sign 44 then listed (row k) then sign 93

-- ,[vertices],[base cells],[replacements]]
abbrev pub body : ℕ → Form
body k = sign 44 then listed (row 3) then sign 44 then listed (row k) then sign 44 then listed (replacement k) then sign 93

-- 3 and cells of three corners, or 2 and cells of two
abbrev pub kinds : Form
kinds = (sign 51 then body 3) or (sign 50 then body 2)

abbrev pub hierarchy : Form
hierarchy = blanks then sign 91 then kinds

-- What a line says.
pub record Replacement : Type 0 where
  pub error : ℤ
  pub taken : List ℤ
  pub made : List (List ℤ)

pub record Hierarchy : Type 0 where
  pub kind : CellKind
  pub vertices : List (List ℤ)
  pub base : List (List ℤ)
  pub replacements : List Replacement

abbrev pub replacement_tokens : Replacement → List Token
replacement_tokens r = symbol 91 ∷ (figure r.error ∷ (symbol 44 ∷ (array single r.taken ++ (symbol 44 ∷ (array row_tokens r.made ++ symbol 93 ∷ [])))))

abbrev pub body_tokens : List (List ℤ) → List (List ℤ) → List Replacement → List Token
body_tokens v b r = symbol 44 ∷ (array row_tokens v ++ (symbol 44 ∷ (array row_tokens b ++ (symbol 44 ∷ (array replacement_tokens r ++ symbol 93 ∷ [])))))

-- the digit of a kind is 48 more than its corners
abbrev pub tokens : Hierarchy → List Token
tokens h = symbol 91 ∷ (symbol (48 + corners_of h.kind) ∷ body_tokens h.vertices h.base h.replacements)

-- the line is that of the hierarchy h, all its numbers in range
abbrev pub LineOf : List ℕ → Hierarchy → Type 0
LineOf bs h = Says hierarchy bs (tokens h)

-- the made cells have k corners each
abbrev pub Made : ℕ → Replacement → Type 0
Made k r = AllByRecursion (Long k) r.made

-- a vertex has three numbers, a cell as many as its kind has corners
pub record Shaped (h : Hierarchy) : Type 0 where
  pub vertices : AllByRecursion (Long 3) h.vertices
  pub base : AllByRecursion (Long (corners_of h.kind)) h.base
  pub made : AllByRecursion (Made (corners_of h.kind)) h.replacements

-- Its tables. Of the replacements: the corners of all made cells, the records, and all taken numbers.
abbrev pub made_corners : List Replacement → List ℤ
made_corners [] = []
made_corners (r ∷ rs) = flat r.made ++ made_corners rs

abbrev pub record_of : Replacement → List ℤ
record_of r = r.error ∷ (pos (length r.taken) ∷ (pos (length r.made) ∷ []))

abbrev pub records : List Replacement → List ℤ
records [] = []
records (r ∷ rs) = record_of r ++ records rs

abbrev pub all_taken : List Replacement → List ℤ
all_taken [] = []
all_taken (r ∷ rs) = r.taken ++ all_taken rs

abbrev pub tables_of : Hierarchy → Tables
tables_of h =
    record {
      coordinates = flat h.vertices;
      corners = flat h.base ++ made_corners h.replacements;
      base = pos (length h.base);
      replacements = records h.replacements;
      taken = all_taken h.replacements;
    }

-- How many entries they have: how many cells are made, and how many numbers taken, in all.
abbrev pub made_count : List Replacement → ℕ
made_count [] = 0
made_count (r ∷ rs) = length r.made + made_count rs

abbrev pub taken_count : List Replacement → ℕ
taken_count [] = 0
taken_count (r ∷ rs) = length r.taken + taken_count rs

abbrev pub contents_of : Hierarchy → Contents
contents_of h =
    record {
      kind = h.kind;
      vertices = length h.vertices;
      base = length h.base;
      cells = length h.base + made_count h.replacements;
      replacements = length h.replacements;
      taken = taken_count h.replacements;
    }
