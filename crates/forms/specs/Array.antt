-- Arrays of JSON: their forms in a line, and what an array of values says. Assumes nothing.
use Rattle.std.specs.Prelude.{ℕ, zero, suc, List, [], ◌∷◌, ◌++◌, ℤ}
use Rattle.forms.specs.Form.{Form, byte, mark, number, ◌then◌, ◌or◌, many, Token, figure, symbol}

-- white space in a line: space, tab and CR
abbrev pub blank : Form
blank = byte 32 or byte 9 or byte 13

abbrev pub blanks : Form
blanks = many blank

-- a mark, and the white space that may stand after it
abbrev pub sign : ℕ → Form
sign b = mark b then blanks

-- a number, and the white space that may stand after it
abbrev pub whole : Form
whole = number then blanks

-- what may follow an entry F of an array: more of these, or its end; ',' is 44 and ']' 93
abbrev pub tail : Form → Form
tail F = many (sign 44 then F) then sign 93

-- what may follow the opening of an array
abbrev pub inner : Form → Form
inner F = sign 93 or (F then tail F)

-- an array of none or more entries F: '[' is 91
abbrev pub listed : Form → Form
listed F = sign 91 then inner F

-- m more numbers of a row that has some, and its end
abbrev pub row_left : ℕ → Form
row_left zero = sign 93
row_left (suc m) = sign 44 then whole then row_left m

-- what is left of a row that has i numbers, where m more are to come
abbrev pub columns : ℕ → ℕ → Form
columns zero zero = sign 93
columns zero (suc m) = whole then row_left m
columns (suc i) m = row_left m

-- an array of n numbers: a vertex, or the corners of a cell
abbrev pub row : ℕ → Form
row n = sign 91 then columns 0 n

-- What an array of values says, where f gives what a value says: first the values after the first, each after a comma; then all values;
-- then the array with its brackets.
abbrev pub among : {A : Type 0} → (A → List Token) → List A → List Token
among f [] = []
among f (x ∷ xs) = symbol 44 ∷ (f x ++ among f xs)

abbrev pub parts : {A : Type 0} → (A → List Token) → List A → List Token
parts f [] = []
parts f (x ∷ xs) = f x ++ among f xs

abbrev pub array : {A : Type 0} → (A → List Token) → List A → List Token
array f xs = symbol 91 ∷ (parts f xs ++ symbol 93 ∷ [])

-- what a number says
abbrev pub single : ℤ → List Token
single z = figure z ∷ []

-- what a row of numbers says
abbrev pub row_tokens : List ℤ → List Token
row_tokens r = array single r
