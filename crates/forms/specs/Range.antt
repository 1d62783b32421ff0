-- The range of a line's numbers, plus or minus 999,999,999, and what is kept of a number beyond it. Assumes nothing.
use Rattle.std.specs.Prelude.{ℕ, suc, min, Bool, cond, List, [], ◌∷◌, ℤ, pos, negsuc, neg_ℤ, Some, None, Option, nat_lt, unsigned_abs}
use Rattle.forms.specs.Form.{Item, Token, figure, symbol}

-- a magnitude above 999,999,999
abbrev pub beyond : ℤ → Bool
beyond z = nat_lt 999999999 (unsigned_abs z)

-- the place p of the number z, where it is beyond the range
abbrev pub far : ℕ → ℤ → Option ℕ
far p z = cond (beyond z) (Some p) None

-- the same, of a token
abbrev pub token_far : ℕ → Token → Option ℕ
token_far p (figure z) = far p z
token_far p (symbol b) = None

-- the first of two places, where there is one
abbrev pub earlier : Option ℕ → Option ℕ → Option ℕ
earlier (Some p) q = Some p
earlier None q = q

-- the place of the first number beyond the range
abbrev pub first_far : List Item → Option ℕ
first_far [] = None
first_far (x ∷ o) = earlier (token_far x.place x.token) (first_far o)

-- a number beyond the range is cut to one more than the greatest magnitude
abbrev pub clip : ℤ → ℤ
clip (pos n) = pos (min n 1000000000)
clip (negsuc n) = neg_ℤ (pos (min (suc n) 1000000000))

-- what is kept of a token, and of an item: its number is cut
abbrev pub seen : Token → Token
seen (figure z) = figure (clip z)
seen (symbol b) = symbol b

abbrev pub said : Item → Token
said x = seen x.token
