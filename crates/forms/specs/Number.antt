-- JSON's integers (RFC 8259) without fraction and exponent: which texts they are, and which whole number a text denotes.
-- A text is a list of bytes. Assumes nothing.
use Rattle.std.specs.Prelude.{◌≡◌, ℕ, ◌+◌, ◌-◌, ◌*◌, ◌≤◌, ◌⊎◌, List, [], ◌∷◌, ℤ, pos, neg_ℤ}

-- DIGIT: '0', which is 48, to '9', which is 57
abbrev pub Digit : ℕ → Type 0
Digit b = (48 ≤ b) × (b ≤ 57)

-- *DIGIT
abbrev pub Digits : List ℕ → Type 0
Digits [] = Unit {0}
Digits (b ∷ bs) = Digit b × Digits bs

-- int = zero / ( digit1-9 *DIGIT )
abbrev pub Natural : List ℕ → Type 0
Natural [] = ⊥
Natural (b ∷ bs) = ((b ≡ 48) × (bs ≡ [])) ⊎ ((49 ≤ b) × (b ≤ 57) × Digits bs)

-- what digits denote, after digits that denote n
abbrev pub denoted : ℕ → List ℕ → ℕ
denoted n [] = n
denoted n (b ∷ bs) = denoted (n * 10 + (b - 48)) bs

-- [ minus ] int: the text u denotes z; minus is '-', which is 45
abbrev pub Integer : List ℕ → ℤ → Type 0
Integer u z =
    (Natural u × (z ≡ pos (denoted 0 u)))
    ⊎ ((d : List ℕ) × (u ≡ 45 ∷ d) × Natural d × (z ≡ neg_ℤ (pos (denoted 0 d))))

-- a text denotes one number at most
abbrev pub OneValue : Type 0
OneValue = (u : List ℕ) (y z : ℤ) → Integer u y → Integer u z → y ≡ z
