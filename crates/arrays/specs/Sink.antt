-- Lent lists that are filled from their first place on. Assumes nothing.
use Rattle.std.specs.Prelude.{ℕ, ◌+◌, cond, List, [], ◌∷◌, ◌++◌, length, drop, ℤ, nat_lt, slice_set}
use Rattle.arrays.specs.declared.sink.Sink.{Sink}

-- a lent list: what its places hold, and how many of them are used
pub record Filling : Type 0 where
  pub places : List ℤ
  pub used : ℕ

abbrev pub lent : List ℤ → ℕ → Filling
lent xs n = record { places = xs; used = n }

abbrev pub filling : Sink → Filling
filling s = lent s.places.now s.used

-- the next place holds z, where there is one
abbrev pub put : ℤ → Filling → Filling
put z s = cond (nat_lt s.used (length s.places)) (lent (slice_set s.places s.used z) (s.used + 1)) s

-- one after the other
abbrev pub puts : {A S : Type 0} → (A → S → S) → List A → S → S
puts f [] s = s
puts f (x ∷ xs) s = puts f xs (f x s)

abbrev pub put_all : List ℤ → Filling → Filling
put_all = puts put

-- the values stand in the first places, of which there are enough, and the others are as they were
abbrev pub written : List ℤ → List ℤ → List ℤ
written values before = values ++ drop (length values) before

-- rows, one after the other
abbrev pub flat : List (List ℤ) → List ℤ
flat [] = []
flat (x ∷ xs) = x ++ flat xs

abbrev pub put_rows : List (List ℤ) → Filling → Filling
put_rows x s = put_all (flat x) s
