-- The keys of facets, by sign. Assumes nothing.
use Rattle.std.specs.Prelude.{◌≡◌, ℕ, ◌+◌, Bool, List, [], ◌∷◌, ◌++◌, vec_items, vec_len, count_by, nat_eq}
use Rattle.kinds.specs.declared.kind.Signed.{Signed}
use Rattle.kinds.specs.declared.kind.Signed.TheVariants.{Plus, Minus}
use Rattle.kinds.specs.Facets.{AllReal}
use Rattle.rims.specs.declared.memory.RimMemory.{RimMemory}

-- the keys of the facets that are counted plus, and of those that are counted minus
abbrev pub pluses : {F : Type 0} → (F → ℕ) → List (Signed F) → List ℕ
pluses key [] = []
pluses key (Plus f ∷ ss) = key f ∷ pluses key ss
pluses key (Minus f ∷ ss) = pluses key ss

abbrev pub minuses : {F : Type 0} → (F → ℕ) → List (Signed F) → List ℕ
minuses key [] = []
minuses key (Plus f ∷ ss) = minuses key ss
minuses key (Minus f ∷ ss) = key f ∷ minuses key ss

-- how often a number stands in a list
abbrev pub occurs : ℕ → List ℕ → ℕ
occurs n xs = count_by (λ x. nat_eq x n) xs

-- both lists have the same numbers, each as often
abbrev pub SameNumbers : List ℕ → List ℕ → Type 0
SameNumbers xs ys = (n : ℕ) → occurs n xs ≡ occurs n ys

-- how many keys there are, of both signs
abbrev pub held : RimMemory → ℕ
held m = vec_len m.plus + vec_len m.minus

-- From m to m' the facets ss were noted, of which all have keys: those with a plus in the first list, those with a minus in the second. The
-- room stays.
pub record Noted {F : Type 0} (key : F → ℕ) (real : F → Bool) (m m' : RimMemory) (ss : List (Signed F)) : Type 0 where
  pub plus : vec_items m'.plus ≡ vec_items m.plus ++ pluses key ss
  pub minus : vec_items m'.minus ≡ vec_items m.minus ++ minuses key ss
  pub room : m'.room ≡ m.room
  pub known : AllReal real ss
