-- The signed facets of a cell. Assumes nothing.
use Rattle.std.specs.Prelude.{◌≡◌, Bool, true, false, List, [], ◌∷◌, ℤ, pos, ◌+ℤ◌, neg_ℤ}
use Rattle.std.specs.List.{AllByRecursion}
use Rattle.kinds.specs.declared.kind.Signed.{Signed}
use Rattle.kinds.specs.declared.kind.Signed.TheVariants.{Plus, Minus}

-- a facet without its sign
abbrev pub bare : {F : Type 0} → Signed F → F
bare (Plus f) = f
bare (Minus f) = f

-- the weight of a facet, taken plus or minus
abbrev pub counted : {F : Type 0} → (F → ℤ) → Signed F → ℤ
counted weight (Plus f) = weight f
counted weight (Minus f) = neg_ℤ (weight f)

-- the signed sum of the facets' weights
abbrev pub total : {F : Type 0} → (F → ℤ) → List (Signed F) → ℤ
total weight [] = pos 0
total weight (s ∷ ss) = counted weight s +ℤ total weight ss

-- no facet passes the test that it meets the point
abbrev pub Off : {F : Type 0} → (F → Bool) → List (Signed F) → Type 0
Off meets = AllByRecursion (λ s. meets (bare s) ≡ false)

-- each facet has a key
abbrev pub AllReal : {F : Type 0} → (F → Bool) → List (Signed F) → Type 0
AllReal real = AllByRecursion (λ s. real (bare s) ≡ true)
