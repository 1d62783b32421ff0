-- The words of a kind of cell in one record, and signed counts of facets. F is the kind's type of facets, P of points. Assumes nothing.
use Rattle.std.specs.Prelude.{ℕ, Bool, cond, List, ℤ, pos}
use Rattle.kinds.specs.declared.kind.Signed.{Signed}
use Rattle.kinds.specs.Facets.{total}

-- How many corners a cell has; the signed facets of a cell; over a vertex table whether a cell is sound, whether it covers a point and
-- whether a facet meets a point; and whether two facets are the same. They mean what the kind says.
pub record Shape (F P : Type 0) : Type 0 where
  pub arity : ℕ
  pub rim : List ℤ → List (Signed F)
  pub sound : List ℤ → List ℤ → Bool
  pub covers : List ℤ → List ℤ → P → Bool
  pub meets : List ℤ → F → P → Bool
  pub alike : F → F → Bool

-- the signed count of the facet f: how often it is counted plus, less how often it is counted minus
abbrev pub tally : {F P : Type 0} → Shape F P → F → List (Signed F) → ℤ
tally k f = total (λ g. cond (k.alike g f) (pos 1) (pos 0))
