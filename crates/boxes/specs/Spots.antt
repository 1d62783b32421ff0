-- The boxes around points in space. Assumes nothing.
use Rattle.std.specs.Prelude.{◌≡◌, ◌<◌, true, List, length, ℤ, ◌≤ℤ◌, is_some, MatchOption}
use Rattle.std.specs.List.{AllByRecursion}
use Rattle.boxes.specs.declared.extent.Extent.{Extent}
use Rattle.kinds.specs.declared.places.Spot.{Spot}
use Rattle.kinds.specs.Places.{spot}

-- the box has the point in it
pub record Contains (b : Extent) (p : Spot) : Type 0 where
  pub x : (b.x.low ≤ℤ p.x) × (p.x ≤ℤ b.x.high)
  pub y : (b.y.low ≤ℤ p.y) × (p.y ≤ℤ b.y.high)
  pub z : (b.z.low ≤ℤ p.z) × (p.z ≤ℤ b.z.high)

-- the first box lies within the second
pub record Inside (b d : Extent) : Type 0 where
  pub x : (d.x.low ≤ℤ b.x.low) × (b.x.high ≤ℤ d.x.high)
  pub y : (d.y.low ≤ℤ b.y.low) × (b.y.high ≤ℤ d.y.high)
  pub z : (d.z.low ≤ℤ b.z.low) × (b.z.high ≤ℤ d.z.high)

-- the box has each of these vertices in it; so each number is a vertex
abbrev pub Surrounds : List ℤ → List ℤ → Extent → Type 0
Surrounds vs zs b = AllByRecursion (λ z. MatchOption (spot vs z) ⊥ (Contains b)) zs

-- the smallest box around these vertices: it has them in it, and lies within every box that has
pub record Smallest (vs zs : List ℤ) (b : Extent) : Type 0 where
  pub around : Surrounds vs zs b
  pub least : (d : Extent) → Surrounds vs zs d → Inside b d

-- there is one vertex or more, and each number is a vertex
pub record Spotted (vs zs : List ℤ) : Type 0 where
  pub one : 0 < length zs
  pub all : AllByRecursion (λ z. is_some (spot vs z) ≡ true) zs

-- the smallest box with a box and a point in it
pub record Widened (b : Extent) (p : Spot) (r : Extent) : Type 0 where
  pub holds_box : Inside b r
  pub holds_point : Contains r p
  pub least : (d : Extent) → Inside b d → Contains d p → Inside r d
