-- The rule of the counts where the numbers of entries are known. Of the contents of a hierarchy's tables it says the same as the
-- rule on the tables themselves. Assumes nothing.
use Rattle.std.specs.Prelude.{◌≡◌, ℕ, zero, suc, ◌*◌, ◌≤◌}
use Rattle.faults.specs.declared.Fault.{Fault}
use Rattle.faults.specs.declared.Refusal.TheVariants.{CountOffLimits}
use Rattle.tables.specs.declared.contents.Contents.{Contents}
use Rattle.tables.specs.declared.contents.Places.{Places}
use Rattle.tables.specs.Judging.{First}
use Rattle.tables.specs.Kind.{corners_of}

-- 1 to 4,096 vertices, and places for them
pub record VerticesFit (c : Contents) (p : Places) : Type 0 where
  pub some : 1 ≤ c.vertices
  pub most : c.vertices ≤ 4096
  pub room : 3 * c.vertices ≤ p.coordinates

-- at most 16,384 cells, of which at least one is a base cell, and places for them
pub record CellsFit (c : Contents) (p : Places) : Type 0 where
  pub some_base : 1 ≤ c.base
  pub base_cells : c.base ≤ c.cells
  pub most : c.cells ≤ 16384
  pub room : corners_of c.kind * c.cells ≤ p.corners

-- at most 4,096 replacements, and places for them
pub record ReplacementsFit (c : Contents) (p : Places) : Type 0 where
  pub most : c.replacements ≤ 4096
  pub room : 3 * c.replacements ≤ p.replacements

-- at most 16,384 taken numbers, and places for them
pub record TakenFit (c : Contents) (p : Places) : Type 0 where
  pub most : c.taken ≤ 16384
  pub room : c.taken ≤ p.taken

-- the rule by place: 0 vertices, 1 cells, 2 replacements, 3 taken numbers
abbrev pub Fit : Contents → Places → ℕ → Type 0
Fit c p zero = VerticesFit c p
Fit c p (suc zero) = CellsFit c p
Fit c p (suc (suc zero)) = ReplacementsFit c p
Fit c p (suc (suc (suc zero))) = TakenFit c p
Fit c p (suc (suc (suc (suc q)))) = Unit {0}

-- the fault is at the lowest place whose count is off its limits
pub record OffLimits (c : Contents) (p : Places) (f : Fault) : Type 0 where
  pub refusal : f.refusal ≡ CountOffLimits
  pub first : First 0 4 (Fit c p) f.place
