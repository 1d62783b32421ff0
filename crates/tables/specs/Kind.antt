-- The two kinds of cell. Assumes nothing.
use Rattle.std.specs.Prelude.{ℕ}
use Rattle.tables.specs.declared.kind.CellKind.{CellKind}
use Rattle.tables.specs.declared.kind.CellKind.TheVariants.{Segment, Triangle}

-- how many corners a cell of the kind has
abbrev pub corners_of : CellKind → ℕ
corners_of Segment = 2
corners_of Triangle = 3
