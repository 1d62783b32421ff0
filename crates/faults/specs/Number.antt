-- The numbers by which refusals are known outside: in answer lines, at the office form and in docs/RULES.md.
-- Assumes nothing.
use Rattle.std.specs.Prelude.{ℕ}
use Rattle.faults.specs.declared.Refusal.{Refusal}
use Rattle.faults.specs.declared.Refusal.TheVariants.{NotOfForm, NumberTooFar, CountOffLimits, CoordinateOffRange, ErrorOffRange, NoSuchVertex, CellNotSound, NoRefinement, TakesNoEarlierCell, TakesTwice, RimBroken, ValueOffRange, MeshAboveCeiling, StepListTooShort, StageTooSmall, StepNotLegal, BufferTooSmall, InputTooLong}

abbrev pub number_of : Refusal → ℕ
number_of NotOfForm = 1
number_of NumberTooFar = 2
number_of CountOffLimits = 3
number_of CoordinateOffRange = 4
number_of ErrorOffRange = 5
number_of NoSuchVertex = 6
number_of CellNotSound = 7
number_of NoRefinement = 8
number_of TakesNoEarlierCell = 9
number_of TakesTwice = 10
number_of RimBroken = 11
number_of ValueOffRange = 12
number_of MeshAboveCeiling = 13
number_of StepListTooShort = 14
number_of StageTooSmall = 15
number_of StepNotLegal = 16
number_of BufferTooSmall = 17
number_of InputTooLong = 18
