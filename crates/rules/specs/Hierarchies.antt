-- All rules of a hierarchy, for a kind of cell seen as a shape, in the order in which they are judged, each over its whole table; and what it
-- is to be a Multi-Triangulation: all of them hold. Assumes nothing.
use Rattle.std.specs.Prelude.{◌+◌, List, [], ◌∷◌, ◌++◌, Result}
use Rattle.faults.specs.declared.Fault.{Fault}
use Rattle.faults.specs.declared.Refusal.TheVariants.{TakesTwice, RimBroken}
use Rattle.kinds.specs.Shapes.{Shape}
use Rattle.tables.specs.declared.contents.Places.{Places}
use Rattle.tables.specs.Judging.{Row, Lawful, Outcome}
use Rattle.tables.specs.Tables.{Tables, own_places}
use Rattle.rules.specs.Links.{FreshKept, RimKept}
use Rattle.rules.specs.Rows.{replacements_in, placed_rows}

-- those of the counts and places, and then those that look at one vertex, one cell or one replacement at a time
abbrev pub plain_rows : {F P : Type 0} → Shape F P → Tables → Places → List Row
plain_rows k = placed_rows k.arity k.sound

-- those that look at how replacements follow on one another: no cell taken twice, the rim stays
abbrev pub linked_rows : {F P : Type 0} → Shape F P → Tables → List Row
linked_rows k t =
    record { refusal = TakesTwice; from = 1; upto = replacements_in t + 1; kept = FreshKept t }
    ∷ record { refusal = RimBroken; from = 1; upto = replacements_in t + 1; kept = RimKept k t }
    ∷ []

-- all of them, for tables that are to have places for their entries
abbrev pub hierarchy_rows : {F P : Type 0} → Shape F P → Tables → Places → List Row
hierarchy_rows k t p = plain_rows k t p ++ linked_rows k t

-- A Multi-Triangulation of a kind: tables that keep every rule. (A table has places for its own entries.)
abbrev pub MultiTriangulation : {F P : Type 0} → Shape F P → Tables → Type 0
MultiTriangulation k t = Lawful (hierarchy_rows k t (own_places t))

-- What judging the first of them comes to: they hold everywhere, or the first broken one is told, at the lowest place.
abbrev pub PlainJudged : {F P : Type 0} → Shape F P → Tables → Places → Result (Unit {0}) Fault → Type 0
PlainJudged k t p = Outcome (plain_rows k t p)
