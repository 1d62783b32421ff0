-- What a checked hierarchy is answered by. Assumes nothing.
use Rattle.std.specs.Prelude.{◌≡◌, ℕ}
use Rattle.browse.specs.declared.answer.Answer.{Answer}
use Rattle.browse.specs.declared.answer.Answer.TheVariants.{Accepted, Refused}
use Rattle.hierarchy.specs.Accepted.{places_for}
use Rattle.kinds.specs.Shapes.{Shape}
use Rattle.rules.specs.Hierarchies.{hierarchy_rows, MultiTriangulation}
use Rattle.rules.specs.Rows.{cells_in, replacements_in, vertices_in}
use Rattle.tables.specs.Judging as judging
use Rattle.tables.specs.Tables.{Tables}

-- Tables that are a Multi-Triangulation of the kind are answered by their counts; else the first broken rule is told, at its lowest place, where
-- there are places for so many corners.
abbrev pub Answered : {F P : Type 0} → Shape F P → Tables → ℕ → Answer → Type 0
Answered k t corners (Accepted v c r) = MultiTriangulation k t × (v ≡ vertices_in t) × (c ≡ cells_in k.arity t) × (r ≡ replacements_in t)
Answered k t corners (Refused f) = judging.Refused (hierarchy_rows k t (places_for t corners)) f
