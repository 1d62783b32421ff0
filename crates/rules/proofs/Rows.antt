-- What the rules of a hierarchy say, by name. Assumes nothing.
use Rattle.std.proofs.Common.{◌+◌, List, [], ◌∷◌, ◌++◌}
use Rattle.kinds.specs.Shapes.{Shape}
use Rattle.tables.specs.declared.contents.Places.{Places}
use Rattle.tables.specs.Judging.{Row, Clear, Lawful}
use Rattle.tables.specs.Tables.{Tables, Counted, own_places}
use Rattle.rules.specs.Rows.{vertices_in, cells_in, replacements_in}
use Rattle.rules.specs.Links.{FreshKept, RimKept}
use Rattle.rules.specs.Ranges.{EarlierKept}
use Rattle.rules.specs.Hierarchies.{plain_rows, linked_rows, MultiTriangulation}
use Rattle.rules.specs.Values.{CoordinatesKept, ErrorKept, CornersKept, SoundnessKept, GrowthKept}

pub record Plain {F P : Type 0} (k : Shape F P) (t : Tables) (p : Places) : Type 0 where
  pub counted : Clear 0 4 (Counted k.arity t p)
  pub coordinates : Clear 0 (vertices_in t) (CoordinatesKept t)
  pub errors : Clear 1 (replacements_in t + 1) (ErrorKept t)
  pub corners : Clear 0 (cells_in k.arity t) (CornersKept k.arity t)
  pub sound : Clear 0 (cells_in k.arity t) (SoundnessKept k.sound k.arity t)
  pub growth : Clear 1 (replacements_in t + 1) (GrowthKept t)
  pub earlier : Clear 1 (replacements_in t + 1) (EarlierKept t)

pub record Linked {F P : Type 0} (k : Shape F P) (t : Tables) : Type 0 where
  pub fresh : Clear 1 (replacements_in t + 1) (FreshKept t)
  pub rim : Clear 1 (replacements_in t + 1) (RimKept k t)

pub lawful_parts : (rs ss : List Row) → Lawful (rs ++ ss) → Lawful rs × Lawful ss
lawful_parts [] ss x = (tt, x)
lawful_parts (r ∷ rs) ss x = let rest = lawful_parts rs ss x.1 in ((x.0, rest.0), rest.1)

module _ {F P : Type 0} (k : Shape F P) (t : Tables) where
  pub plainly : (p : Places) → Lawful (plain_rows k t p) → Plain k t p
  plainly p x = record {
    counted = x.0;
    coordinates = x.1.0;
    errors = x.1.1.0;
    corners = x.1.1.1.0;
    sound = x.1.1.1.1.0;
    growth = x.1.1.1.1.1.0;
    earlier = x.1.1.1.1.1.1.0;
  }

  -- a Multi-Triangulation keeps all of them
  pub plain_and_linked : MultiTriangulation k t → Plain k t (own_places t) × Linked k t
  plain_and_linked x =
      let parts = lawful_parts (plain_rows k t (own_places t)) (linked_rows k t) x in
      (plainly (own_places t) parts.0, record { fresh = parts.1.0; rim = parts.1.1.0 })
