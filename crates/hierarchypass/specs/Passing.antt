-- What a pass over a part of a hierarchy line comes to. Assumes nothing.
use Rattle.std.specs.Prelude.{◌≡◌, ℕ, ◌+◌, List, [], ◌∷◌, length}
use Rattle.std.specs.List.{AllByRecursion}
use Rattle.forms.specs.Array.{sign, array, listed}
use Rattle.forms.specs.Form.{nothing, ◌then◌, symbol}
use Rattle.arrays.specs.Sink.{Filling, put_all, put_rows}
use Rattle.arrays.specs.Listing.{Kept}
use Rattle.scanner.specs.Scanner.{Step}
use Rattle.scanner.specs.declared.Scanner.{Scanner}
use Rattle.tables.specs.Kind.{corners_of}
use Rattle.tables.specs.declared.contents.Contents.{Contents}
use Rattle.tables.specs.declared.kind.CellKind.{CellKind}
use Rattle.tables.specs.Tables.{Tables}
use Rattle.hierarchypass.specs.Line.{Hierarchy, Replacement, LineOf, Shaped, kinds, body, body_tokens, replacement, replacement_tokens, Made, made_corners, record_of, records, all_taken, made_count, taken_count, tables_of, contents_of}

-- the lists that grow with the replacements, and how many cells were taken and made
pub record Growth : Type 0 where
  pub corners : Filling
  pub replacements : Filling
  pub taken : Filling
  pub takes : ℕ
  pub makes : ℕ

abbrev pub growth : Filling → Filling → Filling → ℕ → ℕ → Growth
growth c r t n m = record { corners = c; replacements = r; taken = t; takes = n; makes = m }

-- with one replacement more, and with several
abbrev pub with_replacement : Replacement → Growth → Growth
with_replacement r g =
    growth (put_rows r.made g.corners) (put_all (record_of r) g.replacements) (put_all r.taken g.taken) (g.takes + length r.taken) (g.makes + length r.made)

abbrev pub with_replacements : List Replacement → Growth → Growth
with_replacements rs g =
    growth (put_all (made_corners rs) g.corners) (put_all (records rs) g.replacements) (put_all (all_taken rs) g.taken) (g.takes + taken_count rs) (g.makes + made_count rs)

-- a replacement was read and kept, and so many replacements
abbrev pub ReplacementKept : ℕ → Scanner → Scanner → Growth → Growth → Type 0
ReplacementKept k = Kept (Made k) replacement_tokens with_replacement (replacement k)

abbrev pub Replacements : ℕ → ℕ → List Replacement → Type 0
Replacements k count rs = (length rs ≡ count) × AllByRecursion (Made k) rs

abbrev pub ReplacementsKept : ℕ → ℕ → Scanner → Scanner → Growth → Growth → Type 0
ReplacementsKept k count = Kept (Replacements k count) (array replacement_tokens) with_replacements (listed (replacement k))

-- if a kind comes, then this one; and a scanner read the kind
pub record KindComes (r : Scanner) (kind : CellKind) : Type 0 where
  pub step : Step r r kinds (sign (48 + corners_of kind) then body (corners_of kind)) []

pub record KindPassed (r s : Scanner) (kind : CellKind) : Type 0 where
  pub step : Step r s kinds (body (corners_of kind)) (symbol (48 + corners_of kind) ∷ [])

-- the four lists
pub record Fillings : Type 0 where
  pub coordinates : Filling
  pub corners : Filling
  pub replacements : Filling
  pub taken : Filling

abbrev pub fillings : Filling → Filling → Filling → Filling → Fillings
fillings v c r t = record { coordinates = v; corners = c; replacements = r; taken = t }

-- with the tables of a hierarchy
abbrev pub with_tables : Tables → Fillings → Fillings
with_tables t f = fillings (put_all t.coordinates f.coordinates) (put_all t.corners f.corners) (put_all t.replacements f.replacements) (put_all t.taken f.taken)

-- a scanner read all that follows the kind
pub record BodyPassed (kind : CellKind) (r s : Scanner) (before after : Fillings) (c : Contents) : Type 0 where
  pub value : Hierarchy
  pub kinded : value.kind ≡ kind
  pub shaped : Shaped value
  pub step : Step r s (body (corners_of kind)) nothing (body_tokens value.vertices value.base value.replacements)
  pub contents : c ≡ contents_of value
  pub kept : after ≡ with_tables (tables_of value) before

-- a pass over a whole line
pub record LinePassed (bs : List ℕ) (before after : Fillings) (c : Contents) : Type 0 where
  pub value : Hierarchy
  pub says : LineOf bs value
  pub shaped : Shaped value
  pub contents : c ≡ contents_of value
  pub kept : after ≡ with_tables (tables_of value) before
