-- What reading a hierarchy line into four lent lists comes to. Assumes nothing.
use Rattle.std.specs.Prelude.{◌≡◌, ℕ, ◌⊎◌, List, length, ℤ, Result, MatchResult}
use Rattle.faults.specs.declared.Fault.{Fault}
use Rattle.faults.specs.declared.Refusal.TheVariants.{CountOffLimits}
use Rattle.forms.specs.Line.{Misread}
use Rattle.arrays.specs.Sink.{written}
use Rattle.tables.specs.Judging.{Clear, First}
use Rattle.tables.specs.Kind.{corners_of}
use Rattle.tables.specs.Tables.{Tables, Counted}
use Rattle.tables.specs.declared.contents.Contents.{Contents}
use Rattle.tables.specs.declared.contents.Places.{Places}
use Rattle.hierarchypass.specs.Line.{Hierarchy, hierarchy, LineOf, Shaped, tables_of, contents_of}

-- the line says a hierarchy that has these contents
pub record LineHolds (bs : List ℕ) (c : Contents) : Type 0 where
  pub value : Hierarchy
  pub says : LineOf bs value
  pub shaped : Shaped value
  pub contents : c ≡ contents_of value

-- the four lent lists
pub record Lists : Type 0 where
  pub coordinates : List ℤ
  pub corners : List ℤ
  pub replacements : List ℤ
  pub taken : List ℤ

abbrev pub lists : List ℤ → List ℤ → List ℤ → List ℤ → Lists
lists v c r t = record { coordinates = v; corners = c; replacements = r; taken = t }

abbrev pub places_of : Lists → Places
places_of l = record { coordinates = length l.coordinates; corners = length l.corners; replacements = length l.replacements; taken = length l.taken }

-- the tables stand in the first places of their lists, and the others are as they were
abbrev pub all_written : Tables → Lists → Lists
all_written t l = lists (written t.coordinates l.coordinates) (written t.corners l.corners) (written t.replacements l.replacements) (written t.taken l.taken)

-- the rule of the counts, for the tables of h and these lists
abbrev pub CountedIn : Lists → Hierarchy → ℕ → Type 0
CountedIn l h = Counted (corners_of h.kind) (tables_of h) (places_of l)

-- the line says a hierarchy with all counts within limits, and its tables stand in the lists now
pub record HierarchyRead (bs : List ℕ) (before after : Lists) (c : Contents) : Type 0 where
  pub value : Hierarchy
  pub says : LineOf bs value
  pub shaped : Shaped value
  pub counted : Clear 0 4 (CountedIn before value)
  pub contents : c ≡ contents_of value
  pub kept : after ≡ all_written (tables_of value) before

-- the line says a hierarchy with a count off limits, and the fault is at the lowest place of such a count
pub record HierarchyOffLimits (bs : List ℕ) (before : Lists) (f : Fault) : Type 0 where
  pub refusal : f.refusal ≡ CountOffLimits
  pub value : Hierarchy
  pub says : LineOf bs value
  pub shaped : Shaped value
  pub first : First 0 4 (CountedIn before value) f.place

-- What reading a line comes to: its tables stand in the lists, or it is refused, as 18, as 1, as 2 or as 3, and the lists are as they
-- were.
abbrev pub HierarchyReading : List ℕ → Lists → Result Contents Fault → Lists → Type 0
HierarchyReading bs before r after =
    MatchResult r (HierarchyRead bs before after) (λ f. (Misread hierarchy bs f ⊎ HierarchyOffLimits bs before f) × (after ≡ before))

-- reading comes to one thing only
abbrev pub HierarchyReadOnce : Type 0
HierarchyReadOnce =
    (bs : List ℕ) (before : Lists) (r s : Result Contents Fault) (after also : Lists)
    → HierarchyReading bs before r after → HierarchyReading bs before s also → (r ≡ s) × (after ≡ also)
