-- What reading a hierarchy line comes to, and that it comes to one thing only. Assumes nothing.
use Rattle.std.proofs.Common.{◌≡◌, ℕ, ◌⊎◌, List, ℤ, Ok, Err, Result, sym, ap, ◌∙◌, subst, ⊎_elim, arith, MatchResult}
use Rattle.faults.specs.declared.Fault.{Fault}
use Rattle.forms.specs.Line.{Misread}
use Rattle.forms.proofs.Lines.{same_fault, says_or_not, misread_once}
use Rattle.arrays.specs.Sink.{lent}
use Rattle.arrays.proofs.Filled.{filled}
use Rattle.tables.specs.Contents.{Fit, OffLimits}
use Rattle.tables.specs.Judging.{Clear, First}
use Rattle.tables.specs.Kind.{corners_of}
use Rattle.tables.specs.Tables.{Counted, VerticesCounted, CellsCounted, ReplacementsCounted, TakenCounted}
use Rattle.tables.specs.declared.contents.Contents.{Contents}
use Rattle.tables.specs.declared.contents.Places.{Places}
use Rattle.tables.proofs.First.{first_once, first_or_clear}
use Rattle.hierarchypass.specs.Line.{Hierarchy, hierarchy, tables_of, contents_of}
use Rattle.hierarchypass.specs.Passing.{Fillings, fillings, with_tables, LinePassed}
use Rattle.hierarchylines.specs.Reading.{LineHolds, Lists, lists, places_of, all_written, CountedIn, HierarchyRead, HierarchyOffLimits, HierarchyReading, HierarchyReadOnce}
use Rattle.hierarchylines.proofs.Counts.{counted, fits}
use Rattle.hierarchylines.proofs.Tokens.{one_hierarchy}

-- the lists, of which no place is used yet
abbrev pub unused : Lists → Fillings
unused l = fillings (lent l.coordinates 0) (lent l.corners 0) (lent l.replacements 0) (lent l.taken 0)

abbrev pub places_in : Fillings → Lists
places_in f = lists f.coordinates.places f.corners.places f.replacements.places f.taken.places

pub same_lists : {v v' c c' r r' t t' : List ℤ} → v ≡ v' → c ≡ c' → r ≡ r' → t ≡ t' → lists v c r t ≡ lists v' c' r' t'
same_lists a b c d = λ i. lists (a i) (b i) (c i) (d i)

-- tables that are counted right have places
stands : (k : ℕ) (h : Hierarchy) (before : Lists) → Clear 0 4 (Counted k (tables_of h) (places_of before)) → places_in (with_tables (tables_of h) (unused before)) ≡ all_written (tables_of h) before
stands k h before clear =
    let v : VerticesCounted (tables_of h) (places_of before) = clear 0 (omega arith) (omega arith) in
    let c : CellsCounted k (tables_of h) (places_of before) = clear 1 (omega arith) (omega arith) in
    let r : ReplacementsCounted (tables_of h) (places_of before) = clear 2 (omega arith) (omega arith) in
    let t : TakenCounted (tables_of h) (places_of before) = clear 3 (omega arith) (omega arith) in
    λ i. lists
    (filled before.coordinates (tables_of h).coordinates v.room i)
    (filled before.corners (tables_of h).corners c.room i)
    (filled before.replacements (tables_of h).replacements r.room i)
    (filled before.taken (tables_of h).taken t.room i)

module _ {bs : List ℕ} {n : Contents} (x : LineHolds bs n) (before : Lists) where
  -- a count that is off limits
  pub off_limits : {p : Places} {f : Fault} → p ≡ places_of before → OffLimits n p f → HierarchyOffLimits bs before f
  off_limits {p} {f} is o =
      let first = subst (λ (m : Contents). First 0 4 (Fit m (places_of before)) f.place) x.contents (subst (λ (q : Places). First 0 4 (Fit n q) f.place) is o.first) in
      record {
        refusal = o.refusal;
        value = x.value;
        says = x.says;
        shaped = x.shaped;
        first = record {
          low = first.low;
          inside = first.inside;
          before = λ q ge lt. counted x.value x.shaped (places_of before) q (first.before q ge lt);
          broken = λ y. first.broken (fits x.value x.shaped (places_of before) f.place y);
        };
      }

  -- the second pass over a line whose counts are right
  pub second_pass : (after : Lists) (filled_to : Fillings) (r : Result Contents Fault) (p : Places) → p ≡ places_of before → Clear 0 4 (Fit n p) → MatchResult r (LinePassed bs (unused before) filled_to) (Misread hierarchy bs) → after ≡ places_in filled_to → HierarchyReading bs before r after
  second_pass after filled_to (Ok m) q is clear p e =
      let same : x.value ≡ p.value = one_hierarchy x.value p.value x.says p.says in
      let clear' : Clear 0 4 (CountedIn before x.value) = λ i ge lt. counted x.value x.shaped (places_of before) i (subst (λ (c : Contents). Fit c (places_of before) i) x.contents (subst (λ (k : Places). Fit n k i) is (clear i ge lt))) in
      let clear'' : Clear 0 4 (CountedIn before p.value) = subst (λ (h : Hierarchy). Clear 0 4 (CountedIn before h)) same clear' in
      record {
        value = p.value;
        says = p.says;
        shaped = p.shaped;
        counted = clear'';
        contents = p.contents;
        kept = e ∙ ap places_in p.kept ∙ stands (corners_of p.value.kind) p.value before clear'';
      }
  second_pass after filled_to (Err f) q is clear p e = absurd (says_or_not x.says p)

off_or_not : {bs : List ℕ} {before after : Lists} {n : Contents} {f : Fault} → HierarchyRead bs before after n → HierarchyOffLimits bs before f → ⊥
off_or_not {bs} {before} {after} {n} {f} x y =
    let same = one_hierarchy x.value y.value x.says y.says in
    first_or_clear (subst (λ (h : Hierarchy). Clear 0 4 (CountedIn before h)) same x.counted) y.first

refused_once : {bs : List ℕ} {before : Lists} (f g : Fault) → Misread hierarchy bs f ⊎ HierarchyOffLimits bs before f → Misread hierarchy bs g ⊎ HierarchyOffLimits bs before g → f ≡ g
refused_once {bs} {before} f g x y =
    ⊎_elim
    (λ a. ⊎_elim (λ b. misread_once f g a b) (λ b. absurd (says_or_not b.says a)) y)
    (λ a. ⊎_elim (λ b. absurd (says_or_not a.says b))
    (λ b.
    let same = one_hierarchy a.value b.value a.says b.says in
    same_fault f g (a.refusal ∙ sym b.refusal) (first_once (subst (λ (h : Hierarchy). First 0 4 (CountedIn before h) f.place) same a.first) b.first))
    y)
    x

pub read_once : HierarchyReadOnce
read_once bs before (Ok m) (Ok n) after also x y =
    let same = one_hierarchy x.value y.value x.says y.says in (
      ap {B = Result Contents Fault} Ok (x.contents ∙ ap contents_of same ∙ sym y.contents),
      x.kept ∙ ap (λ (h : Hierarchy). all_written (tables_of h) before) same ∙ sym y.kept,
    )
read_once bs before (Ok m) (Err g) after also x y = absurd (⊎_elim (λ b. says_or_not x.says b) (λ b. off_or_not x b) y.0)
read_once bs before (Err f) (Ok n) after also x y = absurd (⊎_elim (λ b. says_or_not y.says b) (λ b. off_or_not y b) x.0)
read_once bs before (Err f) (Err g) after also x y = (ap {B = Result Contents Fault} Err (refused_once f g x.0 y.0), x.1 ∙ sym y.1)
