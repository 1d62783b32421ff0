-- A hierarchy line, part by part. Assumes nothing.
use Rattle.std.proofs.Common.{◌≡◌, ℕ, ◌+◌, ◌≤◌, eqb, List, [], ◌∷◌, ◌++◌, length, Some, sym, refl, ap, ◌∙◌, subst, arith}
use Rattle.std.specs.List.{AllByRecursion}
use Rattle.faults.specs.declared.Fault.{Fault}
use Rattle.forms.specs.Form.{Form, nothing, ◌then◌, symbol}
use Rattle.forms.specs.Array.{sign, listed, row, row_tokens}
use Rattle.forms.specs.Progress.{onto}
use Rattle.forms.specs.Line.{Misread}
use Rattle.forms.proofs.Onto.{shuns, shuns_mark, or_left, or_right}
use Rattle.scanner.specs.Scanner.{text, next_byte, Step, Passed, Missed, Lost, Begun, Finished, Unfinished}
use Rattle.scanner.specs.declared.Scanner.{Scanner}
use Rattle.scanner.proofs.Lines.{line_lost, line_unfinished, line_says}
use Rattle.scanner.proofs.Steps.{step_on, lost_after, lost_by, lost_first, lost_before, step_before, mark_step, mark_last, still}
use Rattle.arrays.specs.Sink.{Filling, put, put_all, flat}
use Rattle.arrays.specs.Listing.{RowsKept, Long}
use Rattle.arrays.proofs.Lists.{puts-append}
use Rattle.tables.specs.Kind.{corners_of}
use Rattle.tables.specs.declared.contents.Contents.{Contents}
use Rattle.tables.specs.declared.kind.CellKind.{CellKind}
use Rattle.tables.specs.declared.kind.CellKind.TheVariants.{Segment, Triangle}
use Rattle.hierarchypass.specs.Line.{Hierarchy, hierarchy, Shaped, Made, replacement, body, kinds, body_tokens, tokens, made_corners, made_count, taken_count, contents_of, tables_of}
use Rattle.hierarchypass.specs.Passing.{Growth, growth, ReplacementsKept, Fillings, fillings, with_tables, KindComes, KindPassed, BodyPassed, LinePassed}
use Rattle.hierarchypass.proofs.Sizes.{array_long, array_size}

-- the kind
module _ {r : Scanner} where
  pub three : next_byte r ≡ Some 51 → KindComes r Triangle
  three n = record { step = still kinds (sign 51 then body 3) (λ L K e apt h. or_left n (shuns (eqb 51) (onto (sign 50 then body 2) K) refl 51 refl) h) }

  pub two : (next_byte r ≡ Some 51 → ⊥) → KindComes r Segment
  two none = record { step = still kinds (sign 50 then body 2) (λ L K e apt h. or_right refl (shuns_mark none) h) }

  pub no_kind : {kind : CellKind} {f : Fault} → KindComes r kind → Missed r (sign (48 + corners_of kind)) f → Lost r kinds f
  no_kind {kind} comes m = lost_after comes.step (lost_first (body (corners_of kind)) m)

  pub kind_passed : {s : Scanner} {kind : CellKind} → KindComes r kind → Passed r s (48 + corners_of kind) → KindPassed r s kind
  kind_passed {s} {kind} comes p = record { step = step_on comes.step (mark_step p (body (corners_of kind)) (λ K apt. refl)) }

-- what is left of a line after its kind, part by part
abbrev replacements_left : ℕ → Form
replacements_left k = listed (replacement k) then sign 93

abbrev comma_replacements_left : ℕ → Form
comma_replacements_left k = sign 44 then replacements_left k

abbrev cells_left : ℕ → Form
cells_left k = listed (row k) then comma_replacements_left k

abbrev comma_cells_left : ℕ → Form
comma_cells_left k = sign 44 then cells_left k

abbrev pub vertices_left : ℕ → Form
vertices_left k = listed (row 3) then comma_cells_left k

pub at_kind : (kind : CellKind) (k : ℕ) {o : Scanner} {f : Fault} → k ≡ corners_of kind → Lost o (body k) f → Lost o (body (corners_of kind)) f
at_kind kind k {o} {f} e x = subst (λ (j : ℕ). Lost o (body j) f) e x

module _ (k : ℕ) {o a : Scanner} (p1 : Passed o a 44) where
  from1 : {f : Fault} → Lost a (vertices_left k) f → Lost o (body k) f
  from1 x = lost_after (mark_step p1 (vertices_left k) (λ K apt. refl)) x

  pub vertices_lost : {f : Fault} → Lost a (listed (row 3)) f → Lost o (body k) f
  vertices_lost x = from1 (lost_before (comma_cells_left k) (λ K apt. (refl, refl)) x)

  module _ {b : Scanner} {x : ℕ} {v v' : Filling} (n : RowsKept 3 x a b v v') where
    from2 : {f : Fault} → Lost b (comma_cells_left k) f → Lost o (body k) f
    from2 y = from1 (lost_after (step_before (comma_cells_left k) (λ K apt. (refl, refl)) n.step) y)

    pub first_comma_lost : {f : Fault} → Missed b (sign 44) f → Lost o (body k) f
    first_comma_lost y = from2 (lost_first (cells_left k) y)

    module _ {c : Scanner} (p2 : Passed b c 44) where
      from3 : {f : Fault} → Lost c (cells_left k) f → Lost o (body k) f
      from3 y = from2 (lost_after (mark_step p2 (cells_left k) (λ K apt. refl)) y)

      pub cells_lost : {f : Fault} → Lost c (listed (row k)) f → Lost o (body k) f
      cells_lost y = from3 (lost_before (comma_replacements_left k) (λ K apt. (refl, refl)) y)

      module _ {d : Scanner} {z : ℕ} {w w' : Filling} (m : RowsKept k z c d w w') where
        from4 : {f : Fault} → Lost d (comma_replacements_left k) f → Lost o (body k) f
        from4 y = from3 (lost_after (step_before (comma_replacements_left k) (λ K apt. (refl, refl)) m.step) y)

        pub second_comma_lost : {f : Fault} → Missed d (sign 44) f → Lost o (body k) f
        second_comma_lost y = from4 (lost_first (replacements_left k) y)

        pub few_base : z ≤ length (text o)
        few_base = omega (arith, m.is.0, array_long row_tokens (λ u. omega arith) m.value, m.step.on, m.step.within (omega (arith, p2.within, ap length p2.same)), ap length (p2.same ∙ n.step.same ∙ p1.same))

        module _ {e : Scanner} (p3 : Passed d e 44) where
          pub same_text : text e ≡ text o
          same_text = p3.same ∙ m.step.same ∙ p2.same ∙ n.step.same ∙ p1.same

          from5 : {f : Fault} → Lost e (replacements_left k) f → Lost o (body k) f
          from5 y = from4 (lost_after (mark_step p3 (replacements_left k) (λ K apt. refl)) y)

          pub replacements_lost : {f : Fault} → Lost e (listed (replacement k)) f → Lost o (body k) f
          replacements_lost y = from5 (lost_before (sign 93) (λ K apt. (refl, refl)) y)

          module _ {g : Scanner} {count takes makes : ℕ} {r r' t t' w'' : Filling} (q : ReplacementsKept k count e g (growth w' r t 0 0) (growth w'' r' t' takes makes)) where
            pub few_made : makes ≤ length (text o)
            few_made =
                let made = ap (λ (u : Growth). u.makes) q.kept in
                omega (arith, made, array_size q.value, q.step.on, q.step.within (omega (arith, p3.within, ap length p3.same)), ap length same_text)

            pub end_lost : {f : Fault} → Missed g (sign 93) f → Lost o (body k) f
            end_lost u = from5 (lost_after (step_before (sign 93) (λ K apt. (refl, refl)) q.step) (lost_by u))

            module _ (kind : CellKind) (wide : k ≡ corners_of kind) where
              value : Hierarchy
              value = record { kind = kind; vertices = n.value; base = m.value; replacements = q.value }

              held : record { kind = kind; vertices = x; base = z; cells = z + makes; replacements = count; taken = takes } ≡ contents_of value
              unfolding value
              held =
                  let a = ap (λ (u : Growth). u.makes) q.kept in
                  let b = ap (λ (u : Growth). u.takes) q.kept in
                  let cells : z + makes ≡ length m.value + made_count q.value = omega (arith, a, m.is.0) in
                  let taken : takes ≡ taken_count q.value = omega (arith, b) in
                  λ i. record { kind = kind; vertices = sym n.is.0 i; base = sym m.is.0 i; cells = cells i; replacements = sym q.is.0 i; taken = taken i }

              filled : fillings v' w'' r' t' ≡ with_tables (tables_of value) (fillings v w r t)
              unfolding value
              filled =
                  let corners : w'' ≡ put_all (flat m.value ++ made_corners q.value) w =
                  ap (λ (u : Growth). u.corners) q.kept ∙ ap (put_all (made_corners q.value)) m.kept ∙ sym (puts-append put (flat m.value) (made_corners q.value) w) in
                  λ i. fillings (n.kept i) (corners i) (q.kept i).replacements (q.kept i).taken

              shaped : Shaped value
              unfolding value
              shaped =
                  record {
                    vertices = n.is.1;
                    base = subst (λ (j : ℕ). AllByRecursion (Long j) m.value) wide m.is.1;
                    made = subst (λ (j : ℕ). AllByRecursion (Made j) q.value) wide q.is.1;
                  }

              pub bodied : {h : Scanner} → Passed g h 93 → BodyPassed kind o h (fillings v w r t) (fillings v' w'' r' t') (record { kind = kind; vertices = x; base = z; cells = z + makes; replacements = count; taken = takes })
              unfolding value
              bodied {h} p4 =
                  record {
                    value = value;
                    kinded = refl;
                    shaped = shaped;
                    step = subst (λ (j : ℕ). Step o h (body j) nothing (body_tokens n.value m.value q.value)) wide
                        (step_on (mark_step p1 (vertices_left k) (λ K apt. refl)) (step_on (step_before (comma_cells_left k) (λ K apt. (refl, refl)) n.step) (step_on (mark_step p2 (cells_left k) (λ K apt. refl))
                        (step_on (step_before (comma_replacements_left k) (λ K apt. (refl, refl)) m.step) (step_on (mark_step p3 (replacements_left k) (λ K apt. refl)) (step_on (step_before (sign 93) (λ K apt. (refl, refl)) q.step) (mark_last p4)))))));
                    contents = held;
                    kept = filled;
                  }

pub with_contents : {kind : CellKind} {o h : Scanner} {before after : Fillings} {m n : Contents} → m ≡ n → BodyPassed kind o h before after n → BodyPassed kind o h before after m
with_contents {kind} {o} {h} {before} {after} e x = subst (BodyPassed kind o h before after) (sym e) x

-- the whole line
abbrev opened : Form
opened = sign 91 then kinds

module _ {bs : List ℕ} {r : Scanner} (b : Begun bs r) where
  pub line_unopened : {f : Fault} → Missed r (sign 91) f → Misread hierarchy bs f
  line_unopened x = line_lost opened refl b (lost_first kinds x)

  module _ {a : Scanner} (p : Passed r a 91) where
    opening : Step r a opened kinds (symbol 91 ∷ [])
    opening = mark_step p kinds (λ K apt. refl)

    pub kind_lost : {f : Fault} → Lost a kinds f → Misread hierarchy bs f
    kind_lost x = line_lost opened refl b (lost_after opening x)

    module _ {c : Scanner} {kind : CellKind} (d : KindPassed a c kind) where
      pub body_lost : {f : Fault} → Lost c (body (corners_of kind)) f → Misread hierarchy bs f
      body_lost x = line_lost opened refl b (lost_after opening (lost_after d.step x))

      module _ {e : Scanner} {before after : Fillings} {n : Contents} (m : BodyPassed kind c e before after n) where
        all : Step r e opened nothing (tokens m.value)
        all =
            subst (λ (j : CellKind). Step r e opened nothing (symbol 91 ∷ (symbol (48 + corners_of j) ∷ body_tokens m.value.vertices m.value.base m.value.replacements))) (sym m.kinded)
            (step_on opening (step_on d.step m.step))

        pub unfinished : {f : Fault} → Unfinished e f → Misread hierarchy bs f
        unfinished x = line_unfinished opened refl b all x

        pub passed : Finished e → LinePassed bs before after n
        passed x = record { value = m.value; says = line_says opened refl b all x; shaped = m.shaped; contents = m.contents; kept = m.kept }

-- where the sinks are known by other names
pub same_fillings : {bs : List ℕ} {before : Fillings} {n : Contents} {v c c' r r' t t' : Filling} → c' ≡ c → r' ≡ r → t' ≡ t → LinePassed bs before (fillings v c r t) n → LinePassed bs before (fillings v c' r' t') n
same_fillings {bs} {before} {n} {v} a b d x = subst (λ (f : Fillings). LinePassed bs before f n) (λ i. fillings v (sym a i) (sym b i) (sym d i)) x
