-- A replacement, part by part. Assumes nothing.
use Rattle.std.proofs.Common.{◌≡◌, ℕ, ◌+◌, ◌≤◌, length, pos, sym, refl, ap, ◌∙◌, arith}
use Rattle.faults.specs.declared.Fault.{Fault}
use Rattle.forms.specs.Form.{Form, ◌then◌}
use Rattle.forms.specs.Array.{sign, whole, listed, row, single, row_tokens}
use Rattle.scanner.specs.Scanner.{text, Passed, Missed, Lost}
use Rattle.scanner.specs.declared.Scanner.{Scanner}
use Rattle.scanner.proofs.Steps.{step_on, lost_after, lost_by, lost_first, lost_before, step_before, mark_step, mark_last}
use Rattle.arrays.specs.Sink.{Filling, put, put_all}
use Rattle.arrays.specs.Listing.{NumberKept, NumbersKept, RowsKept}
use Rattle.hierarchypass.specs.Line.{Replacement, replacement, record_of}
use Rattle.hierarchypass.specs.Passing.{Growth, growth, ReplacementKept}
use Rattle.hierarchypass.proofs.Sizes.{array_long, one_size}

-- the totals are still no more than the bytes
pub still_fits : (k : ℕ) {r s : Scanner} {before after : Growth} → ReplacementKept k r s before after → before.takes + before.makes ≤ r.at → after.takes + after.makes ≤ s.at
still_fits k x fit =
    omega (arith, fit, x.step.on, one_size x.value, ap (λ (g : Growth). g.takes) x.kept, ap (λ (g : Growth). g.makes) x.kept)

-- what is left of a replacement after each of its parts but the last
abbrev made_left : ℕ → Form
made_left k = listed (row k) then sign 93

abbrev comma_made_left : ℕ → Form
comma_made_left k = sign 44 then made_left k

abbrev taken_left : ℕ → Form
taken_left k = listed whole then comma_made_left k

abbrev comma_taken_left : ℕ → Form
comma_taken_left k = sign 44 then taken_left k

abbrev pub error_left : ℕ → Form
error_left k = whole then comma_taken_left k

module _ (k : ℕ) {o a : Scanner} (p1 : Passed o a 91) where
  back1 : {f : Fault} → Lost a (error_left k) f → Lost o (replacement k) f
  back1 x = lost_after (mark_step p1 (error_left k) (λ K apt. refl)) x

  pub error_lost : {f : Fault} → Lost a whole f → Lost o (replacement k) f
  error_lost x = back1 (lost_before (comma_taken_left k) (λ K apt. (refl, refl)) x)

  module _ {b : Scanner} {r0 r1 : Filling} (n : NumberKept a b r0 r1) where
    back2 : {f : Fault} → Lost b (comma_taken_left k) f → Lost o (replacement k) f
    back2 x = back1 (lost_after (step_before (comma_taken_left k) (λ K apt. (refl, refl)) n.step) x)

    pub first_comma_lost : {f : Fault} → Missed b (sign 44) f → Lost o (replacement k) f
    first_comma_lost x = back2 (lost_first (taken_left k) x)

    module _ {c : Scanner} (p2 : Passed b c 44) where
      back3 : {f : Fault} → Lost c (taken_left k) f → Lost o (replacement k) f
      back3 x = back2 (lost_after (mark_step p2 (taken_left k) (λ K apt. refl)) x)

      pub taken_lost : {f : Fault} → Lost c (listed whole) f → Lost o (replacement k) f
      taken_lost x = back3 (lost_before (comma_made_left k) (λ K apt. (refl, refl)) x)

      module _ {d : Scanner} {x : ℕ} {t t' : Filling} (m : NumbersKept x c d t t') where
        pub few_taken : x ≤ length (text o)
        few_taken = omega (arith, m.is, array_long single (λ z. omega arith) m.value, m.step.on, m.step.within (omega (arith, p2.within, ap length p2.same)), ap length (p2.same ∙ n.step.same ∙ p1.same))

        back4 : {f : Fault} → Lost d (comma_made_left k) f → Lost o (replacement k) f
        back4 y = back3 (lost_after (step_before (comma_made_left k) (λ K apt. (refl, refl)) m.step) y)

        pub second_comma_lost : {f : Fault} → Missed d (sign 44) f → Lost o (replacement k) f
        second_comma_lost y = back4 (lost_first (made_left k) y)

        module _ {e : Scanner} (p3 : Passed d e 44) where
          back5 : {f : Fault} → Lost e (made_left k) f → Lost o (replacement k) f
          back5 y = back4 (lost_after (mark_step p3 (made_left k) (λ K apt. refl)) y)

          pub made_lost : {f : Fault} → Lost e (listed (row k)) f → Lost o (replacement k) f
          made_lost y = back5 (lost_before (sign 93) (λ K apt. (refl, refl)) y)

          module _ {g : Scanner} {y : ℕ} {w w' : Filling} (q : RowsKept k y e g w w') where
            pub few_made : y ≤ length (text o)
            few_made = omega (arith, q.is.0, array_long row_tokens (λ z. omega arith) q.value, q.step.on, q.step.within (omega (arith, p3.within, ap length p3.same)), ap length (p3.same ∙ m.step.same ∙ p2.same ∙ n.step.same ∙ p1.same))

            pub end_lost : {f : Fault} → Missed g (sign 93) f → Lost o (replacement k) f
            end_lost z = back5 (lost_after (step_before (sign 93) (λ K apt. (refl, refl)) q.step) (lost_by z))

            pub replaced : {h : Scanner} → Passed g h 93 → (takes makes : ℕ) → ReplacementKept k o h (growth w r0 t takes makes) (growth w' (put (pos y) (put (pos x) r1)) t' (takes + x) (makes + y))
            replaced {h} p4 takes makes =
                let v : Replacement = record { error = n.value; taken = m.value; made = q.value } in
                let counts : put (pos y) (put (pos x) r1) ≡ put_all (record_of v) r0 =
                ap (λ (f : Filling). put (pos y) (put (pos x) f)) n.kept ∙ (λ i. put (pos (sym q.is.0 i)) (put (pos (sym m.is i)) (put n.value r0))) in
                record {
                  value = v;
                  is = q.is.1;
                  step = step_on (mark_step p1 (error_left k) (λ K apt. refl)) (step_on (step_before (comma_taken_left k) (λ K apt. (refl, refl)) n.step) (step_on (mark_step p2 (taken_left k) (λ K apt. refl))
                      (step_on (step_before (comma_made_left k) (λ K apt. (refl, refl)) m.step) (step_on (mark_step p3 (made_left k) (λ K apt. refl)) (step_on (step_before (sign 93) (λ K apt. (refl, refl)) q.step) (mark_last p4))))));
                  kept = λ i. growth (q.kept i) (counts i) (m.kept i) (takes + sym m.is i) (makes + sym q.is.0 i);
                }
