-- From a scanner's steps to the whole line: what it says, or how it is refused. Assumes nothing.
use Rattle.std.proofs.Common.{◌≡◌, ℕ, ◌≤◌, true, List, [], ◌++◌, length, Option, sym, refl, ap, ◌∙◌, subst, inl, inr, ⊎_elim, append-nil, arith}
use Rattle.faults.specs.declared.Fault.{Fault}
use Rattle.forms.specs.Form.{Form, nothing, ◌then◌, Item, Point, Token, Wrong, Denotes}
use Rattle.forms.specs.Array.{blanks}
use Rattle.forms.specs.Progress.{After, onto, BlankFree}
use Rattle.forms.specs.Range.{earlier, first_far}
use Rattle.forms.specs.Line.{Says, Misread}
use Rattle.forms.proofs.Range.{said_near}
use Rattle.forms.proofs.Steps.{start, done, all_read, ahead_at}
use Rattle.forms.proofs.Onto.{open_end, shuns, stuck}
use Rattle.scanner.specs.Scanner.{text, Step, Lost, Begun, Finished, Unfinished}
use Rattle.scanner.specs.declared.Scanner.{Scanner}

-- the whole form of a line, with the white space before it
abbrev line : Form → Form
line F = blanks then F

module _ (F : Form) (clear : BlankFree (onto F nothing)) {bs : List ℕ} {r : Scanner} (b : Begun bs r) where
  begun : After (line F) (text r) r.at [] (onto F nothing)
  begun = subst (λ (w : List ℕ). After (line F) w r.at [] (onto F nothing)) (sym b.same) (b.took (line F) (onto F nothing) clear (open_end (line F) (start (line F) bs)))

  pub line_lost : {f : Fault} → Lost r F f → Misread (line F) bs f
  line_lost {f} x = inr (inl (record { refusal = x.refusal; short = b.short; wrong = subst (λ (w : List ℕ). Wrong (line F) w f.place) b.same (x.wrong (line F) nothing [] (refl, refl) begun) }))

  module _ {s : Scanner} {t : List Token} (k : Step r s F nothing t) where
    same : text s ≡ bs
    same = k.same ∙ b.same

    ended : After (line F) bs s.at k.items nothing
    ended = subst (λ (w : List ℕ). After (line F) w s.at k.items nothing) b.same (k.took (line F) nothing [] (refl, refl) begun)

    denoted_by : length bs ≤ s.at → Denotes (line F) bs k.items
    denoted_by past =
        record {
          line = all_read ended past;
          only = λ p x.
              let d = done nothing ended past p x in
              d.1 ∙ ap (λ (l : List Item). k.items ++ l) (ap (λ (q : Point). q.items) d.2.1) ∙ append-nil k.items;
        }

    far_is : s.far ≡ first_far k.items
    far_is = k.far ∙ ap (λ (q : Option ℕ). earlier q (first_far k.items)) b.far

    pub line_unfinished : {f : Fault} → Unfinished s f → Misread (line F) bs f
    line_unfinished {f} u =
        ⊎_elim
        (λ x. inr (inl (record { refusal = x.refusal; short = b.short; wrong = subst (Wrong (line F) bs) (sym x.place) (stuck (sym (ahead_at bs s.at (omega (arith, x.more, ap length same)))) (shuns (λ _. true) nothing refl _ refl) ended) })))
        (λ x. inr (inr (record { refusal = x.refusal; short = b.short; items = k.items; denotes = denoted_by (omega (arith, x.past, ap length same)); far = sym far_is ∙ x.far })))
        u

    pub line_says : Finished s → Says (line F) bs t
    line_says f =
        let near = sym far_is ∙ f.near in
        record { short = b.short; items = k.items; denotes = denoted_by (omega (arith, f.past, ap length same)); near = near; says = said_near k.items near ∙ k.says }
