-- A line says one thing only, and is refused in one way only. Assumes nothing.
use Rattle.std.proofs.Common.{◌≡◌, ℕ, List, map, Some, None, sym, ap, ◌∙◌, ⊎_elim, arith}
use Rattle.faults.specs.declared.Fault.{Fault}
use Rattle.forms.specs.Form.{Form, Token, Wrong}
use Rattle.forms.specs.Range.{first_far}
use Rattle.forms.specs.Line.{token, Says, TooFar, Misread}

pub same_fault : (f g : Fault) → f.refusal ≡ g.refusal → f.place ≡ g.place → f ≡ g
same_fault f g p q = λ i. record { refusal = p i; place = q i }

module _ {L : Form} {bs : List ℕ} where
  pub says_once : {t u : List Token} → Says L bs t → Says L bs u → t ≡ u
  says_once x y = sym x.says ∙ ap (map token) (y.denotes.only x.items x.denotes.line) ∙ y.says

  -- what says something is not refused
  pub says_or_not : {t : List Token} {f : Fault} → Says L bs t → Misread L bs f → ⊥
  says_or_not {t} {f} x =
      ⊎_elim
      (λ o. omega (arith, o.long, x.short))
      (⊎_elim
      (λ m. m.wrong.refused x.items x.denotes.line)
      (λ r. let none : Some f.place ≡ None = sym r.far ∙ ap first_far (x.denotes.only r.items r.denotes.line) ∙ x.near in cc))

  one_place : (p q : ℕ) → Wrong L bs p → Wrong L bs q → p ≡ q
  one_place p q x y = omega (arith, y.longest p x.within x.viable, x.longest q y.within y.viable)

  same_far : {f g : Fault} → TooFar L bs f → TooFar L bs g → f.place ≡ g.place
  same_far {f} {g} x y =
      let both : Some f.place ≡ Some g.place = sym x.far ∙ ap first_far (y.denotes.only x.items x.denotes.line) ∙ y.far in
      cc

  -- one fault at most
  pub misread_once : (f g : Fault) → Misread L bs f → Misread L bs g → f ≡ g
  misread_once f g x y =
      ⊎_elim
      (λ o. ⊎_elim
      (λ p. same_fault f g (o.refusal ∙ sym p.refusal) (o.place ∙ sym p.place))
      (⊎_elim (λ m. absurd (omega (arith, o.long, m.short))) (λ r. absurd (omega (arith, o.long, r.short))))
      y)
      (⊎_elim
      (λ m. ⊎_elim
      (λ p. absurd (omega (arith, p.long, m.short)))
      (⊎_elim
      (λ n. same_fault f g (m.refusal ∙ sym n.refusal) (one_place f.place g.place m.wrong n.wrong))
      (λ r. absurd (m.wrong.refused r.items r.denotes.line)))
      y)
      (λ r. ⊎_elim
      (λ p. absurd (omega (arith, p.long, r.short)))
      (⊎_elim
      (λ n. absurd (n.wrong.refused r.items r.denotes.line))
      (λ q. same_fault f g (r.refusal ∙ sym q.refusal) (same_far r q)))
      y))
      x
