-- Tables of rules are judged in one way only. Assumes nothing.
use Rattle.std.proofs.Common.{◌≡◌, List, [], ◌∷◌, sym, ◌∙◌, ⊎_elim}
use Rattle.faults.specs.declared.Fault.{Fault}
use Rattle.tables.specs.Judging.{Row, Lawful, Refused}
use Rattle.tables.proofs.First.{first_or_clear, first_once}

pub lawful_or_refused : (rs : List Row) (f : Fault) → Lawful rs → Refused rs f → ⊥
lawful_or_refused [] f x y = y
lawful_or_refused (r ∷ rs) f x y = ⊎_elim (λ a. first_or_clear x.0 a.1) (λ b. lawful_or_refused rs f x.1 b.1) y

pub refused_once : (rs : List Row) (f g : Fault) → Refused rs f → Refused rs g → f ≡ g
refused_once [] f g x y = absurd x
refused_once (r ∷ rs) f g x y =
    ⊎_elim
    (λ a. ⊎_elim
    (λ b.
    let refusal = a.0 ∙ sym b.0 in
    let place = first_once a.1 b.1 in
    λ i. record { refusal = refusal i; place = place i })
    (λ b. absurd (first_or_clear b.0 a.1))
    y)
    (λ a. ⊎_elim (λ b. absurd (first_or_clear a.0 b.1)) (λ b. refused_once rs f g a.1 b.1) y)
    x
