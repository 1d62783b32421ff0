-- A rule is broken first at one place only, and nowhere where it is clear. Assumes nothing.
use Rattle.std.proofs.Common.{◌≡◌, ℕ, ◌<◌, ⊎_elim, arith}
use Rattle.std.proofs.str.Laws.{order}
use Rattle.tables.specs.Judging.{Clear, First}

module _ {a b : ℕ} {K : ℕ → Type 0} where
  pub first_or_clear : {p : ℕ} → Clear a b K → First a b K p → ⊥
  first_or_clear {p} clear x = x.broken (clear p x.low x.inside)

  not_below : {p q : ℕ} → First a b K p → First a b K q → p < q → ⊥
  not_below {p} x y lt = x.broken (y.before p x.low lt)

  pub first_once : {p q : ℕ} → First a b K p → First a b K q → p ≡ q
  first_once {p} {q} x y =
      ⊎_elim
      (λ lt. absurd (not_below x y lt))
      (λ le. ⊎_elim (λ lt. absurd (not_below y x lt)) (λ le'. omega arith) (order q p))
      (order p q)
