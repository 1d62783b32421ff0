-- What a `?` passes on. Assumes nothing.
use Rattle.std.proofs.Common.{◌≡◌, IsErrAnd, Result, sym, subst, MatchResult}
use Rattle.std.proofs.lemmas.Result.{err_from_is_err_and}

pub passed_on : {T E : Type 0} (P : T → Type 0) (Q : E → Type 0) (r : Result T E) (f : E) → IsErrAnd r (λ y. y ≡ f) → Q f → MatchResult r P Q
passed_on P Q r f h q = let p = err_from_is_err_and r h in subst (λ s. MatchResult s P Q) (sym p.1) (subst Q (sym p.2) q)
