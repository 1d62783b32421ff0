-- A lent list with places for all values holds them, one after the other. Assumes nothing.
use Rattle.std.proofs.Common.{◌≡◌, ◌+◌, ◌≤◌, Bool, true, cond, ltb, List, [], ◌∷◌, ◌++◌, length, drop, set, ℤ, sym, refl, ap, ◌∙◌, append_assoc, arith, length-append, lt-ltb}
use lib.Seq.{set_at}
use Rattle.std.proofs.lemmas.List.{length_push}
use Rattle.arrays.specs.Sink.{Filling, lent, put, put_all, written}

put_at : (a b : List ℤ) (y z : ℤ) → put z (lent (a ++ y ∷ b) (length a)) ≡ lent ((a ++ z ∷ []) ++ b) (length (a ++ z ∷ []))
put_at a b y z =
    let room : ltb (length a) (length (a ++ y ∷ b)) ≡ true = lt-ltb _ _ (omega (arith, length-append a (y ∷ b))) in
    let places : set (a ++ y ∷ b) (length a) z ≡ (a ++ z ∷ []) ++ b = set_at a y b z (length a) refl ∙ sym (append_assoc a (z ∷ []) b) in
    ap (λ (t : Bool). cond t (lent (set (a ++ y ∷ b) (length a) z) (length a + 1)) (lent (a ++ y ∷ b) (length a))) room
    ∙ (λ i. lent (places i) (sym (length_push a z) i))

after : (a b vs : List ℤ) → length vs ≤ length b → (put_all vs (lent (a ++ b) (length a))).places ≡ a ++ (vs ++ drop (length vs) b)
after a b [] h = refl
after a [] (z ∷ vs) h = absurd (omega arith)
after a (y ∷ b) (z ∷ vs) h =
    ap (λ (s : Filling). (put_all vs s).places) (put_at a b y z)
    ∙ after (a ++ z ∷ []) b vs (omega arith)
    ∙ append_assoc a (z ∷ []) (vs ++ drop (length vs) b)

-- the values stand in the first places, and the others are as they were
pub filled : (places vs : List ℤ) → length vs ≤ length places → (put_all vs (lent places 0)).places ≡ written vs places
filled places vs h = after [] places vs h
