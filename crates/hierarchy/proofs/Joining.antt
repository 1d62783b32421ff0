-- Rules that are judged in two parts, and places that tables have themselves. Assumes nothing.
use Rattle.std.proofs.Common.{ℕ, zero, suc, ◌≤◌, List, [], ◌∷◌, ◌++◌, length, inl, inr, ⊎_elim, arith}
use Rattle.faults.specs.declared.Fault.{Fault}
use Rattle.kinds.specs.Shapes.{Shape}
use Rattle.tables.specs.declared.contents.Places.{Places}
use Rattle.tables.specs.Judging.{Row, Lawful, Refused}
use Rattle.tables.specs.Tables.{Tables, Counted, own_places}
use Rattle.rules.specs.Hierarchies.{plain_rows, linked_rows, hierarchy_rows, MultiTriangulation}
use Rattle.hierarchy.specs.Accepted.{places_for}

pub lawful_both : (rs ss : List Row) → Lawful rs → Lawful ss → Lawful (rs ++ ss)
lawful_both [] ss x y = y
lawful_both (r ∷ rs) ss x y = (x.0, lawful_both rs ss x.1 y)

pub refused_first : (rs ss : List Row) (f : Fault) → Refused rs f → Refused (rs ++ ss) f
refused_first [] ss f h = absurd h
refused_first (r ∷ rs) ss f h = ⊎_elim (λ a. inl a) (λ b. inr (b.0, refused_first rs ss f b.1)) h

pub refused_later : (rs ss : List Row) (f : Fault) → Lawful rs → Refused ss f → Refused (rs ++ ss) f
refused_later [] ss f x h = h
refused_later (r ∷ rs) ss f x h = inr (x.0, refused_later rs ss f x.1 h)

-- what fits some places fits its own
own_counted : (k : ℕ) (t : Tables) (p : Places) (q : ℕ) → Counted k t p q → Counted k t (own_places t) q
own_counted k t p zero h = record { vertices = h.vertices; whole = h.whole; some = h.some; most = h.most; room = omega arith }
own_counted k t p (suc zero) h = record { cells = h.cells; whole = h.whole; most = h.most; some_base = h.some_base; natural = h.natural; adds_up = h.adds_up; room = omega arith }
own_counted k t p (suc (suc zero)) h = record { replacements = h.replacements; whole = h.whole; most = h.most; room = omega arith }
own_counted k t p (suc (suc (suc zero))) h = record { most = h.most; natural = h.natural; adds_up = h.adds_up; room = omega arith }
own_counted k t p (suc (suc (suc (suc q)))) h = h

-- what fits its own places fits places with room for the corners
placed_counted : (k : ℕ) (t : Tables) (n : ℕ) → length t.corners ≤ n → (q : ℕ) → Counted k t (own_places t) q → Counted k t (places_for t n) q
placed_counted k t n room zero h = record { vertices = h.vertices; whole = h.whole; some = h.some; most = h.most; room = omega arith }
placed_counted k t n room (suc zero) h = record { cells = h.cells; whole = h.whole; most = h.most; some_base = h.some_base; natural = h.natural; adds_up = h.adds_up; room = room }
placed_counted k t n room (suc (suc zero)) h = record { replacements = h.replacements; whole = h.whole; most = h.most; room = omega arith }
placed_counted k t n room (suc (suc (suc zero))) h = record { most = h.most; natural = h.natural; adds_up = h.adds_up; room = omega arith }
placed_counted k t n room (suc (suc (suc (suc q)))) h = h

pub placed_lawful : {F P : Type 0} (k : Shape F P) (t : Tables) (n : ℕ) → MultiTriangulation k t → length t.corners ≤ n → Lawful (hierarchy_rows k t (places_for t n))
placed_lawful k t n x room = (λ q low high. placed_counted k.arity t n room q (x.0 q low high), x.1)

pub multi_triangulation : {F P : Type 0} (k : Shape F P) (t : Tables) (p : Places) → Lawful (plain_rows k t p) → Lawful (linked_rows k t) → MultiTriangulation k t
multi_triangulation k t p x y = lawful_both (plain_rows k t (own_places t)) (linked_rows k t) (λ q low high. own_counted k.arity t p q (x.0 q low high), x.1) y
