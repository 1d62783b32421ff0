-- The law of the triangle as its kind states it: over a vertex table, for a list of corners and its rim. Assumes nothing.
use Rattle.std.specs.Prelude.{◌≡◌, Bool, true, false, cond, ◌&&◌, List, ℤ, pos, ◌+ℤ◌, ◌-ℤ◌, neg_ℤ, ◌<ℤ◌, Some, None, Option, int_lt, refl}
use Rattle.std.proofs.Common.{sym, ap₂, ◌∙◌, arith}
use Rattle.std.proofs.lemmas.Bool.{both_ways, false≢true}
use borrow.Author.Differences.{ints, lt-true, lt-false}
use Rattle.whole.proofs.Signs.{linear}
use Rattle.kinds.specs.declared.kind.Signed.{Signed}
use Rattle.kinds.specs.declared.kind.Signed.TheVariants.{Plus, Minus}
use Rattle.kinds.specs.declared.numbers.VertexId.{VertexId}
use Rattle.kinds.specs.Places.{PlanePoint, place}
use Rattle.kinds.specs.declared.triangle.Corners.{Corners}
use Rattle.kinds.specs.declared.triangle.Edge.{Edge}
use Rattle.kinds.specs.Facets.{bare, counted, total, Off}
use Rattle.kinds.specs.Numbers.{level}
use Rattle.kinds.specs.Triangles.{orient, within, on_edge, joined, placed, turns, holds, run, rim_at, meets_at, meets_edge, weight_at, edge_weight}
use Rattle.kinds.specs.Sides.{side}
use Rattle.kinds.specs.OnEdge.{Between, On, flip}
use Rattle.kinds.specs.Crossings.{half, turn}
use Rattle.kinds.specs.Covering.{Sum, Says, says}

-- ---- tests and facts
between_within : (u p v : ℤ) → Between u p v → within u p v ≡ true
between_within u p v h = grind (arith, ints)

on_line : (s : ℤ) → s ≡ pos 0 → level s (pos 0) ≡ true
on_line s e = grind (arith, ints)

above_0 : (s : ℤ) → int_lt (pos 0) s ≡ true → pos 0 <ℤ s
above_0 s e = omega (arith, linear, lt-true (pos 0) s e)

not_above_0 : (s : ℤ) → int_lt (pos 0) s ≡ false → ¬ (pos 0 <ℤ s)
not_above_0 s e h = omega (arith, linear, lt-false (pos 0) s e)

all_true : {s t u : Bool} → s ≡ true → t ≡ true → u ≡ true → (s && (t && u)) ≡ true
all_true e f g = rw (e, f, g)

module _ (a b p : PlanePoint) where
  is_on : On a b p → on_edge a b p ≡ true
  unfolding side
  is_on o = all_true (on_line (orient a b p) o.line) (between_within a.x p.x b.x o.wide) (between_within a.y p.y b.y o.high)

  not_on : on_edge a b p ≡ false → ¬ (On a b p)
  not_on e o = both_ways (on_edge a b p) e (is_on o)

-- ---- the edges of a cell
-- an edge that is run from u to v, where t says that u has the lower number
abbrev running : VertexId → VertexId → Bool → Signed Edge
running u v t = cond t (Plus (record { low = u; high = v })) (Minus (record { low = v; high = u }))

module _ (vs : List ℤ) (p : PlanePoint) (u v : VertexId) (a b : PlanePoint) (at_u : place vs u.0 ≡ Some a) (at_v : place vs v.0 ≡ Some b) where
  -- an edge counts the same however its ends are numbered
  counts : counted (edge_weight vs p) (run u v) ≡ turn a b p
  unfolding half side
  counts = go (int_lt u.0 v.0)
    where
      back : (x y : ℤ) → neg_ℤ (x -ℤ y) ≡ y -ℤ x
      back x y = omega (arith, linear)

      go : (t : Bool) → counted (edge_weight vs p) (running u v t) ≡ turn a b p
      go true = ap₂ (λ x y. weight_at x y p) at_u at_v
      go false = ap₂ (λ x y. neg_ℤ (weight_at y x p)) at_u at_v ∙ back (half b a p) (half a b p)

  -- where the edge does not meet the point, the point is not on it, however its ends are numbered
  clear : meets_edge vs (bare (run u v)) p ≡ false → ¬ (On a b p)
  clear = go (int_lt u.0 v.0)
    where
      go : (t : Bool) → meets_edge vs (bare (running u v t)) p ≡ false → ¬ (On a b p)
      go true e o = not_on a b p (sym (ap₂ (λ x y. meets_at x y p) at_u at_v) ∙ e) o
      go false e o = not_on b a p (sym (ap₂ (λ x y. meets_at y x p) at_u at_v) ∙ e) (flip o)

-- ---- the law
sum : (s t u x y z : ℤ) → s ≡ x → t ≡ y → u ≡ z → s +ℤ (t +ℤ (u +ℤ pos 0)) ≡ x +ℤ y +ℤ z
sum s t u x y z e f g = omega (arith, linear)

-- a sum that tells whether three numbers are above 0
told : (x y z s : ℤ) → (pos 0 <ℤ x → pos 0 <ℤ y → pos 0 <ℤ z → s ≡ pos 1) → (¬ (pos 0 <ℤ x × pos 0 <ℤ y × pos 0 <ℤ z) → s ≡ pos 0)
    → s ≡ cond (int_lt (pos 0) x && (int_lt (pos 0) y && int_lt (pos 0) z)) (pos 1) (pos 0)
told x y z s all some = go (int_lt (pos 0) x) refl (int_lt (pos 0) y) refl (int_lt (pos 0) z) refl
  where
    go : (t : Bool) → int_lt (pos 0) x ≡ t → (u : Bool) → int_lt (pos 0) y ≡ u → (v : Bool) → int_lt (pos 0) z ≡ v → s ≡ cond (t && (u && v)) (pos 1) (pos 0)
    go true d true e true f = all (above_0 x d) (above_0 y e) (above_0 z f)
    go false d u e v f = some (λ h. not_above_0 x d h.0)
    go true d false e v f = some (λ h. not_above_0 y e h.1)
    go true d true e false f = some (λ h. not_above_0 z f h.2)

module _ (vs : List ℤ) (p : PlanePoint) where
  abbrev Tells : List (Signed Edge) → Option (Corners PlanePoint) → Type 0
  Tells rim spots = turns spots ≡ true → Off (λ e. meets_edge vs e p) rim → total (edge_weight vs p) rim ≡ cond (holds spots p) (pos 1) (pos 0)

  at_places : (t : Corners VertexId) (x y z : Option PlanePoint) → place vs t.a.0 ≡ x → place vs t.b.0 ≡ y → place vs t.c.0 ≡ z
      → Tells (rim_at (Some t)) (joined x y z)
  unfolding side
  at_places t None y z d e f h o = absurd (false≢true h)
  at_places t (Some a) None z d e f h o = absurd (false≢true h)
  at_places t (Some a) (Some b) None d e f h o = absurd (false≢true h)
  at_places t (Some a) (Some b) (Some c) d e f h o =
      sum _ _ _ (turn a b p) (turn b c p) (turn c a p) (counts vs p t.a t.b a b d e) (counts vs p t.b t.c b c e f) (counts vs p t.c t.a c a f d)
      ∙ told (side a b p) (side b c p) (side c a p) (Sum a b c p)
      (λ x y z. law.0 (record { ab = x; bc = y; ca = z }))
      (λ n. law.1 (λ k. n (k.ab, k.bc, k.ca)))
    where
      law : Says a b c p
      law = says a b c p (above_0 (side a b c) h) (record {
        ab = clear vs p t.a t.b a b d e o.0;
        bc = clear vs p t.b t.c b c e f o.1.0;
        ca = clear vs p t.c t.a c a f d o.1.1.0;
      })

  pub tells : (corners : Option (Corners VertexId)) → Tells (rim_at corners) (placed vs corners)
  tells None h o = absurd (false≢true h)
  tells (Some t) h o = at_places t (place vs t.a.0) (place vs t.b.0) (place vs t.c.0) refl refl refl h o
