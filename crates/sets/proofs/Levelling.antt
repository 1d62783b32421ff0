-- The mesh of every closed set is level with the coarse mesh. Assumes nothing.
use Rattle.std.proofs.Common.{◌≡◌, ℕ, ◌+◌, ◌<◌, Bool, true, false, cond, List, [], ◌∷◌, length, ℤ, pos, ◌+ℤ◌, nat_abs, filter, sym, refl, ap, ◌∙◌, arith}
use Rattle.std.specs.List.{range_with_len, AllByRecursion}
use Rattle.std.proofs.ByRecursion.{all_kept_by}
use Rattle.std.proofs.lemmas.Int.{ints}
use Rattle.kinds.specs.Facets.{bare, Off, total}
use Rattle.kinds.specs.Shapes.{Shape, tally}
use Rattle.tables.specs.declared.contents.Places.{Places}
use Rattle.tables.specs.Judging.{Clear}
use Rattle.tables.specs.Tables.{Tables, own_places}
use Rattle.rules.specs.Cells.{base_cells, made_cells, taken_cells, facets_of}
use Rattle.rules.specs.Rows.{cells_in, replacements_in}
use Rattle.rules.specs.Links.{FreshKept}
use Rattle.rules.specs.Raw.{cell}
use Rattle.rules.proofs.Ranges.{cells_add_up}
use Rattle.rules.proofs.Rows.{Plain, Linked, plain_and_linked}
use Rattle.sets.specs.Sets.{Closed, in_mesh, mesh_cells}
use Rattle.sets.specs.Level.{OffFacets, times_covered, Level, MeshesAreLevel}
use Rattle.sets.proofs.Balance.{Ordered, mesh_keeps}
use Rattle.sets.proofs.Sums.{sum_of, all_counting}
use Rattle.sets.proofs.Weighing.{all_parts, total-joined, same_weight, total-append}

-- the order of cells that the plain rules and fresh cells make
pub ordered : {F P : Type 0} (k : Shape F P) (t : Tables) (p : Places) → 0 < k.arity → Plain k t p → Clear 1 (replacements_in t + 1) (FreshKept t) → Ordered k.arity t
ordered k t p some plain fresh = record {
  adds_up = cells_add_up k.arity t p some (plain.counted 1 (omega arith) (omega arith));
  earlier = plain.earlier;
  fresh = fresh;
}

-- the laws of a kind that are used: cells have corners, sameness of facets, and that weights of facets tell what a cell covers
pub record Laws {F P : Type 0} (k : Shape F P) (weight : List ℤ → P → F → ℤ) : Type 0 where
  pub some : 0 < k.arity
  pub likes : (f : F) → k.alike f f ≡ true
  pub likens : (f g : F) → k.alike f g ≡ true → f ≡ g
  pub tells : (vs corners : List ℤ) (p : P) → k.sound vs corners ≡ true → Off (λ f. k.meets vs f p) (k.rim corners) → total (weight vs p) (k.rim corners) ≡ cond (k.covers vs corners p) (pos 1) (pos 0)

module _ {F P : Type 0} (k : Shape F P) (t : Tables) where
  abbrev corners_of : ℕ → List ℤ
  corners_of = cell k.arity t.corners

  abbrev Sound : ℕ → Type 0
  Sound c = k.sound t.coordinates (corners_of c) ≡ true

  module _ (weight : List ℤ → P → F → ℤ) (laws : Laws k weight) where
    -- how often a point is covered, by the weights of facets
    covered_total : (p : P) (cs : List ℕ) → AllByRecursion Sound cs → OffFacets k t p cs → pos (times_covered k t p cs) ≡ total (weight t.coordinates p) (facets_of k t cs)
    covered_total p [] sound off = refl
    covered_total p (c ∷ cs) sound off =
        let parts = all_parts (λ s. k.meets t.coordinates (bare s) p ≡ false) (k.rim (corners_of c)) (facets_of k t cs) off in
        one (k.covers t.coordinates (corners_of c) p)
        ∙ (λ i. sym (laws.tells t.coordinates (corners_of c) p sound.0 parts.0) i +ℤ covered_total p cs sound.1 parts.1 i)
        ∙ sym (total-append (weight t.coordinates p) (k.rim (corners_of c)) (facets_of k t cs))
      where
        one : (b : Bool) → pos (length (cond b (c ∷ filter (λ c'. k.covers t.coordinates (corners_of c') p) cs) (filter (λ c'. k.covers t.coordinates (corners_of c') p) cs))) ≡ cond b (pos 1) (pos 0) +ℤ pos (times_covered k t p cs)
        one true = omega (arith, ints)
        one false = omega (arith, ints)

    level : (H : ℕ → Bool) → Plain k t (own_places t) → Linked k t → Closed t H → Level k t (mesh_cells k.arity t H) (base_cells t)
    level H plain linked closed =
        let order = ordered k t (own_places t) laws.some plain linked.fresh in
        let mesh = mesh_cells k.arity t H in
        let base = base_cells t in
        let at_facet : F → ℕ → ℤ = λ f c. tally k f (k.rim (corners_of c)) in
        let tallied : (f : F) (cs : List ℕ) → tally k f (facets_of k t cs) ≡ sum_of (at_facet f) cs = λ f cs. total-joined _ (λ c. k.rim (corners_of c)) cs in
        let facets : (f : F) → tally k f (facets_of k t mesh) ≡ tally k f (facets_of k t base)
        = λ f. tallied f mesh
        ∙ mesh_keeps k.arity t order H (at_facet f) closed (λ n low high. sym (tallied f (made_cells t n)) ∙ linked.rim n low (omega arith) f ∙ tallied f (taken_cells t n))
        ∙ sym (tallied f base) in
        let all_sound : AllByRecursion Sound (range_with_len 0 (cells_in k.arity t)) = all_counting Sound 0 (cells_in k.arity t) (λ c ge lt. plain.sound c ge (omega arith)) in
        let base_sound : AllByRecursion Sound base = all_counting Sound 0 (nat_abs t.base) (λ c ge lt. plain.sound c ge (omega (arith, order.adds_up))) in
        record {
          facets = facets;
          covered = λ p off off0. ap nat_abs
              (covered_total p mesh (all_kept_by (in_mesh t H) Sound _ all_sound) off
              ∙ same_weight k laws.likes laws.likens (facets_of k t mesh) (facets_of k t base) facets (weight t.coordinates p)
              ∙ sym (covered_total p base base_sound off0));
        }

pub meshes_level : {F P : Type 0} (k : Shape F P) (weight : List ℤ → P → F → ℤ) → Laws k weight → MeshesAreLevel k
meshes_level k weight laws t H lawful closed = let both = plain_and_linked k t lawful in level k t weight laws H both.0 both.1 closed
