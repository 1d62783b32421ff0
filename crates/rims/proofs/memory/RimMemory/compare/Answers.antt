use Rattle.std.proofs.Common.{◌≡◌, List, ◌++◌, map, nat_abs, ℕ, vec_items, sym, ap, ◌∙◌, subst}
use Rattle.std.specs.List.{range_with_len}
use Rattle.rims.specs.Keys.{pluses, minuses, SameNumbers}
use Rattle.rules.specs.Cells.{rims}
use Rattle.rims.proofs.Sorting.{when_turn}
use Rattle.rims.proofs.Tallying.{Told, tallies_from_level, level_from_tallies}
use Rattle.rims.proofs.memory.RimMemory.compare.Goals as goal

pub returns-clause-same : goal.returns-clause-same
returns-clause-same g c =
    let k = g.K.Kind in
    let ms = rims k.shape c.args.corners.now (range_with_len c.args.first c.args.count) in
    let ts = rims k.shape c.args.corners.now (map nat_abs c.args.taken.now) in
    let told : Told k.shape k.key k.real = record { likes = g.met.K.Kind.likes; likens = g.met.K.Kind.likens; keyed = g.met.K.Kind.keyed } in
    let run = c.note_run.ensures.noted in
    let list = c.note_list.ensures.noted in
    let A : vec_items c.note_list.new.self.minus ≡ pluses k.key ms ++ minuses k.key ts =
    list.minus ∙ ap (λ (z : List ℕ). z ++ minuses k.key ts) (ap vec_items c.turn.ensures.1 ∙ run.plus ∙ ap (λ (z : List ℕ). z ++ pluses k.key ms) c.clear.ensures.0) in
    let B : vec_items c.note_list.new.self.plus ≡ minuses k.key ms ++ pluses k.key ts =
    list.plus ∙ ap (λ (z : List ℕ). z ++ pluses k.key ts) (ap vec_items c.turn.ensures.0 ∙ run.minus ∙ ap (λ (z : List ℕ). z ++ minuses k.key ms) c.clear.ensures.1) in
    when_turn c.is_balanced.result c.is_balanced.ensures.same
    (λ l n. tallies_from_level k.shape k.key k.real told ms ts run.known list.known
    (subst (λ (z : List ℕ). SameNumbers z (minuses k.key ms ++ pluses k.key ts)) A (subst (λ (z : List ℕ). SameNumbers (vec_items c.note_list.new.self.minus) z) B (λ x. sym (l x)))) n)
    (λ h n. sym (subst (λ (z : List ℕ). SameNumbers (vec_items c.note_list.new.self.minus) z) (sym B)
    (subst (λ (z : List ℕ). SameNumbers z (minuses k.key ms ++ pluses k.key ts)) (sym A) (level_from_tallies k.shape k.key k.real told ms ts run.known list.known h)) n))
