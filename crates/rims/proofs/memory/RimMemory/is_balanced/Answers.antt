use Rattle.std.proofs.Common.{vec_items, sym, ◌∙◌}
use Rattle.std.specs.List.Sorted.{IsNonDecreasing}
use Rattle.std.proofs.lemmas.List.Sorted.{IsNonDecreasingBy-from_sort}
use Rattle.std.proofs.lemmas.Slice.Eq.{slice_eq-Decides}
use Rattle.std.proofs.lemmas.Bool.Decides.{Decides-eqb}
use Rattle.rims.proofs.Sorting.{level_from_sorted, sorted_from_level, when_alike}
use Rattle.rims.proofs.memory.RimMemory.is_balanced.Goals as goal

pub returns-clause-same : goal.returns-clause-same
returns-clause-same c =
    let xs = vec_items c.args.self.now.plus in
    let ys = vec_items c.args.self.now.minus in
    let xs' = vec_items c.sort_unstable.new.self in
    let ys' = vec_items c.sort_unstable-2.new.self in
    let rx : IsNonDecreasing xs' = IsNonDecreasingBy-from_sort (λ x. x) xs' c.sort_unstable.ensures.sorted in
    let ry : IsNonDecreasing ys' = IsNonDecreasingBy-from_sort (λ x. x) ys' c.sort_unstable-2.ensures.sorted in
    when_alike c.eq.result (slice_eq-Decides Decides-eqb _ _ _ c.eq.ensures)
    (λ e. level_from_sorted xs ys xs' ys' c.sort_unstable.ensures.permutation c.sort_unstable-2.ensures.permutation (sym c.as_slice.ensures.value ∙ e ∙ c.as_slice-2.ensures.value))
    (λ h. c.as_slice.ensures.value ∙ sorted_from_level xs ys xs' ys' c.sort_unstable.ensures.permutation c.sort_unstable-2.ensures.permutation rx ry h ∙ sym c.as_slice-2.ensures.value)
