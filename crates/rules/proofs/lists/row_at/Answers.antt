use Rattle.std.proofs.Common.{◌≡◌, ◌∷◌, [], List, ℤ, ap, ◌∙◌, w32, SFits, to_z, of_z, arith, rules}
use Rattle.std.proofs.lemmas.Int.{to_z-of_z}
use Rattle.rules.specs.Raw.{at, field}
use Rattle.rules.proofs.Elements.{row_is}
use Rattle.rules.proofs.lists.row_at.Goals as goal

pub returns : goal.returns
returns c =
    let xs : List ℤ = c.args.list.now in
    let fits : (z : ℤ) → SFits w32 z → to_z w32 (of_z w32 z) ≡ z = to_z-of_z w32 in
    let a : to_z w32 (of_z w32 c.number_at.result) ≡ field xs c.args.place 0 = fits _ (search rules) ∙ c.number_at.ensures ∙ ap (λ row. at row 0) c.cell_at-row.ensures ∙ row_is xs c.args.place 0 (omega arith) in
    let b : to_z w32 (of_z w32 c.number_at-2.result) ≡ field xs c.args.place 1 = fits _ (search rules) ∙ c.number_at-2.ensures ∙ ap (λ row. at row 1) c.cell_at-row.ensures ∙ row_is xs c.args.place 1 (omega arith) in
    let d : to_z w32 (of_z w32 c.number_at-3.result) ≡ field xs c.args.place 2 = fits _ (search rules) ∙ c.number_at-3.ensures ∙ ap (λ row. at row 2) c.cell_at-row.ensures ∙ row_is xs c.args.place 2 (omega arith) in
    λ i. a i ∷ b i ∷ d i ∷ []
