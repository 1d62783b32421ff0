use Rattle.std.proofs.Common.{Some, None, Option, vec_items, sym, ◌∙◌, subst}
use Rattle.kinds.specs.declared.numbers.ReplacementId.{ReplacementId}
use Rattle.rules.specs.Raw.{lists_of}
use Rattle.hierarchy.specs.Asked.{MakerOf}
use Rattle.hierarchy.proofs.Asking.{maker_asked}
use Rattle.hierarchy.proofs.hierarchy.Hierarchy.maker.Goals as goal

pub returns-in_err-owners_of : goal.returns-in_err-owners_of
returns-in_err-owners_of g c =
    let h = c.args.self.now in
    subst (λ (r : Option ReplacementId). MakerOf (lists_of h.tables) c.args.c.0 r) (sym c.from_residual.ensures)
    (maker_asked g.K.Kind.shape.arity (lists_of h.tables) (vec_items h.owners) (sym h.owners.ok.0 ∙ h.counted.0) h.ordered h.made c.args.c.0 None c.in_err-owners_of.ensures)

pub returns : goal.returns
returns g c =
    let h = c.args.self.now in
    maker_asked g.K.Kind.shape.arity (lists_of h.tables) (vec_items h.owners) (sym h.owners.ok.0 ∙ h.counted.0) h.ordered h.made c.args.c.0 (Some c.in_ok-owners_of.field-0) c.in_ok-owners_of.ensures
