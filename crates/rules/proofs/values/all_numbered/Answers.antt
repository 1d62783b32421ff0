use Rattle.std.proofs.Common.{rules}
use Rattle.std.proofs.lemmas.Iterator.{YieldsList-from_slice, cases_from_all}
use Rattle.rules.specs.Values.{Numbered}
use Rattle.rules.proofs.Elements.{all_or_not}
use Rattle.rules.proofs.values.all_numbered.Goals as goal

pub returns : goal.returns
returns c =
    all_or_not (Numbered c.args.count) c.args.corners.now c.all.result
    (cases_from_all _ _ _ (Numbered c.args.count) (λ z. Numbered c.args.count z → ⊥) c.all.ensures.ran (YieldsList-from_slice c.args.corners.now (cc)) (λ x q k. search rules) (λ x q k. search rules))
