use Rattle.std.proofs.Common.{◌≡◌, ◌∷◌, map, sym, ap, ◌∙◌, pos, rules}
use Rattle.rules.specs.Records.{records_of}
use Rattle.rules.proofs.Sums.{too_much, add_more, add_over, added_up}
use Rattle.rules.proofs.counts.add_up.Goals as goal

pub returns-then-start-gt-MOST_CELLS : goal.returns-then-start-gt-MOST_CELLS
returns-then-start-gt-MOST_CELLS g c counts counting n x = too_much _ c.args.start n c.if-start-gt-MOST_CELLS.true x

pub returns-then-sum-gt-MOST_CELLS : goal.returns-then-sum-gt-MOST_CELLS
returns-then-sum-gt-MOST_CELLS g c counts counting n x =
    let count : c.count_of.result ≡ pos c.in_ok-sum.field-0 = search rules in
    let front : counts c.in-Some.record ≡ pos c.in_ok-sum.field-0 = sym (counting c.in-Some.record c.count_of.result c.count_of.ensures) ∙ count in
    add_over (c.loop-record.invariant.1 counts counting) c.in_ok-sum.field-0 _ (ap (map counts) c.in-Some.ensures.steps ∙ ap (λ z. z ∷ map counts (records_of c.next.new.self.left.now)) front) c.if-sum-gt-MOST_CELLS.true n x

pub loop-record-preserved : goal.loop-record-preserved
loop-record-preserved g c = (
  c.if-sum-gt-MOST_CELLS.false,
  λ counts counting.
      let count : c.count_of.result ≡ pos c.in_ok-sum.field-0 = search rules in
      let front : counts c.in-Some.record ≡ pos c.in_ok-sum.field-0 = sym (counting c.in-Some.record c.count_of.result c.count_of.ensures) ∙ count in
      add_more (c.loop-record.invariant.1 counts counting) c.in_ok-sum.field-0 _ (ap (map counts) c.in-Some.ensures.steps ∙ ap (λ z. z ∷ map counts (records_of c.next.new.self.left.now)) front),
)

pub returns : goal.returns
returns g c counts counting = added_up (c.loop-record.invariant.1 counts counting) (ap (map counts) c.in-None.ensures.steps.0) c.loop-record.invariant.0
