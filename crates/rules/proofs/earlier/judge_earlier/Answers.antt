use Rattle.std.proofs.Common.{◌≡◌, ℕ, ◌+◌, [], ◌∷◌, ◌++◌, length, nat_abs, ap, ◌∙◌, subst, arith, w32, SFits, rules}
use Rattle.std.proofs.lemmas.Int.{to_z-of_z}
use Rattle.std.proofs.lemmas.List.{length_push}
use Rattle.tables.specs.Tables.{Tables}
use Rattle.rules.specs.Raw.{lists_of, field}
use Rattle.rules.specs.Ranges.{before, EarlierKept}
use Rattle.rules.proofs.Growing.{before_next, taken_here, kept_here, tested_here, clear_more}
use Rattle.rules.proofs.RecordLists.{numbered_turn, numbered_end}
use Rattle.rules.proofs.earlier.judge_earlier.Goals as goal

pub returns-then-not-all_numbered : goal.returns-then-not-all_numbered
returns-then-not-all_numbered c =
    let t : Tables = lists_of c.args.tables in
    let m : ℕ = length c.loop-n.yielded in
    let turn = numbered_turn c.args.tables.replacements.now c.records.ensures c.zip-n-items.ensures.first c.zip-n-items.ensures.second c.into_iter-n-iterator.ensures.into_iter_gives c.loop-n.yielded c.loop-n.n-iterator c.loop-n.yielded_by c.next.result c.next.new.self (c.in-Some.n, c.in-Some.record) c.in-Some.is c.next.ensures.steps in
    let taken = taken_here t m c.in-Some.record c.loop-n.list c.taken_by.result.now turn.2 c.loop-n.invariant.list c.taken_by.ensures in (
      c.at.ensures.refusal,
      rw c.at.ensures.place (record {
        low = omega (arith, turn.1);
        inside = omega (arith, turn.1, turn.0);
        before = λ q low high. c.loop-n.invariant.clear q low (omega (arith, turn.1));
        broken = λ kept. c.if-not-all_numbered.ensures (tested_here t c.in-Some.n m turn.1 c.loop-n.first c.taken_by.result.now c.loop-n.invariant.first taken kept);
      }),
    )

pub loop-n-preserved : goal.loop-n-preserved
loop-n-preserved c =
    let t : Tables = lists_of c.args.tables in
    let m : ℕ = length c.loop-n.yielded in
    let K : ℕ → Type 0 = EarlierKept t in
    let turn = numbered_turn c.args.tables.replacements.now c.records.ensures c.zip-n-items.ensures.first c.zip-n-items.ensures.second c.into_iter-n-iterator.ensures.into_iter_gives c.loop-n.yielded c.loop-n.n-iterator c.loop-n.yielded_by c.next.result c.next.new.self (c.in-Some.n, c.in-Some.record) c.in-Some.is c.next.ensures.steps in
    let taken = taken_here t m c.in-Some.record c.loop-n.list c.taken_by.result.now turn.2 c.loop-n.invariant.list c.taken_by.ensures in
    let here : K c.in-Some.n = kept_here t c.in-Some.n m turn.1 c.loop-n.first c.taken_by.result.now c.loop-n.invariant.first taken c.if-not-all_numbered.ensures in
    let takes_fit : SFits w32 c.in-Some.record.takes = search rules in
    let makes_fit : SFits w32 c.in-Some.record.makes = search rules in
    let takes : c.unsigned_abs.result ≡ nat_abs (field t.replacements m 1) = c.unsigned_abs.ensures.value ∙ ap nat_abs (to_z-of_z w32 c.in-Some.record.takes takes_fit) ∙ ap (λ r. nat_abs r.takes) turn.2 in
    let makes : c.unsigned_abs-in-loop-n.result ≡ nat_abs (field t.replacements m 2) = c.unsigned_abs-in-loop-n.ensures.value ∙ ap nat_abs (to_z-of_z w32 c.in-Some.record.makes makes_fit) ∙ ap (λ r. nat_abs r.makes) turn.2 in
    let more : length (c.loop-n.yielded ++ (c.in-Some.n, c.in-Some.record) ∷ []) ≡ m + 1 = length_push c.loop-n.yielded (c.in-Some.n, c.in-Some.record) in
    record {
      list = omega (arith, c.loop-n.invariant.list, takes, ap (before 1 t.replacements) more, before_next 1 t.replacements m);
      first = omega (arith, c.loop-n.invariant.first, makes, ap (before 2 t.replacements) more, before_next 2 t.replacements m);
      clear = λ q low high. clear_more K 1 (m + 1) c.loop-n.invariant.clear (subst K turn.1 here) q low (omega (arith, more, high));
      inside = omega (arith, more, turn.0);
      list_fits = omega (arith, more, c.loop-n.invariant.list_fits, c.unsigned_abs.ensures.bound);
      first_fits = omega (arith, more, c.loop-n.invariant.first_fits, c.unsigned_abs-in-loop-n.ensures.bound);
    }

pub returns : goal.returns
returns c = let end = numbered_end c.args.tables.replacements.now c.records.ensures c.zip-n-items.ensures.first c.zip-n-items.ensures.second c.into_iter-n-iterator.ensures.into_iter_gives c.loop-n.yielded c.loop-n.n-iterator c.loop-n.yielded_by c.next.result c.next.new.self c.in-None.is c.next.ensures.steps in λ q low high. c.loop-n.invariant.clear q low (omega (arith, end))
