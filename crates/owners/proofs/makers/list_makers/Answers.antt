use Rattle.std.proofs.Common.{◌≡◌, ℕ, ◌+◌, nat_abs, vec_items, vec_len, sym, refl, subst, ap, ◌∙◌, arith}
use Rattle.std.specs.Result.{IsOk}
use Rattle.rules.specs.Ranges.{before}
use Rattle.rules.specs.Raw.{lists_of}
use Rattle.rules.specs.Rows.{replacements_in}
use Rattle.rules.proofs.Ranges.{before_rises}
use Rattle.owners.proofs.Listing.{turn, turns_end}
use Rattle.owners.proofs.Making.{made_more, are_makers, none_taken}
use Rattle.owners.proofs.makers.list_makers.Goals as goal
use Rattle.owners.proofs.makers.list_makers.Goals.{In-None}

pub unwrap-requires-in-loop-n : goal.unwrap-requires-in-loop-n
unwrap-requires-in-loop-n c =
    let t = lists_of c.args.ranged.now.tables in
    let i = c.loop-n.invariant in
    let x = turn t (sym i.left ∙ c.in-Some.ensures.steps) in
    c.resize-in-loop-n.ensures.succeeds (omega (arith, i.long, x.first_end, before_rises 2 t.replacements (i.gone + 1) (replacements_in t) (omega (arith, x.inside)), c.args.ranged.now.made))

pub loop-n-preserved : goal.loop-n-preserved
loop-n-preserved c =
    let t = lists_of c.args.ranged.now.tables in
    let i = c.loop-n.invariant in
    let x = turn t (sym i.left ∙ c.in-Some.ensures.steps) in
    let e = c.resize-in-loop-n.ensures in
    let ok : IsOk c.resize-in-loop-n.result = subst IsOk (sym c.unwrap-in-loop-n.ensures) refl in
    let size : vec_len c.resize-in-loop-n.new.self ≡ c.len.result + c.in-Some.part.makes = rw c.unwrap-in-loop-n.ensures at e.len in
    let now' = c.loop-n.owners.ok.0 in
    let all = c.resize-in-loop-n.new.self.ok.0 in
    record {
      gone = i.gone + 1;
      inside = omega (arith, x.inside);
      left = x.rest;
      long = omega (arith, size, c.len.ensures, i.long, x.first, x.first_end);
      entered = made_more t x (vec_items c.loop-n.owners) (vec_items c.resize-in-loop-n.new.self) (sym now' ∙ i.long) (omega (arith, size, c.len.ensures, now', all))
          (λ k d lt. e.by_index.0 k d (omega (arith, now', c.len.ensures)) (omega (arith, now')))
          (λ k d ge lt. e.by_index.1 k d ok (omega (arith, now')) (omega (arith, all, size))) i.entered;
      capacity = omega (arith, e.capacity, i.capacity);
    }

-- all replacements have come
done : (c : In-None) → c.loop-n.invariant.gone ≡ replacements_in (lists_of c.args.ranged.now.tables)
done c = omega (arith, turns_end (lists_of c.args.ranged.now.tables) (sym c.loop-n.invariant.left ∙ c.in-None.ensures.steps.0), c.loop-n.invariant.inside)

pub returns : goal.returns
returns c =
    let t = lists_of c.args.ranged.now.tables in
    record {
      len = c.loop-n.invariant.long ∙ ap (λ (k : ℕ). nat_abs t.base + before 2 t.replacements k) (done c);
      makers = are_makers t (vec_items c.loop-n.owners) c.loop-n.invariant.entered;
      free = none_taken t (vec_items c.loop-n.owners) c.loop-n.invariant.entered;
    }
