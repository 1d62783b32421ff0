use Rattle.std.proofs.Common.{◌≡◌, ℕ, ◌+◌, map, take, drop, nat_abs, refl, sym, ap, ◌∙◌, subst, arith, rules}
use Rattle.std.specs.List.{range_with_len}
use Rattle.owners.specs.declared.part.Part.{Part}
use Rattle.owners.specs.Owners.{part_of}
use Rattle.owners.proofs.Listing.{turn, turns_end}
use Rattle.rims.specs.Rims.{Fitting, SameRim}
use Rattle.rules.specs.Links.{RimKept}
use Rattle.rules.specs.Ranges.{first_made, taken_by}
use Rattle.rules.specs.Raw.{lists_of}
use Rattle.rules.specs.Rows.{replacements_in}
use Rattle.rules.proofs.Growing.{clear_more}
use Rattle.tables.specs.Judging.{Clear}
use Rattle.hierarchy.proofs.rim_rule.judge_rims.Goals as goal

pub loop-n-init : goal.loop-n-init
loop-n-init g c = record {
  gone = 0;
  inside = omega arith;
  left = search rules;
  clear = λ q low high. absurd (omega (arith, low, high));
  room = refl;
}

pub rim_kept-requires : goal.rim_kept-requires
rim_kept-requires g c =
    let t = lists_of c.args.ranged.now.tables in
    let n : ℕ = c.in-Some.n.0 in
    let x = turn t (sym c.loop-n.invariant.left ∙ c.in-Some.ensures.steps) in
    subst (λ (q : Part). Fitting g.K.Kind.shape.arity t.corners q.first q.makes (take q.takes (drop q.list t.taken)) c.loop-n.rims.room) (sym x.is)
    (subst (λ (r : ℕ). Fitting g.K.Kind.shape.arity t.corners (first_made t n) (part_of t n).makes (taken_by t n) r) (sym c.loop-n.invariant.room) (c.requires n x.real))

pub returns-then-not-rim_kept : goal.returns-then-not-rim_kept
returns-then-not-rim_kept g c =
    let t = lists_of c.args.ranged.now.tables in
    let k = g.K.Kind.shape in
    let x = turn t (sym c.loop-n.invariant.left ∙ c.in-Some.ensures.steps) in (
      c.at.ensures.refusal,
      rw c.at.ensures.place (record {
        low = omega (arith, x.number);
        inside = omega (arith, x.number, x.inside);
        before = subst (λ (n : ℕ). Clear 1 n (RimKept k t)) (sym x.number) c.loop-n.invariant.clear;
        broken = subst (λ (p : Part). SameRim k t.corners (range_with_len p.first p.makes) (map nat_abs (take p.takes (drop p.list t.taken))) → ⊥) x.is c.if-not-rim_kept.ensures.kept;
      }),
    )

pub loop-n-preserved : goal.loop-n-preserved
loop-n-preserved g c =
    let t = lists_of c.args.ranged.now.tables in
    let k = g.K.Kind.shape in
    let m : ℕ = c.loop-n.invariant.gone in
    let x = turn t (sym c.loop-n.invariant.left ∙ c.in-Some.ensures.steps) in
    let is : c.in-Some.ranges ≡ part_of t (m + 1) = x.is ∙ ap (part_of t) x.number in
    record {
      gone = m + 1;
      inside = omega (arith, x.inside);
      left = x.rest;
      clear = clear_more (RimKept k t) 1 (m + 1) c.loop-n.invariant.clear (subst (λ (p : Part). SameRim k t.corners (range_with_len p.first p.makes) (map nat_abs (take p.takes (drop p.list t.taken)))) is c.if-not-rim_kept.ensures.kept);
      room = c.rim_kept.ensures.room ∙ c.loop-n.invariant.room;
    }

pub returns : goal.returns
returns g c =
    let t = lists_of c.args.ranged.now.tables in
    let i = c.loop-n.invariant in
    let done : i.gone ≡ replacements_in t = omega (arith, turns_end t (sym i.left ∙ c.in-None.ensures.steps.0), i.inside) in
    subst (λ (n : ℕ). Clear 1 (n + 1) (RimKept g.K.Kind.shape t)) done i.clear
