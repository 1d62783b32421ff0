use Rattle.std.proofs.Common.{◌≡◌, ℕ, ◌+◌, ◌<◌, length, sym, ap, ◌∙◌, subst, arith}
use Rattle.rules.specs.Raw.{at, lists_of}
use Rattle.rules.specs.Ranges.{before}
use Rattle.rules.specs.Rows.{replacements_in}
use Rattle.owners.specs.Claims.{Noted}
use Rattle.owners.specs.Owners.{takers_in}
use Rattle.owners.proofs.Listing.{turn, turns_end}
use Rattle.owners.proofs.Claiming.{natural, note_clear, note_all}
use Rattle.owners.proofs.takers.fill_takers.Goals as goal

pub note_takers-requires : goal.note_takers-requires
note_takers-requires c =
    let t = lists_of c.args.ranged.now.tables in
    let x = turn t (sym c.loop-n.invariant.left ∙ c.in-Some.ensures.steps) in
    record {
      is = x.real;
      ranges = x.is;
      sized = c.loop-n.auto.owners ∙ c.requires.sized;
      noted = subst (λ (j : ℕ). Noted t j (takers_in c.loop-n.owners)) (sym x.list) c.loop-n.invariant.noted;
    }

pub loop-n-preserved : goal.loop-n-preserved
loop-n-preserved c =
    let t = lists_of c.args.ranged.now.tables in
    let x = turn t (sym c.loop-n.invariant.left ∙ c.in-Some.ensures.steps) in
    record {
      gone = c.loop-n.invariant.gone + 1;
      inside = omega (arith, x.inside);
      left = x.rest;
      noted = subst (λ (j : ℕ). Noted t j (takers_in c.note_takers.new.owners)) x.list_end c.in_ok-note_takers.ensures.takers;
      makers = c.note_takers.ensures.makers ∙ c.loop-n.invariant.makers;
    }

pub returns-clause-takers : goal.returns-clause-takers
returns-clause-takers c =
    let r = c.args.ranged.now in
    let t = lists_of r.tables in
    let i = c.loop-n.invariant in
    let done : i.gone ≡ replacements_in t = omega (arith, turns_end t (sym i.left ∙ c.in-None.ensures.steps.0), i.inside) in
    let noted : Noted t (length t.taken) (takers_in c.loop-n.owners) = subst (λ (j : ℕ). Noted t j (takers_in c.loop-n.owners)) (ap (before 1 t.replacements) done ∙ r.listed) i.noted in
    let whole = λ (k : ℕ) (h : k < length t.taken). (natural (at t.taken k) _ (r.known k h)).0 in
    (note_clear t (takers_in c.loop-n.owners) noted r.listed whole, note_all t (takers_in c.loop-n.owners) noted r.listed whole)
