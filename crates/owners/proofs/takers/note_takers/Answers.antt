use Rattle.std.proofs.Common.{◌≡◌, ℕ, ◌+◌, ◌<◌, List, length, get_or, set, pos, nat_abs, Some, None, Option, sym, ap, ◌∙◌, subst, arith, rules}
use Rattle.std.proofs.lemmas.List.{map-set, set-get_or, get_or-map, length-map}
use Rattle.std.proofs.lemmas.Int.{to_z-of_z}
use mir.Val.{SFits}
use mir.Syntax.{w32}
use Rattle.rules.specs.Raw.{at, lists_of}
use Rattle.kinds.specs.declared.numbers.ReplacementId.{ReplacementId}
use Rattle.tables.specs.Tables.{Tables}
use Rattle.owners.specs.declared.owners.Owners.{Owners}
use Rattle.owners.specs.Claims.{InList, Noted}
use Rattle.owners.specs.Owners.{makers_in, takers_in}
use Rattle.owners.proofs.Claiming.{natural, own_place, own_full, note_more, note_broken}
use Rattle.owners.proofs.takers.note_takers.Goals as goal
use Rattle.owners.proofs.takers.note_takers.Goals.{After-unsigned_abs}

-- the taken number, its place and its cell
module _ (c : After-unsigned_abs) where
  abbrev t : Tables
  t = lists_of c.args.ranged.now.tables

  abbrev j : ℕ
  j = c.args.part.list + c.loop-z.z-index

  place : (get_or c.taken-z-items.result.now c.loop-z.z-index (pos 0) ≡ at t.taken j) × (j < length t.taken) × InList t c.args.n.0 j
  place = own_place t c.args.n.0 c.args.part c.taken-z-items.result.now c.loop-z.z-index c.requires.is c.requires.ranges c.taken-z-items.ensures c.loop-z-test.true

  read : c.unsigned_abs.result ≡ nat_abs (at t.taken j)
  read =
      let fits : SFits w32 (get_or c.taken-z-items.result.now c.loop-z.z-index (pos 0)) = search rules in
      c.unsigned_abs.ensures.value ∙ ap nat_abs (to_z-of_z w32 _ fits ∙ place.0)

  cell : (at t.taken j ≡ pos c.unsigned_abs.result) × (c.unsigned_abs.result < length c.loop-z.owners)
  cell =
      let z = natural (at t.taken j) _ (c.args.ranged.now.known j place.1) in
      (z.0 ∙ ap pos (sym read), omega (arith, z.1, read, c.requires.sized, c.loop-z.auto.owners))

  taker : (o : Option ReplacementId) → (get_or c.loop-z.owners c.unsigned_abs.result (record { maker = None; taker = None })).taker ≡ o → get_or (takers_in c.loop-z.owners) c.unsigned_abs.result None ≡ o
  taker o e = get_or-map (λ o. o.taker) c.loop-z.owners c.unsigned_abs.result (record { maker = None; taker = None }) None cell.1 ∙ e

pub loop-z-preserved : goal.loop-z-preserved
loop-z-preserved c =
    let s = (goal.at.loop-z-preserved c).After-unsigned_abs in
    let x : ℕ = c.unsigned_abs.result in
    let old : List Owners = c.loop-z.owners in
    let o : Owners = get_or old x (record { maker = None; taker = None }) in
    let new : Owners = record { maker = o.maker; taker = Some c.args.n } in
    let inside : x < length (takers_in old) = omega (arith, (cell s).1, length-map old (λ o. o.taker)) in
    let free = taker s None (c.in-None.is) in
    let noted : Noted (t s) (j s + 1) (set (takers_in old) x (Some c.args.n)) = note_more (t s) (j s) c.args.n x (takers_in old) c.loop-z.invariant.0 (place s).2 inside (cell s).0 free in
    let same : set (makers_in old) x o.maker ≡ makers_in old = ap (set (makers_in old) x) (sym (get_or-map (λ o. o.maker) old x (record { maker = None; taker = None }) None (cell s).1)) ∙ set-get_or (makers_in old) x None in (
      subst (λ (ts : List (Option ReplacementId)). Noted (t s) (c.args.part.list + (c.loop-z.z-index + 1)) ts) (sym (map-set (λ o. o.taker) old x new)) (subst (λ (k : ℕ). Noted (t s) k (set (takers_in old) x (Some c.args.n))) (omega arith) noted),
      map-set (λ o. o.maker) old x new ∙ same ∙ c.loop-z.invariant.1,
    )

pub returns-in-Some-clause-takers : goal.returns-in-Some-clause-takers
returns-in-Some-clause-takers c =
    let s = (goal.at.returns-in-Some-clause-takers c).After-unsigned_abs in
    (c.at.ensures.refusal, rw c.at.ensures.place (note_broken (t s) (j s) c.args.n c.unsigned_abs.result (takers_in c.loop-z.owners) c.in-Some.field-0 c.loop-z.invariant.0 (place s).2 (cell s).0 (taker s (Some c.in-Some.field-0) c.in-Some.is)))

pub returns-clause-takers : goal.returns-clause-takers
returns-clause-takers c =
    let t = lists_of c.args.ranged.now.tables in
    let all = own_full t c.args.ranged.now.listed c.args.n.0 c.args.part c.taken-z-items.result.now c.requires.is c.requires.ranges c.taken-z-items.ensures in
    let end : c.loop-z.z-index ≡ c.args.part.takes = omega (arith, all, c.loop-z-test.false, c.loop-z.auto.z-index-end) in
    subst (λ (k : ℕ). Noted t (c.args.part.list + k) (takers_in c.loop-z.owners)) end c.loop-z.invariant.0
