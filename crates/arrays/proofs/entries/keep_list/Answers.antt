use Rattle.std.proofs.Common.{◌+◌, length, refl, ap, ◌∙◌, arith}
use Rattle.forms.specs.Array.{inner}
use Rattle.faults.proofs.Exits.{passed_on}
use Rattle.scanner.proofs.Steps.{lost_first, lost_after}
use Rattle.arrays.specs.Listing.{Listing}
use Rattle.arrays.proofs.Lists.{going, comma_lost, closed, unclosed, listing_none, listing_more, listing_end, entry_lost, list_lost}
use Rattle.arrays.proofs.entries.keep_list.Given.{Over}
use Rattle.arrays.proofs.entries.keep_list.Goals as goal
use Rattle.arrays.proofs.entries.keep_list.Goals.{In_ok-keep}

-- one entry more was read
again : (g : Over) (c : In_ok-keep g) →
    let e = g.E.Entry in
    Listing (e.is c.args.entry.now) e.print e.with_one (e.form c.args.entry.now) c.pass.new.self c.keep.new.scanner (c.loop-scanner.count + 1) (e.held c.args.lists.now) (e.held c.keep.new.lists)
again g c =
    let F = g.E.Entry.form c.args.entry.now in
    let el = g.met.E.Entry.element c.args.entry.now in
    let k = c.in_ok-keep.ensures.reads in
    listing_more F el c.loop-scanner.invariant.0 (going F el c.loop-scanner-test.ensures c.in_ok-separate.ensures) k (omega (arith, k.step.on, g.met.E.Entry.some k.value))

pub loop-scanner-init : goal.loop-scanner-init
loop-scanner-init g c =
    let p = c.in_ok-pass.ensures in (
      listing_none (g.E.Entry.form c.args.entry.now) (g.met.E.Entry.element c.args.entry.now) (omega (arith, p.within, ap length p.same)),
      refl,
      g.met.E.Entry.fits_on _ _ _ p.same (omega (arith, p.on)) c.requires,
    )

pub loop-scanner-preserved : goal.loop-scanner-preserved
loop-scanner-preserved g c = (again g c, c.in_ok-keep.ensures.lender ∙ c.loop-scanner.invariant.1, c.in_ok-keep.ensures.room)

pub keep-requires : goal.keep-requires
keep-requires g c =
    let on = going (g.E.Entry.form c.args.entry.now) (g.met.E.Entry.element c.args.entry.now) c.loop-scanner-test.ensures c.in_ok-separate.ensures in
    g.met.E.Entry.fits_on _ _ _ on.same (omega (arith, on.on)) c.loop-scanner.invariant.2

pub returns-in_err-pass-clause-reads : goal.returns-in_err-pass-clause-reads
returns-in_err-pass-clause-reads g c =
    passed_on _ _ c.from_residual.result c.in_err-pass.field-0.0 c.from_residual.ensures.1 (lost_first (inner (g.E.Entry.form c.args.entry.now)) c.in_err-pass.ensures)

pub returns-in_err-separate-clause-reads : goal.returns-in_err-separate-clause-reads
returns-in_err-separate-clause-reads g c =
    let F = g.E.Entry.form c.args.entry.now in
    let el = g.met.E.Entry.element c.args.entry.now in
    passed_on _ _ c.from_residual-in_err-separate.result c.in_err-separate.field-0.0 c.from_residual-in_err-separate.ensures.1
    (list_lost F el c.in_ok-pass.ensures (lost_after c.loop-scanner.invariant.0.step (comma_lost F el c.loop-scanner-test.ensures c.in_err-separate.ensures)))

pub returns-in_err-keep-clause-reads : goal.returns-in_err-keep-clause-reads
returns-in_err-keep-clause-reads g c =
    let F = g.E.Entry.form c.args.entry.now in
    let el = g.met.E.Entry.element c.args.entry.now in
    let on = going F el c.loop-scanner-test.ensures c.in_ok-separate.ensures in
    passed_on _ _ c.from_residual-in_err-keep.result c.in_err-keep.field-0.0 c.from_residual-in_err-keep.ensures.1
    (list_lost F el c.in_ok-pass.ensures (entry_lost F el c.loop-scanner.invariant.0 on c.in_err-keep.ensures.reads))

pub returns-in_err-pass-2-clause-reads : goal.returns-in_err-pass-2-clause-reads
returns-in_err-pass-2-clause-reads g c =
    let F = g.E.Entry.form c.args.entry.now in
    let el = g.met.E.Entry.element c.args.entry.now in
    passed_on _ _ c.from_residual-in_err-pass-2.result c.in_err-pass-2.field-0.0 c.from_residual-in_err-pass-2.ensures.1
    (list_lost F el c.in_ok-pass.ensures (lost_after c.loop-scanner.invariant.0.step (unclosed F el c.loop-scanner-test.ensures c.in_err-pass-2.ensures)))

pub returns-clause-reads : goal.returns-clause-reads
returns-clause-reads g c =
    let F = g.E.Entry.form c.args.entry.now in
    let el = g.met.E.Entry.element c.args.entry.now in
    listing_end F el c.in_ok-pass.ensures c.loop-scanner.invariant.0 (closed F el c.loop-scanner-test.ensures c.in_ok-pass-2.ensures)
