use Rattle.std.proofs.Common.{◌≡◌, suc, ◌+◌, ◌-◌, ◌≤◌, refl, arith, rules}
use Rattle.std.proofs.lemmas.Result.{MatchResult-weaker}
use Rattle.faults.proofs.Exits.{passed_on}
use Rattle.arrays.proofs.Columns.{row_more, row_unopened, row_lost, separator_lost, number_lost, row_unclosed, row_end, comma_step, comma_missed}
use Rattle.arrays.proofs.rows.RowEntrySink.keep.Goals as goal

pub returns-in_err-pass-clause-reads : goal.returns-in_err-pass-clause-reads
returns-in_err-pass-clause-reads c =
    passed_on _ _ c.from_residual.result c.in_err-pass.field-0.0 c.from_residual.ensures.1 (row_unopened c.args.self.now.width c.in_err-pass.ensures)

pub returns-in_err-separate-clause-reads : goal.returns-in_err-separate-clause-reads
returns-in_err-separate-clause-reads c =
    let less : c.args.self.now.width - c.loop-i.i ≡ suc (c.args.self.now.width - (c.loop-i.i + 1)) = omega (arith, c.loop-i-test.true) in
    passed_on _ _ c.from_residual-in_err-separate.result c.in_err-separate.field-0.0 c.from_residual-in_err-separate.ensures.1
    (row_lost c.args.self.now.width c.in_ok-pass.ensures (separator_lost c.loop-i.invariant.0 less (comma_missed _ _ c.in_err-separate.ensures)))

pub returns-in_err-keep-clause-reads : goal.returns-in_err-keep-clause-reads
returns-in_err-keep-clause-reads c =
    let less : c.args.self.now.width - c.loop-i.i ≡ suc (c.args.self.now.width - (c.loop-i.i + 1)) = omega (arith, c.loop-i-test.true) in
    passed_on _ _ c.from_residual-in_err-keep.result c.in_err-keep.field-0.0 c.from_residual-in_err-keep.ensures.1
    (row_lost c.args.self.now.width c.in_ok-pass.ensures (number_lost c.loop-i.invariant.0 less (comma_step _ _ c.in_ok-separate.ensures) c.in_err-keep.ensures.reads))

pub loop-i-preserved : goal.loop-i-preserved
loop-i-preserved c =
    let less : c.args.self.now.width - c.loop-i.i ≡ suc (c.args.self.now.width - (c.loop-i.i + 1)) = omega (arith, c.loop-i-test.true) in
    (row_more c.loop-i.invariant.0 less (comma_step _ _ c.in_ok-separate.ensures) refl c.in_ok-keep.ensures.reads, search rules)

pub returns-clause-reads : goal.returns-clause-reads
returns-clause-reads c =
    let last : c.args.self.now.width - c.loop-i.i ≡ 0 = omega (arith, c.loop-i-test.false) in
    let le : c.loop-i.i ≤ c.args.self.now.width = omega (arith, c.loop-i.auto) in
    MatchResult-weaker c.pass-2.result c.pass-2.ensures
    (λ x q. row_end c.args.self.now.width c.in_ok-pass.ensures c.loop-i.invariant.0 last le q)
    (λ f m. row_unclosed c.args.self.now.width c.in_ok-pass.ensures c.loop-i.invariant.0 last m)
