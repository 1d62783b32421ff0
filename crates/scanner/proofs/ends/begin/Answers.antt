use Rattle.std.proofs.Common.{[], arith}
use Rattle.scanner.proofs.ends.begin.Goals as goal

pub returns : goal.returns
returns c =
    let k = c.skip_blanks.ensures in
    record { short = c.if-bytes-gt-LONGEST.false; same = k.same; within = k.within (omega arith); took = λ L K clear h. k.took L K [] clear h; far = k.far }
