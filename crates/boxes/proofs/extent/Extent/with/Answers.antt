use Rattle.std.proofs.Common.{rules}
use Rattle.boxes.proofs.Surrounding.{reached}
use Rattle.boxes.proofs.extent.Extent.with.Goals as goal

pub returns : goal.returns
returns c = reached c.args.self c.args.p (record { x = c.with.result; y = c.with-2.result; z = c.with-3.result }) (search rules)
