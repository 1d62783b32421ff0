use Rattle.std.proofs.Common.{rules}
use Rattle.arrays.specs.Sink.{filling}
use Rattle.orderlines.proofs.Orders.{second_pass}
use Rattle.orderlines.proofs.order.read_order.Goals as goal

pub returns : goal.returns
returns c =
    second_pass c.args.values.now _ (filling c.pass_order.new.sink) c.pass_order.result c.in_ok-count.ensures c.if-off_limits.ensures
    (rw c.over.ensures.unused at c.pass_order.ensures.reads) (search rules)
