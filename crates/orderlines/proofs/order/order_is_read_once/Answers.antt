use Rattle.orderlines.proofs.Orders.{read_once}
use Rattle.orderlines.proofs.order.order_is_read_once.Goals as goal

pub returns : goal.returns
returns c = read_once
