use Rattle.orderlines.proofs.Orders.{checked_once}
use Rattle.orderlines.proofs.order.order_is_checked_once.Goals as goal

pub returns : goal.returns
returns c = checked_once
