-- `by_number` meets its contract: an order without a list is document 01's.
use Rattle.link_orders.proofs.LinkOrders.{number-order}
use Rattle.link_orders.proofs.by_number.Goals as goal

pub returns : goal.returns
returns c = number-order
