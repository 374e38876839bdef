-- `by_list` meets its contract: the list is copied.
use Rattle.link_orders.proofs.ReadingOrder.{reading}
use Rattle.link_orders.proofs.LinkOrders.{list-order}
use Rattle.link_orders.proofs.by_list.Goals as goal

pub unwrap-requires : goal.unwrap-requires
unwrap-requires c = c.try_into.ensures.0 (reading _ c.requires).long

pub returns : goal.returns
returns c =
    let copy = (rw c.unwrap.ensures at c.try_into.ensures).1 in
    rw copy.same (list-order _ c.requires)
