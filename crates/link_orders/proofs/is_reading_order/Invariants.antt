-- `is_reading_order` meets its contract. The loop's invariant: `seen` has true for the features before place i, and no feature came twice.
use Rattle.link_orders.proofs.ReadingOrder.{Scanned}
use Rattle.link_orders.proofs.is_reading_order.Given as goal

abbrev pub invariant-loop-feature : goal.invariant-loop-feature
invariant-loop-feature l = Scanned l.list l.feature-index l.seen
