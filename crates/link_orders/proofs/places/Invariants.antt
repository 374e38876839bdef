-- `places` meets its contract. The loop's invariant: the place is stored for each feature that stands before place i.
use Rattle.link_orders.proofs.ReadingOrder.{Placed}
use Rattle.link_orders.proofs.places.Given as goal

abbrev pub invariant-loop-i : goal.invariant-loop-i
invariant-loop-i l = Placed l.list l.i l.at
