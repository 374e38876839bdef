-- The two orders of links are those of the definitions: document 01's, and that of a list.
use mathlib.Core.Path.{◌≡◌, refl}
use mathlib.Core.Bool.{true}
use mathlib.Core.List.{List}
use Prim.Native.Nat.{ℕ}
use Rattle.graphs.specs.Difference.{by_number, by_reading}
use Rattle.link_orders.specs.declared.LinkOrder.TheVariants as link_order
use Rattle.link_orders.specs.LinkOrders.{is_reading_order, earlier_by, Fitting}

pub number-order : Fitting link_order.ByNumber × (earlier_by link_order.ByNumber ≡ by_number)
unfolding earlier_by
number-order = (tt, refl)

pub list-order : (list : List ℕ) → is_reading_order list ≡ true →
    Fitting (link_order.ByList list) × (earlier_by (link_order.ByList list) ≡ by_reading list)
unfolding earlier_by
list-order list reading = (reading, refl)
