-- `of_records` meets its contract: the lent words have room for the two graphs, whether both records are short or not.
use Prim.Native.Nat.{ℕ}
use native.Mathlib.Omega.{arith}
use lib.ListN.{length-replicate}
use Rattle.orders.proofs.of_records.Goals as goal

pub order_in-requires : goal.order_in-requires
order_in-requires c =
    let short = c.are_short.ensures c.if-are_short.true in
    (c.requires, omega (arith, short.0, length-replicate {A = ℕ} 768 0), omega (arith, short.1, length-replicate {A = ℕ} 768 0))
