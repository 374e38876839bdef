-- `ranks` meets its contract.
use mathlib.Core.Path.{refl}
use Prim.Native.Nat.{ℕ}
use lib.ListN.{get_or-replicate}
use Rattle.link_orders.proofs.ranks.Goals as goal

pub places-requires : goal.places-requires
places-requires c = rw c.in-ByList.is at c.requires

pub returns-in-ByNumber : goal.returns-in-ByNumber
returns-in-ByNumber c = rw c.in-ByNumber.is (record { long = refl; each = λ f h. get_or-replicate {A = ℕ} 64 f 0 0 h })

pub returns-in-ByList : goal.returns-in-ByList
returns-in-ByList c = rw c.in-ByList.is (record { long = c.places.ensures.0; each = c.places.ensures.1 })
