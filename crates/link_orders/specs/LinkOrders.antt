-- The order of links that a call for a difference asks for: document 01's, or that of the clinic's reading order, "a list of all 64
-- features, each once" (document 02, Paper 10). The code computes with the rank that an order gives to each feature.
use Rattle.std.specs.Prelude.{◌≡◌, Bool, true, not, ⊤, ◌&&◌, List, ℕ, suc, ◌<◌, leb, eqb, length, get_or}
use Rattle.graphs.specs.Difference.{Link, by_number, place_in, by_reading}
use Rattle.lattice.specs.Table.{every}
use Rattle.link_orders.specs.declared.LinkOrder.{LinkOrder}
use Rattle.link_orders.specs.declared.LinkOrder.TheVariants as link_order

-- The list has 64 bytes, none above 63 and none twice. "A list that is anything else is 19".
unfoldable pub is_reading_order : List ℕ → Bool
is_reading_order list =
    eqb (length list) 64
    && every 64 λ i. leb (suc (get_or list i 0)) 64 && every i λ j. not (eqb (get_or list j 0) (get_or list i 0))

-- "all 64 features, each once"
pub record EachOnce (list : List ℕ) : Type 0 where
  pub long : length list ≡ 64
  pub once : (f : ℕ) → f < 64 → (i : ℕ) × (i < 64) × (get_or list i 0 ≡ f) × ((j : ℕ) → j < 64 → get_or list j 0 ≡ f → j ≡ i)

-- "by the feature's place in the list, then by parent number; 01's order remains for the call without a list"
unfoldable pub earlier_by : LinkOrder → Link ℕ → Link ℕ → Bool
earlier_by link_order.ByNumber = by_number
earlier_by (link_order.ByList list) = by_reading list

-- If the order has a list, the list is a reading order.
abbrev pub Fitting : LinkOrder → Type 0
Fitting link_order.ByNumber = ⊤
Fitting (link_order.ByList list) = is_reading_order list ≡ true

-- the place of a feature in the order's list, or 0 where the order has no list
abbrev pub rank_of : LinkOrder → ℕ → ℕ
rank_of link_order.ByNumber f = 0
rank_of (link_order.ByList list) f = place_in list f

-- The rank of each feature is its place in the list, or 0 where the order has no list. Links of a lesser rank come first, and links of one
-- rank come in the order of their places.
pub record Ranks (order : LinkOrder) (rank : List ℕ) : Type 0 where
  pub long : length rank ≡ 64
  pub each : (f : ℕ) → f < 64 → get_or rank f 0 ≡ rank_of order f
