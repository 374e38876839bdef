-- The promise of the order, in both directions, gives the reply. A node map shows that the first graph is below the second.
use mathlib.Core.Path.{◌≡◌, sym, ap₂}
use mathlib.Core.List.{List}
use Prim.Native.Nat.{ℕ}
use Rattle.std.specs.Prelude.{Option, None, Some}
use Rattle.graphs.specs.Rows.{Row}
use Rattle.graphs.proofs.Search.{not-true-false}
use Rattle.graphs.proofs.Below.{map_below}
use Rattle.lattice.specs.Label.{Label}
use Rattle.layout.specs.Layout.{rows_of}
use Rattle.record.specs.Reads.{Loaded}
use Rattle.record.proofs.Accepted.{Rules}
use Rattle.record.proofs.Loaded.{loaded-rules}
use Rattle.record.proofs.Ordered.{order-test}
use Rattle.subsume.specs.Promise.{Orders, rows_below, is_below}
use Rattle.orders.specs.Ordering.{compared, ordered}

module _ (n : ℕ) (t : List ℕ) (s g : List (Row Label)) (rules : Rules n g) where
  -- The order's answer tells whether s is below g.
  order-found : (answer : Option (List ℕ)) → Orders n t s g answer → is_below answer ≡ rows_below n t s g
  order-found (Some map) below = sym ((order-test n t s g rules).1 (map_below below))
  order-found None never = sym (not-true-false (rows_below n t s g) (λ q. never ((order-test n t s g rules).0 q)))

-- The order's answers in both directions give one of the four replies.
pub compared-ordered : {n : ℕ} (t : List ℕ) {s g : List ℕ} → Loaded n s → Loaded n g → (lower upper : Option (List ℕ)) →
    Orders n t (rows_of s) (rows_of g) lower → Orders n t (rows_of g) (rows_of s) upper →
    compared (is_below lower) (is_below upper) ≡ ordered n t (rows_of s) (rows_of g)
unfolding ordered
compared-ordered {n} t {s} {g} specific general lower upper one other =
    ap₂ compared
    (order-found n t (rows_of s) (rows_of g) (loaded-rules general) lower one)
    (order-found n t (rows_of g) (rows_of s) (loaded-rules specific) upper other)
