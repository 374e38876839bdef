-- What each call replies, and what it leaves in the output (document 01, "Returned by a call"; document 02, Papers 3 and 10). Each definition has
-- the checks in their order.
use Rattle.std.specs.Prelude.{Bool, cond, List, ℕ, Ok, Err}
use Rattle.graphs.specs.Difference.{by_number, by_reading}
use Rattle.acceptance.specs.Reply.{TableAnswer}
use Rattle.acceptance.specs.Reply as table
use Rattle.record.specs.Read.{reading}
use Rattle.link_orders.specs.LinkOrders.{is_reading_order}
use Rattle.difference.specs.Difference.{differed_rows}
use Rattle.replies.specs.Replies.{Reply}
use Rattle.replies.specs.Replies.{Length, Table, ReadingOrder}
use Rattle.replies.specs.Reply.{Result, refusing}
use Rattle.pairs.specs.Pair.{read_both}
use Rattle.engine.specs.Rewriting.{rewritten}
use Rattle.orders.specs.Ordering.{ordered}
use Rattle.engine.specs.Generalizing.{generalized}
use Rattle.engine.specs.Unifying.{unified_rows}

-- The table's 1 to 3 are checked; then the call goes on with `next`. `refuse` makes the call's result from a refusal.
abbrev pub checked : {X : Type 0} → (Reply → X) → TableAnswer → X → X
checked refuse (Err fault) next = refuse (Table fault)
checked refuse (Ok tt) next = next

-- The table's 1 to 3 are checked and, "after the table", the list; then the call goes on with `next`. `listed` tells whether the list is accepted,
-- and `fault` is the reply if it is not.
abbrev pub checked_list : ℕ → List ℕ → Bool → Reply → List ℕ → Result → Result
checked_list n t listed fault out next =
    checked (λ r. refusing r out) (table.opened n t) (cond listed next (refusing fault out))

-- The reply for a table alone is the refusal 1 to 3, or a length of 0. "A table is accepted when none of 1 to 3 applies to it".
unfoldable pub checking : ℕ → List ℕ → Reply
checking n t = checked (λ r. r) (table.opened n t) (Length 0)

-- "Rewriting one record in written form is a call too." The table's 1 to 3 are checked, the graph's 4 to 7, then 8.
unfoldable pub rewriting : ℕ → List ℕ → List ℕ → List ℕ → Result
rewriting n t bytes out = checked (λ r. refusing r out) (table.opened n t) (rewritten (reading n bytes) out)

-- The order of two records: the table's 1 to 3 are checked, then both graphs' 4 to 7 (document 02, Paper 3).
unfoldable pub ordering : ℕ → List ℕ → List ℕ → List ℕ → Reply
ordering n t a b = checked (λ r. r) (table.opened n t) (read_both (λ r. r) (reading n a) (reading n b) (ordered n t))

-- The common part of two records: the table's 1 to 3 are checked, both graphs' 4 to 7, then 11 and 8.
unfoldable pub generalizing : ℕ → List ℕ → List ℕ → List ℕ → List ℕ → Result
generalizing n t a b out =
    checked (λ r. refusing r out) (table.opened n t)
    (read_both (λ r. refusing r out) (reading n a) (reading n b) (generalized n t out))

-- The combination of two records: the table's 1 to 3 are checked, both graphs' 4 to 7, then 9, 10, 11 and 8.
unfoldable pub unifying : ℕ → List ℕ → List ℕ → List ℕ → List ℕ → Result
unifying n t a b out =
    checked (λ r. refusing r out) (table.opened n t)
    (read_both (λ r. refusing r out) (reading n a) (reading n b) (unified_rows n t out))

-- The difference of g, the first graph, and s, the second: the table's 1 to 3 are checked, both graphs' 4 to 7, then 12, 13 and 8. "Links are
-- ordered by parent number, then feature."
unfoldable pub differing : ℕ → List ℕ → List ℕ → List ℕ → List ℕ → Result
differing n t a b out =
    checked (λ r. refusing r out) (table.opened n t)
    (read_both (λ r. refusing r out) (reading n a) (reading n b) (differed_rows by_number n t out))

-- "A call with a list of all 64 features, each once, shall order links by the feature's place in the list, then by parent number; 01's order
-- remains for the call without a list." "Written numbering does not follow the list." "A list that is anything else is 19, after the table."
-- (document 02, Paper 10)
unfoldable pub differing_by : ℕ → List ℕ → List ℕ → List ℕ → List ℕ → List ℕ → Result
differing_by n t list a b out =
    checked_list n t (is_reading_order list) ReadingOrder out
    (read_both (λ r. refusing r out) (reading n a) (reading n b) (differed_rows (by_reading list) n t out))
