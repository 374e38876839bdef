-- The calls over types alone: the definition of each call with types in place of labels with ranges. The theorems say that a call on records
-- without ranges gives what these definitions give (document 02, Paper 7).
use Rattle.std.specs.Prelude.{◌≡◌, Bool, true, cond, List, map, ℕ, eqb, length, take}
use Rattle.std.proofs.Math.Option.{Option, get_or}
use Rattle.graphs.specs.Graph.{Graph}
use Rattle.graphs.specs.Rows.{Row, graph_of}
use Rattle.graphs.specs.Number.{Canonical, many_nodes, many_links, written, canonical}
use Rattle.graphs.specs.Difference.{by_number}
use Rattle.graphs.specs.OfRows.{same_either, lies_below, common_form, combination_of, wanted_over, difference_over}
use Rattle.lattice.specs.Label.{Label}
use Rattle.lattice.specs.Table.{every, found, wanted}
use Rattle.acceptance.specs.Reply.{opened}
use Rattle.lattice.specs.Labels.{type_labels}
use Rattle.encode.specs.Encode.{written_out}
use Rattle.record.specs.Read.{Reading, refused, accepted}
use Rattle.record.specs.Unranged.{unranged, plain_rows, reading_types}
use Rattle.replies.specs.declared.Side.TheVariants.{First}
use Rattle.replies.specs.Replies.{Reply}
use Rattle.replies.specs.Replies as reply
use Rattle.replies.specs.Reply.{Result, result_of, refusing}
use Rattle.calls.specs.Calls.{checked}
use Rattle.pairs.specs.Pair.{read_both}
use Rattle.orders.specs.Ordering.{compared}
use Rattle.engine.specs.Unifying.{combined_by}
use Rattle.difference.specs.Difference.{over, numbered}

-- the types of rows
abbrev pub types_in : List (Row Label) → List (Row ℕ)
types_in rows = map (λ r. (r.0.type, r.1)) rows

-- the graph that rows of types state
abbrev pub graph_of_types : List (Row ℕ) → Graph ℕ ℕ
graph_of_types rows = graph_of 0 rows

-- a written form of types is written without ranges
abbrev pub plain_form : Canonical ℕ → Canonical Label
plain_form many_nodes = many_nodes
plain_form many_links = many_links
plain_form (written rows) = written (plain_rows rows)

-- a written form of types as a call's result
abbrev pub types_result : Canonical ℕ → List ℕ → Result
types_result form out = result_of (written_out (plain_form form) out)

-- rewriting
abbrev pub rewritten_types : Reading → List ℕ → Result
rewritten_types (refused fault) out = refusing (reply.Graph fault First) out
rewritten_types (accepted rows) out = types_result (canonical eqb (graph_of_types (types_in rows))) out

-- The call that rewrites a record.
unfoldable pub rewriting_types : ℕ → List ℕ → List ℕ → List ℕ → Result
rewriting_types n t bytes out = checked (λ r. refusing r out) (opened n t) (rewritten_types (reading_types n bytes) out)

-- what a call does with the types of two graphs
abbrev on_types : {X : Type 0} → (List (Row ℕ) → List (Row ℕ) → X) → List (Row Label) → List (Row Label) → X
on_types next g h = next (types_in g) (types_in h)

-- the order
abbrev pub types_below : ℕ → List ℕ → List (Row ℕ) → List (Row ℕ) → Bool
types_below n t s g = lies_below (type_labels n t) 0 s g

-- The order's answer for two graphs.
abbrev pub ordered_types : ℕ → List ℕ → List (Row ℕ) → List (Row ℕ) → Reply
ordered_types n t s g = compared (types_below n t s g) (types_below n t g s)

-- The call for the order.
unfoldable pub ordering_types : ℕ → List ℕ → List ℕ → List ℕ → Reply
ordering_types n t a b =
    checked (λ r. r) (opened n t) (read_both (λ r. r) (reading_types n a) (reading_types n b) (on_types (ordered_types n t)))

-- A call checks the table's 1 to 3 and both graphs' 4 to 7, then goes on with the types of the graphs.
abbrev call_types : ℕ → List ℕ → List ℕ → List ℕ → List ℕ → (List (Row ℕ) → List (Row ℕ) → Result) → Result
call_types n t a b out next =
    checked (λ r. refusing r out) (opened n t)
    (read_both (λ r. refusing r out) (reading_types n a) (reading_types n b) (on_types next))

-- the common part
abbrev pub generalized_types : ℕ → List ℕ → List ℕ → List (Row ℕ) → List (Row ℕ) → Result
generalized_types n t out g h = types_result (common_form (type_labels n t).join 0 g h) out

-- The call for the common part.
unfoldable pub generalizing_types : ℕ → List ℕ → List ℕ → List ℕ → List ℕ → Result
generalizing_types n t a b out = call_types n t a b out (generalized_types n t out)

-- the combination
abbrev pub unified_types : ℕ → List ℕ → List ℕ → List (Row ℕ) → List (Row ℕ) → Result
unified_types n t out g h =
    combined_by (λ u old. types_result (canonical same_either u) old)
    (combination_of (type_labels n t).meet (type_labels n t).top (type_labels n t).contradiction 0 g h)
    out

-- The call for the combination.
unfoldable pub unifying_types : ℕ → List ℕ → List ℕ → List ℕ → List ℕ → Result
unifying_types n t a b out = call_types n t a b out (unified_types n t out)

-- The wanted type of the node v of s. Which node of s lies under a node of g does not depend on labels, so `over` is taken of rows without
-- ranges.
abbrev pub wanted_type_at : ℕ → List ℕ → List (Row ℕ) → List (Row ℕ) → ℕ → Option ℕ
wanted_type_at n t s g v = wanted_over (type_labels n t) 0 s g (over (plain_rows s) (plain_rows g)) (wanted n t) v

-- The difference of g and s over types.
abbrev pub difference_types : ℕ → List ℕ → List (Row ℕ) → List (Row ℕ) → Graph ℕ ℕ
difference_types n t g s =
    difference_over (type_labels n t) 0 s g (over (plain_rows s) (plain_rows g)) by_number λ v. get_or (wanted_type_at n t s g v) 0

-- 12 is given where s is not below g, else 13 where some node of s has no wanted type; else the difference is written.
abbrev pub differed_types : ℕ → List ℕ → List ℕ → List (Row ℕ) → List (Row ℕ) → Result
differed_types n t out g s =
    cond (types_below n t s g)
    (cond (every (length s) λ v. found (wanted_type_at n t s g v)) (types_result (canonical eqb (difference_types n t g s)) out)
    (refusing reply.NoWantedType out))
    (refusing reply.NotBelow out)

-- The call for the difference, with s numbered as written.
unfoldable pub differing_types : ℕ → List ℕ → List ℕ → List ℕ → List ℕ → Result
differing_types n t a b out =
    call_types n t a b out λ g s. differed_types n t out g (numbered (canonical eqb (graph_of_types s)))

-- the record that stands in the output beside a length has no type byte with bit 7
abbrev pub WritesUnranged : Result → Type 0
WritesUnranged r = (l : ℕ) → r.reply ≡ reply.Length l → unranged (take l r.output) ≡ true
