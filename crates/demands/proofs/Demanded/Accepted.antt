-- 8 to 13 are answered only over an accepted table and accepted records: the refusals that a call makes before its operation have other numbers.
use mathlib.Core.Path.{◌≡◌, refl}
use mathlib.Core.Bool.{Bool, true, false, cond}
use mathlib.Core.List.{List, ◌++◌}
use mathlib.Core.Option.{Option, none, some}
use Prim.Native.Nat.{ℕ}
use native.Mathlib.Omega.{arith}
use lib.Dec.{leb}
use lib.ListN.{length, drop}
use Rattle.graphs.specs.Rows.{Row}
use Rattle.graphs.specs.Difference.{by_number, by_reading}
use Rattle.graphs.proofs.Walk.{some-injective}
use Rattle.lattice.specs.Label.{Label}
use Rattle.acceptance.specs.declared.TableFault.{TableFault}
use Rattle.acceptance.specs.declared.TableFault.TheVariants.{Size, Order, Bounds}
use Rattle.std.specs.Prelude.{Ok, Err}
use Rattle.acceptance.specs.Reply.{opened, TableAnswer}
use Rattle.record.specs.declared.GraphFault.{GraphFault}
use Rattle.record.specs.declared.GraphFault.TheVariants.{Malformed, OutOfRange, Cyclic, Unreached, Inappropriate}
use Rattle.record.specs.Read.{Reading, refused, accepted, reading}
use Rattle.link_orders.specs.LinkOrders.{is_reading_order}
use Rattle.replies.specs.declared.Side.{Side}
use Rattle.replies.specs.declared.Side.TheVariants.{First, Second}
use Rattle.replies.specs.Replies.{Table, Graph, ReadingOrder, NoReasonRoom}
use Rattle.replies.specs.Reply.{Result, refusing, length_of}
use Rattle.pairs.specs.Pair.{read_both}
use Rattle.engine.specs.Rewriting.{rewritten}
use Rattle.engine.specs.Generalizing.{generalized}
use Rattle.engine.specs.Unifying.{unified_rows}
use Rattle.engine.specs.Differing.{parting, reasons_of}
use Rattle.difference.specs.Difference.{differed_rows}
use Rattle.difference.specs.Explained.{Explained, explained_result, with_reasons, length_with_reasons}
use Rattle.calls.specs.Calls.{checked, rewriting, generalizing, unifying, differing, differing_by}
use Rattle.calls.specs.Explained.{explaining, explaining_by}
use Rattle.demands.specs.Demand.{RefusedAfterReading, BothAccepted}

-- The refusals before an operation are none of 8 to 13.

table-early : (fault : TableFault) → RefusedAfterReading (Table fault) → ⊥
table-early Size (k, low, high, e) = let q : 1 ≡ k = some-injective e in omega arith
table-early Order (k, low, high, e) = let q : 2 ≡ k = some-injective e in omega arith
table-early Bounds (k, low, high, e) = let q : 3 ≡ k = some-injective e in omega arith

graph-early : (fault : GraphFault) (side : Side) → RefusedAfterReading (Graph fault side) → ⊥
graph-early Malformed side (k, low, high, e) = let q : 4 ≡ k = some-injective e in omega arith
graph-early OutOfRange side (k, low, high, e) = let q : 5 ≡ k = some-injective e in omega arith
graph-early Cyclic side (k, low, high, e) = let q : 6 ≡ k = some-injective e in omega arith
graph-early Unreached side (k, low, high, e) = let q : 7 ≡ k = some-injective e in omega arith
graph-early Inappropriate side (k, low, high, e) = let q : 18 ≡ k = some-injective e in omega arith

module _ (n : ℕ) (t out : List ℕ) where
  -- A reply from 8 to 13 says that the table is accepted and comes from what follows the table.
  past-table : (next : Result) → RefusedAfterReading (checked (λ r. refusing r out) (opened n t) next).reply →
      (opened n t ≡ Ok tt) × RefusedAfterReading next.reply
  past-table next = go (opened n t) refl
    where
      go : (o : TableAnswer) → opened n t ≡ o → RefusedAfterReading (checked (λ r. refusing r out) o next).reply →
          (opened n t ≡ Ok tt) × RefusedAfterReading next.reply
      go (Err fault) h late = absurd (table-early fault late)
      go (Ok tt) h late = (h, late)

  -- A reply of rewriting from 8 to 13 says that the record is accepted.
  past_one : (a : List ℕ) → RefusedAfterReading (rewritten (reading n a) out).reply → (rows : List (Row Label)) × (reading n a ≡ accepted rows)
  past_one a = go (reading n a) refl
    where
      go : (o : Reading) → reading n a ≡ o → RefusedAfterReading (rewritten o out).reply → (rows : List (Row Label)) × (reading n a ≡ accepted rows)
      go (refused fault) h late = absurd (graph-early fault First late)
      go (accepted rows) h late = (rows, h)

  -- A reply from 8 to 13 says that both records are accepted.
  past-both : (a b : List ℕ) (next : List (Row Label) → List (Row Label) → Result) →
      RefusedAfterReading (read_both (λ r. refusing r out) (reading n a) (reading n b) next).reply → opened n t ≡ Ok tt → BothAccepted n t a b
  past-both a b next = go (reading n a) (reading n b) refl refl
    where
      go : (o p : Reading) → reading n a ≡ o → reading n b ≡ p → RefusedAfterReading (read_both (λ r. refusing r out) o p next).reply →
          opened n t ≡ Ok tt → BothAccepted n t a b
      go (refused fault) p h i late opens = absurd (graph-early fault First late)
      go (accepted s) (refused fault) h i late opens = absurd (graph-early fault Second late)
      go (accepted s) (accepted g) h i late opens = (s, g, record { opens = opens; first = h; second = i })

  past-call : (a b : List ℕ) (next : List (Row Label) → List (Row Label) → Result) →
      RefusedAfterReading
      (checked (λ r. refusing r out) (opened n t) (read_both (λ r. refusing r out) (reading n a) (reading n b) next)).reply → BothAccepted n t a b
  past-call a b next late =
      let (opens, later) = past-table (read_both (λ r. refusing r out) (reading n a) (reading n b) next) late in
      past-both a b next later opens

  pub rewriting-accepted : (a : List ℕ) → RefusedAfterReading (rewriting n t a out).reply →
      (opened n t ≡ Ok tt) × ((rows : List (Row Label)) × (reading n a ≡ accepted rows))
  unfolding rewriting
  rewriting-accepted a late = let (opens, later) = past-table (rewritten (reading n a) out) late in (opens, past_one a later)

  module _ (a b : List ℕ) where
    pub generalizing-accepted : RefusedAfterReading (generalizing n t a b out).reply → BothAccepted n t a b
    unfolding generalizing
    generalizing-accepted = past-call a b (generalized n t out)

    pub unifying-accepted : RefusedAfterReading (unifying n t a b out).reply → BothAccepted n t a b
    unfolding unifying
    unifying-accepted = past-call a b (unified_rows n t out)

    pub differing-accepted : RefusedAfterReading (differing n t a b out).reply → BothAccepted n t a b
    unfolding differing
    differing-accepted = past-call a b (differed_rows by_number n t out)

    -- A reply from 8 to 13 of a call with a list of features says that the list is accepted too.
    pub differing-by-accepted : (list : List ℕ) → RefusedAfterReading (differing_by n t list a b out).reply →
        (is_reading_order list ≡ true) × BothAccepted n t a b
    unfolding differing_by
    differing-by-accepted list late =
        let (opens, later) = past-table (cond (is_reading_order list) (parting (by_reading list) n t a b out) (refusing ReadingOrder out)) late in
        go (is_reading_order list) refl later opens
      where
        go : (l : Bool) → is_reading_order list ≡ l →
            RefusedAfterReading (cond l (parting (by_reading list) n t a b out) (refusing ReadingOrder out)).reply → opened n t ≡ Ok tt →
            (is_reading_order list ≡ true) × BothAccepted n t a b
        go true h late opens = (h, past-both a b (differed_rows (by_reading list) n t out) late opens)
        go false h (k, low, high, e) opens = let q : 19 ≡ k = some-injective e in absurd (omega arith)

-- A reply from 8 to 13 of a call with reasons is that of the plain call.
past-reasons : (plain : Result) (reasons out old : List ℕ) → RefusedAfterReading (with_reasons plain reasons out old).reply →
    RefusedAfterReading plain.reply
past-reasons plain reasons out old = go (length_of plain.reply)
  where
    beside : (b : Bool) →
        RefusedAfterReading
        (cond {A = Explained} b (explained_result plain.reply plain.output (reasons ++ drop (length reasons) old)) (explained_result NoReasonRoom out old)
        ).reply →
        RefusedAfterReading plain.reply
    beside true late = late
    beside false (k, low, high, e) = let q : 22 ≡ k = some-injective e in absurd (omega arith)

    go : (o : Option ℕ) → RefusedAfterReading (length_with_reasons o plain reasons out old).reply → RefusedAfterReading plain.reply
    go none late = late
    go (some l) late = beside (leb (length reasons) (length old)) late

module _ (n : ℕ) (t a b out old : List ℕ) where
  pub explaining-accepted : RefusedAfterReading (explaining n t a b out old).reply → BothAccepted n t a b
  unfolding explaining
  explaining-accepted late = differing-accepted n t out a b (past-reasons (differing n t a b out) (reasons_of by_number n t a b) out old late)

  pub explaining-by-accepted : (list : List ℕ) → RefusedAfterReading (explaining_by n t list a b out old).reply →
      (is_reading_order list ≡ true) × BothAccepted n t a b
  unfolding explaining_by
  explaining-by-accepted list late =
      differing-by-accepted n t out a b list (past-reasons (differing_by n t list a b out) (reasons_of (by_reading list) n t a b) out old late)
