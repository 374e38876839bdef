-- Paper 10: ties by the clinic's reading order. `list` is the list of features; a is the general record, b the specific one.
use mathlib.Core.Path.{◌≡◌, refl, sym, ap}
use mathlib.Core.Bool.{true, false}
use mathlib.Core.List.{List, ◌++◌}
use mathlib.Core.Option.{some, none}
use mathlib.Core.Logic.{◌↔◌, ◌⊎◌}
use Prim.Native.Nat.{ℕ, ◌≤◌, ◌<◌}
use native.Mathlib.Omega.{arith}
use lib.Dec.{eqb}
use lib.ListN.{length, get_or, take, drop}
use Rattle.graphs.specs.Graph.{Reached, Below}
use Rattle.graphs.specs.Rows.{Row}
use Rattle.lattice.specs.Label.{Label}
use Rattle.graphs.specs.Number.{canonical, written}
use Rattle.graphs.specs.Large.{links_in}
use Rattle.graphs.specs.Difference.{Link, by_number, place_in, by_reading}
use Rattle.graphs.specs.Reasons.{along_links, written_order}
use Rattle.graphs.proofs.Difference.ByReading.{by-reading, by-reading-order}
use Rattle.acceptance.specs.declared.TableFault.{TableFault}
use Rattle.std.specs.Prelude.{Ok, Err}
use Rattle.acceptance.specs.Reply.{opened}
use Rattle.lattice.specs.Labels.{table_labels}
use Rattle.record.specs.declared.GraphFault.{GraphFault}
use Rattle.record.specs.Read.{reading, refused, accepted, graph_of_rows}
use Rattle.link_orders.specs.LinkOrders.{is_reading_order, EachOnce}
use Rattle.link_orders.proofs.ReadingOrder as Reading
use Rattle.replies.specs.declared.Side.TheVariants.{First, Second}
use Rattle.replies.specs.Replies.{Reply}
use Rattle.replies.specs.Replies.{Length, Table, Graph as Refusal, TooLarge, NotBelow, NoWantedType, ReadingOrder, NoReasonRoom}
use Rattle.replies.specs.Reply.{refusal, refusing, length_of}
use Rattle.calls.specs.Calls.{checked, differing, differing_by}
use Rattle.difference.specs.Explained.{explained_result}
use Rattle.engine.specs.Differing.{reasons_of, parting}
use Rattle.calls.specs.Explained.{explaining_by}
use Rattle.demands.specs.Explained.{reason_for, LinkReason, by_written, ReasonsTell}
use Rattle.demands.specs.Wanted.{SomeUnwanted}
use Rattle.demands.specs.Demand.{Given, RefusedAfterReading, BothAccepted, record_of, writing, Leaves, as_written, remainder, Restores, Difference}
use Rattle.calls.proofs.Listed.{table-before-list, list-exact, differing-checked}
use Rattle.demands.proofs.Demanded.Accepted as After
use Rattle.demands.proofs.Demanded.Output as Output
use Rattle.demands.proofs.Demanded.Difference as Differed
use Rattle.demands.proofs.Demanded.Reasons.{
  differing-by-other,
  parting-low,
  no-room-exact,
  call-tells,
  link-reasons,
  reasons-are,
  reasons-count,
  beside-room,
  beside-short,
  beside-refused,
}

-- "a list of all 64 features, each once": the test of a list passes exactly these.
pub reading-order-each-once : (list : List ℕ) → (is_reading_order list ≡ true) ↔ EachOnce list
reading-order-each-once = Reading.reading-order

-- "order links by the feature's place in the list, then by parent number".
pub links-by-list : (list : List ℕ) (l m : Link ℕ) →
    (by_reading list l m ≡ true) ↔ ((place_in list l.1 < place_in list m.1) ⊎ ((l.1 ≡ m.1) × (l.0 < m.0)))
links-by-list = by-reading

-- The feature at place i of an accepted list has place i.
pub place-in-list : (list : List ℕ) → is_reading_order list ≡ true → (i : ℕ) → i < 64 → place_in list (get_or list i 0) ≡ i
place-in-list list listed i h =
    let order = Reading.reading list listed in
    Reading.place-in list i (get_or list i 0) (omega (arith, order.long)) refl (λ j l e. order.apart j i l h e)

-- "01's order remains for the call without a list": after the table is checked, the difference orders links by parent number, then feature.
pub difference-without-list : (n : ℕ) (t a b out : List ℕ) →
    differing n t a b out ≡ checked (λ r. refusing r out) (opened n t) (parting by_number n t a b out)
unfolding differing
difference-without-list n t a b out = refl

-- "Whichever list is given, the difference must restore and be most general": demand 3 holds for every accepted list.
module _ (n : ℕ) (t list a b : List ℕ) (g s : List (Row Label)) (given : Given n t a b g s) (listed : is_reading_order list ≡ true) where
  -- Where s is below g and no node of s is without a wanted type, the difference restores s with g and nothing more general of any size does.
  pub difference-by-restores : Below (table_labels n t) (graph_of_rows s) (graph_of_rows g) →
      (SomeUnwanted n t (graph_of_rows s) (graph_of_rows g) → ⊥) → Restores n t (remainder (by_reading list) n t g s) (graph_of_rows g) (graph_of_rows s)
  difference-by-restores below all =
      Differed.remainder-restores n t a b g s given (by-reading-order list) below (Differed.all_wanted_lem n t a b g s given below all)

  module _ (out : List ℕ) where
    parts : Differed.Parts (by_reading list) n t out g s (differing_by n t list a b out)
    parts = Differed.listed-parts n t list a b given listed out

    -- 12 is given exactly where s is not below g.
    pub difference-by-not-below : ((differing_by n t list a b out).reply ≡ NotBelow) ↔ (Below (table_labels n t) (graph_of_rows s) (graph_of_rows g) → ⊥)
    difference-by-not-below = Differed.not-below-exact n t a b g s given (by-reading-order list) parts

    -- 13 is given exactly where s is below g and some node of s has no wanted type.
    pub difference-by-not-wanted : ((differing_by n t list a b out).reply ≡ NoWantedType) ↔
        (Below (table_labels n t) (graph_of_rows s) (graph_of_rows g) × SomeUnwanted n t (graph_of_rows s) (graph_of_rows g))
    difference-by-not-wanted = Differed.unwanted-reply-exact n t a b g s given (by-reading-order list) parts

    -- Where s is below g and no node of s is without a wanted type, the call writes the difference.
    pub difference-by-written : Below (table_labels n t) (graph_of_rows s) (graph_of_rows g) →
        (SomeUnwanted n t (graph_of_rows s) (graph_of_rows g) → ⊥) →
        differing_by n t list a b out ≡ writing (record_of eqb (remainder (by_reading list) n t g s)) out
    difference-by-written below all =
        Differed.remainder-written n t a b g s given (by-reading-order list) parts below (Differed.all_wanted_lem n t a b g s given below all)

    -- What is written, combined with a, restores b byte for byte; nothing more general does; and the order agrees.
    pub difference-by-restored : (l : ℕ) → (differing_by n t list a b out).reply ≡ Length l →
        Difference n t a b g s (take l (differing_by n t list a b out).output)
    difference-by-restored = Differed.written-difference n t a b g s given (by-reading-order list) parts

module _ (n : ℕ) (t list a b out : List ℕ) where
  -- "A list that is anything else is 19, after the table": 19 is given exactly where the table is accepted and the list is not.
  pub difference-by-list : ((differing_by n t list a b out).reply ≡ ReadingOrder) ↔ ((opened n t ≡ Ok tt) × (is_reading_order list ≡ false))
  difference-by-list =
      list-exact (differing-checked n t list a b out) (λ fault e. let z : ◌≡◌ {A = ℕ} 0 1 = cc in omega arith)
      (λ e. parting-low (by_reading list) n t out {k = 19} (omega arith) a b (ap (λ (r : Reply). refusal r) e))

  -- The table's refusals come before the list's, whatever the list.
  pub difference-by-table : (fault : TableFault) → opened n t ≡ Err fault → differing_by n t list a b out ≡ refusing (Table fault) out
  difference-by-table fault e = sym (table-before-list (differing-checked n t list a b out) fault e)

  -- The graphs' refusals come after the list's, and the first graph's come before the second's.
  module _ (opens : opened n t ≡ Ok tt) (listed : is_reading_order list ≡ true) where
    pub difference-by-first : (fault : GraphFault) → reading n a ≡ refused fault → differing_by n t list a b out ≡ refusing (Refusal fault First) out
    unfolding differing_by
    difference-by-first fault first = rw (opens, listed, first)

    pub difference-by-second : (g : List (Row Label)) (fault : GraphFault) → reading n a ≡ accepted g → reading n b ≡ refused fault →
        differing_by n t list a b out ≡ refusing (Refusal fault Second) out
    unfolding differing_by
    difference-by-second g fault first second = rw (opens, listed, first, second)

  -- Whatever is handed in, a refusal leaves the output as it was. Beside a length, the first bytes are a record in written form: "Written
  -- numbering does not follow the list". 11 is no reply.
  pub difference-by-leaves : Leaves n out (differing_by n t list a b out)
  difference-by-leaves = Output.differing-by-leaves n t out a b list

  pub difference-by-never-large : (differing_by n t list a b out).reply ≡ TooLarge → ⊥
  difference-by-never-large = Output.differing-by-small n t out a b list

  -- 8 to 13 are answered only over an accepted table, list and records.
  pub difference-by-accepted : RefusedAfterReading (differing_by n t list a b out).reply → (is_reading_order list ≡ true) × BothAccepted n t a b
  difference-by-accepted = After.differing-by-accepted n t out a b list

  -- Where the call by the list gives a length and the reasons fit, the explained call gives the same record and reply, with the reasons beside
  -- them.
  module _ (old : List ℕ) where
    pub explained-by-record : (l : ℕ) → (differing_by n t list a b out).reply ≡ Length l →
        length (reasons_of (by_reading list) n t a b) ≤ length old →
        explaining_by n t list a b out old ≡
        explained_result (Length l) (differing_by n t list a b out).output
        (reasons_of (by_reading list) n t a b ++ drop (length (reasons_of (by_reading list) n t a b)) old)
    unfolding explaining_by
    explained-by-record = beside-room (differing_by n t list a b out) (reasons_of (by_reading list) n t a b) out old

    -- Where the call by the list gives a length, 22 is given exactly where the reasons do not fit, with both outputs unchanged.
    pub explained-by-short : (l : ℕ) → (differing_by n t list a b out).reply ≡ Length l →
        length old < length (reasons_of (by_reading list) n t a b) → explaining_by n t list a b out old ≡ explained_result NoReasonRoom out old
    unfolding explaining_by
    explained-by-short = beside-short (differing_by n t list a b out) (reasons_of (by_reading list) n t a b) out old

    pub explained-by-no-room : ((explaining_by n t list a b out old).reply ≡ NoReasonRoom) ↔
        ((l : ℕ) × ((differing_by n t list a b out).reply ≡ Length l) × (length old < length (reasons_of (by_reading list) n t a b)))
    unfolding explaining_by
    explained-by-no-room =
        no-room-exact (differing_by n t list a b out) (reasons_of (by_reading list) n t a b) out old (differing-by-other n t list a b out)

    -- Every other refusal of the explained call, also 19, is that of the call by the list, with both outputs unchanged.
    pub explained-by-refused : length_of (differing_by n t list a b out).reply ≡ none →
        explaining_by n t list a b out old ≡ explained_result (differing_by n t list a b out).reply out old
    unfolding explaining_by
    explained-by-refused = beside-refused (differing_by n t list a b out) (reasons_of (by_reading list) n t a b) out old

    pub explained-by-accepted : RefusedAfterReading (explaining_by n t list a b out old).reply → (is_reading_order list ≡ true) × BothAccepted n t a b
    explained-by-accepted = After.explaining-by-accepted n t a b out old list

-- The reasons beside a difference by the list belong to its links in record order, are as many as its record has links, and are true of the two
-- graphs.
module _ (n : ℕ) (t list a b : List ℕ) (g s : List (Row Label)) (given : Given n t a b g s) where
  pub reasons-by-in-order : reasons_of (by_reading list) n t a b ≡
      along_links (remainder (by_reading list) n t g s) (reason_for (by_reading list) n t g (as_written s))
      (written_order eqb (remainder (by_reading list) n t g s))
  reasons-by-in-order = reasons-are n t a b g s given (by_reading list)

  pub reasons-by-counted : (rows : List (Row Label)) → canonical eqb (remainder (by_reading list) n t g s) ≡ written rows →
      length (reasons_of (by_reading list) n t a b) ≡ links_in rows
  reasons-by-counted = reasons-count n t a b g s given (by_reading list)

  pub reasons-by-true : Below (table_labels n t) (graph_of_rows s) (graph_of_rows g) → (SomeUnwanted n t (graph_of_rows s) (graph_of_rows g) → ⊥) →
      (u f v : ℕ) → Reached (graph_of_rows (as_written s)) u → (remainder (by_reading list) n t g s).link u f ≡ some v →
      LinkReason (by_reading list) n t g (as_written s) u f v (reason_for (by_reading list) n t g (as_written s) (u, f) v)
  reasons-by-true below all =
      link-reasons n t a b g s given (by-reading-order list) below (Differed.all_wanted_lem n t a b g s given below all)

  pub reason-of-link-by : is_reading_order list ≡ true → (out old : List ℕ) (l : ℕ) → (explaining_by n t list a b out old).reply ≡ Length l →
      (form : List (Row Label)) → reading n (take l (explaining_by n t list a b out old).output) ≡ accepted form →
      ReasonsTell (by_written (by_reading list) s) n t g s form (explaining_by n t list a b out old).reasons
  unfolding explaining_by
  reason-of-link-by listed out old =
      call-tells n t a b g s given (by-reading-order list) (Differed.listed-parts n t list a b given listed out) old
