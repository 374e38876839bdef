-- Paper 13: the reason beside each kept link. a is the general record, b the specific one, `old` the second output as it is lent.
use mathlib.Core.Path.{◌≡◌}
use mathlib.Core.List.{List, ◌++◌}
use mathlib.Core.Option.{some, none}
use mathlib.Core.Logic.{◌↔◌}
use Prim.Native.Nat.{ℕ, ◌≤◌, ◌<◌}
use lib.Dec.{eqb}
use lib.ListN.{length, take, drop}
use Rattle.graphs.specs.Graph.{Reached, Below}
use Rattle.graphs.specs.Rows.{Row}
use Rattle.lattice.specs.Label.{Label}
use Rattle.graphs.specs.Number.{canonical, written}
use Rattle.graphs.specs.Large.{links_in}
use Rattle.graphs.specs.Difference.{by_number}
use Rattle.graphs.specs.Reasons.{along_links, written_order}
use Rattle.graphs.proofs.Difference.ByNumber.{by-number-order}
use Rattle.lattice.specs.Labels.{table_labels}
use Rattle.record.specs.Read.{reading, accepted, graph_of_rows}
use Rattle.replies.specs.Replies.{Length, NoReasonRoom}
use Rattle.calls.specs.Calls.{differing}
use Rattle.replies.specs.Reply.{length_of}
use Rattle.difference.specs.Explained.{explained_result}
use Rattle.engine.specs.Differing.{reasons_of}
use Rattle.calls.specs.Explained.{explaining}
use Rattle.demands.specs.Explained.{reason_for, LinkReason, by_written, ReasonsTell}
use Rattle.demands.specs.Wanted.{SomeUnwanted}
use Rattle.demands.specs.Demand.{Given, RefusedAfterReading, BothAccepted, as_written, remainder}
use Rattle.demands.proofs.Demanded.Accepted as After
use Rattle.demands.proofs.Demanded.Difference.{plain-parts, all_wanted_lem}
use Rattle.demands.proofs.Demanded.Reasons.{
  differing-other,
  no-room-exact,
  call-tells,
  link-reasons,
  reasons-are,
  reasons-count,
  beside-room,
  beside-short,
  beside-refused,
}

module _ (n : ℕ) (t a b out old : List ℕ) where
  -- Where the plain call gives a length and the reasons fit, the call with reasons gives the same record and reply, with the reasons in the
  -- second output, "further bytes unchanged".
  pub explained-record : (l : ℕ) → (differing n t a b out).reply ≡ Length l → length (reasons_of by_number n t a b) ≤ length old →
      explaining n t a b out old ≡
      explained_result (Length l) (differing n t a b out).output (reasons_of by_number n t a b ++ drop (length (reasons_of by_number n t a b)) old)
  unfolding explaining
  explained-record = beside-room (differing n t a b out) (reasons_of by_number n t a b) out old

  -- "Too few bytes lent for the reasons gives 22, after 8, with both buffers unchanged."
  pub explained-short : (l : ℕ) → (differing n t a b out).reply ≡ Length l → length old < length (reasons_of by_number n t a b) →
      explaining n t a b out old ≡ explained_result NoReasonRoom out old
  unfolding explaining
  explained-short = beside-short (differing n t a b out) (reasons_of by_number n t a b) out old

  -- 22 is given exactly where the plain call gives a length and the reasons do not fit.
  pub explained-no-room : ((explaining n t a b out old).reply ≡ NoReasonRoom) ↔
      ((l : ℕ) × ((differing n t a b out).reply ≡ Length l) × (length old < length (reasons_of by_number n t a b)))
  unfolding explaining
  explained-no-room = no-room-exact (differing n t a b out) (reasons_of by_number n t a b) out old (differing-other n t a b out)

  -- Every other refusal is that of the plain call, with both outputs unchanged.
  pub explained-refused : length_of (differing n t a b out).reply ≡ none →
      explaining n t a b out old ≡ explained_result (differing n t a b out).reply out old
  unfolding explaining
  explained-refused = beside-refused (differing n t a b out) (reasons_of by_number n t a b) out old

  -- 8 to 13 are answered only over an accepted table and accepted records.
  pub explained-accepted : RefusedAfterReading (explaining n t a b out old).reply → BothAccepted n t a b
  explained-accepted = After.explaining-accepted n t a b out old

module _ (n : ℕ) (t a b : List ℕ) (g s : List (Row Label)) (given : Given n t a b g s) where
  -- "one byte for each of its links, in record order": the reasons belong to the links of the difference, node after node as its record numbers
  -- them, and each node's links by feature.
  pub reasons-in-order : reasons_of by_number n t a b ≡
      along_links (remainder by_number n t g s) (reason_for by_number n t g (as_written s)) (written_order eqb (remainder by_number n t g s))
  reasons-in-order = reasons-are n t a b g s given by_number

  -- There are as many reasons as the record has links.
  pub reasons-counted : (rows : List (Row Label)) → canonical eqb (remainder by_number n t g s) ≡ written rows → length (reasons_of by_number n t a b) ≡ links_in rows
  reasons-counted = reasons-count n t a b g s given by_number

  -- "Each byte's fact is to be shown true of the two graphs": the reason of each link of the difference is true, with s numbered as written.
  pub reasons-true : Below (table_labels n t) (graph_of_rows s) (graph_of_rows g) → (SomeUnwanted n t (graph_of_rows s) (graph_of_rows g) → ⊥) →
      (u f v : ℕ) → Reached (graph_of_rows (as_written s)) u → (remainder by_number n t g s).link u f ≡ some v →
      LinkReason by_number n t g (as_written s) u f v (reason_for by_number n t g (as_written s) (u, f) v)
  reasons-true below all = link-reasons n t a b g s given by-number-order below (all_wanted_lem n t a b g s given below all)

  -- Each byte beside a record that the call has written is true of the graphs as they were handed in: byte i belongs to link i of that record.
  pub reason-of-link : (out old : List ℕ) (l : ℕ) → (explaining n t a b out old).reply ≡ Length l → (form : List (Row Label)) →
      reading n (take l (explaining n t a b out old).output) ≡ accepted form →
      ReasonsTell (by_written by_number s) n t g s form (explaining n t a b out old).reasons
  unfolding explaining
  reason-of-link out old = call-tells n t a b g s given by-number-order (plain-parts n t a b given out) old
