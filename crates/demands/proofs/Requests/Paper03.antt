-- Paper 3: which of two is the broader. The order tells one of four, and the difference goes on by that answer.
use mathlib.Core.Path.{◌≡◌}
use mathlib.Core.Bool.{true, false}
use mathlib.Core.List.{List}
use mathlib.Core.Logic.{◌↔◌}
use Prim.Native.Nat.{ℕ}
use lib.ListN.{take}
use Rattle.graphs.specs.Graph.{Below, SameMeaning}
use Rattle.graphs.specs.Rows.{Row}
use Rattle.lattice.specs.Label.{Label}
use Rattle.std.specs.Prelude.{Ok}
use Rattle.acceptance.specs.Reply.{opened}
use Rattle.lattice.specs.Labels.{table_labels}
use Rattle.record.specs.declared.GraphFault.{GraphFault}
use Rattle.record.specs.Read.{reading, accepted, graph_of_rows}
use Rattle.replies.specs.declared.Side.TheVariants.{First, Second}
use Rattle.replies.specs.Replies.{Length, Same, Under, Above, Neither, Graph as Refusal, NotBelow}
use Rattle.calls.specs.Calls.{rewriting, ordering, differing}
use Rattle.demands.specs.Demand.{Given, AnswersNotBelow, WrittenRecord}
use Rattle.demands.proofs.Demands.{meaning-bytes, meaning-order, written-one-form, order-exact, difference-not-below}
use Rattle.demands.proofs.Demanded.Order as Order

-- "Order shall tell one of four: same, under, above, neither, seen from the first graph": each is told exactly where it is true over paths.
module _ (n : ℕ) (t a b : List ℕ) (s g : List (Row Label)) (given : Given n t a b s g) where
  pub order_same : (ordering n t a b ≡ Same) ↔
      (Below (table_labels n t) (graph_of_rows s) (graph_of_rows g) × Below (table_labels n t) (graph_of_rows g) (graph_of_rows s))
  order_same = Order.same-exact n t a b s g given

  pub order-under : (ordering n t a b ≡ Under) ↔
      (Below (table_labels n t) (graph_of_rows s) (graph_of_rows g) × (Below (table_labels n t) (graph_of_rows g) (graph_of_rows s) → ⊥))
  order-under = Order.under-exact n t a b s g given

  pub order-above : (ordering n t a b ≡ Above) ↔
      (Below (table_labels n t) (graph_of_rows g) (graph_of_rows s) × (Below (table_labels n t) (graph_of_rows s) (graph_of_rows g) → ⊥))
  order-above = Order.above-exact n t a b s g given

  pub order-neither : (ordering n t a b ≡ Neither) ↔
      ((Below (table_labels n t) (graph_of_rows s) (graph_of_rows g) → ⊥) × (Below (table_labels n t) (graph_of_rows g) (graph_of_rows s) → ⊥))
  order-neither = Order.neither-exact n t a b s g given

  -- Same is answered exactly where the records mean the same.
  pub same-meaning : (ordering n t a b ≡ Same) ↔ SameMeaning (table_labels n t) (graph_of_rows s) (graph_of_rows g)
  same-meaning = meaning-order n t a b s g given

  -- Same is answered exactly where the written records are equal bytes.
  pub same_bytes : (out : List ℕ) (l m : ℕ) → (rewriting n t a out).reply ≡ Length l → (rewriting n t b out).reply ≡ Length m →
      (ordering n t a b ≡ Same) ↔ (take l (rewriting n t a out).output ≡ take m (rewriting n t b out).output)
  same_bytes out l m p q =
      let (means, answers) = same-meaning in
      let (there, back) = meaning-bytes n t a b s g given out l m p q in
      (λ e. there (means e), λ e. answers (back e))

  -- "The difference goes on when s is same or under": 12 is given exactly where s is above or neither.
  pub difference-goes-on : (out : List ℕ) → ((differing n t a b out).reply ≡ NotBelow) ↔ AnswersNotBelow n t b a
  difference-goes-on out =
      let (there, back) = difference-not-below n t a b s g given out in
      let (answers, means) = (order-exact n t b a g s (record { opens = given.opens; first = given.second; second = given.first })).1 in
      (λ e. means (there e), λ e. back (answers e))

-- For two records in written form, same is answered exactly where their bytes are equal.
pub same-written : (n : ℕ) (t a b : List ℕ) → opened n t ≡ Ok tt → (one : WrittenRecord n a) (other : WrittenRecord n b) →
    (ordering n t a b ≡ Same) ↔ (a ≡ b)
same-written n t a b opens one other =
    let (means, answers) =
    meaning-order n t a b one.form other.form (record { opens = opens; first = one.reads; second = other.reads }) in
    let (there, back) = written-one-form n t a one b other in
    (λ e. there (means e), λ e. answers (back e))

-- Swapping the two records swaps under and above and leaves same and neither, whatever is handed in.
module _ (n : ℕ) (t a b : List ℕ) where
  pub turned_same : (ordering n t a b ≡ Same) ↔ (ordering n t b a ≡ Same)
  turned_same = (Order.answer-turned n t a b true true, Order.answer-turned n t b a true true)

  pub turned-under : (ordering n t a b ≡ Under) ↔ (ordering n t b a ≡ Above)
  turned-under = (Order.answer-turned n t a b true false, Order.answer-turned n t b a false true)

  pub turned-neither : (ordering n t a b ≡ Neither) ↔ (ordering n t b a ≡ Neither)
  turned-neither = (Order.answer-turned n t a b false false, Order.answer-turned n t b a false false)

  -- Where one of the two is accepted, swapping them swaps the side that a refusal of the other tells.
  pub turned-refusal : (s : List (Row Label)) → reading n a ≡ accepted s → (fault : GraphFault) →
      (ordering n t a b ≡ Refusal fault Second) ↔ (ordering n t b a ≡ Refusal fault First)
  turned-refusal = Order.refusal-turned n t a b
