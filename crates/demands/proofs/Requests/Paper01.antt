-- Paper 1: a broader program never clashes anew. Where a is below b and c is below d, b combines with d if a combines with c. The combination
-- written for a and c is below the one written for b and d, and so are the common parts.
use mathlib.Core.Path.{◌≡◌, refl}
use mathlib.Core.Bool.{Bool}
use mathlib.Core.List.{List}
use mathlib.Core.Logic.{◌⊎◌}
use Prim.Native.Nat.{ℕ}
use lib.ListN.{take}
use Rattle.graphs.specs.Graph.{Graph, TellsApart, Below}
use Rattle.graphs.specs.Rows.{Row}
use Rattle.graphs.specs.Generalize.{generalization}
use Rattle.lattice.specs.Label.{Label}
use Rattle.std.specs.Prelude.{Ok}
use Rattle.acceptance.specs.Reply.{opened}
use Rattle.lattice.specs.Labels.{table_labels, OfAnySize, LeastOfAnySize, GreatestOfAnySize, IsCombination}
use Rattle.acceptance.proofs.Acceptance.{opened-accepted}
use Rattle.lattice.proofs.AnySize.{generalization-least, least-monotone, greatest-monotone, combines-broader, combines-not-refuted}
use Rattle.record.specs.Read.{reading, accepted, graph_of_rows}
use Rattle.replies.specs.Replies.{Length, Cycle, Clash}
use Rattle.calls.specs.Calls.{generalizing, unifying}
use Rattle.demands.specs.Demand.{Given, AnswersBelow}
use Rattle.demands.proofs.Broader.{RecordBelow, answer-below, rows-below, below-answer, below-paths}
use Rattle.demands.proofs.Broader as Broader

-- The theorems on the order's answers. An answer same or under says that the table and both records are accepted, so no other premise is needed.
module _ (n : ℕ) (t a b c d : List ℕ) (first : AnswersBelow n t a b) (second : AnswersBelow n t c d) (out out' : List ℕ) where
  pub broader-combines : (((unifying n t a c out).reply ≡ Cycle) ⊎ ((unifying n t a c out).reply ≡ Clash) → ⊥) →
      ((unifying n t b d out').reply ≡ Cycle) ⊎ ((unifying n t b d out').reply ≡ Clash) → ⊥
  broader-combines = Broader.combines n t a b c d (answer-below n t a b first) (answer-below n t c d second) out out'

  pub broader-combination : (l l' : ℕ) → (unifying n t a c out).reply ≡ Length l → (unifying n t b d out').reply ≡ Length l' →
      AnswersBelow n t (take l (unifying n t a c out).output) (take l' (unifying n t b d out').output)
  broader-combination l l' p q =
      below-answer n t _ _
      (Broader.combination-below n t a b c d (answer-below n t a b first) (answer-below n t c d second) out out' l l' p q)

  pub broader-common-part : (l l' : ℕ) → (generalizing n t a c out).reply ≡ Length l → (generalizing n t b d out').reply ≡ Length l' →
      AnswersBelow n t (take l (generalizing n t a c out).output) (take l' (generalizing n t b d out').output)
  broader-common-part l l' p q =
      below-answer n t _ _
      (Broader.common-part-below n t a b c d (answer-below n t a b first) (answer-below n t c d second) out out' l l' p q)

-- The theorems over paths: g, k, h and m are the rows of a, b, c and d, and x and y are the rows of what is written.
module _ (n : ℕ) (t a b c d : List ℕ) (g k h m : List (Row Label)) (narrow : Given n t a c g h) (broad : Given n t b d k m)
    (first : Below (table_labels n t) (graph_of_rows g) (graph_of_rows k)) (second : Below (table_labels n t) (graph_of_rows h) (graph_of_rows m))
    (out out' : List ℕ) where
  a-below : RecordBelow n t a b
  a-below = rows-below n t a b g k narrow.opens narrow.first broad.first first

  c-below : RecordBelow n t c d
  c-below = rows-below n t c d h m narrow.opens narrow.second broad.second second

  pub paths-combine : (((unifying n t a c out).reply ≡ Cycle) ⊎ ((unifying n t a c out).reply ≡ Clash) → ⊥) →
      ((unifying n t b d out').reply ≡ Cycle) ⊎ ((unifying n t b d out').reply ≡ Clash) → ⊥
  paths-combine = Broader.combines n t a b c d a-below c-below out out'

  pub paths-combination : (l l' : ℕ) → (unifying n t a c out).reply ≡ Length l → (unifying n t b d out').reply ≡ Length l' →
      (x y : List (Row Label)) → reading n (take l (unifying n t a c out).output) ≡ accepted x →
      reading n (take l' (unifying n t b d out').output) ≡ accepted y → Below (table_labels n t) (graph_of_rows x) (graph_of_rows y)
  paths-combination l l' p q = below-paths n t _ _ (Broader.combination-below n t a b c d a-below c-below out out' l l' p q)

  pub paths-common-part : (l l' : ℕ) → (generalizing n t a c out).reply ≡ Length l → (generalizing n t b d out').reply ≡ Length l' →
      (x y : List (Row Label)) → reading n (take l (generalizing n t a c out).output) ≡ accepted x →
      reading n (take l' (generalizing n t b d out').output) ≡ accepted y → Below (table_labels n t) (graph_of_rows x) (graph_of_rows y)
  paths-common-part l l' p q = below-paths n t _ _ (Broader.common-part-below n t a b c d a-below c-below out out' l l' p q)

-- Graphs of any size always have a common part.
pub any-size-common-part-exists : (n : ℕ) (t : List ℕ) → opened n t ≡ Ok tt → {A B : Type 0} (g : Graph Label A) (h : Graph Label B) →
    OfAnySize n t g → OfAnySize n t h → LeastOfAnySize n t g h (generalization (table_labels n t) g h)
any-size-common-part-exists n t opens = generalization-least n t (opened-accepted n t (opened n t) refl opens)

-- The theorems for graphs of any size, on any node types: g is below k, and h is below m.
module _ (n : ℕ) (t : List ℕ) (opens : opened n t ≡ Ok tt) {A B C D : Type 0} (g : Graph Label A) (k : Graph Label B) (h : Graph Label C)
    (m : Graph Label D) (g-size : OfAnySize n t g) (k-size : OfAnySize n t k) (h-size : OfAnySize n t h) (m-size : OfAnySize n t m)
    (first : Below (table_labels n t) g k) (second : Below (table_labels n t) h m) where
  -- A combination of the narrower pair lies below every combination of the broader pair.
  pub any-size-combination : {U W : Type 0} (u : Graph Label U) (w : Graph Label W) → GreatestOfAnySize n t g h u → GreatestOfAnySize n t k m w →
      Below (table_labels n t) u w
  any-size-combination = greatest-monotone n t (opened-accepted n t (opened n t) refl opens) g k h m g-size k-size h-size m-size first second

  -- Where the narrower pair has a combination and the nodes of the broader graphs can be told apart, the broader pair has a combination too,
  -- which the classes of paths give.
  pub any-size-combines : (sameB : B → B → Bool) (sameD : D → D → Bool) → TellsApart sameB → TellsApart sameD → {U : Type 0} (u : Graph Label U) →
      GreatestOfAnySize n t g h u →
      (w : Graph Label (B ⊎ D)) × IsCombination n t k m w × GreatestOfAnySize n t k m w × Below (table_labels n t) u w
  any-size-combines = combines-broader n t (opened-accepted n t (opened n t) refl opens) g k h m g-size k-size h-size m-size first second

  -- For any node type, the non-existence of the broader pair's combination is contradictory.
  pub any-size-not-none : {U : Type 0} (u : Graph Label U) → GreatestOfAnySize n t g h u →
      ((W : Type 0) (w : Graph Label W) → GreatestOfAnySize n t k m w → ⊥) → ⊥
  any-size-not-none = combines-not-refuted n t (opened-accepted n t (opened n t) refl opens) g k h m g-size k-size h-size m-size first second

  -- The common part of the narrower pair lies below that of the broader pair.
  pub any-size-common-part : {U W : Type 0} (u : Graph Label U) (w : Graph Label W) → LeastOfAnySize n t g h u → LeastOfAnySize n t k m w →
      Below (table_labels n t) u w
  any-size-common-part = least-monotone n t (opened-accepted n t (opened n t) refl opens) g k h m g-size k-size h-size m-size first second
