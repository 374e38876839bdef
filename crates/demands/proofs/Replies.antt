-- Each call gives each reply exactly where it is due: for any bytes as table, list, records and output, the reply is r exactly where the call's
-- `Due` type has a case for r. The cases stand in the order of the checks, and there are no other replies.
use mathlib.Core.Path.{◌≡◌, refl}
use mathlib.Core.Bool.{Bool}
use mathlib.Core.List.{List}
use mathlib.Core.Logic.{◌↔◌, ◌⊎◌}
use Prim.Native.Nat.{ℕ}
use lib.ListN.{length}
use Rattle.graphs.specs.Graph.{Graph, TellsApart}
use Rattle.graphs.specs.Rows.{Row}
use Rattle.graphs.specs.Difference.{by_number, by_reading}
use Rattle.graphs.proofs.Difference.ByNumber.{by-number-order}
use Rattle.graphs.proofs.Difference.ByReading.{by-reading-order}
use Rattle.lattice.specs.Label.{Label}
use Rattle.lattice.specs.Labels.{GreatestOfAnySize}
use Rattle.record.specs.Read.{graph_of_rows}
use Rattle.replies.specs.Replies.{Reply}
use Rattle.replies.specs.Replies.{TooLarge}
use Rattle.replies.specs.Reply.{Result, refusing}
use Rattle.engine.specs.Rewriting.{rewritten}
use Rattle.engine.specs.Generalizing.{generalized}
use Rattle.engine.specs.Unifying.{unified_rows}
use Rattle.difference.specs.Difference.{differed_rows}
use Rattle.orders.specs.Ordering.{ordered}
use Rattle.calls.specs.Calls.{checking, rewriting, ordering, generalizing, unifying, differing, differing_by}
use Rattle.calls.specs.Appropriate.{rewriting_appropriate, generalizing_appropriate, unifying_appropriate}
use Rattle.calls.specs.Explained.{explaining, explaining_by}
use Rattle.listing.specs.Call.{stepping}
use Rattle.engine.specs.Differing.{parting}
use Rattle.demands.specs.Demand.{Given, Large}
use Rattle.demands.specs.Due.{
  RoomDue,
  CompareDue,
  CommonDue,
  CombinationOf,
  CombineDue,
  DifferDue,
  PairDue,
  CheckDue,
  RewriteDue,
  OrderDue,
  GeneralizeDue,
  UnifyDue,
  DifferenceDue,
  ExplainedDue,
  RewriteListedDue,
  GeneralizeListedDue,
  UnifyListedDue,
  DifferenceByDue,
  ExplainedByDue,
  StepDue,
}
use Rattle.demands.proofs.Demanded.DueChecks as Checks
use Rattle.demands.proofs.Demanded.Due as After
use Rattle.demands.proofs.Demanded.DueReasons as Reasons
use Rattle.demands.proofs.Demanded.DueListing as Listing
use Rattle.demands.proofs.Demanded.Combination as Combined

-- A table alone: 1 to 3, or a length of 0.
pub check-exact : (n : ℕ) (t : List ℕ) (r : Reply) → (checking n t ≡ r) ↔ CheckDue n t r
check-exact = Checks.check-exact

module _ (n : ℕ) (t : List ℕ) where
  -- Order: 1 to 3, first and second 4 to 7, one of four.
  pub order-exact : (a b : List ℕ) (r : Reply) → (ordering n t a b ≡ r) ↔ OrderDue n t a b r
  unfolding ordering
  order-exact a b =
      Checks.pair-exact (λ (x : Reply). x) (λ (x : Reply). x) (λ r. refl) n t a b (ordered n t) (CompareDue n t) (After.compare_exact n t a b)

  module _ (out : List ℕ) where
    -- Rewriting: 1 to 3, 4 to 7, 8.
    pub rewrite-exact : (bytes : List ℕ) (r : Reply) → ((rewriting n t bytes out).reply ≡ r) ↔ RewriteDue n t bytes (length out) r
    unfolding rewriting
    rewrite-exact bytes r =
        Checks.lone-exact (λ (x : Result). x.reply) (λ r. refusing r out) (λ r. refl) n t bytes (λ x. rewritten x out) (λ fault. refl)
        (λ rows. RoomDue n t (graph_of_rows rows) (length out)) (λ rows opens reads. After.rewritten-exact n t bytes rows opens reads out) r

    module _ (a b : List ℕ) (r : Reply) where
      -- Common part: 1 to 3, first and second 4 to 7, 11, 8.
      pub generalize-exact : ((generalizing n t a b out).reply ≡ r) ↔ GeneralizeDue n t a b (length out) r
      unfolding generalizing
      generalize-exact =
          Checks.pair-exact (λ (x : Result). x.reply) (λ r. refusing r out) (λ r. refl) n t a b (generalized n t out)
          (CommonDue n t (length out)) (λ g h given. After.common-exact n t a b g h given out) r

      -- Combination: 1 to 3, first and second 4 to 7, 9, 10, 11, 8.
      pub unify-exact : ((unifying n t a b out).reply ≡ r) ↔ UnifyDue n t a b (length out) r
      unfolding unifying
      unify-exact =
          Checks.pair-exact (λ (x : Result). x.reply) (λ r. refusing r out) (λ r. refl) n t a b (unified_rows n t out)
          (CombineDue n t (length out)) (λ g h given. After.combine-exact n t a b g h given out) r

      -- Difference: 1 to 3, first and second 4 to 7, 12, 13, 8.
      pub difference-exact : ((differing n t a b out).reply ≡ r) ↔ DifferenceDue n t a b (length out) r
      unfolding differing
      difference-exact =
          Checks.pair-exact (λ (x : Result). x.reply) (λ r. refusing r out) (λ r. refl) n t a b (differed_rows by_number n t out)
          (DifferDue n t by_number (length out)) (λ g s given. After.differ-exact n t a b by-number-order g s given out) r

-- With a list of types for features (Paper 9): 17 comes after the table, and 18 straight after that graph's 7.
module _ (n : ℕ) (t list out : List ℕ) where
  pub rewrite-listed-exact : (bytes : List ℕ) (r : Reply) →
      ((rewriting_appropriate n t list bytes out).reply ≡ r) ↔ RewriteListedDue n t list bytes (length out) r
  unfolding rewriting_appropriate
  rewrite-listed-exact bytes =
      Checks.lone-listed-exact n t list out bytes (λ x. rewritten x out) (λ fault. refl) (λ rows. RoomDue n t (graph_of_rows rows) (length out))
      (λ rows opens reads. After.rewritten-exact n t bytes rows opens reads out)

  module _ (a b : List ℕ) where
    pub generalize-listed-exact : (r : Reply) →
        ((generalizing_appropriate n t list a b out).reply ≡ r) ↔ GeneralizeListedDue n t list a b (length out) r
    unfolding generalizing_appropriate
    generalize-listed-exact =
        Checks.pair-listed-exact n t list out a b (generalized n t out) (CommonDue n t (length out))
        (λ g h given. After.common-exact n t a b g h given out)

    pub unify-listed-exact : (r : Reply) → ((unifying_appropriate n t list a b out).reply ≡ r) ↔ UnifyListedDue n t list a b (length out) r
    unfolding unifying_appropriate
    unify-listed-exact =
        Checks.pair-listed-exact n t list out a b (unified_rows n t out) (CombineDue n t (length out))
        (λ g h given. After.combine-exact n t a b g h given out)

-- With a reading order (Paper 10): 19 comes after the table.
module _ (n : ℕ) (t list a b out : List ℕ) where
  pub difference-by-exact : (r : Reply) → ((differing_by n t list a b out).reply ≡ r) ↔ DifferenceByDue n t list a b (length out) r
  unfolding differing_by
  difference-by-exact =
      Checks.by-list-exact (λ (x : Result). x.reply) (λ r. refusing r out) (λ r. refl) n t list (parting (by_reading list) n t a b out)
      (PairDue n t a b (DifferDue n t (by_reading list) (length out)))
      (λ opens once.
      Checks.over-table-exact (λ (x : Result). x.reply) (λ r. refusing r out) (λ r. refl) n t a b (differed_rows (by_reading list) n t out)
      (DifferDue n t (by_reading list) (length out)) (λ g s given. After.differ-exact n t a b (by-reading-order list) g s given out) opens)

-- With reasons (Paper 13): 22 comes after 8. `old` is the second output as it is lent.
module _ (n : ℕ) (t a b out old : List ℕ) where
  pub explained-exact : (r : Reply) → ((explaining n t a b out old).reply ≡ r) ↔ ExplainedDue n t a b (length out) (length old) r
  unfolding explaining differing
  explained-exact = Reasons.call-exact n t a b by-number-order out old

  -- The same with a reading order.
  pub explained-by-exact : (list : List ℕ) (r : Reply) →
      ((explaining_by n t list a b out old).reply ≡ r) ↔ ExplainedByDue n t list a b (length out) (length old) r
  unfolding explaining_by differing_by
  explained-by-exact list = Reasons.listed-call-exact n t a b (by-reading-order list) out old list

-- The listing (Paper 14): 23 and 24 come after the table and the record's own 4 to 7.
pub step-exact : (n : ℕ) (t : List ℕ) (F : ℕ) (bytes out : List ℕ) (r : Reply) →
    ((stepping n t F bytes out).reply ≡ r) ↔ StepDue n t F bytes (length out) r
step-exact = Listing.step-exact

-- 11 is answered exactly where the combination exists and is too large.
pub combination-large : (n : ℕ) (t a b : List ℕ) (g h : List (Row Label)) → Given n t a b g h → (out : List ℕ) →
    ((unifying n t a b out).reply ≡ TooLarge) ↔ ((u : Graph Label (ℕ ⊎ ℕ)) × CombinationOf n t g h u × Large u)
combination-large = After.large-exact

-- For every graph that is the greatest of any size below both, 11 is answered exactly where that graph is too large.
pub combination-large-greatest : (n : ℕ) (t a b : List ℕ) (g h : List (Row Label)) → Given n t a b g h → (out : List ℕ) → {C : Type 0}
    (same : C → C → Bool) → TellsApart same → (u : Graph Label C) → GreatestOfAnySize n t (graph_of_rows g) (graph_of_rows h) u →
    ((unifying n t a b out).reply ≡ TooLarge) ↔ Large u
combination-large-greatest n t a b g h given out same tells u best = (Combined.greatest-writes n t a b g h given out same tells u best).too_large
