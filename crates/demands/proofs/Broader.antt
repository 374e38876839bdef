-- Combinations and common parts of broader records, as the calls reply them (document 02, Paper 1). Where a lies below b and c below d, whatever
-- lies below a and c lies below b and d, so the greatest and the least graphs keep the order.
use mathlib.Core.Path.{◌≡◌}
use mathlib.Core.List.{List}
use mathlib.Core.Logic.{◌⊎◌}
use Prim.Native.Nat.{ℕ}
use lib.ListN.{take}
use Rattle.graphs.specs.Graph.{Below}
use Rattle.graphs.specs.Rows.{Row}
use Rattle.lattice.specs.Label.{Label}
use Rattle.std.specs.Prelude.{Ok}
use Rattle.acceptance.specs.Reply.{opened}
use Rattle.lattice.specs.Labels.{table_labels, OfAnySize}
use Rattle.lattice.proofs.AnySize.{below-broader, greatest-monotone, least-monotone}
use Rattle.record.specs.Read.{reading, accepted, graph_of_rows}
use Rattle.record.proofs.Theorems.{accepted-of-any-size}
use Rattle.replies.specs.Replies.{Length, Cycle, Clash}
use Rattle.calls.specs.Calls.{generalizing, unifying}
use Rattle.demands.specs.Demand.{Given, AnswersBelow}
use Rattle.demands.proofs.Demanded.Order.{order-exact, below-given}
use Rattle.demands.proofs.Demanded.CommonPart.{accepts, common-part}
use Rattle.demands.proofs.Demanded.Combination.{none-exact, exists, written-combination}

-- the records x and y are accepted, and x is below y
pub record RecordBelow (n : ℕ) (t x y : List ℕ) : Type 0 where
  pub lower : List (Row Label)
  pub upper : List (Row Label)
  pub given : Given n t x y lower upper
  pub below : Below (table_labels n t) (graph_of_rows lower) (graph_of_rows upper)

module _ (n : ℕ) (t x y : List ℕ) where
  pub answer-below : AnswersBelow n t x y → RecordBelow n t x y
  answer-below q =
      let (s, g, given) = below-given n t x y q in
      record { lower = s; upper = g; given = given; below = (order-exact n t x y s g given).0.0 q }

  pub rows-below : (s g : List (Row Label)) → opened n t ≡ Ok tt → reading n x ≡ accepted s → reading n y ≡ accepted g →
      Below (table_labels n t) (graph_of_rows s) (graph_of_rows g) → RecordBelow n t x y
  rows-below s g opens i j below =
      record { lower = s; upper = g; given = record { opens = opens; first = i; second = j }; below = below }

  module _ (r : RecordBelow n t x y) where
    pub below-answer : AnswersBelow n t x y
    below-answer = (order-exact n t x y r.lower r.upper r.given).0.1 r.below

    -- x is below y, whichever rows they are read as.
    pub below-paths : (s g : List (Row Label)) → reading n x ≡ accepted s → reading n y ≡ accepted g →
        Below (table_labels n t) (graph_of_rows s) (graph_of_rows g)
    below-paths s g i j =
        (order-exact n t x y s g (record { opens = r.given.opens; first = i; second = j })).0.0 below-answer

module _ (n : ℕ) (t a b c d : List ℕ) (first : RecordBelow n t a b) (second : RecordBelow n t c d) where
  narrow : Given n t a c first.lower second.lower
  narrow = record { opens = first.given.opens; first = first.given.first; second = second.given.first }

  broad : Given n t b d first.upper second.upper
  broad = record { opens = first.given.opens; first = first.given.second; second = second.given.second }

  a-size : OfAnySize n t (graph_of_rows first.lower)
  a-size = accepted-of-any-size n a first.lower first.given.first t

  b-size : OfAnySize n t (graph_of_rows first.upper)
  b-size = accepted-of-any-size n b first.upper first.given.second t

  c-size : OfAnySize n t (graph_of_rows second.lower)
  c-size = accepted-of-any-size n c second.lower second.given.first t

  d-size : OfAnySize n t (graph_of_rows second.upper)
  d-size = accepted-of-any-size n d second.upper second.given.second t

  module _ (out out' : List ℕ) where
    -- The combination of a and c lies below b and d, so b and d combine.
    pub combines : (((unifying n t a c out).reply ≡ Cycle) ⊎ ((unifying n t a c out).reply ≡ Clash) → ⊥) →
        ((unifying n t b d out').reply ≡ Cycle) ⊎ ((unifying n t b d out').reply ≡ Clash) → ⊥
    combines combined refused =
        let (u, _, best) = exists n t a c first.lower second.lower narrow out combined in
        let (left, right) =
        below-broader n t (accepts n t a c first.lower second.lower narrow) (graph_of_rows first.lower) (graph_of_rows first.upper)
        (graph_of_rows second.lower) (graph_of_rows second.upper) a-size b-size c-size d-size first.below second.below u
        best.of-any-size best.left best.right in
        (none-exact n t b d first.upper second.upper broad out').0 refused (ℕ ⊎ ℕ) u best.of-any-size left right

    pub combination-below : (l l' : ℕ) → (unifying n t a c out).reply ≡ Length l → (unifying n t b d out').reply ≡ Length l' →
        RecordBelow n t (take l (unifying n t a c out).output) (take l' (unifying n t b d out').output)
    combination-below l l' p q =
        let u = written-combination n t a c first.lower second.lower narrow out l p in
        let w = written-combination n t b d first.upper second.upper broad out' l' q in
        record {
          lower = u.form;
          upper = w.form;
          given = record { opens = narrow.opens; first = u.reads; second = w.reads };
          below = greatest-monotone n t (accepts n t a c first.lower second.lower narrow) (graph_of_rows first.lower)
              (graph_of_rows first.upper) (graph_of_rows second.lower) (graph_of_rows second.upper) a-size b-size c-size d-size
              first.below second.below (graph_of_rows u.form) (graph_of_rows w.form) u.greatest w.greatest;
        }

    pub common-part-below : (l l' : ℕ) → (generalizing n t a c out).reply ≡ Length l → (generalizing n t b d out').reply ≡ Length l' →
        RecordBelow n t (take l (generalizing n t a c out).output) (take l' (generalizing n t b d out').output)
    common-part-below l l' p q =
        let u = common-part n t a c first.lower second.lower narrow out l p in
        let w = common-part n t b d first.upper second.upper broad out' l' q in
        record {
          lower = u.form;
          upper = w.form;
          given = record { opens = narrow.opens; first = u.reads; second = w.reads };
          below = least-monotone n t (accepts n t a c first.lower second.lower narrow) (graph_of_rows first.lower)
              (graph_of_rows first.upper) (graph_of_rows second.lower) (graph_of_rows second.upper) a-size b-size c-size d-size
              first.below second.below (graph_of_rows u.form) (graph_of_rows w.form) u.least w.least;
        }
