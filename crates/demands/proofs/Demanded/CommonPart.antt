-- The common part has the paths in both and is the least graph of any size above both, whatever its size. What is written is read again as that
-- graph, and the order agrees.
use mathlib.Core.Path.{◌≡◌, refl, sym, subst}
use mathlib.Core.Bool.{true}
use mathlib.Core.List.{List}
use Prim.Native.Nat.{ℕ}
use lib.ListN.{take}
use Rattle.graphs.specs.Rows.{Row}
use Rattle.graphs.specs.Generalize.{IsGeneralization}
use Rattle.graphs.specs.OfRows.{same_pair}
use Rattle.graphs.proofs.Product.{product-is-generalization, same-generalization}
use Rattle.lattice.specs.Label.{Label}
use Rattle.lattice.specs.Table as table
use Rattle.acceptance.specs.Reply.{opened}
use Rattle.lattice.specs.Labels.{table_labels, LeastOfAnySize}
use Rattle.acceptance.proofs.Acceptance.{opened-accepted}
use Rattle.lattice.proofs.AnySize.{generalization-least, same-least}
use Rattle.record.specs.Read.{reading, accepted, graph_of_rows}
use Rattle.record.proofs.Theorems.{accepted-of-any-size}
use Rattle.generalize.proofs.Sides.{tells-pair}
use Rattle.replies.specs.Replies.{Length}
use Rattle.engine.specs.Generalizing.{generalized}
use Rattle.calls.specs.Calls.{generalizing}
use Rattle.demands.specs.Demand.{Given, common, CommonPart}
use Rattle.demands.proofs.Results.{Writes, result_for, result-writes, seven-bits}
use Rattle.demands.proofs.Demanded.Order.{order-exact}

module _ (n : ℕ) (t a b : List ℕ) (s g : List (Row Label)) (given : Given n t a b s g) where
  pub accepts : table.accepted n t ≡ true
  accepts = opened-accepted n t (opened n t) refl given.opens

  -- The common part, also where it is too large to be written, has the paths in both.
  pub common-part-paths : IsGeneralization (table_labels n t) (graph_of_rows s) (graph_of_rows g) (common n t s g)
  common-part-paths = product-is-generalization (table_labels n t) (graph_of_rows s) (graph_of_rows g)

  -- The common part is the least graph of any size above both, so there always is such a graph.
  pub common-part-exists : LeastOfAnySize n t (graph_of_rows s) (graph_of_rows g) (common n t s g)
  common-part-exists =
      generalization-least n t accepts (graph_of_rows s) (graph_of_rows g) (accepted-of-any-size n a s given.first t)
      (accepted-of-any-size n b g given.second t)

  module _ (out : List ℕ) where
    -- The call writes the common part.
    pub common-part-result : generalizing n t a b out ≡ result_for same_pair (common n t s g) out
    unfolding generalizing generalized
    common-part-result = rw (given.opens, given.first, given.second)

    -- The call refuses by 11 and 8 exactly where they are due.
    pub common-part-writes : Writes n t same_pair (common n t s g) out (generalizing n t a b out)
    common-part-writes =
        subst (Writes n t same_pair (common n t s g) out) (sym common-part-result)
        (result-writes n t same_pair tells-pair (common n t s g) common-part-exists.of-any-size
        (seven-bits n t accepts (common n t s g) common-part-exists.of-any-size) out)

    -- What is written is the least graph above both, and the order agrees.
    pub common-part : (l : ℕ) → (generalizing n t a b out).reply ≡ Length l →
        CommonPart n t a b s g (take l (generalizing n t a b out).output)
    common-part l q =
        let wrote = common-part-writes.wrote l q in
        let bytes : List ℕ = take l (generalizing n t a b out).output in
        let form : List (Row Label) = wrote.form in
        let reads : reading n bytes ≡ accepted form = wrote.reads in
        let least : LeastOfAnySize n t (graph_of_rows s) (graph_of_rows g) (graph_of_rows form) =
        same-least n t accepts (graph_of_rows s) (graph_of_rows g) (common n t s g) (graph_of_rows form) wrote.means common-part-exists in
        record {
          form = form;
          reads = reads;
          paths = same-generalization common-part-paths wrote.means;
          least = least;
          first_below = (order-exact n t a bytes s form (record { opens = given.opens; first = given.first; second = reads })).0.1 least.left;
          second_below = (order-exact n t b bytes g form (record { opens = given.opens; first = given.second; second = reads })).0.1
              least.right;
          below-upper = λ c m upper x y.
              (order-exact n t bytes c form m (record { opens = given.opens; first = reads; second = upper })).0.1
              (least.least (graph_of_rows m) (accepted-of-any-size n c m upper t)
              ((order-exact n t a c s m (record { opens = given.opens; first = given.first; second = upper })).0.0 x)
              ((order-exact n t b c g m (record { opens = given.opens; first = given.second; second = upper })).0.0 y));
        }
