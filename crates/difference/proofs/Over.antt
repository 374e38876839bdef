-- "Each path of g leads to one node of s" (document 01, "Difference"). Where s is below g, the definition finds the node of s for each node of g
-- among the pairs of nodes that one path leads to, and no other node map exists.
use mathlib.Core.Path.{◌≡◌, refl, sym, ◌∙◌, ap, ap₂}
use mathlib.Core.Bool.{Bool, true, false, cond}
use mathlib.Core.List.{List, [], ◌∷◌, Memᴰ}
use mathlib.Core.Logic.{⊎_elim}
use mathlib.Core.Option.{some}
use Prim.Native.Nat.{ℕ, ◌<◌}
use borrow.Author.Tests.{eqb-true, eq-eqb}
use lib.Dec.{eqb}
use lib.ListN.{length}
use Rattle.graphs.specs.Graph.{walk, Below}
use Rattle.graphs.specs.Map.{NodeMap}
use Rattle.graphs.specs.Rows.{Row}
use Rattle.graphs.specs.Order.{meetings}
use Rattle.graphs.proofs.Walk.{some-unique}
use Rattle.graphs.proofs.Lists.{tells-eqb}
use Rattle.graphs.proofs.Search.{true-false}
use Rattle.graphs.proofs.Below.{walk-map, carries-map}
use Rattle.graphs.proofs.Order.{listed-together, together-listed}
use Rattle.lattice.specs.Label.{Label}
use Rattle.lattice.specs.Labels.{table_labels}
use Rattle.record.specs.Read.{graph_of_rows}
use Rattle.record.proofs.Accepted.{Rules, rules-of-any-size}
use Rattle.record.proofs.Ordered.{short}
use Rattle.difference.specs.Difference.{first_at, over}

-- If some pair of the list has y on the right, the pair that `first_at` gives is in the list.
first-listed : (y : ℕ) (xs : List (ℕ × ℕ)) (x : ℕ) → Memᴰ (x, y) xs → Memᴰ (first_at y xs, y) xs
unfolding first_at
first-listed y [] x m = absurd (mathlib.Core.List.Memᴰ.not-nil m)
first-listed y (z ∷ xs) x m = go (eqb z.1 y) refl (first-listed y xs x)
  where
    go : (b : Bool) → eqb z.1 y ≡ b → (Memᴰ (x, y) xs → Memᴰ (first_at y xs, y) xs) →
        Memᴰ (cond b z.0 (first_at y xs), y) (z ∷ xs)
    go true e later = mathlib.Core.List.Memᴰ.head (ap₂ {C = ℕ × ℕ} (λ i j. (i, j)) refl (sym (eqb-true z.1 y e)))
    go false e later =
        ⊎_elim
        (λ (q : ◌≡◌ {A = ℕ × ℕ} (x, y) z). true-false (eq-eqb z.1 y (sym (ap (λ (i : ℕ × ℕ). i.1) q))) e)
        (λ i. mathlib.Core.List.Memᴰ.tail (later i)) (mathlib.Core.List.Memᴰ.cases_cons m)

module _ (n : ℕ) (t : List ℕ) (g s : List (Row Label)) (general : Rules n g)
    (below : Below (table_labels n t) (graph_of_rows s) (graph_of_rows g)) where
  -- "Each path of g leads to one node of s"
  over-carries : (p : List ℕ) (y : ℕ) → walk (graph_of_rows g) p ≡ some y → walk (graph_of_rows s) p ≡ some (over s g y)
  unfolding over
  over-carries p y e =
      let small = (rules-of-any-size n g general t).any-size.features in
      let (x, d, _) = below.paths p y e in
      let listed : Memᴰ (x, y) (meetings (graph_of_rows s) (graph_of_rows g) (length g)) =
      together-listed (table_labels n t) eqb eqb tells-eqb tells-eqb (graph_of_rows s) (graph_of_rows g) small (length g) (short n t s g general)
      (x, y) (p, d, e) in
      let (q, c, i) =
      listed-together (table_labels n t) eqb eqb tells-eqb tells-eqb (graph_of_rows s) (graph_of_rows g) small (length g) (short n t s g general)
      (over s g y, y) (first-listed y (meetings (graph_of_rows s) (graph_of_rows g) (length g)) x listed) in
      let (_, j, k) = below.corefers p q (y, e, i) in
      j ∙ sym k ∙ c

  pub over-map : NodeMap (table_labels n t) (graph_of_rows s) (graph_of_rows g) (over s g)
  over-map = carries-map below (over s g) over-carries

  -- Every node map is this one, because two walks along one path end at one node.
  pub over-only : (to : ℕ → ℕ) → NodeMap (table_labels n t) (graph_of_rows s) (graph_of_rows g) to → (y : ℕ) → y < length g → over s g y ≡ to y
  over-only to map y h =
      let (p, e) = general.reached y h in
      some-unique (over-carries p y e) (walk-map map p y e)
