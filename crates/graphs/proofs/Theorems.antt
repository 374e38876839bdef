-- This file states the theorems about graphs of any size in one place, each with a line that cites its proof. `𝓛` is any lattice of
-- labels, and graphs have any type of nodes. Only the theorems about the written form bound the size of a graph.
use mathlib.Core.Path.{◌≡◌, refl}
use mathlib.Core.Bool.{Bool, true, false}
use mathlib.Core.List.{List, Memᴰ}
use mathlib.Core.Logic.{◌↔◌, ◌⊎◌, inl, inr, ⊎_elim}
use mathlib.Core.Option.{some}
use Prim.Native.Nat.{ℕ, ◌<◌, ◌≤◌}
use lib.ListN.{length}
use Rattle.graphs.specs.Label.{Labels, Lattice}
use Rattle.graphs.specs.Graph.{Graph, TellsApart, Reached, Below, SameMeaning, AnySize}
use Rattle.graphs.specs.Map.{NodeMap, Exact}
use Rattle.graphs.specs.Bounds.{LeastAbove, GreatestBelow}
use Rattle.graphs.specs.Rows.{Row, graph_of}
use Rattle.graphs.specs.Number.{canonical, written, many_nodes, many_links}
use Rattle.graphs.specs.Large.{ManyNodes, ManyLinks}
use Rattle.graphs.specs.Order.{subsumes}
use Rattle.graphs.specs.Generalize.{IsGeneralization, generalization}
use Rattle.graphs.specs.Unify.{Cycle, Clash, IsUnification, Unified, cycle, clash, unified, unification, class_graph}
use Rattle.graphs.specs.Difference.{Link, StrictOrder, IsResidual, IsWanted, meet_over, group_of, difference}
use Rattle.graphs.specs.Relations.{Into, LiesOver, Grouped, KeptLink}
use Rattle.graphs.proofs.Below as Below
use Rattle.graphs.proofs.Finite as Finite
use Rattle.graphs.proofs.Product as Product
use Rattle.graphs.proofs.Order as Order
use Rattle.graphs.proofs.Form.Invariant as Invariant
use Rattle.graphs.proofs.Form.Canonical as Canonical
use Rattle.graphs.proofs.Form.Large as Large
use Rattle.graphs.proofs.Unification.Unifier as Unifier
use Rattle.graphs.proofs.Unification.Beside.{Operands, any-size-operands}
use Rattle.graphs.proofs.Unification.Outcome as Outcome
use Rattle.graphs.proofs.Difference.Computed as Difference
use Rattle.graphs.proofs.Difference.Computed.{Setting}
use Rattle.graphs.proofs.Difference.Relations as Relations
use Rattle.graphs.proofs.Difference.Wanted as Wanted

-- features below 64, as in every graph of any size
abbrev pub Narrow : {L A : Type 0} → Graph L A → Type 0
Narrow {A = A} g = (v w : A) (f : ℕ) → Reached g v → g.link v f ≡ some w → f < 64

module _ (𝓛 : Labels) (lattice : Lattice 𝓛) where
  -- 1. The order is a preorder, and its equivalence is equal meaning. Where all nodes are reached, the order is the existence of a node map.
  -- The computed order is the order over paths.

  pub order-reflexive : {A : Type 0} (g : Graph 𝓛.L A) → Below 𝓛 g g
  order-reflexive g = Below.below-refl lattice g

  pub order-transitive : {A B C : Type 0} (s : Graph 𝓛.L A) (g : Graph 𝓛.L B) (h : Graph 𝓛.L C) → Below 𝓛 s g →
      Below 𝓛 g h → Below 𝓛 s h
  order-transitive s g h a b = Below.below-trans lattice a b

  pub order-antisymmetric : {A B : Type 0} (g : Graph 𝓛.L A) (h : Graph 𝓛.L B) →
      SameMeaning 𝓛 g h ↔ (Below 𝓛 g h × Below 𝓛 h g)
  order-antisymmetric g h = Below.same-meaning lattice g h

  pub order-by-map : {A B : Type 0} (s : Graph 𝓛.L A) (g : Graph 𝓛.L B) → ((v : B) → Reached g v) →
      Below 𝓛 s g ↔ ((to : B → A) × NodeMap 𝓛 s g to)
  order-by-map s g all = (λ b. Below.below-map b (λ v. yes (all v)), λ m. Below.map_below m.1)

  pub meaning-by-map : {A B : Type 0} (g : Graph 𝓛.L A) (h : Graph 𝓛.L B) → ((v : A) → Reached g v) →
      SameMeaning 𝓛 g h ↔ ((to : A → B) × Exact to g h)
  meaning-by-map g h all = (λ m. Below.same-exact m (λ v. yes (all v)), λ e. Below.exact_same e.1)

  pub order-computed : {A B : Type 0} (sameA : A → A → Bool) (sameB : B → B → Bool) → TellsApart sameA → TellsApart sameB → (s : Graph 𝓛.L A)
      (g : Graph 𝓛.L B) (b : AnySize 𝓛 g) → (subsumes 𝓛 sameA sameB s g (length b.nodes) ≡ true) ↔ Below 𝓛 s g
  order-computed sameA sameB tells_a tells_b s g b =
      Order.subsumes-exact 𝓛 sameA sameB tells_a tells_b s g b.features (length b.nodes)
      (Finite.short-paths g b.nodes (λ v r. (b.listed v).0 r) b.acyclic)

  -- 2. The written form depends on meaning alone and has the graph's meaning. A graph has none exactly where it is too large.

  pub form-of-meaning : {A B : Type 0} (sameA : A → A → Bool) (sameB : B → B → Bool) → TellsApart sameA → TellsApart sameB →
      (g : Graph 𝓛.L A) (h : Graph 𝓛.L B) → SameMeaning 𝓛 g h → canonical sameA g ≡ canonical sameB h
  form-of-meaning sameA sameB tells_a tells_b g h m = Invariant.same-canonical 𝓛 sameA sameB tells_a tells_b g h m

  pub meaning-of-form : {A : Type 0} (same : A → A → Bool) → TellsApart same → (g : Graph 𝓛.L A) → Narrow g →
      (form : List (Row 𝓛.L)) → canonical same g ≡ written form → SameMeaning 𝓛 g (graph_of 𝓛.top form)
  meaning-of-form same tells g narrow form e = Canonical.canonical-meaning 𝓛 same tells g narrow form e

  pub form-exact : {A B : Type 0} (sameA : A → A → Bool) (sameB : B → B → Bool) → TellsApart sameA → TellsApart sameB → (g : Graph 𝓛.L A)
      (h : Graph 𝓛.L B) → Narrow g → Narrow h → (form : List (Row 𝓛.L)) → canonical sameA g ≡ written form →
      SameMeaning 𝓛 g h ↔ (canonical sameB h ≡ written form)
  form-exact sameA sameB tells_a tells_b g h narrowA narrowB form e =
      Canonical.canonical-exact 𝓛 sameA sameB tells_a tells_b g h narrowA narrowB form e

  pub too-many-nodes : {A : Type 0} (same : A → A → Bool) → TellsApart same → (g : Graph 𝓛.L A) → Narrow g →
      (canonical same g ≡ many_nodes) ↔ ManyNodes g
  too-many-nodes same tells g narrow = Large.canonical-many-nodes same tells g narrow

  pub too-many-links : {A : Type 0} (same : A → A → Bool) → TellsApart same → (g : Graph 𝓛.L A) → Narrow g →
      (canonical same g ≡ many_links) ↔ ((ManyNodes g → ⊥) × ManyLinks g)
  too-many-links same tells g narrow = Large.canonical-many-links same tells g narrow

  pub fits : {A : Type 0} (same : A → A → Bool) → TellsApart same → (g : Graph 𝓛.L A) → Narrow g →
      ((ManyNodes g → ⊥) × (ManyLinks g → ⊥)) ↔ ((form : List (Row 𝓛.L)) × (canonical same g ≡ written form))
  fits same tells g narrow = Large.canonical-fits same tells g narrow

  -- 3. Generalization has the paths of both graphs with their joins. The generalization is the least graph above both, and of any size if
  -- both are.

  pub generalization-is : {A B : Type 0} (g : Graph 𝓛.L A) (h : Graph 𝓛.L B) → IsGeneralization 𝓛 g h (generalization 𝓛 g h)
  generalization-is g h = Product.product-is-generalization 𝓛 g h

  pub generalization-least : {A B : Type 0} (g : Graph 𝓛.L A) (h : Graph 𝓛.L B) → LeastAbove 𝓛 g h (generalization 𝓛 g h)
  generalization-least g h = Product.generalization-least lattice (Product.product-is-generalization 𝓛 g h)

  pub generalization-any-size : {A B : Type 0} (g : Graph 𝓛.L A) (h : Graph 𝓛.L B) → AnySize 𝓛 g → AnySize 𝓛 h →
      AnySize 𝓛 (generalization 𝓛 g h)
  generalization-any-size g h a b = Product.generalization-any-size lattice (Product.product-is-generalization 𝓛 g h) a

  -- 4. Unification as it is computed on nodes is the closure over paths. The unification is the greatest graph below both, and of any
  -- size. There is a cycle or a clash exactly when no graph of any size lies below both, and a cycle is told before a clash.

  module _ {A B : Type 0} (sameA : A → A → Bool) (sameB : B → B → Bool) (tells_a : TellsApart sameA) (tells_b : TellsApart sameB)
      (g : Graph 𝓛.L A) (h : Graph 𝓛.L B) (a : AnySize 𝓛 g) (b : AnySize 𝓛 h) where
    given : Operands sameA sameB g a.nodes h b.nodes
    given = any-size-operands tells_a tells_b a b

    pub unification-is : (u : Graph 𝓛.L (A ⊎ B)) → unification 𝓛 sameA sameB g a.nodes h b.nodes ≡ unified u →
        IsUnification 𝓛 g h u × AnySize 𝓛 u × GreatestBelow 𝓛 g h u
    unification-is u e =
        let (size, is) = Outcome.graph-right lattice given u e in (
          is,
          size,
          record {
            left = Unifier.unification-left is;
            right = Unifier.unification-right is;
            greatest = λ m below-g below-h. Unifier.unification-greatest below-g below-h is;
          },
        )

    pub unification-cycle : (unification 𝓛 sameA sameB g a.nodes h b.nodes ≡ cycle) ↔ Cycle 𝓛 g h
    unification-cycle = Outcome.answers-cycle lattice given

    pub unification-clash : (unification 𝓛 sameA sameB g a.nodes h b.nodes ≡ clash) ↔ ((Cycle 𝓛 g h → ⊥) × Clash 𝓛 g h)
    unification-clash = Outcome.answers-clash lattice given

    pub unification-none : (Cycle 𝓛 g h ⊎ Clash 𝓛 g h) ↔
        ((C : Type 0) (k : Graph 𝓛.L C) → AnySize 𝓛 k → Below 𝓛 k g → Below 𝓛 k h → ⊥)
    unification-none = (
      λ bad C k size below-g below-h.
          ⊎_elim (Unifier.below-no-cycle below-g below-h size) (Unifier.below-no-clash below-g below-h lattice size) bad,
      λ none. found (unification 𝓛 sameA sameB g a.nodes h b.nodes) refl none,
    )
      where
        found : (o : Unified 𝓛.L (A ⊎ B)) → unification 𝓛 sameA sameB g a.nodes h b.nodes ≡ o →
            ((C : Type 0) (k : Graph 𝓛.L C) → AnySize 𝓛 k → Below 𝓛 k g → Below 𝓛 k h → ⊥) → Cycle 𝓛 g h ⊎ Clash 𝓛 g h
        found cycle e none = inl (unification-cycle.0 e)
        found clash e none = inr (unification-clash.0 e).1
        found (unified u) e none =
            let (is, size, best) = unification-is u e in
            absurd (none (A ⊎ B) u size best.left best.right)

  -- 5. Two least graphs above one pair have equal meaning, and so have two greatest graphs below it.

  pub least-unique : {A B C D : Type 0} (g : Graph 𝓛.L A) (h : Graph 𝓛.L B) (k : Graph 𝓛.L C) (m : Graph 𝓛.L D) →
      LeastAbove 𝓛 g h k → LeastAbove 𝓛 g h m → SameMeaning 𝓛 k m
  least-unique g h k m a b = Product.least-unique lattice a b

  pub greatest-unique : {A B C D : Type 0} (g : Graph 𝓛.L A) (h : Graph 𝓛.L B) (k : Graph 𝓛.L C) (m : Graph 𝓛.L D) →
      GreatestBelow 𝓛 g h k → GreatestBelow 𝓛 g h m → SameMeaning 𝓛 k m
  greatest-unique g h k m a b = Product.greatest-unique lattice a b

  -- 6. Generalization and unification keep the order.

  pub generalization-monotone : {A B C D : Type 0} (g : Graph 𝓛.L A) (h : Graph 𝓛.L B) (k : Graph 𝓛.L C) (m : Graph 𝓛.L D) →
      Below 𝓛 g k → Below 𝓛 h m → Below 𝓛 (generalization 𝓛 g h) (generalization 𝓛 k m)
  generalization-monotone g h k m a b = Product.product-monotone lattice a b

  pub unification-monotone : {A B C D : Type 0} (sameA : A → A → Bool) (sameB : B → B → Bool) (sameC : C → C → Bool)
      (sameD : D → D → Bool) → TellsApart sameA → TellsApart sameB → TellsApart sameC → TellsApart sameD → (g : Graph 𝓛.L A) (h : Graph 𝓛.L B)
      (k : Graph 𝓛.L C) (m : Graph 𝓛.L D) (a : AnySize 𝓛 g) (b : AnySize 𝓛 h) (c : AnySize 𝓛 k) (d : AnySize 𝓛 m) → Below 𝓛 g k →
      Below 𝓛 h m → (u : Graph 𝓛.L (A ⊎ B)) → unification 𝓛 sameA sameB g a.nodes h b.nodes ≡ unified u →
      (w : Graph 𝓛.L (C ⊎ D)) × (unification 𝓛 sameC sameD k c.nodes m d.nodes ≡ unified w) × Below 𝓛 u w
  unification-monotone sameA sameB sameC sameD tA tB tC tD g h k m a b c d p q u e =
      Outcome.unification-monotone lattice (any-size-operands tA tB a b) (any-size-operands tC tD c d) p q u e

  -- A lattice that admits differences has a wanted label at every node of s.
  pub wanted-exists : ((q p : 𝓛.L) → (c : 𝓛.L) × IsResidual 𝓛 q p c) → {A B : Type 0} (sameA : A → A → Bool) (sameB : B → B → Bool) →
      TellsApart sameA → TellsApart sameB → (s : Graph 𝓛.L A) (g : Graph 𝓛.L B) (a : AnySize 𝓛 s) (b : AnySize 𝓛 g) (over : B → A) →
      NodeMap 𝓛 s g over → (v : A) → (c : 𝓛.L) × IsWanted 𝓛 (meet_over 𝓛 sameA g b.nodes over v) (s.label v) c
  wanted-exists admits sameA sameB tells_a tells_b s g a b over map v =
      Wanted.wanted-exists lattice (any-size-operands tells_a tells_b a b) over admits map v

  -- 7. The difference of g and s: s is below g by a node map, links are in any strict total order, and each node of s has a wanted label.

  module _ {A B : Type 0} (sameA : A → A → Bool) (sameB : B → B → Bool) (tells_a : TellsApart sameA) (tells_b : TellsApart sameB)
      (s : Graph 𝓛.L A) (g : Graph 𝓛.L B) (a : AnySize 𝓛 s) (b : AnySize 𝓛 g) (over : B → A) (map : NodeMap 𝓛 s g over)
      (earlier : Link A → Link A → Bool) (order : StrictOrder earlier) (wanted : A → 𝓛.L)
      (wants : (v : A) → Reached s v → IsWanted 𝓛 (meet_over 𝓛 sameA g b.nodes over v) (s.label v) (wanted v)) where
    abbrev d : Graph 𝓛.L A
    d = difference 𝓛 sameA sameB earlier s a.nodes g b.nodes over wanted

    set : Setting 𝓛 sameA sameB earlier s a.nodes g b.nodes over wanted
    set =
        record {
          lattice = lattice;
          operands = any-size-operands tells_a tells_b a b;
          order = order;
          sound = a;
          map = map;
          wants = wants;
        }

    -- The nodes of g that lie over v, as the relations state it, are those that the map takes to v.
    pub over-exact : (y : B) (v : A) → LiesOver s g y v ↔ (Reached g y × (over y ≡ v))
    over-exact = Relations.over-exact map

    -- The computed group of a link is the one that the relations state.
    pub group-exact : (v : A) (l m : Link A) → Into s v l →
        Memᴰ m (group_of sameA sameB s a.nodes g b.nodes over v l) ↔ Grouped s g v l m
    group-exact = Relations.group-exact set.operands map

    -- The links of the difference are the kept links that the relations state.
    pub keep-exact : (u : A) (f : ℕ) (v : A) → Reached s u →
        (d.link u f ≡ some v) ↔ KeptLink s g earlier (λ w. 𝓛.le 𝓛.top (wanted w) ≡ false) u f v
    keep-exact = Relations.keep-exact set.operands map earlier order a wanted

    -- The difference is a graph of any size, and no larger than s.
    pub difference-any-size : AnySize 𝓛 d
    difference-any-size = Difference.difference-any-size 𝓛 sameA sameB earlier s a.nodes g b.nodes over wanted set

    pub difference-nodes : length difference-any-size.nodes ≤ length a.nodes
    unfolding difference-any-size
    difference-nodes = Difference.difference-nodes 𝓛 sameA sameB earlier s a.nodes g b.nodes over wanted set

    pub difference-links : (u v : A) (f : ℕ) → Reached d u → d.link u f ≡ some v → Reached s u × (s.link u f ≡ some v)
    difference-links = Difference.difference-links 𝓛 sameA sameB earlier s a.nodes g b.nodes over wanted set

    -- The difference restores: s is the greatest graph below the difference and g, so their unification exists and means what s means.
    pub difference-restores : GreatestBelow 𝓛 d g s
    difference-restores =
        record {
          left = Difference.difference-above 𝓛 sameA sameB earlier s a.nodes g b.nodes over wanted set;
          right = Below.map_below map;
          greatest = λ m x y. Difference.difference-greatest 𝓛 sameA sameB earlier s a.nodes g b.nodes over wanted set m x y;
        }

    pub difference-unified : (u : Graph 𝓛.L (A ⊎ B)) ×
        (unification 𝓛 sameA sameB d difference-any-size.nodes g b.nodes ≡ unified u) × SameMeaning 𝓛 u s
    difference-unified =
        let given = any-size-operands tells_a tells_b difference-any-size b in
        let u = class_graph 𝓛.meet 𝓛.top sameA sameB d difference-any-size.nodes g b.nodes in
        let found = Outcome.bounded-graph lattice given a difference-restores.left difference-restores.right in
        let is = (Outcome.graph-right lattice given u found).1 in
        (u, found, Difference.difference-restores 𝓛 sameA sameB earlier s a.nodes g b.nodes over wanted set is)

    -- The difference is most general: a graph strictly above it has a unification with g, and this unification lies strictly above s.
    pub difference-most-general : {E : Type 0} (sameE : E → E → Bool) → TellsApart sameE → (e : Graph 𝓛.L E) (c : AnySize 𝓛 e) → Below 𝓛 d e →
        (Below 𝓛 e d → ⊥) → (u : Graph 𝓛.L (E ⊎ B)) × (unification 𝓛 sameE sameB e c.nodes g b.nodes ≡ unified u) × Below 𝓛 s u ×
        (Below 𝓛 u s → ⊥)
    difference-most-general sameE tellsE e c above strict =
        let given = any-size-operands tellsE tells_b c b in
        let u = class_graph 𝓛.meet 𝓛.top sameE sameB e c.nodes g b.nodes in
        let found = Outcome.bounded-graph lattice given a (Below.below-trans lattice difference-restores.left above) difference-restores.right in
        let (x, y) = Difference.difference-nothing-more-general 𝓛 sameA sameB earlier s a.nodes g b.nodes over wanted set e u above strict
        (Outcome.graph-right lattice given u found).1 in
        (u, found, x, y)
