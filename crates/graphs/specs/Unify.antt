-- This file defines unification, document 01's combination (001, the closure). The first part says over paths what
-- unification is, and what a loop and a clash are. The second part computes unification on the nodes of both graphs.
use Rattle.std.specs.Prelude.{◌≡◌, Bool, true, false, cond, ◌||◌, ◌↔◌, ◌⊎◌, ℕ, zero, suc, ◌+◌, length}
use mathlib.Core.List.{List, [], ◌∷◌, ◌++◌, map, foldr}
use Rattle.std.proofs.Common.{inl, inr}
use Rattle.std.proofs.Math.Option
use Rattle.std.proofs.Math.Option.{Option, none, some, or_else}
use Rattle.graphs.specs.Label.{Labels}
use Rattle.graphs.specs.Graph.{Graph, walk, Corefer}
use Rattle.graphs.specs.Generalize.{both}
use Rattle.graphs.specs.Rows.{features}

module _ {L A B : Type 0} (g : Graph L A) (h : Graph L B) where
  -- "sharing is the smallest equivalence that holds both graphs' sharing and passes down equal features." A path of the
  -- unification is one that is joined to itself.
  pub data Joined : List ℕ → List ℕ → Type 0 where
    left : {p q : List ℕ} → Corefer g p q → Joined p q
    right : {p q : List ℕ} → Corefer h p q → Joined p q
    flip : {p q : List ℕ} → Joined p q → Joined q p
    chain : {p q r : List ℕ} → Joined p q → Joined q r → Joined p r
    down : {p q : List ℕ} (f : ℕ) → Joined p q → Joined (p ++ (f ∷ [])) (p ++ (f ∷ [])) → Joined (p ++ (f ∷ [])) (q ++ (f ∷ []))

module _ (𝓛 : Labels) {A B : Type 0} (g : Graph 𝓛.L A) (h : Graph 𝓛.L B) where
  -- a lies below every label in the class of the path p
  pub record UnderClass (p : List ℕ) (a : 𝓛.L) : Type 0 where
    pub first : (q : List ℕ) (v : A) → Joined g h p q → walk g q ≡ some v → 𝓛.le a (g.label v) ≡ true
    pub second : (q : List ℕ) (w : B) → Joined g h p q → walk h q ≡ some w → 𝓛.le a (h.label w) ≡ true

  -- "a class has the meet of all types in it"
  pub record ClassMeet (p : List ℕ) (a : 𝓛.L) : Type 0 where
    pub under : UnderClass p a
    pub greatest : (b : 𝓛.L) → UnderClass p b → 𝓛.le b a ≡ true

  -- "A loop is a class that reaches itself."
  abbrev pub Cycle : Type 0
  Cycle = (p : List ℕ) × (f : ℕ) × (r : List ℕ) × Joined g h p (p ++ f ∷ r)

  -- "A clash is a class whose meet is type 0."
  abbrev pub Clash : Type 0
  Clash = (p : List ℕ) × (a : 𝓛.L) × Joined g h p p × ClassMeet p a × (𝓛.contradiction a ≡ true)

  -- The graph u is the unification: its paths, which of them share, and its labels are those of the classes.
  pub record IsUnification {C : Type 0} (u : Graph 𝓛.L C) : Type 0 where
    pub corefers : (p q : List ℕ) → Corefer u p q ↔ Joined g h p q
    pub labels : (p : List ℕ) (x : C) → walk u p ≡ some x → ClassMeet p (u.label x)

-- What follows computes a unification on the nodes of both graphs.

-- the links of two graphs side by side: a node is one of the first graph or one of the second
abbrev pub beside : {A B : Type 0} → (A → ℕ → Option A) → (B → ℕ → Option B) → A ⊎ B → ℕ → Option (A ⊎ B)
beside l m (inl v) f = Option.map inl (l v f)
beside l m (inr v) f = Option.map inr (m v f)

-- the labels of two graphs side by side
abbrev pub label_beside : {L A B : Type 0} → (A → L) → (B → L) → A ⊎ B → L
label_beside l m (inl v) = l v
label_beside l m (inr v) = m v

-- whether two nodes of graphs side by side are one node
abbrev pub same_beside : {A B : Type 0} → (A → A → Bool) → (B → B → Bool) → A ⊎ B → A ⊎ B → Bool
same_beside s t (inl v) (inl w) = s v w
same_beside s t (inl v) (inr w) = false
same_beside s t (inr v) (inl w) = false
same_beside s t (inr v) (inr w) = t v w

-- the first value that a search finds along a list
unfoldable pub first_of : {X Y : Type 0} → List X → (X → Option Y) → Option Y
first_of [] find = none
first_of (x ∷ xs) find = or_else (find x) (first_of xs find)

-- whether some element of a list passes a test
unfoldable pub any_of : {X : Type 0} → List X → (X → Bool) → Bool
any_of [] test = false
any_of (x ∷ xs) test = test x || any_of xs test

-- whether there is a value that passes a test
abbrev pub holds : {X : Type 0} → (X → Bool) → Option X → Bool
holds test none = false
holds test (some x) = test x

-- whether a walk of k links starts at v
unfoldable pub deep : {N : Type 0} → (N → ℕ → Option N) → ℕ → N → Bool
deep link zero v = true
deep link (suc k) v = any_of features λ f. holds (deep link k) (link v f)

-- A class of nodes is named by one of its nodes: `name x` names the class of x. `same` tells nodes apart, and `nodes` lists all nodes.
module _ {N : Type 0} (same : N → N → Bool) where
  -- the names of the classes once the class of x is joined to that of y
  unfoldable pub merge : (N → N) → N → N → N → N
  merge name x y =
      let a = name x in
      let b = name y in
      λ z. let c = name z in cond (same c a) b c

  -- the pair of nodes, if there is one and its nodes lie in different classes
  unfoldable pub apart : (N → N) → Option (N × N) → Option (N × N)
  apart name none = none
  apart name (some xy) = cond (same (name xy.0) (name xy.1)) none (some xy)

  -- the names of the classes once the classes of a pair are joined, if there is a pair
  abbrev pub settle : (N → N) → Option (N × N) → N → N
  settle name none = name
  settle name (some xy) = merge name xy.0 xy.1

module _ {N : Type 0} (same : N → N → Bool) (link : N → ℕ → Option N) (nodes : List N) where
  -- two nodes in different classes to which one feature leads from two nodes of one class, if there are any
  unfoldable pub unsettled : (N → N) → Option (N × N)
  unsettled name =
      first_of nodes λ x.
      first_of nodes λ y.
      cond (same (name x) (name y)) (first_of features λ f. apart same name (both (link x f) (link y f))) none

  -- Sharing "passes down equal features": the names after at most k merges of classes.
  unfoldable pub close : ℕ → (N → N) → N → N
  close zero name = name
  close (suc k) name = close k (settle same name (unsettled name))

  -- the target of a class by a feature: the class of the target of the first of its nodes that has the feature
  unfoldable pub class_link : (N → N) → N → ℕ → Option N
  class_link name c f = first_of nodes λ x. cond (same (name x) c) (Option.map name (link x f)) none

-- "a class has the meet of all types in it"
unfoldable pub class_label : {L N : Type 0} → (L → L → L) → L → (N → N → Bool) → List N → (N → L) → (N → N) → N → L
class_label meet top same nodes label name c = foldr (λ x a. cond (same (name x) c) (meet (label x) a) a) top nodes

-- Unification gives a loop, or a clash and no loop, or a graph.
pub data Unified (L N : Type 0) : Type 0 where
  cycle : Unified L N
  clash : Unified L N
  unified : Graph L N → Unified L N

-- the nodes of both graphs
abbrev pub nodes_beside : {A B : Type 0} → List A → List B → List (A ⊎ B)
nodes_beside gs hs = map inl gs ++ map inr hs

module _ {L A B : Type 0} (sameA : A → A → Bool) (sameB : B → B → Bool) where
  -- The name of each node's class: the roots are joined, and the merges that follow are made. The two lists give the nodes of the graphs.
  unfoldable pub class_name : Graph L A → List A → Graph L B → List B → A ⊎ B → A ⊎ B
  class_name g gs h hs =
      let same = same_beside sameA sameB in
      let nodes = nodes_beside gs hs in
      close same (beside g.link h.link) nodes (length nodes) (merge same (λ x. x) (inl g.root) (inr h.root))

  -- Whether a class reaches itself: then a walk of as many links as there are nodes starts at the class of the roots.
  unfoldable pub has_cycle : Graph L A → List A → Graph L B → List B → Bool
  has_cycle g gs h hs =
      let same = same_beside sameA sameB in
      let name = class_name g gs h hs in
      deep (class_link same (beside g.link h.link) (nodes_beside gs hs) name) (length gs + length hs) (name (inl g.root))

-- Of the labels, the graph of the classes needs the meet and the label that says nothing.
module _ {L : Type 0} (meet : L → L → L) (top : L) where
  -- the graph of the classes
  unfoldable pub class_graph : {A B : Type 0} → (A → A → Bool) → (B → B → Bool) → Graph L A → List A → Graph L B → List B → Graph L (A ⊎ B)
  class_graph sameA sameB g gs h hs =
      let same = same_beside sameA sameB in
      let nodes = nodes_beside gs hs in
      let name = class_name sameA sameB g gs h hs in
      record {
        root = name (inl g.root);
        label = class_label meet top same nodes (label_beside g.label h.label) name;
        link = class_link same (beside g.link h.link) nodes name;
      }

-- Of the labels, unification needs a test for the contradiction too.
module _ {L : Type 0} (meet : L → L → L) (top : L) (contradiction : L → Bool) {A B : Type 0} (sameA : A → A → Bool) (sameB : B → B → Bool) where
  -- whether the meet of some class is the contradiction
  unfoldable pub has_clash : Graph L A → List A → Graph L B → List B → Bool
  has_clash g gs h hs =
      let u = class_graph meet top sameA sameB g gs h hs in
      let name = class_name sameA sameB g gs h hs in
      any_of (nodes_beside gs hs) λ x. contradiction (u.label (name x))

  -- Unification looks for a loop first: refusal 10 is "clash, no loop".
  unfoldable pub unification_by : Graph L A → List A → Graph L B → List B → Unified L (A ⊎ B)
  unification_by g gs h hs =
      cond (has_cycle sameA sameB g gs h hs) cycle
      (cond (has_clash g gs h hs) clash (unified (class_graph meet top sameA sameB g gs h hs)))

-- unification by the meet, the top and the contradiction of the labels 𝓛
abbrev pub unification : (𝓛 : Labels) {A B : Type 0} → (A → A → Bool) → (B → B → Bool) → Graph 𝓛.L A → List A → Graph 𝓛.L B → List B →
    Unified 𝓛.L (A ⊎ B)
unification 𝓛 sameA sameB g gs h hs = unification_by 𝓛.meet 𝓛.top 𝓛.contradiction sameA sameB g gs h hs
