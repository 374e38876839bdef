-- This file defines typed feature graphs, their paths, their meaning and their order (document 01, "Graph record" and "Order and
-- results"; document 001, definitions 1 to 10). A graph is given by functions on any type of nodes; its nodes are those that the root
-- reaches. All other statements about graphs are made of these definitions.
use Rattle.std.specs.Prelude.{◌≡◌, Bool, true, false, ◌↔◌, ℕ, ◌<◌}
use mathlib.Core.List.{List, [], ◌∷◌, Memᴰ}
use Rattle.std.proofs.Math.Option.{Option, none, some}
use Rattle.graphs.specs.Label.{Labels}

-- The test tells the elements of a type apart: it answers true exactly for equal ones.
abbrev pub TellsApart : {A : Type 0} → (A → A → Bool) → Type 0
TellsApart {A} same = (v w : A) → (same v w ≡ true) ↔ (v ≡ w)

-- A graph has a root, a label for each node, and for each node and feature at most one target.
pub record Graph (L A : Type 0) : Type 0 where
  pub root : A
  pub label : A → L
  pub link : A → ℕ → Option A

-- The node that the link by feature f leads to; none where there is no such link, or no node to start from.
abbrev pub step : {A : Type 0} → (A → ℕ → Option A) → Option A → ℕ → Option A
step link none f = none
step link (some v) f = link v f

-- "A path is a list of features": `follow` gives the node that a path leads to from a node, first feature first.
unfoldable pub follow : {A : Type 0} → (A → ℕ → Option A) → Option A → List ℕ → Option A
follow link o [] = o
follow link o (f ∷ p) = follow link (step link o f) p

-- "A path is a list of features from the root; the empty path is the root."
abbrev pub walk : {L A : Type 0} → Graph L A → List ℕ → Option A
walk g p = follow g.link (some g.root) p

-- The node v is reached: some path leads to it from the root.
abbrev pub Reached : {L A : Type 0} → Graph L A → A → Type 0
Reached g v = (p : List ℕ) × (walk g p ≡ some v)

-- "Two paths share when they end at one node": they corefer.
abbrev pub Corefer : {L A : Type 0} → Graph L A → List ℕ → List ℕ → Type 0
Corefer {A = A} g p q = (v : A) × (walk g p ≡ some v) × (walk g q ≡ some v)

module _ (𝓛 : Labels) where
  -- "Graph s is below g when every path of g is a path of s, its type in s is below or equal to its type in g, and paths that
  -- share in g share in s (001, definition 10)."
  pub record Below {A B : Type 0} (s : Graph 𝓛.L A) (g : Graph 𝓛.L B) : Type 0 where
    pub paths : (p : List ℕ) (v : B) → walk g p ≡ some v →
        (w : A) × (walk s p ≡ some w) × (𝓛.le (s.label w) (g.label v) ≡ true)
    pub corefers : (p q : List ℕ) → Corefer g p q → Corefer s p q

  -- "Graphs of equal meaning" (document 01, "Order and results"; demand 2) have the same paths with the same labels, and the same paths
  -- share in both.
  pub record SameMeaning {A B : Type 0} (g : Graph 𝓛.L A) (h : Graph 𝓛.L B) : Type 0 where
    pub there : (p : List ℕ) (v : A) → walk g p ≡ some v → (w : B) × (walk h p ≡ some w) × (g.label v ≡ h.label w)
    pub back : (p : List ℕ) (w : B) → walk h p ≡ some w → (v : A) × (walk g p ≡ some v) × (g.label v ≡ h.label w)
    pub corefers : (p q : List ℕ) → Corefer g p q ↔ Corefer h p q

  -- "A graph of any size keeps every rule of an accepted record but the counts of nodes and links": finitely many nodes are reached from
  -- the root, their features are 0 to 63, no label is the contradiction, and no node reaches itself.
  pub record AnySize {A : Type 0} (g : Graph 𝓛.L A) : Type 0 where
    pub nodes : List A
    pub listed : (v : A) → Reached g v ↔ Memᴰ v nodes
    pub features : (v w : A) (f : ℕ) → Reached g v → g.link v f ≡ some w → f < 64
    pub consistent : (v : A) → Reached g v → 𝓛.contradiction (g.label v) ≡ false
    pub acyclic : (v : A) (f : ℕ) (p : List ℕ) → Reached g v → follow g.link (some v) (f ∷ p) ≡ some v → ⊥
