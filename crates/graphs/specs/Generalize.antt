-- This file defines generalization, document 01's common part: what it is over paths (000, the three conditions), and the product graph
-- that computes it.
use Rattle.std.specs.Prelude.{◌≡◌, List, ◌↔◌, ℕ}
use Rattle.std.proofs.Math.Option.{Option, none, some}
use Rattle.graphs.specs.Label.{Labels}
use Rattle.graphs.specs.Graph.{Graph, walk, Corefer}

-- the pair of both targets, where both are there
abbrev pub both : {A B : Type 0} → Option A → Option B → Option (A × B)
both none o = none
both (some v) none = none
both (some v) (some w) = some (v, w)

module _ (𝓛 : Labels) {A B : Type 0} where
  -- "the paths in both, each with the join of its two types, two sharing exactly when they share in both."
  pub record IsGeneralization (g : Graph 𝓛.L A) (h : Graph 𝓛.L B) {C : Type 0} (k : Graph 𝓛.L C) : Type 0 where
    pub there : (p : List ℕ) (x : C) → walk k p ≡ some x →
        (v : A) × (w : B) × (walk g p ≡ some v) × (walk h p ≡ some w) × (k.label x ≡ 𝓛.join (g.label v) (h.label w))
    pub back : (p : List ℕ) (v : A) (w : B) → walk g p ≡ some v → walk h p ≡ some w → (x : C) × (walk k p ≡ some x)
    pub corefers : (p q : List ℕ) → Corefer k p q ↔ (Corefer g p q × Corefer h p q)

-- The product graph by a join of labels: its nodes are pairs of nodes, and a pair has the features that both of its nodes have.
unfoldable pub generalization_by : {L A B : Type 0} → (L → L → L) → Graph L A → Graph L B → Graph L (A × B)
generalization_by join g h =
    record {
      root = (g.root, h.root);
      label = λ x. join (g.label x.0) (h.label x.1);
      link = λ x f. both (g.link x.0 f) (h.link x.1 f);
    }

-- the product graph by the join of the labels 𝓛
abbrev pub generalization : (𝓛 : Labels) {A B : Type 0} → Graph 𝓛.L A → Graph 𝓛.L B → Graph 𝓛.L (A × B)
generalization 𝓛 g h = generalization_by 𝓛.join g h
