-- This file states the laws of a difference d of g and s, over a map `over` from the nodes of g to those of s. A group of links of s is
-- named by its leader, `lead`, and `keep` tells the nodes that d keeps; both are functions with laws on reached nodes. That d restores s,
-- and that nothing more general does, follows from these laws, however groups and kept nodes are computed.
use mathlib.Core.Path.{◌≡◌}
use mathlib.Core.Bool.{Bool, true, false}
use mathlib.Core.Logic.{◌↔◌}
use mathlib.Core.Option.{Option, some}
use Prim.Native.Nat.{ℕ}
use Rattle.graphs.specs.Label.{Labels}
use Rattle.graphs.specs.Graph.{Graph, Reached}
use Rattle.graphs.specs.Difference.{Link}
use Rattle.graphs.specs.Relations.{Into, Grouped}

-- l is the leader of its group at v
abbrev pub Leader : {L A : Type 0} → Graph L A → (A → Link A → Link A) → A → Link A → Type 0
Leader s lead v l = Into s v l × (lead v l ≡ l)

-- a link of g that lies over l, by the map, enters z
abbrev pub Enters : {L A B : Type 0} → Graph L B → (B → A) → B → Link A → Type 0
Enters {B = B} g over z l = (y : B) × Reached g y × (over y ≡ l.0) × (g.link y l.1 ≡ some z)

-- a lies below the labels of g over v
abbrev pub UnderOver : (𝓛 : Labels) {A B : Type 0} → Graph 𝓛.L B → (B → A) → A → 𝓛.L → Type 0
UnderOver 𝓛 {B = B} g over v a = (y : B) → Reached g y → over y ≡ v → 𝓛.le a (g.label y) ≡ true

module _ (𝓛 : Labels) {A B : Type 0} (s : Graph 𝓛.L A) (g : Graph 𝓛.L B) (over : B → A)
    (lead : A → Link A → Link A) (keep : A → Bool) (wanted : A → 𝓛.L) where
  -- why a node is kept
  pub data Reason (v : A) : Type 0 where
    at_root : v ≡ s.root → Reason v
    two_groups : (l m : Link A) → Leader s lead v l → Leader s lead v m → (l ≡ m → ⊥) → Reason v
    bare_group : (l : Link A) → Leader s lead v l → ((z : B) → Enters g over z l → ⊥) → Reason v
    own_label : 𝓛.le 𝓛.top (wanted v) ≡ false → Reason v
    kept_below : (f : ℕ) (w : A) → Leader s lead w (v, f) → keep w ≡ true → Reason v

  -- what is known of a node that is not kept
  pub record Idle (v : A) : Type 0 where
    pub one_group : (l m : Link A) → Leader s lead v l → Leader s lead v m → l ≡ m
    pub covered : (l : Link A) → Leader s lead v l → (z : B) × Enters g over z l
    pub no_label : 𝓛.le 𝓛.top (wanted v) ≡ true
    pub none_below : (f : ℕ) (w : A) → Leader s lead w (v, f) → keep w ≡ false

  -- The laws of the graph with the links `kept`.
  pub record DifferenceLaws (kept : A → ℕ → Option A) : Type 0 where
    pub one-lead : (z : B) (l m : Link A) → Enters g over z l → Enters g over z m → lead (over z) l ≡ lead (over z) m
    pub grouped : (v : A) (l : Link A) → Into s v l → Grouped s g v l (lead v l)
    pub leads : (v : A) (l : Link A) → Into s v l → Leader s lead v (lead v l)
    pub root_kept : keep s.root ≡ true
    pub reason : (v : A) → Reached s v → keep v ≡ true → Reason v
    pub idle : (v : A) → Reached s v → keep v ≡ false → Idle v
    -- the links of the difference are the leaders into kept nodes
    pub links : (u : A) (f : ℕ) (v : A) → Reached s u → (kept u f ≡ some v) ↔ (Leader s lead v (u, f) × (keep v ≡ true))
    -- the wanted label lies above the label of s, restores it, and is the greatest that does
    pub above : (v : A) → Reached s v → 𝓛.le (s.label v) (wanted v) ≡ true
    pub restores : (v : A) → Reached s v → (a : 𝓛.L) → 𝓛.le a (wanted v) ≡ true → UnderOver 𝓛 g over v a →
        𝓛.le a (s.label v) ≡ true
    pub greatest : (v : A) → Reached s v → (c : 𝓛.L) → 𝓛.le (s.label v) c ≡ true →
        ((a : 𝓛.L) → 𝓛.le a c ≡ true → UnderOver 𝓛 g over v a → 𝓛.le a (s.label v) ≡ true) → 𝓛.le c (wanted v) ≡ true

-- the graph on the nodes of s with the links kept
abbrev pub with_links : {L A : Type 0} → Graph L A → (A → L) → (A → ℕ → Option A) → Graph L A
with_links s wanted kept = record { root = s.root; label = wanted; link = kept }
