-- Defines the wanted type and the wanted range of a node of s, over paths, for the difference of g and s (document 01, "Difference"; document 02,
-- Papers 6 and 7). n and t are the table.
use Rattle.std.specs.Prelude.{◌≡◌, true, List, ℕ, ◌≤◌, ◌<◌, min, max}
use Rattle.std.proofs.Math.Option.{some}
use Rattle.graphs.specs.Graph.{Graph, walk, Reached}
use Rattle.lattice.specs.Label.{Label}
use Rattle.lattice.specs.Table.{below, meet}

module _ (n : ℕ) (t : List ℕ) {A B : Type 0} (s : Graph Label A) (g : Graph Label B) where
  -- a type is below each type of g over the node v: "Each path of g leads to one node of s, so nodes and links of g lie over those of s"
  abbrev pub TypeBelowOver : A → ℕ → Type 0
  TypeBelowOver v a = (p : List ℕ) (y : B) → walk s p ≡ some v → walk g p ≡ some y → below t a (g.label y).type ≡ true

  -- "the meet of all g types over this node (top if none)": the greatest type that is below each of them.
  pub record TypeOver (v : A) (q : ℕ) : Type 0 where
    pub known : q < n
    pub under : TypeBelowOver v q
    pub greatest : (b : ℕ) → b < n → TypeBelowOver v b → below t b q ≡ true

  -- "The wanted type is the greatest type whose meet with the meet of all g types over this node (top if none) equals the type in s."
  pub record WantedType (v : A) (c : ℕ) : Type 0 where
    pub over : ℕ
    pub is-over : TypeOver v over
    pub known : c < n
    pub restores : meet n t c over ≡ some (s.label v).type
    pub greatest : (d : ℕ) → d < n → meet n t d over ≡ some (s.label v).type → below t d c ≡ true

  -- "some node of s has no wanted type: among the types whose meet with the general side's meet there equals the type in s, none is the
  -- greatest"
  abbrev pub SomeUnwanted : Type 0
  SomeUnwanted = (v : A) × Reached s v × ((c : ℕ) → WantedType v c → ⊥)

-- a range lies in each range of g over the node v
abbrev pub RangeInOver : {A B : Type 0} → Graph Label A → Graph Label B → A → ℕ → ℕ → Type 0
RangeInOver {B = B} s g v lowest highest =
    (p : List ℕ) (y : B) → walk s p ≡ some v → walk g p ≡ some y → ((g.label y).lowest ≤ lowest) × (highest ≤ (g.label y).highest)

-- "The wanted range is the widest whose overlap with the general side's (full where nothing of g lies over) equals that of s." The general side's
-- range is the widest range that lies in each range of g over the node.
pub record WantedRange {A B : Type 0} (s : Graph Label A) (g : Graph Label B) (v : A) (lowest highest : ℕ) : Type 0 where
  pub low : ℕ
  pub high : ℕ
  pub inside : RangeInOver s g v low high
  pub widest-inside : (l h : ℕ) → h ≤ 255 → RangeInOver s g v l h → (low ≤ l) × (h ≤ high)
  pub overlap : (max lowest low ≡ (s.label v).lowest) × (min highest high ≡ (s.label v).highest)
  pub widest : (l h : ℕ) → h ≤ 255 → (max l low ≡ (s.label v).lowest) × (min h high ≡ (s.label v).highest) → (lowest ≤ l) × (h ≤ highest)
