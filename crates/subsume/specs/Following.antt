-- What holds while the links of one node are followed. A map takes nodes of g to nodes of s, and has 65535 where a node is not mapped; a queue
-- has the nodes that are mapped.
use Rattle.std.specs.Prelude.{◌≡◌, cond, List, [], ◌∷◌, ℕ, suc, ◌+◌, ◌≤◌, ◌<◌, eqb, length, get_or, Option, None, Some}
use Rattle.layout.specs.Layout.{links_from, row_end, feature_at, target_at}

-- `place` is the first place from `at` on whose feature is at least f, or `end` where there is none.
pub record Sought (ws : List ℕ) (at end f place : ℕ) : Type 0 where
  pub low : at ≤ place
  pub high : place ≤ end
  pub before : (k : ℕ) → at ≤ k → k < place → feature_at ws k < f
  pub found : place < end → f ≤ feature_at ws place

-- how many nodes are not mapped
unfoldable pub unmapped : List ℕ → ℕ
unmapped [] = 0
unmapped (x ∷ xs) = cond (eqb x 65535) (suc (unmapped xs)) (unmapped xs)

-- The queue has each mapped node once.
pub record Queued (map queue : List ℕ) (count : ℕ) : Type 0 where
  pub map-long : length map ≡ 255
  pub queue_long : length queue ≡ 255
  pub counted : count + unmapped map ≡ 255
  pub listed : (i : ℕ) → i < count → get_or queue i 0 < 255
  pub mapped : (i : ℕ) → i < count → get_or map (get_or queue i 0) 0 ≡ 65535 → ⊥
  pub placed : (w : ℕ) → w < 255 → (get_or map w 0 ≡ 65535 → ⊥) → (i : ℕ) × (i < count) × (get_or queue i 0 ≡ w)

-- Place k of v's row in g and place j of u's row in s have one feature.
pub record Meets (s g : List ℕ) (u v k j : ℕ) : Type 0 where
  pub g-low : links_from g v ≤ k
  pub g-high : k < row_end g v
  pub s-low : links_from s u ≤ j
  pub s-high : j < row_end s u
  pub feature : feature_at s j ≡ feature_at g k

-- The map would take w to x: w is mapped to x, or some feature leads from v to w in g and from u to x in s.
pub data Comes (s g : List ℕ) (u v : ℕ) (map : List ℕ) (w x : ℕ) : Type 0 where
  kept : (get_or map w 0 ≡ 65535 → ⊥) → get_or map w 0 ≡ x → Comes s g u v map w x
  led : (k j : ℕ) → Meets s g u v k j → target_at g k ≡ w → target_at s j ≡ x → Comes s g u v map w x

-- Why s is not below g: s lacks a link of g, or the map would take one node of g to two nodes of s.
pub data Clash (s g : List ℕ) (u v : ℕ) (map : List ℕ) : Type 0 where
  lacks : (k : ℕ) → links_from g v ≤ k → k < row_end g v → ((j : ℕ) → links_from s u ≤ j → j < row_end s u → feature_at s j ≡ feature_at g k → ⊥) →
      Clash s g u v map
  splits : (w x y : ℕ) → w < 255 → Comes s g u v map w x → Comes s g u v map w y → (x ≡ y → ⊥) → Clash s g u v map

module _ (s g : List ℕ) (u v : ℕ) where
  -- The row of v in g is followed up to place `end`: its targets are mapped, and nodes that were mapped before stay mapped as they were.
  pub record Followed (map queue : List ℕ) (count : ℕ) (later longer : List ℕ) (more end : ℕ) : Type 0 where
    pub queued : Queued later longer more
    pub grows : count ≤ more
    pub keeps : (w : ℕ) → w < 255 → (get_or map w 0 ≡ 65535 → ⊥) → get_or later w 0 ≡ get_or map w 0
    pub stays : (i : ℕ) → i < count → get_or longer i 0 ≡ get_or queue i 0
    pub comes : (w : ℕ) → w < 255 → (get_or later w 0 ≡ 65535 → ⊥) → Comes s g u v map w (get_or later w 0)
    pub leads : (k : ℕ) → links_from g v ≤ k → k < end → (j : ℕ) × Meets s g u v k j × (get_or later (target_at g k) 0 ≡ target_at s j)

  -- The answer is the new length of the queue, or none for a clash.
  abbrev pub Follows : (map queue : List ℕ) (count : ℕ) (later longer : List ℕ) → Option ℕ → Type 0
  Follows map queue count later longer None = Clash s g u v map
  Follows map queue count later longer (Some more) = Followed map queue count later longer more (row_end g v)
