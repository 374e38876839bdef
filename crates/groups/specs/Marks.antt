-- The marks of the links of s, by an order of links (document 01, "Difference"). A mark is 2 where nothing of g lies over the link, which is
-- then a group alone. Else the mark is 1 where no link of the same group comes before the link, and 0 where one does.
use Rattle.std.specs.Prelude.{◌≡◌, Bool, true, List, ◌⊎◌, ℕ, ◌≤◌, ◌<◌, length, get_or}
use Rattle.graphs.specs.Difference.{Link}
use Rattle.layout.specs.Layout.{longest, feature_at, Shaped, Place, rows_end}
use Rattle.classes.specs.Forest.{Flat, root_of}
use Rattle.cover.specs.Cover.{Grouping}

-- the link l stands at place k
pub record At (ws : List ℕ) (k : ℕ) (l : Link ℕ) : Type 0 where
  pub place : Place ws l.0 k
  pub feature : feature_at ws k ≡ l.1

-- the link at place j comes before the link at place k
abbrev pub Earlier : (Link ℕ → Link ℕ → Bool) → List ℕ → ℕ → ℕ → Type 0
Earlier earlier s j k = (l : Link ℕ) × (m : Link ℕ) × At s j l × At s k m × (earlier l m ≡ true)

-- the rank of the feature at place k
abbrev pub rank_at : List ℕ → List ℕ → ℕ → ℕ
rank_at s rank k = get_or rank (feature_at s k) 0

-- The link at place j comes before the link at place k by rank, then by place.
abbrev pub Sooner : List ℕ → List ℕ → ℕ → ℕ → Type 0
Sooner s rank j k = (rank_at s rank j < rank_at s rank k) ⊎ ((rank_at s rank j ≡ rank_at s rank k) × (j < k))

-- place k has an owner
abbrev pub Has : List ℕ → ℕ → Type 0
Has owner k = get_or owner k 0 ≡ 65535 → ⊥

-- Only links of s have owners, each owner is one of `nodes` nodes, and `parent` has for each of these nodes the root of its class.
pub record Owned (s owner parent : List ℕ) : Type 0 where
  pub shaped : Shaped s
  pub short : length s ≤ longest
  pub long : length owner ≡ length s
  pub nodes : ℕ
  pub few : nodes ≤ 255
  pub flat : Flat nodes parent
  pub low : (j : ℕ) → j < length owner → Has owner j → get_or owner j 0 < nodes
  pub linked : (j : ℕ) → j < length owner → Has owner j → (u : ℕ) × Place s u j

module _ (owner parent : List ℕ) where
  -- the class of the owner of place k
  abbrev pub class_at : ℕ → ℕ
  class_at k = root_of parent (get_or owner k 0)

  -- places j and k have owners of one class
  pub record Together (j k : ℕ) : Type 0 where
    pub left : Has owner j
    pub right : Has owner k
    pub class : class_at j ≡ class_at k

  -- The mark of place k, where `Before` is an order of places: 0 if a place with an owner of the same class comes before place k, 1 if none
  -- does, and 2 if place k has no owner.
  pub data Mark (Before : ℕ → ℕ → Type 0) (k mark : ℕ) : Type 0 where
    follows : mark ≡ 0 → (j : ℕ) → j < length owner → Before j k → Together j k → Mark Before k mark
    leads : mark ≡ 1 → Has owner k → ((j : ℕ) → j < length owner → Before j k → Together j k → ⊥) → Mark Before k mark
    bare : mark ≡ 2 → get_or owner k 0 ≡ 65535 → Mark Before k mark

-- all links of s are marked
pub record Marks (Before : ℕ → ℕ → Type 0) (s owner parent marks : List ℕ) : Type 0 where
  pub long : length marks ≡ length s
  pub each : (v k : ℕ) → Place s v k → Mark owner parent Before k (get_or marks k 0)

-- The mark of place k so far. `lead` has for each class the place of its first link so far, by rank and then by place, and 65535 where no
-- link of the class is met.
pub data Standing (s owner parent rank lead : List ℕ) (k mark : ℕ) : Type 0 where
  stands-behind : mark ≡ 0 → Has owner k → get_or lead (class_at owner parent k) 0 < length owner →
      Sooner s rank (get_or lead (class_at owner parent k) 0) k → Standing s owner parent rank lead k mark
  stands-first : mark ≡ 1 → Has owner k → get_or lead (class_at owner parent k) 0 ≡ k → Standing s owner parent rank lead k mark
  stands-bare : mark ≡ 2 → get_or owner k 0 ≡ 65535 → Standing s owner parent rank lead k mark

-- the links of s before place `bound` are met and marked
pub record Marking (s owner parent rank : List ℕ) (bound : ℕ) (lead marks : List ℕ) : Type 0 where
  pub long : length marks ≡ length s
  pub lead-long : length lead ≡ 255
  pub met : (c : ℕ) → c < 255 → (get_or lead c 0 ≡ 65535 → ⊥) →
      (get_or lead c 0 < bound) × Has owner (get_or lead c 0) × (class_at owner parent (get_or lead c 0) ≡ c)
  pub each : (v k : ℕ) → Place s v k → k < bound → Standing s owner parent rank lead k (get_or marks k 0)

-- All links of s are marked by an order of links, and the owners and classes are complete for all links of g.
pub record Marked (earlier : Link ℕ → Link ℕ → Bool) (s g map marks : List ℕ) : Type 0 where
  pub owner : List ℕ
  pub parent : List ℕ
  pub grouping : Grouping s g map (rows_end g) owner parent
  pub stands : Marks (Earlier earlier s) s owner parent marks
