-- "nodes and links of g lie over those of s" (document 01, "Difference"): which links of g lie over which links of s, the owner of each
-- link of s, and the classes of the nodes of g. The code of `cover` promises these facts. A link is given by its place in the words of its
-- graph.
use Rattle.std.specs.Prelude.{◌≡◌, List, ℕ, ◌≤◌, ◌<◌, length, get_or, set}
use Rattle.layout.specs.Layout.{longest, size, feature_at, target_at, Recorded, Place, rows_end}
use Rattle.classes.specs.Forest.{Forest, United, root_of}

module _ (s g map : List ℕ) where
  -- s and g are graphs of records, and `map` takes each node of g to a node of s. Whenever a node of g has a link, the node of s that `map`
  -- has for that node has a link by the same feature.
  pub record Lying : Type 0 where
    pub lower : Recorded s
    pub upper : Recorded g
    pub short : length s ≤ longest
    pub mapped : (y : ℕ) → y < size g → get_or map y 0 < size s
    pub found : (y i : ℕ) → Place g y i → (j : ℕ) × Place s (get_or map y 0) j × (feature_at s j ≡ feature_at g i)

  -- place i of g lies over place j of s
  pub record Over (i j : ℕ) : Type 0 where
    pub node : ℕ
    pub place : Place g node i
    pub under : Place s (get_or map node 0) j
    pub feature : feature_at s j ≡ feature_at g i

  -- A link of g at a place before `bound` lies over place j and enters z.
  abbrev pub Covers : ℕ → ℕ → ℕ → Type 0
  Covers bound j z = (i : ℕ) × (i < bound) × Over i j × (target_at g i ≡ z)

  -- Nodes x and y of g are tied when a link that enters x and a link that enters y lie over one link of s. The relation is closed to an
  -- equivalence.
  pub data Tied : ℕ → ℕ → Type 0 where
    same : {x : ℕ} → Tied x x
    shared : {x y : ℕ} (j : ℕ) → Covers (rows_end g) j x → Covers (rows_end g) j y → Tied x y
    back : {x y : ℕ} → Tied x y → Tied y x
    next : {x y z : ℕ} → Tied x y → Tied y z → Tied x z

  -- Owners and classes are complete for the links of g before place `bound`. The owner of a link of s is a node of g that some link over it
  -- enters, or 65535 for no owner. All nodes that links before `bound` over one link of s enter are in the class of that link's owner, and
  -- nodes of one class are tied.
  pub record Grouping (bound : ℕ) (owner parent : List ℕ) : Type 0 where
    pub owner-long : length owner ≡ length s
    pub forest : Forest (size g) parent
    pub owned : (j : ℕ) → j < length owner → (get_or owner j 0 ≡ 65535 → ⊥) → Covers (rows_end g) j (get_or owner j 0)
    pub covered : (j z : ℕ) → Covers bound j z → (get_or owner j 0 ≡ 65535 → ⊥) × (root_of parent (get_or owner j 0) ≡ root_of parent z)
    pub tied : (x y : ℕ) → x < size g → y < size g → root_of parent x ≡ root_of parent y → Tied x y

-- `owner` has a word for each place of s, and no place has an owner yet.
pub record Unowned (s owner : List ℕ) : Type 0 where
  pub long : length owner ≡ length s
  pub none : (j : ℕ) → j < length owner → get_or owner j 0 ≡ 65535

-- If place j has no owner, z becomes its owner. Else the owner stays, and the classes of the owner and of z become one.
pub record Owns (owner parent : List ℕ) (j z : ℕ) (owner' parent' : List ℕ) : Type 0 where
  pub first : get_or owner j 0 ≡ 65535 → (owner' ≡ set owner j z) × (parent' ≡ parent)
  pub later : (get_or owner j 0 ≡ 65535 → ⊥) → (owner' ≡ owner) ×
      ((nodes : ℕ) → Forest nodes parent → get_or owner j 0 < nodes → z < nodes → United nodes parent (get_or owner j 0) z parent')
