-- A forest in an array: each node's parent is a node of no greater number, and a root is its own parent. The root above a node
-- represents the node's class.
use Rattle.std.specs.Prelude.{◌≡◌, List, ◌⊎◌, ℕ, zero, suc, ◌≤◌, ◌<◌, length, get_or}

-- k steps up from x
unfoldable pub climb : ℕ → List ℕ → ℕ → ℕ
climb zero parent x = x
climb (suc k) parent x = climb k parent (get_or parent x 0)

-- The root above x. Each step but the last goes to a lower number, so x steps are enough.
unfoldable pub root_of : List ℕ → ℕ → ℕ
root_of parent x = climb x parent x

-- The first `nodes` places are such a forest.
pub record Forest (nodes : ℕ) (parent : List ℕ) : Type 0 where
  pub few : nodes ≤ 510
  pub long : length parent ≡ 510
  pub down : (x : ℕ) → x < nodes → get_or parent x 0 ≤ x

-- A later forest has the same roots above all nodes.
pub record SameRoots (nodes : ℕ) (parent later : List ℕ) : Type 0 where
  pub forest : Forest nodes later
  pub same : (x : ℕ) → x < nodes → root_of later x ≡ root_of parent x

-- In a later forest the classes of a and b are one, and the others are as they were.
pub record United (nodes : ℕ) (parent : List ℕ) (a b : ℕ) (later : List ℕ) : Type 0 where
  pub forest : Forest nodes later
  pub merged : root_of later a ≡ root_of later b
  pub kept : (x y : ℕ) → x < nodes → y < nodes → root_of parent x ≡ root_of parent y → root_of later x ≡ root_of later y
  pub only : (x y : ℕ) → x < nodes → y < nodes → root_of later x ≡ root_of later y →
      (root_of parent x ≡ root_of parent y) ⊎ ((root_of parent x ≡ root_of parent a) × (root_of parent y ≡ root_of parent b)) ⊎
      ((root_of parent x ≡ root_of parent b) × (root_of parent y ≡ root_of parent a))

-- Each node's parent is its root.
pub record Flat (nodes : ℕ) (parent : List ℕ) : Type 0 where
  pub forest : Forest nodes parent
  pub near : (x : ℕ) → x < nodes → get_or parent x 0 ≡ root_of parent x
