-- Classes of nodes (document 01: "the smallest equivalence that holds both graphs' sharing and passes down equal features"). Each
-- node has a row, a span of places that hold its links.
use Rattle.std.specs.Prelude.{◌≡◌, cond, List, ◌⊎◌, ℕ, zero, suc, ◌+◌, ◌-◌, ◌*◌, ◌≤◌, ◌<◌, eqb, length, get_or}
use Rattle.layout.specs.Layout.{feature_at, target_at}
use Rattle.classes.specs.Merge.{Span}

-- the sum of the first n values of a function
unfoldable pub sum_to : ℕ → (ℕ → ℕ) → ℕ
sum_to zero g = 0
sum_to (suc n) g = sum_to n g + g n

-- the length of a class's row, 0 for a node that represents no class
abbrev pub row_length : (ℕ → ℕ) → List ℕ → List ℕ → ℕ → ℕ
row_length class start end x = cond (eqb (class x) x) (get_or end x 0 - get_or start x 0) 0

-- the number of links of all nodes
abbrev pub links_of : ℕ → List ℕ → List ℕ → ℕ
links_of nodes start end = sum_to nodes (row_length (λ x. x) start end)

-- There is room for all joins. There are fewer joins than nodes, and a join takes at most 64 places and no more than there are links.
pub record Roomy (nodes links used room : ℕ) : Type 0 where
  pub width : ℕ
  pub enough : (64 ≤ width) ⊎ (links ≤ width)
  pub fits : used + width * (nodes - 1) ≤ room

-- Place k is in the row of node x.
abbrev pub At : List ℕ → List ℕ → ℕ → ℕ → Type 0
At start end x k = (get_or start x 0 ≤ k) × (k < get_or end x 0)

-- The nodes have rows, which stand before the place `used`.
pub record Rows (nodes : ℕ) (start end pool : List ℕ) (used : ℕ) : Type 0 where
  pub some : 0 < nodes
  pub few : nodes ≤ 510
  pub start-long : length start ≡ 510
  pub end-long : length end ≡ 510
  pub span : (x : ℕ) → x < nodes → Span pool used (get_or start x 0) (get_or end x 0)
  pub within : (x k : ℕ) → x < nodes → At start end x k → target_at pool k < nodes

-- The smallest equivalence that relates node 0 to the node `second` and passes down equal features.
pub data Same (nodes second : ℕ) (start end pool : List ℕ) : ℕ → ℕ → Type 0 where
  roots : Same nodes second start end pool 0 second
  itself : {x : ℕ} → x < nodes → Same nodes second start end pool x x
  back : {x y : ℕ} → Same nodes second start end pool x y → Same nodes second start end pool y x
  next : {x y z : ℕ} → Same nodes second start end pool x y → Same nodes second start end pool y z → Same nodes second start end pool x z
  down : {x y j k : ℕ} → Same nodes second start end pool x y → x < nodes → y < nodes → At start end x j → At start end y k →
      feature_at pool j ≡ feature_at pool k → Same nodes second start end pool (target_at pool j) (target_at pool k)

-- `class` gives the lowest node of each class. That node has the class's row: the links of the nodes of the class, one for each feature.
pub record Closed (nodes second : ℕ) (start end pool : List ℕ) (class start' end' pool' : List ℕ) (used : ℕ) : Type 0 where
  pub class-long : length class ≡ 510
  pub lowest : (x : ℕ) → x < nodes → get_or class x 0 ≤ x
  pub itself : (x : ℕ) → x < nodes → get_or class (get_or class x 0) 0 ≡ get_or class x 0
  pub related : (x : ℕ) → x < nodes → Same nodes second start end pool x (get_or class x 0)
  pub together : get_or class 0 0 ≡ get_or class second 0
  pub rows : Rows nodes start' end' pool' used
  pub bounded : used ≤ 37692
  pub room : used ≤ length pool'
  pub short : sum_to nodes (row_length (λ x. get_or class x 0) start' end') ≤ links_of nodes start end
  pub source : (c k : ℕ) → c < nodes → At start' end' c k →
      (x : ℕ) × (j : ℕ) × (x < nodes) × At start end x j × Same nodes second start end pool c x × (get_or pool j 0 ≡ get_or pool' k 0)
  pub kept : (x j : ℕ) → x < nodes → At start end x j →
      (k : ℕ) × At start' end' (get_or class x 0) k × (feature_at pool' k ≡ feature_at pool j) ×
      (get_or class (target_at pool' k) 0 ≡ get_or class (target_at pool j) 0)
