-- The merge of two rows. The places of a pool have links, one word each; a row is a span of places whose features ascend. Pairs of nodes that are
-- to be joined wait in a list, one word each.
use Rattle.std.specs.Prelude.{◌≡◌, cond, List, ◌⊎◌, ℕ, suc, ◌+◌, ◌*◌, ◌/◌, ◌%◌, ◌≤◌, ◌<◌, ltb, length, get_or}
use Rattle.layout.specs.Layout.{scale, feature_at, target_at}
use Rattle.classes.specs.declared.rows.Reach.{Reach}

-- A span of places with ascending features below 64, before the place `used`.
pub record Span (pool : List ℕ) (used start end : ℕ) : Type 0 where
  pub rising : start ≤ end
  pub before : end ≤ used
  pub known : (k : ℕ) → start ≤ k → k < end → feature_at pool k < 64
  pub ascending : (k : ℕ) → start ≤ k → suc k < end → feature_at pool k < feature_at pool (suc k)

-- There is room for the row that two rows are merged into: at most 64 places, and no more than both have.
abbrev pub Places : ℕ → ℕ → ℕ → ℕ → ℕ → ℕ → Type 0
Places room used a₀ a₁ b₀ b₁ = (k : ℕ) → k < used + 64 → k + (a₀ + b₀) < used + (a₁ + b₁) → k < room

-- the feature at a place of a row, 64 past its end
abbrev pub feature_or : List ℕ → ℕ → ℕ → ℕ
feature_or pool k end = cond (ltb k end) (feature_at pool k) 64

-- The word of a pair of nodes.
abbrev pub pair_word : ℕ → ℕ → ℕ
pair_word x y = x * scale + y

-- The first node of the pair that waits at place i.
abbrev pub left_at : List ℕ → ℕ → ℕ
left_at waiting i = get_or waiting i 0 / scale

-- The second node of the pair that waits at place i.
abbrev pub right_at : List ℕ → ℕ → ℕ
right_at waiting i = get_or waiting i 0 % scale

-- The places from `used` to `at` have the links of a row from a₀ to a₁ and of a row from b₀ to b₁, one link for each feature. Where both rows
-- have a feature, the target of the first is kept, and the pair of both targets is added to those that wait, which then stand from `count` to
-- `top`.
pub record Merged (a₀ a₁ b₀ b₁ : ℕ) (pool waiting : List ℕ) (used count : ℕ) (pool' waiting' : List ℕ) (at top : ℕ) : Type 0 where
  pub pool-long : length pool' ≡ length pool
  pub waiting-long : length waiting' ≡ length waiting
  pub pool-kept : (k : ℕ) → k < used → get_or pool' k 0 ≡ get_or pool k 0
  pub waiting_kept : (i : ℕ) → i < count → get_or waiting' i 0 ≡ get_or waiting i 0
  pub rises : used ≤ at
  pub grows : count ≤ top
  pub counted : at + top + (a₀ + b₀) ≡ used + count + (a₁ + b₁)
  pub ascending : (k : ℕ) → used ≤ k → suc k < at → feature_at pool' k < feature_at pool' (suc k)
  -- So a row has at most 64 places.
  pub short : (k : ℕ) → used ≤ k → k < at → k ≤ used + feature_at pool' k
  pub source : (k : ℕ) → used ≤ k → k < at →
      (j : ℕ) × (((a₀ ≤ j) × (j < a₁)) ⊎ ((b₀ ≤ j) × (j < b₁))) × (get_or pool' k 0 ≡ get_or pool j 0)
  pub pair : (i : ℕ) → count ≤ i → i < top →
      (j : ℕ) × (k : ℕ) × (a₀ ≤ j) × (j < a₁) × (b₀ ≤ k) × (k < b₁) × (feature_at pool j ≡ feature_at pool k) ×
      (left_at waiting' i ≡ target_at pool j) × (right_at waiting' i ≡ target_at pool k)
  pub first : (j : ℕ) → a₀ ≤ j → j < a₁ → (k : ℕ) × (used ≤ k) × (k < at) × (get_or pool' k 0 ≡ get_or pool j 0)
  pub second : (j : ℕ) → b₀ ≤ j → j < b₁ →
      (k : ℕ) × (used ≤ k) × (k < at) × (feature_at pool' k ≡ feature_at pool j) ×
      ((target_at pool' k ≡ target_at pool j) ⊎
      ((i : ℕ) × (count ≤ i) × (i < top) × (left_at waiting' i ≡ target_at pool' k) × (right_at waiting' i ≡ target_at pool j)))

-- The same, with the used places and the waiting pairs given as reaches.
abbrev pub Merges : ℕ → ℕ → ℕ → ℕ → List ℕ → List ℕ → Reach → List ℕ → List ℕ → Reach → Type 0
Merges a₀ a₁ b₀ b₁ pool waiting reach pool' waiting' reach' =
    Merged a₀ a₁ b₀ b₁ pool waiting reach.used reach.count pool' waiting' reach'.used reach'.count

-- The rows of the nodes lo and hi are merged.
abbrev pub MergesRows : ℕ → ℕ → List ℕ → List ℕ → List ℕ → List ℕ → Reach → List ℕ → List ℕ → Reach → Type 0
MergesRows lo hi start end = Merges (get_or start lo 0) (get_or end lo 0) (get_or start hi 0) (get_or end hi 0)
