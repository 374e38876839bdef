-- The rows of the difference: the rows of s, as words, with only the kept links.
use Rattle.std.specs.Prelude.{◌≡◌, List, ℕ, ◌+◌, ◌*◌, ◌≤◌, ◌<◌, length, get_or}
use Rattle.layout.specs.Layout.{header, label_from, size, row_from, links_from, row_end, label_at, feature_at, Place}
use Rattle.layout.specs.Builder.{Built, Same}
use Rattle.keeping.specs.Keeping.{Stays}

module _ (s marks keep : List ℕ) where
  -- The places from `start` to `end` have the kept links of v's row before place k, in their order; what stood before stays.
  pub record Thinned (v k : ℕ) (ws₀ : List ℕ) (start : ℕ) (ws : List ℕ) (end : ℕ) : Type 0 where
    pub long : length ws ≡ length s
    pub same : Same ws₀ ws 0 start
    pub rises : start ≤ end
    pub short : end ≤ k
    pub source : (i : ℕ) → start ≤ i → i < end → (j : ℕ) × Place s v j × (j < k) × Stays s marks keep j × (get_or ws i 0 ≡ get_or s j 0)
    pub all : (j : ℕ) → Place s v j → j < k → Stays s marks keep j → (i : ℕ) × (start ≤ i) × (i < end) × (get_or ws i 0 ≡ get_or s j 0)
    pub ascending : (i : ℕ) → start ≤ i → i + 1 < end → feature_at ws i < feature_at ws (i + 1)

  -- The first v rows have the given labels and the kept links of their nodes. The first row begins where that of s does.
  pub record Rows (labels : List ℕ) (v : ℕ) (ws : List ℕ) (at : ℕ) : Type 0 where
    pub long : length ws ≡ length s
    pub sized : size ws ≡ size s
    pub built : Built ws (row_from s 0) v at
    pub short : at ≤ row_from s v
    pub labelled : (u : ℕ) → u < v → label_at ws u ≡ label_from labels (header * u)
    pub each : (u i : ℕ) → u < v → links_from ws u ≤ i → i < row_end ws u →
        (j : ℕ) × Place s u j × Stays s marks keep j × (get_or ws i 0 ≡ get_or s j 0)
    pub all : (u j : ℕ) → u < v → Place s u j → Stays s marks keep j →
        (i : ℕ) × (links_from ws u ≤ i) × (i < row_end ws u) × (get_or ws i 0 ≡ get_or s j 0)
    pub ascending : (u i : ℕ) → u < v → links_from ws u ≤ i → i + 1 < row_end ws u → feature_at ws i < feature_at ws (i + 1)

  -- All rows have the given labels and the kept links of their nodes.
  abbrev pub Kept : List ℕ → List ℕ → Type 0
  Kept labels ws = (at : ℕ) × Rows labels (size s) ws at
