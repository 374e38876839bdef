-- The reasons for the kept links, at the places of the links (document 02, Paper 13): 1 for a link with mark 2, which nothing of g lies over; 2
-- for any other link that enters a node with two or more groups; else 3.
use Rattle.std.specs.Prelude.{◌≡◌, cond, List, ◌↔◌, ℕ, ◌<◌, eqb, length, get_or}
use Rattle.layout.specs.Layout.{longest, size, links_from, row_end, target_at, Sound, Place, rows_end}
use Rattle.layout.specs.Builder.{Same}
use Rattle.keeping.specs.Keeping.{Cause, Keeps}
use Rattle.keeping.specs.Thinning.{Kept}

-- The rows of the difference, and the kept nodes from which they are made.
pub record Made (n : ℕ) (t s marks labels words : List ℕ) : Type 0 where
  pub keep : List ℕ
  pub kept : Keeps n t s marks labels keep
  pub rows : Kept s marks keep labels words

-- The number of the reason, by the mark of a link and what `meeting` has at the node that the link enters.
unfoldable pub reason_of : ℕ → ℕ → ℕ
reason_of mark meeting = cond (eqb mark 2) 1 (cond (eqb meeting 1) 2 3)

-- The reason for the link at place j of s. `meeting` has 1 at the nodes with two or more groups, or with a group that nothing of g lies over.
abbrev pub reason_by : List ℕ → List ℕ → List ℕ → ℕ → ℕ
reason_by s marks meeting j = reason_of (get_or marks j 0) (get_or meeting (target_at s j) 0)

-- Every link of these rows is a link of s, in the row of the same node.
pub record Copied (s words : List ℕ) : Type 0 where
  pub sound : Sound words
  pub sized : size words ≡ size s
  pub long : length words ≡ length s
  pub from-s : (v i : ℕ) → Place words v i → (j : ℕ) × Place s v j × (get_or words i 0 ≡ get_or s j 0)

module _ (s marks meeting words : List ℕ) where
  -- The links of row v before place k have their reasons.
  abbrev pub RowExplained : ℕ → ℕ → List ℕ → Type 0
  RowExplained v k reasons = (i j : ℕ) → Place words v i → i < k → Place s v j → get_or words i 0 ≡ get_or s j 0 →
      get_or reasons i 0 ≡ reason_by s marks meeting j

  -- Row v gets its reasons, and the reasons before it stay.
  pub record ExplainsRow (v : ℕ) (old new : List ℕ) : Type 0 where
    pub long : length new ≡ longest
    pub kept : Same old new 0 (links_from words v)
    pub row : RowExplained v (row_end words v) new

-- All rows have their reasons.
pub record Explains (s marks words reasons : List ℕ) : Type 0 where
  pub long : length reasons ≡ longest
  pub meeting : List ℕ
  pub meets : (v : ℕ) → v < 255 → (get_or meeting v 0 ≡ 1) ↔ Cause s marks (rows_end s) v
  pub each : (v i j : ℕ) → Place words v i → Place s v j → get_or words i 0 ≡ get_or s j 0 →
      get_or reasons i 0 ≡ reason_by s marks meeting j
