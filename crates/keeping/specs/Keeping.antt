-- Which nodes of s are kept (document 01, "Difference"): `keep` has 1 at a kept node. A link leads its group where its mark is not 0, and a mark
-- of 2 says that nothing of g lies over the link.
use Rattle.std.specs.Prelude.{◌≡◌, Bool, true, false, List, ◌⊎◌, ℕ, ◌+◌, ◌*◌, ◌≤◌, ◌<◌, length, get_or}
use Rattle.lattice.specs.Labels.{table_labels, Known}
use Rattle.layout.specs.Layout.{longest, header, label_from, size, links_from, row_end, target_at, Sound, Place, rows_end}
use Rattle.visits.specs.Walks.{TargetsFirst}

-- The kept nodes grow by exactly the nodes for which Q holds.
pub record Grown (Q : ℕ → Type 0) (keep keep' : List ℕ) : Type 0 where
  pub long : length keep' ≡ 255
  pub kept : (v : ℕ) → v < 255 → get_or keep v 0 ≡ 1 → get_or keep' v 0 ≡ 1
  pub found : (v : ℕ) → v < 255 → Q v → get_or keep' v 0 ≡ 1
  pub why : (v : ℕ) → v < 255 → get_or keep' v 0 ≡ 1 → (get_or keep v 0 ≡ 1) ⊎ Q v

-- A link of s before place k leads its group and enters v.
pub record Leads (s marks : List ℕ) (k v : ℕ) : Type 0 where
  pub node : ℕ
  pub place : ℕ
  pub link : Place s node place
  pub before : place < k
  pub leading : get_or marks place 0 ≡ 0 → ⊥
  pub enters : target_at s place ≡ v

-- Of the links before place k that enter v, two lead their groups, or one leads and has nothing of g over it.
pub data Cause (s marks : List ℕ) (k v : ℕ) : Type 0 where
  several : (a : Leads s marks k v) → Leads s marks a.place v → Cause s marks k v
  alone : (a : Leads s marks k v) → get_or marks a.place 0 ≡ 2 → Cause s marks k v

-- The nodes that the links before place k give a cause to keep are kept, and `entered` has 1 at the nodes that a leading link enters.
pub record Entering (s marks : List ℕ) (k : ℕ) (keep₀ keep entered : List ℕ) : Type 0 where
  pub grown : Grown (Cause s marks k) keep₀ keep
  pub entered-long : length entered ≡ 255
  pub met : (v : ℕ) → v < 255 → get_or entered v 0 ≡ 1 → Leads s marks k v
  pub unmet : (v : ℕ) → v < 255 → Leads s marks k v → get_or entered v 0 ≡ 1

-- `keep_one` extends `Entering` from place k to k + 1.
abbrev pub Enters : List ℕ → List ℕ → ℕ → List ℕ → List ℕ → List ℕ → List ℕ → Type 0
Enters s marks k keep entered keep' entered' =
    (keep₀ : List ℕ) → Entering s marks k keep₀ keep entered → Entering s marks (k + 1) keep₀ keep' entered'

-- The labels of `nodes` nodes are labels of a table with n types.
pub record NodeLabels (n nodes : ℕ) (labels : List ℕ) : Type 0 where
  pub long : length labels ≡ 510
  pub known : (v : ℕ) → v < nodes → Known n (label_from labels (header * v))

-- v is one of the first k nodes, and its label is not top.
abbrev pub Untop : ℕ → List ℕ → List ℕ → ℕ → ℕ → Type 0
Untop n t labels k v = (v < k) × ((table_labels n t).le (table_labels n t).top (label_from labels (header * v)) ≡ false)

-- The link at place k is kept: it leads its group and enters a kept node.
pub record Stays (s marks keep : List ℕ) (k : ℕ) : Type 0 where
  pub leads : get_or marks k 0 ≡ 0 → ⊥
  pub enters : get_or keep (target_at s k) 0 ≡ 1

-- A link between two places is kept.
abbrev pub Onward : List ℕ → List ℕ → List ℕ → ℕ → ℕ → Type 0
Onward s marks keep start end = (k : ℕ) × (start ≤ k) × (k < end) × Stays s marks keep k

-- The answer tells whether P holds.
pub record Decides (P : Type 0) (answer : Bool) : Type 0 where
  pub yes-stands : answer ≡ true → P
  pub no-stands : answer ≡ false → P → ⊥

-- The graph's links can be marked, and there are arrays for its marks and its kept nodes.
pub record Markable (s marks keep : List ℕ) : Type 0 where
  pub sound : Sound s
  pub small : size s ≤ 255
  pub short : length s ≤ longest
  pub marks-long : length marks ≡ length s
  pub keep-long : length keep ≡ 255

-- An order of the nodes in which targets come first, with each node at one place.
pub record Sorted (s order : List ℕ) : Type 0 where
  pub place : ℕ → ℕ
  pub targets-first : TargetsFirst s order place
  pub onto : (i : ℕ) → i < size s → (v : ℕ) × (v < size s) × (place v ≡ i)

-- The nodes that a kept link leaves are kept in addition. This is complete for the nodes for which `done` holds.
pub record Settled (done : ℕ → Type 0) (s marks keep keep' : List ℕ) : Type 0 where
  pub long : length keep' ≡ 255
  pub kept : (v : ℕ) → v < 255 → get_or keep v 0 ≡ 1 → get_or keep' v 0 ≡ 1
  pub found : (v : ℕ) → v < size s → done v → Onward s marks keep' (links_from s v) (row_end s v) → get_or keep' v 0 ≡ 1
  pub why : (v : ℕ) → v < size s → get_or keep' v 0 ≡ 1 → (get_or keep v 0 ≡ 1) ⊎ Onward s marks keep' (links_from s v) (row_end s v)

-- Why a node is kept: it is the root; two groups enter it, or a group with nothing of g over it does; its wanted label is not top; or a kept link
-- leaves it.
pub data Why (n : ℕ) (t s marks labels keep : List ℕ) (v : ℕ) : Type 0 where
  is_root : v ≡ 0 → Why n t s marks labels keep v
  caused : Cause s marks (rows_end s) v → Why n t s marks labels keep v
  untop : (table_labels n t).le (table_labels n t).top (label_from labels (header * v)) ≡ false → Why n t s marks labels keep v
  onward : Onward s marks keep (links_from s v) (row_end s v) → Why n t s marks labels keep v

-- Exactly the nodes with a reason are kept.
pub record Keeps (n : ℕ) (t s marks labels keep : List ℕ) : Type 0 where
  pub long : length keep ≡ 255
  pub why : (v : ℕ) → v < size s → get_or keep v 0 ≡ 1 → Why n t s marks labels keep v
  pub found : (v : ℕ) → v < size s → Why n t s marks labels keep v → get_or keep v 0 ≡ 1
