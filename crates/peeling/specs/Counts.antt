-- This file states the contracts of the functions that count the links of a graph and take its sources away. A source is a node that no
-- link enters. `incoming` counts for each node the links that still enter it, and `queue` lists the nodes that no counted link enters.
use Rattle.std.specs.Prelude.{◌≡◌, Bool, true, false, cond, List, ℕ, ⊤, Result, Ok, Err, zero, suc, ◌+◌, ◌≤◌, ◌<◌, eqb, leb, length, get_or}
use Rattle.layout.specs.Layout.{size, links_from, row_end, label_at, target_at, Shaped, Sound}
use Rattle.visits.specs.Colouring.{whites}
use Rattle.visits.specs.Walks.{Leads, Reaches}
use Rattle.peeling.specs.Range.{label_in_range}
use Rattle.peeling.specs.declared.Unrooted.{Unrooted}
use Rattle.peeling.specs.declared.Unrooted.TheVariants.{Cyclic, Apart}

-- 1 where the link counts and its target is w, else 0
unfoldable pub hit : Bool → ℕ → ℕ → ℕ
hit counts target w = cond counts (cond (eqb target w) 1 0) 0

-- how many of the links that stand from place `start` up to a place lead to w
unfoldable pub among : List ℕ → ℕ → ℕ → ℕ → ℕ
among ws w start zero = 0
among ws w start (suc k) = among ws w start k + hit (leb start k) (target_at ws k) w

-- how many of the links of node v lead to w
abbrev pub into : List ℕ → ℕ → ℕ → ℕ
into ws w v = among ws w (links_from ws v) (row_end ws v)

-- how many links lead to w from those of the first nodes that count
unfoldable pub entering : (ℕ → Bool) → List ℕ → ℕ → ℕ → ℕ
entering counts ws w zero = 0
entering counts ws w (suc v) = entering counts ws w v + cond (counts v) (into ws w v) 0

-- `incoming` counts the links of the nodes before v.
pub record Counted (ws : List ℕ) (v : ℕ) (incoming : List ℕ) : Type 0 where
  pub shaped : Shaped ws
  pub small : size ws ≤ 255
  pub long : length incoming ≡ 255
  pub counts : (w : ℕ) → w < 255 → get_or incoming w 0 ≡ entering (λ _. true) ws w v

-- every target of node v is a node
abbrev pub Within : List ℕ → ℕ → Type 0
Within ws v = (k : ℕ) → links_from ws v ≤ k → k < row_end ws v → target_at ws k < size ws

-- An answer to whether every target of node v is a node. After a yes, `incoming` counts the links of v too.
pub record RowCount (ws : List ℕ) (v : ℕ) (answer : Bool) (incoming : List ℕ) : Type 0 where
  pub yes-stands : answer ≡ true → Within ws v × Counted ws (v + 1) incoming
  pub no-stands : answer ≡ false → Within ws v → ⊥

-- no lowest level is above the highest
abbrev pub LevelsOrdered : List ℕ → Type 0
LevelsOrdered ws = (v : ℕ) → v < size ws → (label_at ws v).lowest ≤ (label_at ws v).highest

-- every label is in range, and every target is a node
pub record Ranged (n : ℕ) (ws : List ℕ) : Type 0 where
  pub labels : (v : ℕ) → v < size ws → label_in_range n (label_at ws v) ≡ true
  pub targets : (v : ℕ) → v < size ws → Within ws v

-- An answer to whether every label is in range and every target is a node. After a yes, `incoming` counts all links.
pub record Count (n : ℕ) (ws : List ℕ) (answer : Bool) (incoming : List ℕ) : Type 0 where
  pub yes-stands : answer ≡ true → Ranged n ws × Counted ws (size ws) incoming
  pub no-stands : answer ≡ false → Ranged n ws → ⊥

-- The first `count` entries of the queue are the nodes that no counted link enters, each once.
pub record Queued (nodes : ℕ) (incoming queue : List ℕ) (count : ℕ) : Type 0 where
  pub roomy : length queue ≡ 255
  pub filled : count ≡ whites nodes incoming
  pub listed : (i : ℕ) → i < count → get_or queue i 0 < nodes
  pub clear : (i : ℕ) → i < count → get_or incoming (get_or queue i 0) 0 ≡ 0
  pub found : (w : ℕ) → w < nodes → get_or incoming w 0 ≡ 0 → (i : ℕ) × (i < count) × (get_or queue i 0 ≡ w)
  pub distinct : (i j : ℕ) → i < j → j < count → get_or queue i 0 ≡ get_or queue j 0 → ⊥

-- `incoming` still counts the links of node v.
pub record RowDue (ws : List ℕ) (v : ℕ) (incoming queue : List ℕ) (queued : ℕ) : Type 0 where
  pub sound : Sound ws
  pub small : size ws ≤ 255
  pub inside : v < size ws
  pub long : length incoming ≡ 255
  pub listing : Queued (size ws) incoming queue queued
  pub due : (w : ℕ) → w < size ws → into ws w v ≤ get_or incoming w 0

-- The links of node v before place `end` are taken away: `later` and `line` are what `incoming` and `queue` have become.
pub record RowTaken (ws : List ℕ) (v end : ℕ) (incoming queue : List ℕ) (queued : ℕ) (later line : List ℕ) (count : ℕ) : Type 0 where
  pub long : length later ≡ 255
  pub listing : Queued (size ws) later line count
  pub taken : (w : ℕ) → w < size ws → get_or later w 0 + among ws w (links_from ws v) end ≡ get_or incoming w 0
  pub more : queued ≤ count
  pub same : (i : ℕ) → i < queued → get_or line i 0 ≡ get_or queue i 0

-- Every node has a place, and every link leads to a node at an earlier place.
pub record Earlier (ws : List ℕ) (place : ℕ → ℕ) : Type 0 where
  pub inside : (v : ℕ) → v < size ws → place v < size ws
  pub earlier : (v w : ℕ) → Leads ws v w → place w < place v

-- What the answer tells. Cyclic: some node reaches itself. Otherwise the nodes have places so that every link leads to an earlier one.
-- Apart: no link enters some node beside the root. Ok: a link enters every node but the root.
pub record Peels (ws : List ℕ) (answer : Result ⊤ Unrooted) : Type 0 where
  pub cyclic-stands : answer ≡ Err Cyclic → (v : ℕ) × Reaches ws v v
  pub sorted : (answer ≡ Err Cyclic → ⊥) → (place : ℕ → ℕ) × Earlier ws place
  pub rooted-stands : answer ≡ Ok tt → (w : ℕ) → 0 < w → w < size ws → (v : ℕ) × Leads ws v w
  pub apart-stands : answer ≡ Err Apart → (w : ℕ) × (0 < w) × (w < size ws) × ((v : ℕ) → Leads ws v w → ⊥)
