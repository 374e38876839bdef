-- This file defines the reason beside each kept link (document 02, Paper 13). The file computes the number of a link's reason, lists the
-- links of a graph "in record order", and says what a reason tells of the two graphs.
use Rattle.std.specs.Prelude.{◌≡◌, Bool, cond, List, [], ◌∷◌, ◌++◌, map, reverse, ◌↔◌, ◌⊎◌, ℕ, suc}
use Rattle.std.proofs.Math.Option.{Option, none, some}
use Rattle.graphs.specs.Graph.{Graph}
use Rattle.graphs.specs.Rows.{Row, features, links_of}
use Rattle.graphs.specs.Number.{visit}
use Rattle.graphs.specs.Difference.{Link, bare, differ, leaders}
use Rattle.graphs.specs.Relations.{SomethingOver, NothingOver, TwoGroups, KeptLink}

-- "1 when nothing of the general graph lies over the link; else 2 when the node it enters has two or more groups; else 3": the reason for
-- a link of s that enters v
unfoldable pub reason_at :
    {L A B : Type 0} (sameA : A → A → Bool) (sameB : B → B → Bool) (s : Graph L A) (ss : List A) (g : Graph L B) (gs : List B)
    (over : B → A) (earlier : Link A → Link A → Bool) → Link A → A → ℕ
reason_at sameA sameB s ss g gs over earlier l v =
    cond (bare sameA sameB s ss g gs over l) 1
    (cond (differ sameA sameB s ss g gs over (leaders sameA sameB s ss g gs over earlier v)) 2 3)

-- the nodes that a visit finds, in the order in which it finds them
abbrev pub order_in : {A : Type 0} → Option (List A) → List A
order_in none = []
order_in (some seen) = reverse seen

-- the nodes of a graph in the order in which its record numbers them
unfoldable pub written_order : {L A : Type 0} → (A → A → Bool) → Graph L A → List A
written_order same d = order_in (visit same d.link 255 d.root [])

-- One value for each link of the nodes of a list: the nodes come in turn, and the links of a node by feature. A value may depend on the
-- link and on the node that the link enters.
unfoldable pub along_links : {L X : Type 0} → Graph L ℕ → (Link ℕ → ℕ → X) → List ℕ → List X
along_links d value [] = []
along_links d value (v ∷ vs) = map (λ l. value (v, l.0) l.1) (links_of (d.link v) features) ++ along_links d value vs

-- the links of rows that are numbered from k up
unfoldable pub links_from_row : {L : Type 0} → ℕ → List (Row L) → List (Link ℕ)
links_from_row k [] = []
links_from_row k (row ∷ rows) = map (λ l. (k, l.0)) row.1 ++ links_from_row (suc k) rows

-- the links of a record "in record order": node after node, each node's links in turn
abbrev pub links_in_order : {L : Type 0} → List (Row L) → List (Link ℕ)
links_in_order rows = links_from_row 0 rows

module _ {L A B : Type 0} (s : Graph L A) (g : Graph L B) (earlier : Link A → Link A → Bool) (Wants : A → Type 0) where
  -- What the reason for a link that enters v tells of the two graphs. A link with reason 3 enters a node that has "a wanted type or
  -- range", or a node that a kept link leaves ("what hangs below").
  pub record IsReason (l : Link A) (v : A) (reason : ℕ) : Type 0 where
    pub first : (reason ≡ 1) ↔ NothingOver s g l
    pub second : (reason ≡ 2) ↔ (SomethingOver s g l × TwoGroups s g v)
    pub third : (reason ≡ 3) ↔ (SomethingOver s g l × (TwoGroups s g v → ⊥))
    pub why-third : reason ≡ 3 → Wants v ⊎ ((f : ℕ) × (w : A) × KeptLink s g earlier Wants v f w)
