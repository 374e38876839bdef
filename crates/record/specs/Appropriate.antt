-- This file says which nodes may have which features (document 02, Paper 9): "A list of 64 bytes gives for each feature the broadest type
-- that may have it; a node may have the feature when its type is below or equal to that one, so 0 forbids it." In the field this is an
-- appropriateness condition. Ranges play no part in it. `n` and `t` are the number of types and the bytes of the table.
use Rattle.std.specs.Prelude.{◌≡◌, Bool, true, cond, ◌&&◌, List, ℕ, suc, ◌<◌, eqb, leb, length, get_or}
use Rattle.std.proofs.Math.Option.{some}
use Rattle.graphs.specs.Graph.{Graph, walk}
use Rattle.graphs.specs.Rows.{Row}
use Rattle.graphs.specs.Order.{all_of}
use Rattle.lattice.specs.Label.{Label}
use Rattle.lattice.specs.Labels.{Known}
use Rattle.lattice.specs.Table.{below, every}
use Rattle.layout.specs.Layout.{Sound, size, label_at}
use Rattle.record.specs.declared.GraphFault.TheVariants.{Inappropriate}
use Rattle.record.specs.Read.{Reading, refused, accepted, reading}

-- A list is accepted where it is not refused by 17: "A list entry of n or more, or a list not of 64 bytes, is 17".
unfoldable pub list_accepted : ℕ → List ℕ → Bool
list_accepted n list = eqb (length list) 64 && every 64 λ f. leb (suc (get_or list f 0)) n

-- a node of this type may have the feature
abbrev pub allowed : List ℕ → List ℕ → ℕ → ℕ → Bool
allowed t list type f = below t type (get_or list f 0)

-- no link of a row is one "that the list forbids"
unfoldable pub row_appropriate : List ℕ → List ℕ → Row Label → Bool
row_appropriate t list r = all_of r.1 λ l. allowed t list r.0.type l.0

-- no link of a graph is one "that the list forbids"
unfoldable pub appropriate : List ℕ → List ℕ → List (Row Label) → Bool
appropriate t list rows = all_of rows (row_appropriate t list)

-- "a graph with a link that the list forbids is 18, straight after that graph's 7"
abbrev pub judged_appropriate : List ℕ → List ℕ → Reading → Reading
judged_appropriate t list (refused fault) = refused fault
judged_appropriate t list (accepted rows) = cond (appropriate t list rows) (accepted rows) (refused Inappropriate)

-- what reading a record beside a list answers
unfoldable pub reading_appropriate : ℕ → List ℕ → List ℕ → List ℕ → Reading
reading_appropriate n t list bytes = judged_appropriate t list (reading n bytes)

-- A graph of any size obeys the list: the node that a path leads to has only features that it may have.
abbrev pub Appropriate : List ℕ → List ℕ → {A : Type 0} → Graph Label A → Type 0
Appropriate t list {A} g =
    (p : List ℕ) (v w : A) (f : ℕ) → walk g p ≡ some v → g.link v f ≡ some w → allowed t list (g.label v).type f ≡ true

-- What follows is what the test of a graph in words asks of its inputs.

-- The list has 64 entries, each below 64.
pub record Listed (list : List ℕ) : Type 0 where
  pub long : length list ≡ 64
  pub small : (f : ℕ) → f < 64 → get_or list f 0 < 64

-- The words hold a graph whose types are below 64.
pub record Typed (ws : List ℕ) : Type 0 where
  pub sound : Sound ws
  pub typed : (v : ℕ) → v < size ws → Known 64 (label_at ws v)
