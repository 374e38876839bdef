-- Definitions for the theorems on gatherings: what a state of a begun gathering is, and which graph is gathered among all graphs of any size.
use Rattle.std.specs.Prelude.{◌≡◌, ℕ, ◌≤◌, length, Ok}
use mathlib.Core.List.{List, [], ◌++◌, Memᴰ}
use Rattle.std.proofs.Math.Option.{Option, none, some}
use Rattle.graphs.specs.Graph.{Graph, Below}
use Rattle.graphs.specs.Rows.{Row}
use Rattle.lattice.specs.Label.{Label}
use Rattle.lattice.specs.Labels.{table_labels, OfAnySize}
use Rattle.acceptance.specs.Reply.{opened}
use Rattle.record.specs.Read.{reading, accepted, graph_of_rows}
use Rattle.demands.specs.Demand.{WrittenRecord}
use Rattle.gathering.specs.Gathering.{state_of}

-- The bytes of the common part so far; no bytes before the first addition.
abbrev pub bytes_of : Option (List ℕ) → List ℕ
bytes_of none = []
bytes_of (some part) = part

-- The state is one of a begun gathering: it has an accepted table, the written record of the common part if there is one, and room for the
-- longest record.
pub record Holds (n : ℕ) (t state : List ℕ) (o : Option (List ℕ)) : Type 0 where
  pub opens : opened n t ≡ Ok tt
  pub written : (part : List ℕ) → o ≡ some part → WrittenRecord n part
  pub rest : List ℕ
  pub room : 4854 ≤ length (bytes_of o ++ rest)
  pub state-is : state ≡ state_of n t (bytes_of o) rest

-- each of the programs lies below the graph
abbrev pub AllBelow : ℕ → List ℕ → List (List ℕ) → {D : Type 0} → Graph Label D → Type 0
AllBelow n t ps m =
    (p : List ℕ) → Memᴰ p ps → (rows : List (Row Label)) → reading n p ≡ accepted rows → Below (table_labels n t) (graph_of_rows rows) m

-- The programs are accepted, and the record is read as the least graph of any size above them all.
pub record LeastAbove (n : ℕ) (t : List ℕ) (ps : List (List ℕ)) (bytes : List ℕ) : Type 1 where
  pub all-accepted : (p : List ℕ) → Memᴰ p ps → (rows : List (Row Label)) × (reading n p ≡ accepted rows)
  pub form : List (Row Label)
  pub reads : reading n bytes ≡ accepted form
  pub of-any-size : OfAnySize n t (graph_of_rows form)
  pub above : AllBelow n t ps (graph_of_rows form)
  pub least : {D : Type 0} (m : Graph Label D) → OfAnySize n t m → AllBelow n t ps m → Below (table_labels n t) (graph_of_rows form) m
