-- This file defines what reading a record over a table with n types answers (document 01, "Returned by a call"): the graph's rows, or the
-- first of refusals 4 to 7 that applies. Each refusal is checked over the whole record before the next.
use Rattle.std.specs.Prelude.{Bool, cond, ◌&&◌, List, [], ℕ, suc, eqb, leb, length}
use Rattle.std.proofs.Math.Option.{Option, none, some}
use Rattle.graphs.specs.Rows.{Row, from}
use Rattle.graphs.specs.Number.{visit}
use Rattle.graphs.specs.Order.{all_of}
use Rattle.graphs.specs.Unify.{any_of, deep, holds}
use Rattle.lattice.specs.Label.{Label}
use Rattle.peeling.specs.Range.{label_in_range}
use Rattle.record.specs.declared.GraphFault.{GraphFault}
use Rattle.record.specs.declared.GraphFault.TheVariants.{Malformed, OutOfRange, Cyclic, Unreached, Inappropriate}
use Rattle.decode.specs.Decode.{decoded}
pub use Rattle.layout.specs.Layout.{graph_of_rows}

-- the number of a refusal (document 01, "Returned by a call"; 18: document 02, Paper 9)
abbrev pub graph_number : GraphFault → ℕ
graph_number Malformed = 4
graph_number OutOfRange = 5
graph_number Cyclic = 6
graph_number Unreached = 7
graph_number Inappropriate = 18

-- No node has "a type that is 0 or at least n; a target at least N", nor "A lowest level above the highest"; else the record is refused by 5.
unfoldable pub in_range : ℕ → List (Row Label) → Bool
in_range n rows = all_of rows λ r. label_in_range n r.0 && all_of r.1 λ l. leb (suc l.1) (length rows)

-- "a node reaches itself": a walk of as many links as there are nodes starts at some node.
unfoldable pub cyclic : List (Row Label) → Bool
cyclic rows = any_of (from 0 (length rows)) λ v. deep (graph_of_rows rows).link (length rows) v

-- There is no "node the root does not reach": the visit from the root finds as many nodes as there are.
unfoldable pub reaches_all : List (Row Label) → Bool
reaches_all rows = holds (λ seen. eqb (length seen) (length rows)) (visit eqb (graph_of_rows rows).link 255 0 [])

-- what reading answers: a refusal, or the rows of the graph
pub data Reading : Type 0 where
  refused : GraphFault → Reading
  accepted : List (Row Label) → Reading

-- The checks run in the order 4, 5, 6, 7. A record that states no rows is refused by 4.
abbrev pub judged : ℕ → Option (List (Row Label)) → Reading
judged n none = refused Malformed
judged n (some rows) =
    cond (in_range n rows)
    (cond (cyclic rows) (refused Cyclic) (cond (reaches_all rows) (accepted rows) (refused Unreached)))
    (refused OutOfRange)

-- what reading a record answers
unfoldable pub reading : ℕ → List ℕ → Reading
reading n bytes = judged n (decoded bytes)
