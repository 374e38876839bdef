-- This file defines marks beside a record: one byte for each link "in record order, further bytes unchanged" (document 02, Paper 13). In
-- the list of marks, a mark stands at the place that its link has in the words of the graph.
use Rattle.std.specs.Prelude.{◌≡◌, cond, List, [], ◌∷◌, ◌++◌, ◌⊎◌, ℕ, eqb, leb, length, drop, take, Result, Ok, Err}
use Rattle.std.proofs.Math.Seq.{slice}
use Rattle.graphs.specs.Number.{Canonical, many_nodes, many_links, written, canonical}
use Rattle.graphs.specs.Reasons.{written_order}
use Rattle.lattice.specs.Label.{Label}
use Rattle.layout.specs.Layout.{links_from, row_end, graph_in}
use Rattle.encoder.specs.Encode.{encoded}
use Rattle.encoder.specs.NumberedRows.{Visited, degrees, numbered_rows}
use Rattle.encode.specs.declared.Unwritten.{Unwritten}
use Rattle.encode.specs.declared.Unwritten.TheVariants.{TooLarge, NoRoom}
use Rattle.encode.specs.declared.Unmarked.{Unmarked}
use Rattle.encode.specs.declared.Unmarked.TheVariants as unmarked
use Rattle.encode.specs.declared.canonical.Dimensions.{Dimensions}

-- the marks of the links of the nodes of a list, node after node
unfoldable pub marks_along : List ℕ → List ℕ → List ℕ → List ℕ
marks_along ws marks [] = []
marks_along ws marks (v ∷ vs) = slice (links_from ws v) (row_end ws v) marks ++ marks_along ws marks vs

-- What writing with marks answers: the record's length, or why there is none.
abbrev pub Marking : Type 0
Marking = Result ℕ Unmarked

-- What writing with marks yields: its answer, and what the two outputs hold at the end.
pub record Noted : Type 0 where
  pub answer : Marking
  pub output : List ℕ
  pub beside : List ℕ

-- an answer with the two outputs beside it
abbrev pub noting : Marking → List ℕ → List ℕ → Noted
noting answer output beside = record { answer = answer; output = output; beside = beside }

-- Record and marks are written where both fit. A record that does not fit is 8; marks that do not fit come after it.
unfoldable pub fitted_both : List ℕ → List ℕ → List ℕ → List ℕ → Noted
fitted_both bytes marks old beside =
    cond (leb (length bytes) (length old))
    (cond (leb (length marks) (length beside))
    (noting (Ok (length bytes)) (bytes ++ drop (length bytes) old) (marks ++ drop (length marks) beside))
    (noting (Err unmarked.NoMarkRoom) old beside))
    (noting (Err (unmarked.Unwritten NoRoom)) old beside)

-- What writing with marks yields: the checks run in the order 11, 8, then the room for the marks.
unfoldable pub marked_out : Canonical Label → List ℕ → List ℕ → List ℕ → Noted
marked_out many_nodes marks old beside = noting (Err (unmarked.Unwritten TooLarge)) old beside
marked_out many_links marks old beside = noting (Err (unmarked.Unwritten TooLarge)) old beside
marked_out (written rows) marks old beside = fitted_both (encoded rows) marks old beside

-- The numbering of a graph that can be written, with the number of its links and the length of its record.
pub record MarksFit (ws numbers visited : List ℕ) (count links len : ℕ) : Type 0 where
  pub nodes : Visited ws visited count
  pub form : canonical eqb (graph_in ws) ≡ written (numbered_rows ws numbers (take count visited))
  pub order : written_order eqb (graph_in ws) ≡ take count visited
  pub links-are : links ≡ degrees ws (take count visited)
  pub length-is : length (encoded (numbered_rows ws numbers (take count visited))) ≡ len

-- The answer tells whether a graph is too large to be written; if not, the arrays have its numbering.
pub record Measured (ws numbers visited : List ℕ) (answer : Result Dimensions Unwritten) : Type 0 where
  pub refused : (why : Unwritten) → answer ≡ Err why →
      (why ≡ TooLarge) × ((canonical eqb (graph_in ws) ≡ many_nodes) ⊎ (canonical eqb (graph_in ws) ≡ many_links))
  pub fits : (sizes : Dimensions) → answer ≡ Ok sizes → MarksFit ws numbers visited sizes.count sizes.links sizes.length
