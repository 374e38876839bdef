-- "Rewriting one record in written form" (document 01, "Returned by a call"), over an accepted table: the reply, and what is left in the output.
use Rattle.std.specs.Prelude.{List, ℕ, eqb}
use Rattle.graphs.specs.Rows.{Row}
use Rattle.graphs.specs.Number.{canonical}
use Rattle.lattice.specs.Label.{Label}
use Rattle.encode.specs.Encode.{written_out}
use Rattle.record.specs.Read.{Reading, refused, accepted, graph_of_rows}
use Rattle.replies.specs.declared.Side.TheVariants.{First}
use Rattle.replies.specs.Replies.{Graph}
use Rattle.replies.specs.Reply.{Result, result_of, refusing}

-- The result of writing a graph, given by its rows, in written form.
abbrev pub rewritten_rows : List ℕ → List (Row Label) → Result
rewritten_rows out rows = result_of (written_out (canonical eqb (graph_of_rows rows)) out)

-- A refused record gives its refusal: "A lone graph counts as the first." An accepted record is written in written form.
abbrev pub rewritten : Reading → List ℕ → Result
rewritten (refused fault) out = refusing (Graph fault First) out
rewritten (accepted rows) out = rewritten_rows out rows
