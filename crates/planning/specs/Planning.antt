-- Import and export of a graph as rows and three bytes for each node (document 02, Papers 2 and 7): what each call replies and leaves in its
-- outputs.
use Rattle.std.specs.Prelude.{◌≡◌, Bool, cond, ◌&&◌, List, ℕ, ◌≤◌, eqb, leb, length, get_or, take}
use Rattle.std.proofs.Math.Option.{some}
use Rattle.graphs.specs.Rows.{Row}
use Rattle.graphs.specs.Large.{links_in}
use Rattle.graphs.specs.Number.{Canonical, canonical, many_nodes, many_links, written}
use Rattle.lattice.specs.Label.{Label}
use Rattle.acceptance.specs.Reply as table
use Rattle.record.specs.declared.GraphFault.TheVariants.{Malformed}
use Rattle.record.specs.Read.{Reading, refused, accepted, reading, judged, graph_of_rows}
use Rattle.rows.specs.declared.Row as lent
use Rattle.rows.specs.Rows.{nodes_in, table_rows, is_sized, all_known, has_twice, lent_rows, lent_nodes, filled}
use Rattle.rows.specs.Filling.{placed_rows}
use Rattle.replies.specs.declared.Side.TheVariants.{First}
use Rattle.replies.specs.Replies.{Reply}
use Rattle.replies.specs.Replies.{Counts, Graph, NoRoom, TooLarge, RowOutOfRange, RowTwice}
use Rattle.replies.specs.Reply.{Result, refusing}
use Rattle.engine.specs.Rewriting.{rewritten}
use Rattle.calls.specs.Calls.{checked}

-- Import over an accepted table with n types. `count` is the number of lent rows; `rows` are these rows where there are at most 2,048. 4 comes
-- from the counts; "afterwards a row with a feature above 63 or a node number outside the count is 14, two rows with one parent and feature are
-- 15, and then 5 for types and 6, 7 and 8 as for records".
unfoldable pub imported : ℕ → ℕ → List lent.Row → List ℕ → List ℕ → Result
imported n count rows nodes out =
    cond (is_sized nodes count)
    (cond (all_known (nodes_in nodes) rows)
    (cond (has_twice rows) (refusing RowTwice out) (rewritten (judged n (some (table_rows nodes rows))) out))
    (refusing RowOutOfRange out))
    (refusing (Graph Malformed First) out)

-- Import with the table's 1 to 3 before the rest.
unfoldable pub importing : ℕ → List ℕ → ℕ → List lent.Row → List ℕ → List ℕ → Result
importing n t count rows nodes out = checked (λ r. refusing r out) (table.opened n t) (imported n count rows nodes out)

-- Import of lent rows. Past the first 2,048 no row is read.
abbrev pub importing_rows : ℕ → List ℕ → List lent.Row → List ℕ → List ℕ → Result
importing_rows n t rows nodes out = importing n t (length rows) (take 2048 rows) nodes out

-- The reply of export, and what the lent rows and node bytes hold beside it.
pub record Exported : Type 0 where
  pub reply : Reply
  pub rows : List lent.Row
  pub nodes : List ℕ

-- This reply with these rows and node bytes.
abbrev pub exported_as : Reply → List lent.Row → List ℕ → Exported
exported_as reply rows nodes = record { reply = reply; rows = rows; nodes = nodes }

-- The rows and node bytes of a graph have room in those lent.
unfoldable pub fits : List (Row Label) → List lent.Row → List ℕ → Bool
fits form rows nodes = leb (length (lent_rows form)) (length rows) && leb (length (lent_nodes form)) (length nodes)

-- Export of a written form: it "fills such rows sorted by parent and then feature and returns the counts of nodes and rows .. and does not touch
-- rows and types past those it fills"; "Too few rows or types lent to export is 8, both unchanged".
abbrev pub exported_form : Canonical Label → List lent.Row → List ℕ → Exported
exported_form many_nodes rows nodes = exported_as TooLarge rows nodes
exported_form many_links rows nodes = exported_as TooLarge rows nodes
exported_form (written form) rows nodes =
    cond (fits form rows nodes)
    (exported_as (Counts (length form) (length (lent_rows form))) (filled (lent_rows form) rows) (filled (lent_nodes form) nodes))
    (exported_as NoRoom rows nodes)

-- "Export numbers the nodes as the written record does"
unfoldable pub exported_rows : List (Row Label) → List lent.Row → List ℕ → Exported
exported_rows graph rows nodes = exported_form (canonical eqb (graph_of_rows graph)) rows nodes

-- Export of a record that was read: its 4 to 7 come before 8.
abbrev pub exported : Reading → List lent.Row → List ℕ → Exported
exported (refused fault) rows nodes = exported_as (Graph fault First) rows nodes
exported (accepted graph) rows nodes = exported_rows graph rows nodes

-- Export with the table's 1 to 3 before the rest.
unfoldable pub exporting : ℕ → List ℕ → List ℕ → List lent.Row → List ℕ → Exported
exporting n t bytes rows nodes = checked (λ r. exported_as r rows nodes) (table.opened n t) (exported (reading n bytes) rows nodes)

-- What import asks of the placed rows: there are 1 to 255 nodes and at most 2,048 links.
pub record Placeable (nodes targets : List ℕ) : Type 0 where
  pub some-nodes : 1 ≤ nodes_in nodes
  pub small : nodes_in nodes ≤ 255
  pub low : (k : ℕ) → get_or targets k 0 ≤ 256
  pub long : length targets ≡ 16320
  pub links : links_in (placed_rows nodes targets (nodes_in nodes)) ≤ 2048
