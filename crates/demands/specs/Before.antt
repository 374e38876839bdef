-- The difference by document 01 alone, without Paper 6 of document 02: a table that does not admit differences is refused by 13, before 12 is
-- checked; over the other tables the wanted types are residuals. The theorem on these definitions says that over a table that admits differences
-- the call gives the same reply and output with Paper 6 as without it.
use Rattle.std.specs.Prelude.{cond, List, ℕ, eqb}
use Rattle.std.proofs.Math.Option.{Option, map, get_or}
use Rattle.graphs.specs.Graph.{Graph}
use Rattle.graphs.specs.Rows.{Row}
use Rattle.graphs.specs.Number.{canonical}
use Rattle.graphs.specs.Difference.{by_number}
use Rattle.graphs.specs.OfRows.{wanted_over, difference_over}
use Rattle.lattice.specs.Label.{Label, no_label}
use Rattle.lattice.specs.Table.{residual, admits}
use Rattle.acceptance.specs.Reply.{opened}
use Rattle.lattice.specs.Labels.{table_labels, wanted_range}
use Rattle.encode.specs.Encode.{written_out}
use Rattle.record.specs.Read.{graph_of_rows, reading}
use Rattle.replies.specs.Replies.{NotBelow, NoWantedType}
use Rattle.replies.specs.Reply.{Result, result_of, refusing}
use Rattle.subsume.specs.Promise.{rows_below}
use Rattle.calls.specs.Calls.{checked}
use Rattle.pairs.specs.Pair.{read_both}
use Rattle.difference.specs.Difference.{over, numbered}

-- The residual of the types, "a greatest type c whose meet with q is below or equal to p". Ranges have no residual, so the label has the wanted
-- range.
abbrev pub residual_label : ℕ → List ℕ → Label → Label → Option Label
residual_label n t p q = map (wanted_range p q) (residual n t p.type q.type)

-- the difference by residuals
unfoldable pub residual_rows : ℕ → List ℕ → List (Row Label) → List (Row Label) → Graph Label ℕ
residual_rows n t g s =
    difference_over (table_labels n t) no_label s g (over s g) by_number
    (λ v. get_or (wanted_over (table_labels n t) no_label s g (over s g) (residual_label n t) v) no_label)

-- 13 is given where the table does not admit differences, else 12 where s is not below g; else the difference is written.
unfoldable pub differed_before : ℕ → List ℕ → List ℕ → List (Row Label) → List (Row Label) → Result
differed_before n t out g s =
    cond (admits n t)
    (cond (rows_below n t s g)
    (result_of (written_out (canonical eqb (residual_rows n t g s)) out)) (refusing NotBelow out))
    (refusing NoWantedType out)

-- The call checks the table's 1 to 3 and both graphs' 4 to 7, numbers s as written and goes on with `differed_before`.
unfoldable pub differing_before : ℕ → List ℕ → List ℕ → List ℕ → List ℕ → Result
differing_before n t a b out =
    checked (λ r. refusing r out) (opened n t)
    (read_both (λ r. refusing r out) (reading n a) (reading n b) (λ g s. differed_before n t out g (numbered (canonical eqb (graph_of_rows s)))))
