-- The common part of two graphs, or of two records, over an accepted table (document 01, "Common part"): the reply, and what is left in the
-- output.
use Rattle.std.specs.Prelude.{List, ℕ}
use Rattle.graphs.specs.Rows.{Row}
use Rattle.graphs.specs.OfRows.{common_form}
use Rattle.lattice.specs.Label.{Label, no_label}
use Rattle.lattice.specs.Labels.{table_labels}
use Rattle.encode.specs.Encode.{written_out}
use Rattle.pairs.specs.Pair.{read_both, reading_beside}
use Rattle.replies.specs.Reply.{Result, result_of, refusing}

-- The result of writing the common part of two graphs, which are given by their rows.
unfoldable pub generalized : ℕ → List ℕ → List ℕ → List (Row Label) → List (Row Label) → Result
generalized n t out g h = result_of (written_out (common_form (table_labels n t).join no_label g h) out)

-- Two records are read, with a list unless it is empty. The refusals of both graphs come first; then their common part is written.
abbrev pub generalized_beside : ℕ → List ℕ → List ℕ → List ℕ → List ℕ → List ℕ → Result
generalized_beside n t list a b out =
    read_both (λ r. refusing r out) (reading_beside n t list a) (reading_beside n t list b) (generalized n t out)
