-- The combination of two graphs, or of two records, over an accepted table (document 01, "Combination"): the reply, and what is left in the
-- output.
use Rattle.std.specs.Prelude.{List, ◌⊎◌, ℕ, Ok, Err}
use Rattle.graphs.specs.Graph.{Graph}
use Rattle.graphs.specs.Rows.{Row}
use Rattle.graphs.specs.Number.{canonical}
use Rattle.graphs.specs.Unify.{Unified, cycle, clash, unified}
use Rattle.graphs.specs.OfRows.{same_either, combination_of}
use Rattle.lattice.specs.Label.{Label, no_label}
use Rattle.lattice.specs.Labels.{table_labels}
use Rattle.encode.specs.Encode.{written_out}
use Rattle.unify.specs.declared.NoCombination.TheVariants as uncombined
use Rattle.unify.specs.Outcome.{Combining}
use Rattle.pairs.specs.Pair.{read_both, reading_beside}
use Rattle.replies.specs.Replies.{Reply}
use Rattle.replies.specs.Replies.{Length, Cycle, Clash}
use Rattle.replies.specs.Reply.{Result, reply_of, result_of, refusing}

-- The reply is 9 for a loop, and 10 for a clash without a loop. Else `write` gives the result for the combined graph.
abbrev pub combined_by : {L : Type 0} → (Graph L (ℕ ⊎ ℕ) → List ℕ → Result) → Unified L (ℕ ⊎ ℕ) → List ℕ → Result
combined_by write cycle out = refusing Cycle out
combined_by write clash out = refusing Clash out
combined_by write (unified u) out = write u out

-- The result of a combination: 9, 10, or else the result of writing the combined graph in written form.
abbrev pub combined : Unified Label (ℕ ⊎ ℕ) → List ℕ → Result
combined o out = combined_by (λ u old. result_of (written_out (canonical same_either u) old)) o out

-- The result of combining two graphs, which are given by their rows.
unfoldable pub unified_rows : ℕ → List ℕ → List ℕ → List (Row Label) → List (Row Label) → Result
unified_rows n t out g h =
    combined
    (combination_of (table_labels n t).meet (table_labels n t).top (table_labels n t).contradiction no_label g h)
    out

-- Two records are read, with a list unless it is empty. The refusals of both graphs come first; then their combination is written.
abbrev pub unified_beside : ℕ → List ℕ → List ℕ → List ℕ → List ℕ → List ℕ → Result
unified_beside n t list a b out =
    read_both (λ r. refusing r out) (reading_beside n t list a) (reading_beside n t list b) (unified_rows n t out)

-- The reply that tells the answer of a combination.
abbrev pub combined_reply : Combining → Reply
combined_reply (Ok l) = Length l
combined_reply (Err uncombined.Cycle) = Cycle
combined_reply (Err uncombined.Clash) = Clash
combined_reply (Err (uncombined.Unwritten why)) = reply_of (Err why)
