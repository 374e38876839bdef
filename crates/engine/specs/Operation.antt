-- What an operation replies to two records over an accepted table, and what it leaves in the output.
use Rattle.std.specs.Prelude.{List, ℕ, ◌+◌, ◌≤◌, length, min}
use Rattle.graphs.specs.Rows.{Row}
use Rattle.lattice.specs.Label.{Label}
use Rattle.layout.specs.Layout.{longest}
use Rattle.pairs.specs.Pair.{read_both, reading_beside}
use Rattle.replies.specs.Reply.{Result, refusing}

-- The result of an operation over a table with n types for an output and two graphs, which are given by their rows.
abbrev pub Operating : Type 0
Operating = ℕ → List ℕ → List ℕ → List (Row Label) → List (Row Label) → Result

-- Two records are read, with a list unless it is empty. The refusals of both graphs come first; then the result of the operation is written.
abbrev pub operated_beside : Operating → ℕ → List ℕ → List ℕ → List ℕ → List ℕ → List ℕ → Result
operated_beside written n t list a b out =
    read_both (λ r. refusing r out) (reading_beside n t list a) (reading_beside n t list b) (written n t out)

-- So many words have room for the graph of a record of these bytes, as `Roomy` says of words that are lent.
abbrev pub RoomFor : List ℕ → ℕ → Type 0
RoomFor bytes words = min longest (length bytes + 258) ≤ words
