-- What the calls for a difference with its reasons reply, and what they leave in their two outputs (document 02, Paper 13). Unless the reply is
-- 22, reply and record are those of the call without reasons, `differing` or `differing_by`.
use Rattle.std.specs.Prelude.{Bool, List, ℕ}
use Rattle.graphs.specs.Difference.{by_number, by_reading}
use Rattle.difference.specs.Explained.{Explained, with_reasons, with_reasons_if}
use Rattle.engine.specs.Differing.{reasons_of}
use Rattle.calls.specs.Calls.{differing, differing_by}

-- The difference of g, the first graph, and s, the second, with its reasons. `out` is lent for the record, and `old` for the reasons.
unfoldable pub explaining : ℕ → List ℕ → List ℕ → List ℕ → List ℕ → List ℕ → Explained
explaining n t a b out old = with_reasons (differing n t a b out) (reasons_of by_number n t a b) out old

-- The difference with its reasons, with links ordered by a list of features (document 02, Paper 10).
unfoldable pub explaining_by : ℕ → List ℕ → List ℕ → List ℕ → List ℕ → List ℕ → List ℕ → Explained
explaining_by n t list a b out old = with_reasons (differing_by n t list a b out) (reasons_of (by_reading list) n t a b) out old

-- The difference, with its reasons if `explained`.
abbrev pub differing_with : Bool → ℕ → List ℕ → List ℕ → List ℕ → List ℕ → List ℕ → Explained
differing_with explained n t a b out old = with_reasons_if explained (differing n t a b out) (reasons_of by_number n t a b) out old

-- The difference with links ordered by a list of features, with its reasons if `explained`.
abbrev pub differing_by_with : Bool → ℕ → List ℕ → List ℕ → List ℕ → List ℕ → List ℕ → List ℕ → Explained
differing_by_with explained n t list a b out old =
    with_reasons_if explained (differing_by n t list a b out) (reasons_of (by_reading list) n t a b) out old
