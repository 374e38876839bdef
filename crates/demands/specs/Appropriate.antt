-- Definitions for the theorems on the calls with a list of types for features (document 02, Paper 9): results that pass the list, and records
-- that obey the list or break it. n and t are the table.
use Rattle.std.specs.Prelude.{◌≡◌, List, ℕ}
use Rattle.std.proofs.Math.Option.{some}
use Rattle.graphs.specs.Rows.{Row}
use Rattle.lattice.specs.Label.{Label}
use Rattle.encode.specs.Encode.{fitted}
use Rattle.record.specs.Read.{reading, accepted, graph_of_rows}
use Rattle.record.specs.Appropriate.{Appropriate}
use Rattle.replies.specs.Reply.{Result, refusal, result_of}
use Rattle.calls.specs.Appropriate.{rewriting_appropriate}

-- a result that is neither 17 nor 18
abbrev pub Passes : Result → Type 0
Passes r = (refusal r.reply ≡ some 17 → ⊥) × (refusal r.reply ≡ some 18 → ⊥)

-- The record is accepted without the list, and its graph has "a link that the list forbids".
abbrev pub Breaks : ℕ → List ℕ → List ℕ → List ℕ → Type 0
Breaks n t list bytes =
    (rows : List (Row Label)) × (reading n bytes ≡ accepted rows) × (Appropriate t list (graph_of_rows rows) → ⊥)

-- The record is accepted without the list, and its graph obeys the list.
abbrev pub Fits : ℕ → List ℕ → List ℕ → List ℕ → Type 0
Fits n t list bytes = (rows : List (Row Label)) × (reading n bytes ≡ accepted rows) × Appropriate t list (graph_of_rows rows)

-- Rewriting the record with the list gives that same record, or 8 where the output is shorter.
abbrev pub Obeys : ℕ → List ℕ → List ℕ → List ℕ → Type 0
Obeys n t list bytes = (out : List ℕ) → rewriting_appropriate n t list bytes out ≡ result_of (fitted bytes out)
