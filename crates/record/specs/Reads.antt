-- This file says what the functions promise that read a record into words: the verdict, and after an acceptance the graph in the words.
-- The crates that compute on graphs ask for words that are `Loaded`.
use Rattle.std.specs.Prelude.{◌≡◌, List, ℕ, ⊤, Result, Ok, Err, ◌+◌, ◌*◌, ◌≤◌, ◌<◌}
use Rattle.graphs.specs.Rows.{Row}
use Rattle.graphs.specs.Large.{links_in}
use Rattle.lattice.specs.Label.{Label}
use Rattle.lattice.specs.Labels.{Known}
use Rattle.layout.specs.Layout.{size, label_at, rows_of, Sound}
use Rattle.encoder.specs.Encode.{encoded}
use Rattle.record.specs.declared.GraphFault.{GraphFault}
use Rattle.record.specs.Read.{Reading, refused, accepted, reading}

-- what the functions that read a record answer: the record is accepted, or its refusal
abbrev pub Verdict : Type 0
Verdict = Result ⊤ GraphFault

-- the verdict that a reading gives
abbrev pub verdict_of : Reading → Verdict
verdict_of (refused fault) = Err fault
verdict_of (accepted rows) = Ok tt

-- The words hold the given rows, over a table with n types.
pub record Holds (n : ℕ) (rows : List (Row Label)) (ws : List ℕ) : Type 0 where
  pub rows_are : rows_of ws ≡ rows
  pub sound : Sound ws
  pub small : size ws ≤ 255
  pub typed : (v : ℕ) → v < size ws → Known n (label_at ws v)

-- The verdict is that of the reading, and after an acceptance the words hold the rows.
pub record ReadsAs (n : ℕ) (o : Reading) (v : Verdict) (ws : List ℕ) : Type 0 where
  pub verdict : v ≡ verdict_of o
  pub graph : (rows : List (Row Label)) → o ≡ accepted rows → Holds n rows ws

-- what reading a record promises of the verdict and the words
abbrev pub Reads : ℕ → List ℕ → Verdict → List ℕ → Type 0
Reads n bytes v ws = ReadsAs n (reading n bytes) v ws

-- the length of a record with the rows of the words and no range: the count, nine bytes for each node and one for each link
abbrev pub unranged_length : List ℕ → ℕ
unranged_length ws = 1 + 9 * size ws + links_in (rows_of ws)

-- The record of the rows is accepted over a table with n types and states the same rows.
abbrev pub Acceptable : ℕ → List (Row Label) → Type 0
Acceptable n rows = reading n (encoded rows) ≡ accepted rows

-- The words hold rows whose record is accepted over a table with n types.
pub record Loaded (n : ℕ) (ws : List ℕ) : Type 0 where
  pub acceptable : Acceptable n (rows_of ws)
  pub sound : Sound ws
  pub small : size ws ≤ 255
  pub typed : (v : ℕ) → v < size ws → Known n (label_at ws v)
