-- Which of two graphs is the broader, over an accepted table (document 02, Paper 3).
use Rattle.std.specs.Prelude.{Bool, true, false, List, ℕ}
use Rattle.graphs.specs.Rows.{Row}
use Rattle.lattice.specs.Label.{Label}
use Rattle.subsume.specs.Promise.{rows_below}
use Rattle.replies.specs.Replies.{Reply, Same, Under, Above, Neither}

-- "one of four: same, under, above, neither, seen from the first graph". The first truth value says whether the first graph is below the second,
-- and the other says whether the second graph is below the first.
abbrev pub compared : Bool → Bool → Reply
compared true true = Same
compared true false = Under
compared false true = Above
compared false false = Neither

-- Which of two graphs, given by their rows, is the broader.
unfoldable pub ordered : ℕ → List ℕ → List (Row Label) → List (Row Label) → Reply
ordered n t s g = compared (rows_below n t s g) (rows_below n t g s)
