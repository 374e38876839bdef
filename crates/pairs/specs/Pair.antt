-- How one record or two are read over an accepted table with n types, with a list of types for features or without one. An empty list stands for
-- no list.
use Rattle.std.specs.Prelude.{◌≡◌, true, false, cond, List, ℕ, ⊤, Result, Ok, Err, eqb, length}
use Rattle.graphs.specs.Rows.{Row}
use Rattle.lattice.specs.Label.{Label}
use Rattle.record.specs.Read.{Reading, refused, accepted, reading}
use Rattle.record.specs.Appropriate.{list_accepted, reading_appropriate}
use Rattle.record.specs.Reads.{Holds, Verdict, verdict_of}
use Rattle.replies.specs.declared.Side.TheVariants.{First, Second}
use Rattle.replies.specs.declared.Refusal.{Refusal}
use Rattle.replies.specs.declared.Refusal.TheVariants as refusal
use Rattle.replies.specs.Replies.{Reply, Graph}

-- The list is empty, which stands for no list, or it is accepted.
abbrev pub Optional : ℕ → List ℕ → Type 0
Optional n list = eqb (length list) 0 ≡ false → list_accepted n list ≡ true

-- Reading checks the graph's 4 to 7, and with a list "18, straight after that graph's 7" (document 02, Paper 9).
unfoldable pub reading_beside : ℕ → List ℕ → List ℕ → List ℕ → Reading
reading_beside n t list bytes = cond (eqb (length list) 0) (reading n bytes) (reading_appropriate n t list bytes)

-- "first graph 4 to 7; second graph 4 to 7": the first graph's refusals come before the second's, and then the call goes on with both graphs.
-- `refuse` makes the call's result from a refusal.
abbrev pub read_both : {X : Type 0} → (Reply → X) → Reading → Reading → (List (Row Label) → List (Row Label) → X) → X
read_both refuse (refused fault) second next = refuse (Graph fault First)
read_both refuse (accepted rows) (refused fault) next = refuse (Graph fault Second)
read_both refuse (accepted rows) (accepted others) next = next rows others

-- what the functions that read two records answer: both are accepted, or the first refusal
abbrev pub PairVerdict : Type 0
PairVerdict = Result ⊤ Refusal

-- Both verdicts as one, in the order of `read_both`.
abbrev pub joint_verdict : Verdict → Verdict → PairVerdict
joint_verdict (Err fault) second = Err (refusal.Graph fault First)
joint_verdict (Ok _) (Err fault) = Err (refusal.Graph fault Second)
joint_verdict (Ok _) (Ok _) = Ok tt

-- The verdict is that of both readings. The words hold the first graph where it is accepted, and the second where both are accepted.
pub record ReadsBoth (n : ℕ) (o p : Reading) (v : PairVerdict) (ws ws₂ : List ℕ) : Type 0 where
  pub verdict : v ≡ joint_verdict (verdict_of o) (verdict_of p)
  pub one : (rows : List (Row Label)) → o ≡ accepted rows → Holds n rows ws
  pub other : v ≡ Ok tt → (rows : List (Row Label)) → p ≡ accepted rows → Holds n rows ws₂

-- `ReadsBoth` for two records that are read with a list, or without one.
abbrev pub ReadsBeside : ℕ → List ℕ → List ℕ → List ℕ → List ℕ → PairVerdict → List ℕ → List ℕ → Type 0
ReadsBeside n t list a b v ws ws₂ = ReadsBoth n (reading_beside n t list a) (reading_beside n t list b) v ws ws₂
