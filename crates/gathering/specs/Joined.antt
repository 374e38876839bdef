-- What an addition does once the table in the state is accepted.
use Rattle.std.specs.Prelude.{List, ◌++◌, ℕ, ◌+◌, take, drop}
use Rattle.std.proofs.Math.Option.{Option, none, some}
use Rattle.graphs.specs.Rows.{Row}
use Rattle.lattice.specs.Label.{Label}
use Rattle.record.specs.Read.{Reading, refused, accepted, reading}
use Rattle.replies.specs.declared.Side.TheVariants.{Second}
use Rattle.replies.specs.Replies.{Reply}
use Rattle.replies.specs.Replies.{Graph}
use Rattle.replies.specs.Reply.{Result, resulting, refusing, length_of}
use Rattle.pairs.specs.Pair.{read_both}
use Rattle.engine.specs.Rewriting.{rewritten}
use Rattle.engine.specs.Generalizing.{generalized}
use Rattle.gathering.specs.Gathering.{two_bytes}

-- an addition over an accepted table
abbrev pub joined : ℕ → List ℕ → Option (List ℕ) → List ℕ → List ℕ → Result
joined n t none bytes out = rewritten (reading n bytes) out
joined n t (some part) bytes out = read_both (λ r. refusing r out) (reading n bytes) (reading n part) (generalized n t out)

-- An addition of an accepted program, once something is gathered.
abbrev pub joined_rows : ℕ → List ℕ → List ℕ → List (Row Label) → Reading → Result
joined_rows n t out rows (refused fault) = refusing (Graph fault Second) out
joined_rows n t out rows (accepted others) = generalized n t out rows others

-- A length that the reply tells is written as two bytes at `at`; any other reply leaves the state as it was.
abbrev pub settled_for : ℕ → List ℕ → Reply → Option ℕ → Result
settled_for at state reply none = refusing reply state
settled_for at state reply (some l) = resulting reply (take at state ++ (two_bytes l ++ drop (at + 2) state))

-- `settled_for`, by the length that the reply tells.
abbrev pub settled_at : ℕ → List ℕ → Reply → Result
settled_at at state reply = settled_for at state reply (length_of reply)
