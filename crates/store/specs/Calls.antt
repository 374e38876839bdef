-- What put, drop and read reply and leave (document 02, Paper 11): "The table is checked first, then the buffer, .. then the program's 4 to 7,
-- as the second; next .. 20, and on the way" 11, 13 and 21; for read 8.
use Rattle.std.specs.Prelude.{List, ◌++◌, ℕ, length, drop, get_or}
use Rattle.std.proofs.Math.Option.{none}
use Rattle.acceptance.specs.Reply.{opened}
use Rattle.replies.specs.Replies.{Length}
use Rattle.replies.specs.Reply.{Result, resulting, refusing}
use Rattle.calls.specs.Calls.{checked}
use Rattle.versions.specs.State.{Made, made, stopped, Programs, held}
use Rattle.contents.specs.Contents.{on_held, on_present, given, put_among, drop_among}

-- "Put and drop return the used length. Bytes past the used ones may hold anything": they stay. "A put or drop that cannot reach that state
-- is refused with the first number met on that way, and the buffer is unchanged."
abbrev pub settled : List ℕ → Made → Result
settled buffer (made state) = resulting (Length (length state)) (state ++ drop (length state) buffer)
settled buffer (stopped r) = refusing r buffer

module _ (n : ℕ) (t : List ℕ) where
  abbrev pub in_table : (Programs → Made) → List ℕ → Made
  in_table next buffer = checked (stopped) (opened n t) (on_held (held n t buffer) next)

  -- "Put names a version number from 0 to 15 that is absent"
  unfoldable pub putting : List ℕ → ℕ → List ℕ → Result
  putting buffer version bytes = settled buffer (in_table (put_among n t (length buffer) version bytes) buffer)

  -- "drop removes the one named"
  unfoldable pub dropping : List ℕ → ℕ → Result
  dropping buffer version = settled buffer (in_table (drop_among n t (length buffer) version) buffer)

  -- read: what is lent beside the buffer is the output
  unfoldable pub fetching : List ℕ → ℕ → List ℕ → Result
  fetching buffer version out = given out (in_table (λ ps. on_present (get_or ps version none) made) buffer)
