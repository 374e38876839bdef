-- A gathering (document 02, Paper 4): the bytes of its state, and what begin, add, order and finish reply and leave. The state is n (1 byte), the
-- table (8 × n bytes), the length of the common part so far (2 bytes, low byte first, 0 before the first addition), the written record of that
-- common part, and then room.
use Rattle.std.specs.Prelude.{cond, List, [], ◌∷◌, ◌++◌, ℕ, ◌+◌, ◌*◌, ◌/◌, ◌%◌, eqb, leb, length, take, drop, get_or, replicate}
use Rattle.std.proofs.Math.Option.{Option, none, some}
use Rattle.acceptance.specs.Reply.{opened}
use Rattle.record.specs.Read.{Reading, refused, accepted, reading}
use Rattle.replies.specs.declared.Side.TheVariants.{First, Second}
use Rattle.replies.specs.Replies.{Reply}
use Rattle.replies.specs.Replies.{Length, Graph, NoRoom, NothingGathered}
use Rattle.replies.specs.Reply.{Result, resulting, refusing, length_of}
use Rattle.engine.specs.Rewriting.{rewritten_rows}
use Rattle.calls.specs.Calls.{checked, rewriting, ordering, generalizing}

-- 2 bytes, low byte first
unfoldable pub two_bytes : ℕ → List ℕ
two_bytes x = x % 256 ∷ x / 256 % 256 ∷ []

-- Room for the longest record: "The longest record becomes 4,854 bytes" (Paper 7).
unfoldable pub blank : List ℕ
blank = replicate 4854 0

-- The state over a table. `part` is the record of the common part, no bytes before the first addition, and `rest` stands behind it.
unfoldable pub state_of : ℕ → List ℕ → List ℕ → List ℕ → List ℕ
state_of n t part rest = n ∷ (t ++ (two_bytes (length part) ++ (part ++ rest)))

-- "A gathering is begun with one accepted table": begin checks 1 to 3, then 8, since a gathering "can hold the longest record". The reply tells
-- the used length.
unfoldable pub begun : ℕ → List ℕ → List ℕ → Result
begun n t buffer =
    checked (λ r. refusing r buffer) (opened n t)
    (cond (leb (1 + 8 * n + 2 + 4854) (length buffer))
    (resulting (Length (3 + 8 * n)) (state_of n t [] (drop (3 + 8 * n) buffer)))
    (refusing NoRoom buffer))

-- The parts of a state, whatever its bytes.

-- The number of types.
abbrev pub types_in : List ℕ → ℕ
types_in state = get_or state 0 0

-- The table.
abbrev pub table_in : List ℕ → List ℕ
table_in state = take (8 * types_in state) (drop 1 state)

-- n and the table
abbrev pub head_in : List ℕ → List ℕ
head_in state = take (1 + 8 * types_in state) state

-- what stands behind the table: the length, then the room
abbrev pub behind_table : List ℕ → List ℕ
behind_table state = drop (8 * types_in state) (drop 1 state)

-- The room, which begins with the record of the common part so far.
abbrev pub room_in : List ℕ → List ℕ
room_in state = drop 2 (behind_table state)

-- The number in the first two bytes, low byte first.
abbrev pub length_at : List ℕ → ℕ
length_at bytes = get_or bytes 0 0 + 256 * get_or bytes 1 0

-- The first l bytes of the room; none where l is 0.
abbrev pub first_of : ℕ → List ℕ → Option (List ℕ)
first_of l room = cond (eqb l 0) none (some (take l room))

-- the common part so far: none before the first addition
abbrev pub gathered_in : List ℕ → Option (List ℕ)
gathered_in state = first_of (length_at (behind_table state)) (room_in state)

-- An addition checks the table's 1 to 3, the program's 4 to 7 as the first graph, the 4 to 7 of what was gathered as the second, then 11 and 8.
-- The first addition writes the program's record; each later one writes the common part of the program and what was gathered.
abbrev pub joining : ℕ → List ℕ → Option (List ℕ) → List ℕ → List ℕ → Result
joining n t none bytes out = rewriting n t bytes out
joining n t (some part) bytes out = generalizing n t bytes part out

-- "A refused addition changes nothing"; else the length and the record are written, and the bytes behind them stay.
abbrev pub settled_by : List ℕ → Option ℕ → Result → Result
settled_by state none r = refusing r.reply state
settled_by state (some l) r = resulting r.reply (head_in state ++ (two_bytes l ++ r.output))

-- `settled_by`, by the length that the reply tells.
abbrev pub settled : List ℕ → Result → Result
settled state r = settled_by state (length_of r.reply) r

-- The call that adds a program: its reply, and the state after it.
unfoldable pub adding : List ℕ → List ℕ → Result
adding state bytes = settled state (joining (types_in state) (table_in state) (gathered_in state) bytes (room_in state))

-- "the pane may put a program beside the unfinished gathering and learn its order, as first graph, to the common part of those added so far".
-- Before the first addition the reply is 16, "checked after the graph's 4 to 7".
abbrev pub nothing_after : Reading → Reply
nothing_after (refused fault) = Graph fault First
nothing_after (accepted rows) = NothingGathered

-- The order of a program to what is gathered, or 16 where nothing is gathered.
abbrev pub compared_with : ℕ → List ℕ → Option (List ℕ) → List ℕ → Reply
compared_with n t none bytes = checked (λ r. r) (opened n t) (nothing_after (reading n bytes))
compared_with n t (some part) bytes = ordering n t bytes part

-- The call for the order: its reply. The state stays as it was.
unfoldable pub comparing : List ℕ → List ℕ → Reply
comparing state bytes = compared_with (types_in state) (table_in state) (gathered_in state) bytes

-- "Finishing writes the common part and leaves the gathering open": 16 comes "before 8", and what was gathered counts as the second graph.
abbrev pub written_from : Reading → List ℕ → Result
written_from (refused fault) out = refusing (Graph fault Second) out
written_from (accepted rows) out = rewritten_rows out rows

-- What is gathered, in written form, or 16 where nothing is gathered.
abbrev pub finished_with : ℕ → Option (List ℕ) → List ℕ → Result
finished_with n none out = refusing NothingGathered out
finished_with n (some part) out = written_from (reading n part) out

-- The call that finishes: its reply, and the output after it.
unfoldable pub finishing : List ℕ → List ℕ → Result
finishing state out =
    checked (λ r. refusing r out) (opened (types_in state) (table_in state)) (finished_with (types_in state) (gathered_in state) out)
