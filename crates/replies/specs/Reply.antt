-- Replies: the number that documents 01 ("Returned by a call") and 02 give to each refusal, and a reply with the output beside it.
use Rattle.std.specs.Prelude.{◌≡◌, List, ℕ, ◌≤◌, Ok, Err}
use Rattle.std.proofs.Math.Option.{Option, none, some}
use Rattle.acceptance.specs.Reply.{table_number}
use Rattle.encode.specs.declared.Unwritten.TheVariants as unwritten
use Rattle.encode.specs.Encode.{Outcome, Writing}
use Rattle.record.specs.Read.{graph_number}
use Rattle.replies.specs.declared.answers.Answer.{Answer}
use Rattle.replies.specs.declared.answers.Answer.TheVariants as answer
use Rattle.replies.specs.Replies.{Reply}
use Rattle.replies.specs.Replies.{Length, Same, Under, Above, Neither, Counts, End, Table, Graph, NoRoom, Cycle, Clash, TooLarge, NotBelow, NoWantedType, RowOutOfRange, RowTwice, NothingGathered, TypeList, ReadingOrder, WrongVersion, NoStoreRoom, NoReasonRoom, FeatureCount, NotListed}

-- What a reply tells. A refusal has a number, and a refusal of a graph also tells which of the two graphs it is.
abbrev pub answer_of : Reply → Answer
answer_of (Length l) = answer.Length l
answer_of Same = answer.Same
answer_of Under = answer.Under
answer_of Above = answer.Above
answer_of Neither = answer.Neither
answer_of (Counts nodes rows) = answer.Counts nodes rows
answer_of End = answer.End
answer_of (Table fault) = answer.Refused (table_number fault)
answer_of (Graph fault side) = answer.RefusedGraph (graph_number fault) side
answer_of NoRoom = answer.Refused 8
answer_of Cycle = answer.Refused 9
answer_of Clash = answer.Refused 10
answer_of TooLarge = answer.Refused 11
answer_of NotBelow = answer.Refused 12
answer_of NoWantedType = answer.Refused 13
answer_of RowOutOfRange = answer.Refused 14
answer_of RowTwice = answer.Refused 15
answer_of NothingGathered = answer.Refused 16
answer_of TypeList = answer.Refused 17
answer_of ReadingOrder = answer.Refused 19
answer_of WrongVersion = answer.Refused 20
answer_of NoStoreRoom = answer.Refused 21
answer_of NoReasonRoom = answer.Refused 22
answer_of FeatureCount = answer.Refused 23
answer_of NotListed = answer.Refused 24

-- The number in an answer that is a refusal.
abbrev pub refusal_in : Answer → Option ℕ
refusal_in (answer.Length l) = none
refusal_in answer.Same = none
refusal_in answer.Under = none
refusal_in answer.Above = none
refusal_in answer.Neither = none
refusal_in (answer.Counts nodes rows) = none
refusal_in answer.End = none
refusal_in (answer.Refused number) = some number
refusal_in (answer.RefusedGraph number side) = some number

-- the number of a refusal
abbrev pub refusal : Reply → Option ℕ
refusal reply = refusal_in (answer_of reply)

-- The length in an answer that has one.
abbrev pub length_in : Answer → Option ℕ
length_in (answer.Length l) = some l
length_in answer.Same = none
length_in answer.Under = none
length_in answer.Above = none
length_in answer.Neither = none
length_in (answer.Counts nodes rows) = none
length_in answer.End = none
length_in (answer.Refused number) = none
length_in (answer.RefusedGraph number side) = none

-- The record's length, where a reply tells one.
abbrev pub length_of : Reply → Option ℕ
length_of reply = length_in (answer_of reply)

-- A length that the reply tells is at most `most`.
abbrev pub Bounded : Reply → ℕ → Type 0
Bounded reply most = (l : ℕ) → reply ≡ Length l → l ≤ most

-- Counts that the reply tells are at most `most` nodes and `many` rows.
abbrev pub Counted : Reply → ℕ → ℕ → Type 0
Counted reply most many = (nodes rows : ℕ) → reply ≡ Counts nodes rows → (nodes ≤ most) × (rows ≤ many)

-- a reply and the output beside it
pub record Result : Type 0 where
  pub reply : Reply
  pub output : List ℕ

-- This reply and this output, as a result.
abbrev pub resulting : Reply → List ℕ → Result
resulting r out = record { reply = r; output = out }

-- The reply that tells the answer of writing.
abbrev pub reply_of : Writing → Reply
reply_of (Ok l) = Length l
reply_of (Err unwritten.TooLarge) = TooLarge
reply_of (Err unwritten.NoRoom) = NoRoom

-- The result of a call that ends in writing.
abbrev pub result_of : Outcome → Result
result_of o = resulting (reply_of o.answer) o.output

-- a refusal leaves the output as it was
abbrev pub refusing : Reply → List ℕ → Result
refusing r out = resulting r out
