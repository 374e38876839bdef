-- The replies of all calls: an answer, or a refusal. Each reply has a name here, so that a definition says in one word which reply it gives.
use Rattle.std.specs.Prelude.{ℕ, Result, Ok, Err}
use Rattle.acceptance.specs.declared.TableFault.{TableFault}
use Rattle.encode.specs.declared.Unmarked.{Unmarked}
use Rattle.encode.specs.declared.Unmarked.TheVariants as unmarked
use Rattle.encode.specs.declared.Unwritten.{Unwritten}
use Rattle.encode.specs.declared.Unwritten.TheVariants as unwritten
use Rattle.record.specs.declared.GraphFault.{GraphFault}
use Rattle.replies.specs.declared.Side.{Side}
use Rattle.replies.specs.declared.Success.{Success}
use Rattle.replies.specs.declared.Success.TheVariants as success
use Rattle.replies.specs.declared.Refusal.{Refusal}
use Rattle.replies.specs.declared.Refusal.TheVariants as refusal

abbrev pub Reply : Type 0
Reply = Result Success Refusal

pattern abbrev pub Length : ℕ → Reply
Length l = Ok (success.Length l)

pattern abbrev pub Same : Reply
Same = Ok success.Same

pattern abbrev pub Under : Reply
Under = Ok success.Under

pattern abbrev pub Above : Reply
Above = Ok success.Above

pattern abbrev pub Neither : Reply
Neither = Ok success.Neither

pattern abbrev pub Counts : ℕ → ℕ → Reply
Counts nodes rows = Ok (success.Counts nodes rows)

pattern abbrev pub End : Reply
End = Ok success.End

pattern abbrev pub Table : TableFault → Reply
Table fault = Err (refusal.Table fault)

pattern abbrev pub Graph : GraphFault → Side → Reply
Graph fault side = Err (refusal.Graph fault side)

pattern abbrev pub NoRoom : Reply
NoRoom = Err refusal.NoRoom

pattern abbrev pub Cycle : Reply
Cycle = Err refusal.Cycle

pattern abbrev pub Clash : Reply
Clash = Err refusal.Clash

pattern abbrev pub TooLarge : Reply
TooLarge = Err refusal.TooLarge

pattern abbrev pub NotBelow : Reply
NotBelow = Err refusal.NotBelow

pattern abbrev pub NoWantedType : Reply
NoWantedType = Err refusal.NoWantedType

pattern abbrev pub RowOutOfRange : Reply
RowOutOfRange = Err refusal.RowOutOfRange

pattern abbrev pub RowTwice : Reply
RowTwice = Err refusal.RowTwice

pattern abbrev pub NothingGathered : Reply
NothingGathered = Err refusal.NothingGathered

pattern abbrev pub TypeList : Reply
TypeList = Err refusal.TypeList

pattern abbrev pub ReadingOrder : Reply
ReadingOrder = Err refusal.ReadingOrder

pattern abbrev pub WrongVersion : Reply
WrongVersion = Err refusal.WrongVersion

pattern abbrev pub NoStoreRoom : Reply
NoStoreRoom = Err refusal.NoStoreRoom

pattern abbrev pub NoReasonRoom : Reply
NoReasonRoom = Err refusal.NoReasonRoom

pattern abbrev pub FeatureCount : Reply
FeatureCount = Err refusal.FeatureCount

pattern abbrev pub NotListed : Reply
NotListed = Err refusal.NotListed

-- What a call that can only write a record answers: the record's length, or a refusal.
abbrev pub Measure : Type 0
Measure = Result ℕ Refusal

-- The reply of such a call.
abbrev pub told : Measure → Reply
told (Ok l) = Length l
told (Err why) = Err why

-- The refusal that tells why a record is not written.
abbrev pub refusal_of : Unwritten → Refusal
refusal_of unwritten.TooLarge = refusal.TooLarge
refusal_of unwritten.NoRoom = refusal.NoRoom

-- The refusal that tells why a record is not written with marks beside it.
abbrev pub refusal_of_unmarked : Unmarked → Refusal
refusal_of_unmarked (unmarked.Unwritten why) = refusal_of why
refusal_of_unmarked unmarked.NoMarkRoom = refusal.NoReasonRoom
