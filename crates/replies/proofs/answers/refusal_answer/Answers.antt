-- `answers::refusal_answer` meets its contract: each case has its answer, with the number that the contracts of its parts give.
use mathlib.Core.Path.{sym, ◌∙◌, ap}
use Rattle.std.specs.Prelude.{Err}
use Rattle.replies.specs.declared.answers.Answer.TheVariants.{Refused, RefusedGraph}
use Rattle.replies.specs.Reply.{answer_of}
use Rattle.replies.proofs.answers.refusal_answer.Goals as goal

pub returns-in-Table : goal.returns-in-Table
returns-in-Table c = ap Refused c.table_number.ensures ∙ ap (λ told. answer_of (Err told)) (sym c.in-Table.is)

pub returns-in-Graph : goal.returns-in-Graph
returns-in-Graph c = ap (λ number. RefusedGraph number c.in-Graph.side) c.graph_number.ensures ∙ ap (λ told. answer_of (Err told)) (sym c.in-Graph.is)

pub returns-in-NoRoom : goal.returns-in-NoRoom
returns-in-NoRoom c = ap (λ told. answer_of (Err told)) (sym c.in-NoRoom.is)

pub returns-in-Cycle : goal.returns-in-Cycle
returns-in-Cycle c = ap (λ told. answer_of (Err told)) (sym c.in-Cycle.is)

pub returns-in-Clash : goal.returns-in-Clash
returns-in-Clash c = ap (λ told. answer_of (Err told)) (sym c.in-Clash.is)

pub returns-in-TooLarge : goal.returns-in-TooLarge
returns-in-TooLarge c = ap (λ told. answer_of (Err told)) (sym c.in-TooLarge.is)

pub returns-in-NotBelow : goal.returns-in-NotBelow
returns-in-NotBelow c = ap (λ told. answer_of (Err told)) (sym c.in-NotBelow.is)

pub returns-in-NoWantedType : goal.returns-in-NoWantedType
returns-in-NoWantedType c = ap (λ told. answer_of (Err told)) (sym c.in-NoWantedType.is)

pub returns-in-RowOutOfRange : goal.returns-in-RowOutOfRange
returns-in-RowOutOfRange c = ap (λ told. answer_of (Err told)) (sym c.in-RowOutOfRange.is)

pub returns-in-RowTwice : goal.returns-in-RowTwice
returns-in-RowTwice c = ap (λ told. answer_of (Err told)) (sym c.in-RowTwice.is)

pub returns-in-NothingGathered : goal.returns-in-NothingGathered
returns-in-NothingGathered c = ap (λ told. answer_of (Err told)) (sym c.in-NothingGathered.is)

pub returns-in-TypeList : goal.returns-in-TypeList
returns-in-TypeList c = ap (λ told. answer_of (Err told)) (sym c.in-TypeList.is)

pub returns-in-ReadingOrder : goal.returns-in-ReadingOrder
returns-in-ReadingOrder c = ap (λ told. answer_of (Err told)) (sym c.in-ReadingOrder.is)

pub returns-in-WrongVersion : goal.returns-in-WrongVersion
returns-in-WrongVersion c = ap (λ told. answer_of (Err told)) (sym c.in-WrongVersion.is)

pub returns-in-NoStoreRoom : goal.returns-in-NoStoreRoom
returns-in-NoStoreRoom c = ap (λ told. answer_of (Err told)) (sym c.in-NoStoreRoom.is)

pub returns-in-NoReasonRoom : goal.returns-in-NoReasonRoom
returns-in-NoReasonRoom c = ap (λ told. answer_of (Err told)) (sym c.in-NoReasonRoom.is)

pub returns-in-FeatureCount : goal.returns-in-FeatureCount
returns-in-FeatureCount c = ap (λ told. answer_of (Err told)) (sym c.in-FeatureCount.is)

pub returns-in-NotListed : goal.returns-in-NotListed
returns-in-NotListed c = ap (λ told. answer_of (Err told)) (sym c.in-NotListed.is)
