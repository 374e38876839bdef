-- `answers::answer_of` meets its contract.
use mathlib.Core.Path.{sym, ◌∙◌, ap}
use Rattle.replies.specs.Reply.{answer_of}
use Rattle.replies.proofs.answers.answer_of.Goals as goal

pub returns-in-Ok : goal.returns-in-Ok
returns-in-Ok c = c.success_answer.ensures ∙ ap answer_of (sym c.in-Ok.is)

pub returns-in-Err : goal.returns-in-Err
returns-in-Err c = c.refusal_answer.ensures ∙ ap answer_of (sym c.in-Err.is)
