-- `put_words` meets its contract: the request is that of the input.
use mathlib.Core.Path.{sym}
use Rattle.request.proofs.Replies.{puts-words}
use Rattle.request.proofs.put_words.Goals as goal

pub returns-in-Ok : goal.returns-in-Ok
returns-in-Ok c = puts-words (sym c.in-Ok.ensures) c.put_answer.ensures

pub returns-in-Err : goal.returns-in-Err
returns-in-Err c = puts-words (sym c.in-Err.ensures) c.put_word.ensures
