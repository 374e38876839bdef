-- `reply::put_side` meets its contract.
use Rattle.request.proofs.Replies.{puts-side}
use Rattle.request.proofs.reply.put_side.Goals as goal

pub returns-in-First : goal.returns-in-First
returns-in-First c = puts-side c.in-First.is c.put_word.ensures

pub returns-in-Second : goal.returns-in-Second
returns-in-Second c = puts-side c.in-Second.is c.put_word-in-Second.ensures
