-- `of_graph` meets its contract: the graph is written.
use Rattle.std.proofs.lemmas.Result.{err_from_is_err_and}
use Rattle.replies.proofs.Told.{told-written, told-unwritten}
use Rattle.engine.proofs.Written.{replied-as}
use Rattle.engine.proofs.rewriting.of_graph.Goals as goal

pub returns-in_err-write : goal.returns-in_err-write
returns-in_err-write c =
    let given = err_from_is_err_and c.from_residual.result c.from_residual.ensures.1 in
    rw given.1 (replied-as c.write.ensures (told-unwritten c.in_err-write.was given.2))

pub returns : goal.returns
returns c = replied-as c.write.ensures (told-written c.in_ok-write.was)
