-- `check` meets its contract: the table is tested, and nothing else is done.
use mathlib.Core.Path.{sym}
use Rattle.std.proofs.lemmas.Result.{err_from_is_err_and}
use Rattle.calls.proofs.Tables.{checking-refused, checking-accepted}
use Rattle.calls.proofs.checking.check.Goals as goal

pub returns-in_err-accept : goal.returns-in_err-accept
returns-in_err-accept c =
    let a = c.args in
    let refused = err_from_is_err_and c.from_residual.result c.from_residual.ensures.1 in
    rw (refused.1, refused.2) (checking-refused a.n a.table.now _ (sym c.in_err-accept.ensures))

pub returns : goal.returns
returns c =
    let a = c.args in
    checking-accepted a.n a.table.now (sym c.in_ok-accept.ensures)
