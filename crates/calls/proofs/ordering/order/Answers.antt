-- `order` meets its contract: the table is tested; then the records are compared.
use mathlib.Core.Path.{sym}
use Rattle.std.proofs.lemmas.Result.{err_from_is_err_and}
use Rattle.engine.proofs.Tables.{few-types}
use Rattle.calls.proofs.Tables.{ordering-refused, ordering-accepted}
use Rattle.calls.proofs.ordering.order.Goals as goal

pub of_records-requires : goal.of_records-requires
of_records-requires c =
    let a = c.args in
    few-types a.n a.table.now _ c.accept.ensures c.in_ok-accept.was

pub returns-in_err-accept : goal.returns-in_err-accept
returns-in_err-accept c =
    let a = c.args in
    let refused = err_from_is_err_and c.from_residual.result c.from_residual.ensures.1 in
    rw (refused.1, refused.2) (ordering-refused a.n a.table.now a.first.now a.second.now _ (sym c.in_err-accept.ensures))

pub returns : goal.returns
returns c =
    let a = c.args in
    ordering-accepted a.n a.table.now a.first.now a.second.now (sym c.in_ok-accept.ensures) c.of_records.ensures
