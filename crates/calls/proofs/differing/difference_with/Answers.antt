-- `difference_with` meets its contract: the table is tested; then the difference is written.
use mathlib.Core.Path.{sym}
use Rattle.std.proofs.lemmas.Result.{err_from_is_err_and}
use Rattle.acceptance.proofs.Acceptance.{opened-accepted}
use Rattle.calls.proofs.Differences.{differing-refused, differing-accepted}
use Rattle.calls.proofs.differing.difference_with.Goals as goal

pub of_records-requires : goal.of_records-requires
of_records-requires c =
    let a = c.args in
    (opened-accepted a.n a.table.now _ c.accept.ensures c.in_ok-accept.was, c.by_number-order.ensures.0)

pub returns-in_err-accept : goal.returns-in_err-accept
returns-in_err-accept c =
    let a = c.args in
    let refused = err_from_is_err_and c.from_residual.result c.from_residual.ensures.1 in
    rw (refused.1, refused.2) (differing-refused a.explained a.n a.table.now a.first.now a.second.now a.out.now a.reasons.now _ (sym c.in_err-accept.ensures))

pub returns : goal.returns
returns c =
    let a = c.args in
    differing-accepted a.explained a.n a.table.now a.first.now a.second.now a.out.now a.reasons.now (sym c.in_ok-accept.ensures) c.by_number-order.ensures.1 c.of_records.ensures
