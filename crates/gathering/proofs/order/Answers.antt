-- `order` meets its contract: the table in the state is tested; then the program is compared with what is gathered.
use mathlib.Core.Path.{◌∙◌}
use Rattle.std.proofs.lemmas.Result.{err_from_is_err_and}
use Rattle.engine.proofs.Tables.{few-types}
use Rattle.gathering.proofs.Answers.{order-refused, order-none, order-some}
use Rattle.gathering.proofs.order.Goals as goal

pub returns-then-gathered-eq0 : goal.returns-then-gathered-eq0
returns-then-gathered-eq0 c =
    c.nothing_after.ensures ∙
    order-none c.find-types.ensures c.accept.ensures c.args.bytes.now c.in_ok-accept.was c.if-gathered-eq0.true

pub of_records-requires : goal.of_records-requires
of_records-requires c = few-types _ _ _ c.accept.ensures c.in_ok-accept.was

pub returns-in_err-accept : goal.returns-in_err-accept
returns-in_err-accept c =
    let given = err_from_is_err_and c.from_residual.result c.from_residual.ensures.1 in
    rw (given.1, given.2) (order-refused c.find-types.ensures c.accept.ensures c.args.bytes.now _ c.in_err-accept.was)

pub returns : goal.returns
returns c =
    c.of_records.ensures ∙
    order-some c.find-types.ensures c.accept.ensures c.args.bytes.now c.in_ok-accept.was c.if-gathered-eq0.false
