-- `finish` meets its contract: the table in the state is tested; then what is gathered is written.
use mathlib.Core.Path.{◌∙◌}
use Rattle.std.proofs.lemmas.Result.{err_from_is_err_and}
use Rattle.gathering.proofs.Answers.{finish-refused, finish-none, finish-some}
use Rattle.gathering.proofs.finish.Goals as goal

pub returns-then-gathered-eq0 : goal.returns-then-gathered-eq0
returns-then-gathered-eq0 c =
    finish-none c.find-types.ensures c.accept.ensures c.args.out.now c.in_ok-accept.was c.if-gathered-eq0.true

pub returns-in_err-accept : goal.returns-in_err-accept
returns-in_err-accept c =
    let given = err_from_is_err_and c.from_residual.result c.from_residual.ensures.1 in
    rw (given.1, given.2) (finish-refused c.find-types.ensures c.accept.ensures c.args.out.now _ c.in_err-accept.was)

pub returns : goal.returns
returns c =
    c.write.ensures ∙
    finish-some c.find-types.ensures c.accept.ensures c.args.out.now c.in_ok-accept.was c.if-gathered-eq0.false
