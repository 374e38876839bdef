-- `begin` meets its contract: the table is tested, then the room; then n, the table and a length of 0 are stored.
use mathlib.Core.Path.{◌∙◌}
use native.Mathlib.Omega.{arith}
use lib.ListN.{length-set}
use Rattle.std.proofs.lemmas.Result.{err_from_is_err_and}
use Rattle.engine.proofs.Tables.{few-types}
use Rattle.gathering.proofs.Beginning.{begun-refused, begun-short, table_fits, begun-stored}
use Rattle.gathering.proofs.begin.Goals as goal

pub overflow_mul-n : goal.overflow_mul-n
overflow_mul-n c = omega (arith, few-types c.args.n c.args.table.now _ c.accept.ensures c.in_ok-accept.was)

pub overflow_add-n : goal.overflow_add-n
overflow_add-n c = omega (arith, few-types c.args.n c.args.table.now _ c.accept.ensures c.in_ok-accept.was)

pub overflow_add-n-2 : goal.overflow_add-n-2
overflow_add-n-2 c = omega (arith, few-types c.args.n c.args.table.now _ c.accept.ensures c.in_ok-accept.was)

pub overflow_add-n-3 : goal.overflow_add-n-3
overflow_add-n-3 c = omega (arith, few-types c.args.n c.args.table.now _ c.accept.ensures c.in_ok-accept.was)

pub returns-then-state-n : goal.returns-then-state-n
returns-then-state-n c = begun-short c.args.n c.args.table.now c.accept.ensures c.args.state.now c.in_ok-accept.was c.if-state-n.true

pub overflow_cast-state : goal.overflow_cast-state
overflow_cast-state c = omega (arith, few-types c.args.n c.args.table.now _ c.accept.ensures c.in_ok-accept.was)

pub copy-requires : goal.copy-requires
copy-requires c = table_fits c.args.n c.args.table.now c.accept.ensures c.args.state.now c.in_ok-accept.was c.if-state-n.false

pub put_length-requires : goal.put_length-requires
put_length-requires c = omega (arith, c.if-state-n.false, c.state-1.given, length-set c.args.state.now 0 c.args.n)

pub returns-in_err-accept : goal.returns-in_err-accept
returns-in_err-accept c =
    let given = err_from_is_err_and c.from_residual.result c.from_residual.ensures.1 in
    rw (given.1, given.2) (begun-refused c.args.n c.args.table.now c.accept.ensures c.args.state.now _ c.in_err-accept.was)

pub shape_of-state : goal.shape_of-state
shape_of-state c = c.state-2-1.given ∙ c.state-1.given ∙ length-set c.args.state.now 0 c.args.n

pub returns : goal.returns
returns c = begun-stored c.args.n c.args.table.now c.accept.ensures c.args.state.now c.in_ok-accept.was c.if-state-n.false c.copy.ensures c.put_length.ensures
