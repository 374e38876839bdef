-- The table is opened; then the buffer.
use mathlib.Core.Path.{◌∙◌}
use Rattle.std.proofs.lemmas.Result.{err_from_is_err_and}
use Rattle.store.proofs.Opening.{read-stops, read_made}
use Rattle.store.proofs.read.Goals as goal

pub returns-in_err-open : goal.returns-in_err-open
returns-in_err-open c =
    let a = c.args in
    let given = err_from_is_err_and c.from_residual.result c.from_residual.ensures.1 in
    rw (given.1, given.2) (read-stops a.n a.table.now a.store.now c.open.ensures a.version a.out.now _ c.in_err-open.was)

pub read_among-requires : goal.read_among-requires
read_among-requires c = c.open.ensures.opened c.in_ok-open.was

pub returns : goal.returns
returns c =
    let a = c.args in
    c.read_among.ensures ∙ read_made a.n a.table.now a.store.now c.open.ensures a.version a.out.now c.in_ok-open.was
