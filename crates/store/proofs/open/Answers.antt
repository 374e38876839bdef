-- The table is opened; then the length of the buffer is tested.
use mathlib.Core.Path.{refl}
use native.Mathlib.Omega.{arith}
use Rattle.std.proofs.lemmas.Result.{err_from_is_err_and}
use Rattle.acceptance.proofs.Acceptance.{opened-accepted}
use Rattle.store.proofs.Opening.{opens-table, opens-long, opens_both}
use Rattle.store.proofs.open.Goals as goal

pub returns-in_err-open : goal.returns-in_err-open
returns-in_err-open c =
    let given = err_from_is_err_and c.from_residual.result c.from_residual.ensures.1 in
    rw (given.1, given.2) (opens-table c.args.n c.args.table.now c.args.room c.open.ensures.answers _ c.in_err-open.was)

pub returns-then-room-gt-MOST : goal.returns-then-room-gt-MOST
returns-then-room-gt-MOST c =
    opens-long c.args.n c.args.table.now c.args.room (opened-accepted _ _ _ c.open.ensures.answers c.in_ok-open.was) c.if-room-gt-MOST.true

pub returns : goal.returns
returns c =
    let ok = opened-accepted _ _ _ c.open.ensures.answers c.in_ok-open.was in
    opens_both c.args.n c.args.table.now c.args.room
    (record { ok = ok; lent = _; long = λ d. c.requires.1; holding = c.open.ensures.holds ok }) (omega (arith, c.if-room-gt-MOST.false))
