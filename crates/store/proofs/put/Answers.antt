-- The table is opened; then the buffer.
use mathlib.Core.Path.{sym, ◌∙◌}
use native.Mathlib.Omega.{arith}
use lib.ListN.{length}
use Rattle.std.proofs.lemmas.Result.{err_from_is_err_and}
use Rattle.gathering.proofs.Told.{told-ok, told-err, handed-on}
use Rattle.contents.proofs.Room.{blank-room}
use Rattle.store.proofs.Settling.{front-inside, front_length, front-bounded, front-made, front-told, settle-none}
use Rattle.store.proofs.Opening.{put-stops, put-made}
use Rattle.store.proofs.put.Goals as goal

pub returns-in_err-open : goal.returns-in_err-open
returns-in_err-open c =
    let a = c.args in
    let given = err_from_is_err_and c.from_residual.result c.from_residual.ensures.1 in
    rw (given.1, given.2) (put-stops a.n a.table.now a.store.now c.open.ensures a.version a.bytes.now _ c.in_err-open.was)

pub slice_bounds-put_among-end-2 : goal.slice_bounds-put_among-end-2
slice_bounds-put_among-end-2 c = sym (blank-room _ (c.open.ensures.opened c.in_ok-open.was).1)

pub put_among-requires : goal.put_among-requires
put_among-requires c =
    let ready = c.open.ensures.opened c.in_ok-open.was in
    (ready.0, blank-room _ ready.1, ready.1)

pub returns-in_err-used : goal.returns-in_err-used
returns-in_err-used c =
    let a = c.args in
    let ready = c.open.ensures.opened c.in_ok-open.was in
    rw (handed-on c.from_residual-in_err-used.ensures.1 c.in_err-used.was)
    (settle-none _ _ a.store.now (told-err c.in_err-used.was)
    ∙ put-made a.n a.table.now a.store.now c.open.ensures a.version a.bytes.now c.in_ok-open.was
    (front-made (length a.store.now) ready.1 c.put_among.ensures))

pub slice_bounds-state-end-2 : goal.slice_bounds-state-end-2
slice_bounds-state-end-2 c = front-inside (length c.args.store.now) (c.open.ensures.opened c.in_ok-open.was).1 c.put_among.ensures

pub slice_bounds-settle-end : goal.slice_bounds-settle-end
slice_bounds-settle-end c = sym (front_length (length c.args.store.now) (c.open.ensures.opened c.in_ok-open.was).1 c.put_among.ensures)

pub settle-requires : goal.settle-requires
settle-requires c =
    let room = (c.open.ensures.opened c.in_ok-open.was).1 in
    (front-bounded (length c.args.store.now) room c.put_among.ensures _ (told-ok c.in_ok-used.was), front_length (length c.args.store.now) room c.put_among.ensures)

pub returns : goal.returns
returns c =
    let a = c.args in
    let ready = c.open.ensures.opened c.in_ok-open.was in
    c.settle.ensures
    ∙ put-made a.n a.table.now a.store.now c.open.ensures a.version a.bytes.now c.in_ok-open.was
    (front-told (length a.store.now) ready.1 c.put_among.ensures _ (told-ok c.in_ok-used.was))
