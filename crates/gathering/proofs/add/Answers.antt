-- `add` meets its contract: the table in the state is opened; then the program is joined with what is gathered, and the length is put.
use mathlib.Core.Path.{refl, sym, ◌∙◌}
use Rattle.std.proofs.lemmas.Result.{err_from_is_err_and}
use Rattle.acceptance.proofs.Acceptance.{opened-accepted}
use Rattle.gathering.proofs.Told.{told-ok, told-err, handed-on, settled-none, settled-some}
use Rattle.gathering.proofs.Joins.{add-refused, settle-fits, add-accepted}
use Rattle.gathering.proofs.add.Goals as goal

pub slice_bounds-join-end : goal.slice_bounds-join-end
slice_bounds-join-end c = sym c.open.ensures.long

pub join-requires : goal.join-requires
join-requires c =
    let ok = opened-accepted _ _ _ c.open.ensures.answers c.in_ok-open.was in
    (_, record { ok = ok; lent = _; long = λ d. refl; holding = c.open.ensures.holds ok })

pub put_length-requires : goal.put_length-requires
put_length-requires c =
    let ok = opened-accepted _ _ _ c.open.ensures.answers c.in_ok-open.was in
    settle-fits c.find-types.ensures c.open.ensures.answers c.args.bytes.now
    (c.join.ensures _ (record { ok = ok; lent = _; long = λ d. refl; holding = c.open.ensures.holds ok })) _ _ (told-ok c.in_ok-length.was)

pub returns-in_err-open : goal.returns-in_err-open
returns-in_err-open c =
    let given = err_from_is_err_and c.from_residual.result c.from_residual.ensures.1 in
    rw (given.1, given.2) (add-refused c.find-types.ensures c.open.ensures.answers c.args.bytes.now _ c.in_err-open.was)

pub returns-in_err-length : goal.returns-in_err-length
returns-in_err-length c =
    let ok = opened-accepted _ _ _ c.open.ensures.answers c.in_ok-open.was in
    rw (handed-on c.from_residual-in_err-length.ensures.1 c.in_err-length.was)
    (settled-none c.find-types.result.end _ _ (told-err c.in_err-length.was) ∙
    add-accepted c.find-types.ensures c.open.ensures.answers c.args.bytes.now
    (c.join.ensures _ (record { ok = ok; lent = _; long = λ d. refl; holding = c.open.ensures.holds ok })) c.in_ok-open.was)

pub returns : goal.returns
returns c =
    let ok = opened-accepted _ _ _ c.open.ensures.answers c.in_ok-open.was in
    settled-some c.find-types.result.end _ _ _ (told-ok c.in_ok-length.was) c.put_length.ensures ∙
    add-accepted c.find-types.ensures c.open.ensures.answers c.args.bytes.now
    (c.join.ensures _ (record { ok = ok; lent = _; long = λ d. refl; holding = c.open.ensures.holds ok })) c.in_ok-open.was
