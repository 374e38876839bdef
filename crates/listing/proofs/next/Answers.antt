-- `next` meets its contract: the table is opened first.
use Rattle.std.proofs.lemmas.Result.{err_from_is_err_and}
use Rattle.lattice.proofs.Laws.{accepted-size}
use Rattle.acceptance.proofs.Acceptance.{opened-accepted}
use Rattle.listing.proofs.Checks.{table-refused, table-accepted}
use Rattle.listing.proofs.next.Goals as goal

pub next_over-requires : goal.next_over-requires
next_over-requires c =
    let s = accepted-size c.args.n c.args.table.now
    (opened-accepted c.args.n c.args.table.now _ c.accept.ensures c.in_ok-accept.was) in
    (s.0, s.1)

pub returns-in_err-accept : goal.returns-in_err-accept
returns-in_err-accept c =
    let refused = err_from_is_err_and c.from_residual.result c.from_residual.ensures.1 in
    rw (refused.1, refused.2)
    (table-refused c.args.n c.args.table.now c.args.features c.args.bytes.now c.args.out.now c.accept.ensures _ c.in_err-accept.was)

pub returns : goal.returns
returns c =
    table-accepted c.args.n c.args.table.now c.args.features c.args.bytes.now c.args.out.now
    c.accept.ensures c.in_ok-accept.was
    c.next_over.ensures
