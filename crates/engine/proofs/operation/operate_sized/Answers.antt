-- `operation::operate_sized` meets its contract: a refused record gives its refusal; else the result for the two graphs is written.
use mathlib.Core.Path.{sym, ◌∙◌}
use Prim.Native.Nat.{ℕ}
use lib.ListN.{length-replicate}
use Rattle.lattice.proofs.Laws.{accepted-size}
use Rattle.std.proofs.lemmas.Result.{err_from_is_err_and}
use Rattle.replies.specs.Reply.{refusing}
use Rattle.pairs.proofs.Readings.{both-loaded, both-next, both-refused}
use Rattle.engine.proofs.operation.operate_sized.Goals as goal

pub read_both-requires : goal.read_both-requires
read_both-requires g c =
    let (held, optional) = c.requires.opened in
    record { n_bound = ((accepted-size c.args.n c.args.table.now held.ok).1, optional); roomy = rw (length-replicate {A = ℕ} g.row.WORDS 0) c.requires.roomy }

pub of_graphs-requires : goal.of_graphs-requires
of_graphs-requires g c =
    let a = c.args in
    ((a.table.now, c.requires.opened.0), both-loaded a.n a.table.now a.list.now a.first.now a.second.now c.read_both.ensures c.in_ok-read_both.was)

pub returns-in_err-read_both : goal.returns-in_err-read_both
returns-in_err-read_both g c =
    let a = c.args in
    let given = err_from_is_err_and c.from_residual.result c.from_residual.ensures.1 in
    rw (given.1, given.2)
    (sym (both-refused c.read_both.ensures (λ r. refusing r a.out.now) (g.O.Operation.written a.n a.table.now a.out.now) _ c.in_err-read_both.was))

pub returns : goal.returns
returns g c =
    let a = c.args in
    c.of_graphs.ensures a.table.now c.requires.opened.0
    ∙ sym (both-next c.read_both.ensures (λ r. refusing r a.out.now) (g.O.Operation.written a.n a.table.now a.out.now) c.in_ok-read_both.was)
