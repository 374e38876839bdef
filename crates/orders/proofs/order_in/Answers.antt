-- `order_in` meets its contract: two records are read, and their graphs are compared where both are accepted.
use mathlib.Core.Path.{refl, sym, ◌∙◌}
use Rattle.std.proofs.lemmas.Result.{err_from_is_err_and}
use Rattle.pairs.proofs.Readings.{both-loaded, both-next, both-refused, optional-none, reads_plain}
use Rattle.orders.specs.Ordering.{ordered}
use Rattle.orders.proofs.order_in.Goals as goal

pub read_both-requires : goal.read_both-requires
read_both-requires c = (record { n_bound = (c.requires.0, optional-none c.args.n _ refl); roomy = (c.requires.1, c.requires.2) })

pub of_graphs-requires : goal.of_graphs-requires
of_graphs-requires c =
    let a = c.args in
    (a.n, (c.requires.0, both-loaded a.n a.table.now _ a.first.now a.second.now c.read_both.ensures c.in_ok-read_both.was))

pub returns-in_err-read_both : goal.returns-in_err-read_both
returns-in_err-read_both c =
    let a = c.args in
    let given = err_from_is_err_and c.from_residual.result c.from_residual.ensures.1 in
    rw (given.1, given.2)
    (sym (both-refused (reads_plain a.n a.table.now _ a.first.now a.second.now refl c.read_both.ensures) (λ r. r) (ordered a.n a.table.now) _ c.in_err-read_both.was))

pub returns : goal.returns
returns c =
    let a = c.args in
    let both = c.in_ok-read_both.was in
    let (one, other) = both-loaded a.n a.table.now _ a.first.now a.second.now c.read_both.ensures both in
    c.of_graphs.ensures a.n one other
    ∙ sym (both-next (reads_plain a.n a.table.now _ a.first.now a.second.now refl c.read_both.ensures) (λ r. r) (ordered a.n a.table.now) both)
