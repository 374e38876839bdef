-- `differing::differ_sized` meets its contract: a refused record gives its refusal; else the second graph is numbered as written, and the difference
-- of the two graphs is written.
use mathlib.Core.Path.{refl}
use Prim.Native.Nat.{ℕ}
use native.Mathlib.Omega.{arith}
use lib.ListN.{length-replicate}
use Rattle.std.proofs.lemmas.Result.{err_from_is_err_and}
use Rattle.lattice.proofs.Laws.{accepted-size}
use Rattle.pairs.proofs.Readings.{both-loaded, optional-none, reads_plain}
use Rattle.engine.proofs.Differences.{renumbered, parting-refused, parting-both}
use Rattle.engine.proofs.differing.differ_sized.Goals as goal

pub read_both-requires : goal.read_both-requires
read_both-requires g c =
    let few = (accepted-size c.args.n c.args.table.now c.requires.table_value.0).1 in
    record { n_bound = (few, optional-none c.args.n _ refl); roomy = rw (length-replicate {A = ℕ} g.row.WORDS 0) c.requires.roomy }

pub renumber-requires : goal.renumber-requires
renumber-requires g c =
    let a = c.args in
    let (one, other) = both-loaded a.n a.table.now _ a.first.now a.second.now c.read_both.ensures c.in_ok-read_both.was in
    record { sound = other.sound; graph_in_bounds = omega (arith, c.read_both.auto.b, length-replicate {A = ℕ} g.row.WORDS 0) }

pub difference-requires : goal.difference-requires
difference-requires g c =
    let a = c.args in
    let (one, other) = both-loaded a.n a.table.now _ a.first.now a.second.now c.read_both.ensures c.in_ok-read_both.was in
    let numbers = renumbered a.n _ other c.renumber.ensures in (
      record {
        accepts = c.requires.table_value.0;
        general = one;
        specific = numbers.loaded;
        short = omega (arith, c.renumber.auto.new, length-replicate {A = ℕ} g.row.WORDS 0, c.requires.few);
      },
      c.requires.table_value.1,
      omega (arith, c.read_both.auto.a, c.renumber.auto.new),
    )

pub returns-in_err-read_both : goal.returns-in_err-read_both
returns-in_err-read_both g c =
    let a = c.args in
    let given = err_from_is_err_and c.from_residual.result c.from_residual.ensures.1 in
    rw (given.1, given.2)
    (parting-refused a.options a.n a.table.now a.first.now a.second.now a.out.now a.reasons.now (reads_plain a.n a.table.now _ a.first.now a.second.now refl c.read_both.ensures) _ c.in_err-read_both.was)

pub returns : goal.returns
returns g c =
    let a = c.args in
    let both = c.in_ok-read_both.was in
    let (one, other) = both-loaded a.n a.table.now _ a.first.now a.second.now c.read_both.ensures both in
    let numbers = renumbered a.n _ other c.renumber.ensures in
    parting-both a.options a.n a.table.now a.first.now a.second.now a.out.now a.reasons.now (reads_plain a.n a.table.now _ a.first.now a.second.now refl c.read_both.ensures) both _ numbers.rows_are c.difference.ensures
