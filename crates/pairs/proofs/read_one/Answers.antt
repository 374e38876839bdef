-- `read_one` meets its contract: a record is read without a list where the list is empty, else with it.
use mathlib.Core.Path.{sym, ◌∙◌}
use borrow.Author.Tests.{eqb-true, eqb-false}
use Rattle.pairs.proofs.Readings.{tells-plain, tells-listed}
use Rattle.pairs.proofs.read_one.Goals as goal

pub returns-then-is_empty : goal.returns-then-is_empty
returns-then-is_empty c =
    let a = c.args in
    tells-plain a.n a.table.now a.list.now a.bytes.now (eqb-true _ 0 (sym c.is_empty.ensures ∙ c.if-is_empty.true)) c.read.ensures

pub read-requires-2 : goal.read-requires-2
read-requires-2 c =
    (record { n_bound = (c.requires.0, c.requires.1 (sym c.is_empty.ensures ∙ c.if-is_empty.false)); roomy = c.requires.2 })

pub returns : goal.returns
returns c =
    let a = c.args in
    tells-listed a.n a.table.now a.list.now a.bytes.now (eqb-false _ 0 (sym c.is_empty.ensures ∙ c.if-is_empty.false)) c.read-2.ensures
