-- `fill` meets its contract: the cells hold the bounds of one side. The table is accepted where every two types have a bound.
use Rattle.lattice.proofs.Sizes.{size-facts}
use Rattle.acceptance.proofs.Acceptance.{table-size, up-words, side-sided}
use mathlib.Core.Bool.{true, false}
use Rattle.bounds.proofs.Opening.{words-ordered, fills-found}
use Rattle.bounds.proofs.fill.Goals as goal

pub read_words-down-requires : goal.read_words-down-requires
read_words-down-requires c = (size-facts _ _ c.requires.0).1

pub turn_words-above-requires : goal.turn_words-above-requires
turn_words-above-requires c = (size-facts _ _ c.requires.0).1

pub fill-requires : goal.fill-requires
fill-requires c =
    let a = c.args in
    let passed = words-ordered a.n a.table.now c.requires.0 c.requires.1 c.read_words-down.result c.read_words-down.ensures in
    let turn = c.turn_words-above in
    ((table-size a.n a.table.now _ passed).1, side-sided a.n a.table.now _ passed true turn.result (up-words a.n a.table.now _ passed turn.result turn.ensures))

pub returns-then-up : goal.returns-then-up
returns-then-up c =
    let a = c.args in
    let passed = words-ordered a.n a.table.now c.requires.0 c.requires.1 c.read_words-down.result c.read_words-down.ensures in
    let turn = c.turn_words-above in
    let made = up-words a.n a.table.now _ passed turn.result turn.ensures in
    fills-found a.n a.table.now _ passed true turn.result made _ a.up c.if-up.true _ _ _ c.bounded.ensures c.fill.ensures.all c.fill.ensures.rows

pub fill-requires-2 : goal.fill-requires-2
fill-requires-2 c =
    let a = c.args in
    let passed = words-ordered a.n a.table.now c.requires.0 c.requires.1 c.read_words-down.result c.read_words-down.ensures in
    ((table-size a.n a.table.now _ passed).1, side-sided a.n a.table.now _ passed false c.read_words-down.result c.read_words-down.ensures)

pub returns : goal.returns
returns c =
    let a = c.args in
    let passed = words-ordered a.n a.table.now c.requires.0 c.requires.1 c.read_words-down.result c.read_words-down.ensures in
    fills-found a.n a.table.now _ passed false c.read_words-down.result c.read_words-down.ensures _ a.up c.if-up.false _ _ _ c.bounded-2.ensures c.fill-2.ensures.all c.fill-2.ensures.rows
