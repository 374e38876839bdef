use native.Mathlib.Omega.{arith}
use mathlib.Core.Path.{sym, ◌∙◌, ap}
use lib.ListN.{length, length-set}
use Rattle.layout.specs.Builder.{put_label}
use Rattle.layout.proofs.Builder.{length-put}
use Rattle.keeping.proofs.Keeping.{node-known}
use Rattle.keeping.proofs.Thinning.{row-known, rows_start, rows_next, rows-done}
use Rattle.keeping.proofs.rows.kept_links.Goals as goal

pub bounds-s-0 : goal.bounds-s-0
bounds-s-0 c = let node = node-known c.requires.markable 0 c.requires.markable.sound.shaped.nonempty in omega (arith, node.node.listed)

pub overflow_cast-nodes : goal.overflow_cast-nodes
overflow_cast-nodes c = omega (arith, c.requires.markable.small)

pub bounds-s-1 : goal.bounds-s-1
bounds-s-1 c = let node = node-known c.requires.markable 0 c.requires.markable.sound.shaped.nonempty in omega (arith, node.node.listed)

pub overflow_cast-at : goal.overflow_cast-at
overflow_cast-at c = let node = node-known c.requires.markable 0 c.requires.markable.sound.shaped.nonempty in omega (arith, node.node.begun, node.ended)

pub overflow_cast-words : goal.overflow_cast-words
overflow_cast-words c = omega (arith, c.requires.markable.small)

pub bounds-words-0 : goal.bounds-words-0
bounds-words-0 c = omega (arith, (node-known c.requires.markable 0 c.requires.markable.sound.shaped.nonempty).node.listed, c.requires.words_len)

pub overflow_cast-words-2 : goal.overflow_cast-words-2
overflow_cast-words-2 c = let node = node-known c.requires.markable 0 c.requires.markable.sound.shaped.nonempty in omega (arith, node.node.begun, node.ended)

pub bounds-words-1 : goal.bounds-words-1
bounds-words-1 c = simp length-set (omega (arith, (node-known c.requires.markable 0 c.requires.markable.sound.shaped.nonempty).node.listed, c.requires.words_len))

pub loop-v-init : goal.loop-v-init
loop-v-init c = (omega arith, c.requires.markable, rows_start c.args.words.now c.requires.markable c.requires.words_len)

pub overflow_mul-v : goal.overflow_mul-v
overflow_mul-v c =
    let known = row-known c.loop-v.invariant.1 c.loop-v-test.true c.loop-v.invariant.2 in
    omega (arith, known.small)

pub label_from-requires : goal.label_from-requires
label_from-requires c =
    let turn = c.loop-v in
    let start = c.requires.labels_len in
    (omega (arith, start.0, (row-known c.loop-v.invariant.1 c.loop-v-test.true c.loop-v.invariant.2).small), start.1 turn.v c.loop-v-test.true)

pub put_label-requires : goal.put_label-requires
put_label-requires c = omega (arith, c.loop-v.invariant.2.long, (row-known c.loop-v.invariant.1 c.loop-v-test.true c.loop-v.invariant.2).fits)

pub overflow_add-at : goal.overflow_add-at
overflow_add-at c =
    let known = row-known c.loop-v.invariant.1 c.loop-v-test.true c.loop-v.invariant.2 in
    omega (arith, known.room)

pub keep_row-at-requires : goal.keep_row-at-requires
keep_row-at-requires c =
    let turn = c.loop-v in
    let known = row-known c.loop-v.invariant.1 c.loop-v-test.true c.loop-v.invariant.2 in
    (record { markable = (turn.invariant.1, c.loop-v-test.true); words_len = (ap length c.put_label.ensures ∙ length-put turn.words turn.at _ ∙ turn.invariant.2.long, known.before) })

pub overflow_cast-words-in-loop-v : goal.overflow_cast-words-in-loop-v
overflow_cast-words-in-loop-v c =
    let known = row-known c.loop-v.invariant.1 c.loop-v-test.true c.loop-v.invariant.2 in
    omega (arith, c.keep_row-at.ensures.short, known.ended)

pub overflow_add-words : goal.overflow_add-words
overflow_add-words c =
    let known = row-known c.loop-v.invariant.1 c.loop-v-test.true c.loop-v.invariant.2 in
    omega (arith, known.small)

pub offset_bounds-words-v : goal.offset_bounds-words-v
offset_bounds-words-v c =
    let known = row-known c.loop-v.invariant.1 c.loop-v-test.true c.loop-v.invariant.2 in
    omega (arith, known.small)

pub bounds-words-v : goal.bounds-words-v
bounds-words-v c =
    let turn = c.loop-v in
    omega (arith, (node-known turn.invariant.1 turn.v c.loop-v-test.true).node.listed, c.keep_row-at.ensures.long)

pub loop-v-smaller : goal.loop-v-smaller
loop-v-smaller c = omega (arith, c.loop-v-test.true)

pub loop-v-preserved : goal.loop-v-preserved
loop-v-preserved c =
    let turn = c.loop-v in
    let test = c.loop-v-test.true in
    (omega (arith, test), turn.invariant.1, rows_next turn.invariant.1 test turn.invariant.2 (c.put_label.ensures ∙ ap (put_label turn.words turn.at) c.label_from.ensures) c.keep_row-at.ensures)

pub shape_of-words : goal.shape_of-words
shape_of-words c = c.loop-v.invariant.2.long ∙ sym c.requires.words_len

pub returns : goal.returns
returns c = rows-done c.loop-v.invariant.2 c.loop-v.invariant.0 c.loop-v-test.false
