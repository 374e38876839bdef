use mathlib.Core.Path.{◌∙◌}
use native.Mathlib.Omega.{arith}
use Rattle.rows.proofs.LentRows.{making-start, making-inside, making-room, making-target, making-link, making-row, making-done, span-inside, span-feature, span-target, span-end}
use Rattle.rows.proofs.lending.lend_rows.Goals as goal

pub loop-v-init : goal.loop-v-init
loop-v-init c = making-start c.requires (omega (arith, c.if-rows-count_links.false, c.count_links.ensures))

pub overflow_cast-rows-in-loop-word-2 : goal.overflow_cast-rows-in-loop-word-2
overflow_cast-rows-in-loop-word-2 c =
    let before = span-inside c.args.graph.now c.loop-v.v c.loop-word.word-index c.links_from-begin.ensures c.loop-word-test.true in
    let target = c.target.ensures ∙ span-target c.args.graph.now c.loop-v.v c.loop-word.word-index c.links_from-begin.ensures c.loop-word-test.true in
    omega (arith, target, making-target c.loop-word.invariant c.loop-v-test.true before)

pub bounds-rows-next : goal.bounds-rows-next
bounds-rows-next c =
    let before = span-inside c.args.graph.now c.loop-v.v c.loop-word.word-index c.links_from-begin.ensures c.loop-word-test.true in
    omega (arith, making-room c.loop-word.invariant c.loop-v-test.true before)

pub loop-word-preserved : goal.loop-word-preserved
loop-word-preserved c =
    let before = span-inside c.args.graph.now c.loop-v.v c.loop-word.word-index c.links_from-begin.ensures c.loop-word-test.true in
    let feature = c.feature.ensures ∙ span-feature c.args.graph.now c.loop-v.v c.loop-word.word-index c.links_from-begin.ensures c.loop-word-test.true in
    let target = c.target.ensures ∙ span-target c.args.graph.now c.loop-v.v c.loop-word.word-index c.links_from-begin.ensures c.loop-word-test.true in
    making-link c.loop-word.invariant c.loop-v-test.true before feature target (omega arith)

pub loop-v-preserved : goal.loop-v-preserved
loop-v-preserved c =
    let inside = making-inside c.loop-word.invariant c.loop-v-test.true in
    let ends = span-end c.args.graph.now c.loop-v.v c.loop-word.word-index c.links_from-begin.ensures inside c.loop-word-test.false in
    making-row c.loop-word.invariant c.loop-v-test.true ends

pub returns : goal.returns
returns c = record { enough = λ _. making-done c.loop-v.invariant c.loop-v-test.false; few = λ h. absurd (omega (arith, h, c.loop-v.invariant.room)) }
