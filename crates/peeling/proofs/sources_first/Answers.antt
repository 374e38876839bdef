use native.Mathlib.Omega.{arith}
use Rattle.layout.proofs.Places.{sized}
use Rattle.peeling.proofs.Passes.{peeling-start, peeling-few, next-inside, peeling-row, peeling-next, peels-cyclic, peels-rooted, peels-apart}
use borrow.Author.Rules.{rules}
use Rattle.peeling.proofs.sources_first.Goals as goal
use Rattle.peeling.proofs.sources_first.Goals.{else-sources-eq1-via-then-sources-eq1+else-queue-eq0, else-sources-eq1-via-else-sources-eq1}

pub size-nodes-requires : goal.size-nodes-requires
size-nodes-requires c = sized c.requires.sound

pub find_sources-sources-requires : goal.find_sources-sources-requires
find_sources-sources-requires c = (record { nodes_bound = rw c.size-nodes.ensures c.requires.counted.small; incoming_len = (c.requires.counted.long, search rules) })

pub loop-next-init : goal.loop-next-init
loop-next-init c = peeling-start c.requires.sound c.requires.counted (rw c.size-nodes.ensures at c.find_sources-sources.ensures)

pub offset_bounds-queue-next : goal.offset_bounds-queue-next
offset_bounds-queue-next c = omega (arith, peeling-few c.loop-next.invariant, c.loop-next.invariant.small)

pub bounds-queue-next : goal.bounds-queue-next
bounds-queue-next c = omega (arith, peeling-few c.loop-next.invariant, c.loop-next.invariant.small)

pub overflow_cast-v : goal.overflow_cast-v
overflow_cast-v c = omega (arith, next-inside c.loop-next.invariant c.loop-next-test.true, c.loop-next.invariant.small)

pub take_links-count-requires : goal.take_links-count-requires
take_links-count-requires c = peeling-row c.loop-next.invariant c.loop-next-test.true

pub loop-next-smaller : goal.loop-next-smaller
loop-next-smaller c = omega (arith, c.size-nodes.ensures, peeling-few c.loop-next.invariant, c.loop-next-test.true)

pub loop-next-preserved : goal.loop-next-preserved
loop-next-preserved c = peeling-next c.loop-next.invariant c.loop-next-test.true c.take_links-count.ensures

pub returns-then-count-nodes : goal.returns-then-count-nodes
returns-then-count-nodes c = peels-cyclic c.loop-next.invariant c.loop-next-test.false (rw c.size-nodes.ensures at c.if-count-nodes.true)

pub returns-then-queue-eq0 : goal.returns-then-queue-eq0
returns-then-queue-eq0 c =
    peels-rooted c.loop-next.invariant c.loop-next-test.false (rw c.size-nodes.ensures at c.if-count-nodes.false) c.if-sources-eq1.true c.if-queue-eq0.true

pub returns : goal.returns
returns c =
    peels-apart c.loop-next.invariant c.loop-next-test.false (rw c.size-nodes.ensures at c.if-count-nodes.false)
    (λ single root.
    elim c.else-sources-eq1.branch [
      | else-sources-eq1-via-then-sources-eq1+else-queue-eq0 w ↦ w.if-queue-eq0.false root
      | else-sources-eq1-via-else-sources-eq1 w ↦ w.if-sources-eq1.false single
    ])
