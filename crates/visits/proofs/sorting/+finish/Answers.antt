-- `sorting::finish` meets its contract. Each call turns a white node to the way down, so the number of white nodes is the measure of the
-- recursion. The loop's invariant: the targets of the links so far are finished.
use native.Mathlib.Nat.{add-zero, add_assoc}
use native.Mathlib.Omega.{arith}
use Rattle.layout.proofs.NodeLinks.{links-long, links-inside, links-target}
use Rattle.visits.proofs.Colouring.{whites-down, passing-start, target-in, closes, entered, passing-over, passing-down, finishes, leaves-back}
use Rattle.visits.proofs.sorting.+finish.Goals as goal
use Rattle.visits.proofs.sorting.+finish.Goals.{then-c-eq0+in_ok-count, else-c-eq0}

pub loop-link-init : goal.loop-link-init
loop-link-init t c = rw add-zero (passing-start c.requires)

pub bounds-colour-w : goal.bounds-colour-w
bounds-colour-w t c =
    let node = c.requires.sound.shaped.node c.args.v c.requires.inside in
    let i = c.loop-link.link-index in
    let is = links-target node c.links-link-items.ensures i c.loop-link-test.true c.target-w.ensures in
    omega (
      arith,
      is,
      target-in c.requires c.loop-link.invariant (links-inside node c.links-link-items.ensures i c.loop-link-test.true),
      c.requires.sound.shaped.few,
    )

pub returns-then-c-eq1 : goal.returns-then-c-eq1
returns-then-c-eq1 t c =
    let node = c.requires.sound.shaped.node c.args.v c.requires.inside in
    let i = c.loop-link.link-index in
    let is = links-target node c.links-link-items.ensures i c.loop-link-test.true c.target-w.ensures in
    let placed = c.loop-link.invariant.advanced.placed in
    leaves-back placed.long placed.roomy
    (closes c.requires c.loop-link.invariant (links-inside node c.links-link-items.ensures i c.loop-link-test.true) (rw is at c.if-c-eq1.true))

pub finish-requires : goal.finish-requires
finish-requires t c =
    let node = c.requires.sound.shaped.node c.args.v c.requires.inside in
    let i = c.loop-link.link-index in
    let is = links-target node c.links-link-items.ensures i c.loop-link-test.true c.target-w.ensures in (
      omega (arith, c.loop-link.invariant.advanced.fewer, whites-down c.requires),
      rw is
          (entered c.requires c.loop-link.invariant (links-inside node c.links-link-items.ensures i c.loop-link-test.true)
          (rw is at c.if-c-eq0.true)),
    )

pub loop-link-preserved : goal.loop-link-preserved
loop-link-preserved t c =
    let node = c.requires.sound.shaped.node c.args.v c.requires.inside in
    let i = c.loop-link.link-index in
    let is = links-target node c.links-link-items.ensures i c.loop-link-test.true c.target-w.ensures in
    let inside = links-inside node c.links-link-items.ensures i c.loop-link-test.true in
    elim c.if-c-eq0.branch [
      | then-c-eq0+in_ok-count w ↦
          let called = rw is at w.finish.ensures in
          rw (w.colour-is, w.order-is, w.count-is, ← add_assoc)
          (passing-down c.requires c.loop-link.invariant inside (called.counted _ w.in_ok-count.was) (called.finished _ w.in_ok-count.was))
      | else-c-eq0 w ↦
          rw (w.colour-is, w.order-is, w.count-is, ← add_assoc)
          (passing-over c.requires c.loop-link.invariant inside (omega (arith, rw is at w.if-c-eq0.false, rw is at c.if-c-eq1.false)))
    ]

pub returns : goal.returns
returns t c =
    let node = c.requires.sound.shaped.node c.args.v c.requires.inside in
    finishes c.requires c.loop-link.invariant (omega (arith, links-long node c.links-link-items.ensures, c.loop-link-test.false))
