use mathlib.Core.Path.{ap}
use Prim.Native.Nat.{ℕ}
use native.Mathlib.Nat.{add-zero, add_assoc}
use native.Mathlib.Omega.{arith}
use lib.ListN.{get_or}
use Rattle.layout.proofs.NodeLinks.{links-long, links-inside, links-target}
use Rattle.peeling.proofs.Counting.{row-start, row_inside_lem, still-entered, row_room, row_stays, row-joins, row_done}
use Rattle.peeling.proofs.take_links.Goals as goal
use Rattle.peeling.proofs.take_links.Goals.{then-left-eq0, else-left-eq0}

pub links-link-items-requires : goal.links-link-items-requires
links-link-items-requires c = c.requires.sound.shaped.node c.args.v c.requires.inside

pub loop-link-init : goal.loop-link-init
loop-link-init c = rw add-zero (row-start c.requires)

pub offset_bounds-incoming-w : goal.offset_bounds-incoming-w
offset_bounds-incoming-w c =
    let node = c.requires.sound.shaped.node c.args.v c.requires.inside in
    let i = c.loop-link.link-index in
    let is = links-target node c.links-link-items.ensures i c.loop-link-test.true c.target-w.ensures in
    let inside = links-inside node c.links-link-items.ensures i c.loop-link-test.true in
    omega (arith, is, row_inside_lem c.loop-link.invariant inside, c.loop-link.invariant.due.small)

pub bounds-incoming-w : goal.bounds-incoming-w
bounds-incoming-w c =
    let node = c.requires.sound.shaped.node c.args.v c.requires.inside in
    let i = c.loop-link.link-index in
    let is = links-target node c.links-link-items.ensures i c.loop-link-test.true c.target-w.ensures in
    let inside = links-inside node c.links-link-items.ensures i c.loop-link-test.true in
    omega (arith, is, row_inside_lem c.loop-link.invariant inside, c.loop-link.invariant.due.small)

pub overflow_sub-left : goal.overflow_sub-left
overflow_sub-left c =
    let node = c.requires.sound.shaped.node c.args.v c.requires.inside in
    let i = c.loop-link.link-index in
    let is = links-target node c.links-link-items.ensures i c.loop-link-test.true c.target-w.ensures in
    let inside = links-inside node c.links-link-items.ensures i c.loop-link-test.true in
    omega (arith, ap (λ (w : ℕ). get_or c.loop-link.incoming w 0) is, still-entered c.loop-link.invariant inside)

pub offset_bounds-incoming-w-in-loop-link : goal.offset_bounds-incoming-w-in-loop-link
offset_bounds-incoming-w-in-loop-link c =
    let node = c.requires.sound.shaped.node c.args.v c.requires.inside in
    let i = c.loop-link.link-index in
    let is = links-target node c.links-link-items.ensures i c.loop-link-test.true c.target-w.ensures in
    let inside = links-inside node c.links-link-items.ensures i c.loop-link-test.true in
    omega (arith, is, row_inside_lem c.loop-link.invariant inside, c.loop-link.invariant.due.small)

pub bounds-incoming-w-in-loop-link : goal.bounds-incoming-w-in-loop-link
bounds-incoming-w-in-loop-link c =
    let node = c.requires.sound.shaped.node c.args.v c.requires.inside in
    let i = c.loop-link.link-index in
    let is = links-target node c.links-link-items.ensures i c.loop-link-test.true c.target-w.ensures in
    let inside = links-inside node c.links-link-items.ensures i c.loop-link-test.true in
    omega (arith, is, row_inside_lem c.loop-link.invariant inside, c.loop-link.invariant.due.small)

pub overflow_cast-queue : goal.overflow_cast-queue
overflow_cast-queue c =
    let node = c.requires.sound.shaped.node c.args.v c.requires.inside in
    let i = c.loop-link.link-index in
    let is = links-target node c.links-link-items.ensures i c.loop-link-test.true c.target-w.ensures in
    let inside = links-inside node c.links-link-items.ensures i c.loop-link-test.true in
    omega (arith, is, row_inside_lem c.loop-link.invariant inside, c.loop-link.invariant.due.small)

pub offset_bounds-queue-count : goal.offset_bounds-queue-count
offset_bounds-queue-count c =
    let node = c.requires.sound.shaped.node c.args.v c.requires.inside in
    let i = c.loop-link.link-index in
    let is = links-target node c.links-link-items.ensures i c.loop-link-test.true c.target-w.ensures in
    let inside = links-inside node c.links-link-items.ensures i c.loop-link-test.true in
    omega (arith, row_room c.loop-link.invariant inside (rw is at c.if-left-eq0.true))

pub bounds-queue-count : goal.bounds-queue-count
bounds-queue-count c =
    let node = c.requires.sound.shaped.node c.args.v c.requires.inside in
    let i = c.loop-link.link-index in
    let is = links-target node c.links-link-items.ensures i c.loop-link-test.true c.target-w.ensures in
    let inside = links-inside node c.links-link-items.ensures i c.loop-link-test.true in
    omega (arith, row_room c.loop-link.invariant inside (rw is at c.if-left-eq0.true))

pub overflow_add-count : goal.overflow_add-count
overflow_add-count c =
    let node = c.requires.sound.shaped.node c.args.v c.requires.inside in
    let i = c.loop-link.link-index in
    let is = links-target node c.links-link-items.ensures i c.loop-link-test.true c.target-w.ensures in
    let inside = links-inside node c.links-link-items.ensures i c.loop-link-test.true in
    omega (arith, row_room c.loop-link.invariant inside (rw is at c.if-left-eq0.true))

pub loop-link-preserved : goal.loop-link-preserved
loop-link-preserved c =
    let node = c.requires.sound.shaped.node c.args.v c.requires.inside in
    let i = c.loop-link.link-index in
    let is = links-target node c.links-link-items.ensures i c.loop-link-test.true c.target-w.ensures in
    let inside = links-inside node c.links-link-items.ensures i c.loop-link-test.true in
    elim c.if-left-eq0.branch [
      | then-left-eq0 w ↦
          rw (w.queue-is, w.count-is, is, ← add_assoc) (row-joins c.loop-link.invariant inside (rw is at w.if-left-eq0.true))
      | else-left-eq0 w ↦
          rw (w.queue-is, w.count-is, is, ← add_assoc) (row_stays c.loop-link.invariant inside (rw is at w.if-left-eq0.false))
    ]

pub returns : goal.returns
returns c =
    let node = c.requires.sound.shaped.node c.args.v c.requires.inside in
    row_done c.loop-link.invariant (omega (arith, links-long node c.links-link-items.ensures, c.loop-link-test.false))
