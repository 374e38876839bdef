use mathlib.Core.Path.{ap}
use Prim.Native.Nat.{ℕ, ◌+◌}
use native.Mathlib.Nat.{add-zero, add_assoc}
use native.Mathlib.Omega.{arith}
use lib.ListN.{get_or}
use Rattle.layout.proofs.NodeLinks.{links-long, links-inside, links-target}
use Rattle.peeling.proofs.Counting.{row_listed, counting-start, counting-out, counting-room, counting-next, counting-done}
use Rattle.peeling.proofs.count_row.Goals as goal

pub size-nodes-requires : goal.size-nodes-requires
size-nodes-requires c = omega (arith, row_listed c.requires.counted c.requires.v_bound)

pub links-link-items-requires : goal.links-link-items-requires
links-link-items-requires c = c.requires.counted.shaped.node c.args.v c.requires.v_bound

pub loop-link-init : goal.loop-link-init
loop-link-init c = rw add-zero (counting-start c.requires.counted c.requires.v_bound)

pub returns-then-nodes-w : goal.returns-then-nodes-w
returns-then-nodes-w c =
    let node = c.requires.counted.shaped.node c.args.v c.requires.v_bound in
    let i = c.loop-link.link-index in
    let is = links-target node c.links-link-items.ensures i c.loop-link-test.true c.target-w.ensures in
    counting-out c.loop-link.invariant (links-inside node c.links-link-items.ensures i c.loop-link-test.true)
    (omega (arith, is, c.size-nodes.ensures, c.if-nodes-w.true))

pub offset_bounds-incoming-w : goal.offset_bounds-incoming-w
offset_bounds-incoming-w c = omega (arith, c.loop-link.invariant.small, c.size-nodes.ensures, c.if-nodes-w.false)

pub bounds-incoming-w : goal.bounds-incoming-w
bounds-incoming-w c = omega (arith, c.loop-link.invariant.small, c.size-nodes.ensures, c.if-nodes-w.false)

pub overflow_add-incoming : goal.overflow_add-incoming
overflow_add-incoming c =
    let node = c.requires.counted.shaped.node c.args.v c.requires.v_bound in
    let i = c.loop-link.link-index in
    let is = links-target node c.links-link-items.ensures i c.loop-link-test.true c.target-w.ensures in
    omega (
      arith,
      ap (λ (w : ℕ). get_or c.loop-link.incoming w 0) is,
      counting-room c.loop-link.invariant (links-inside node c.links-link-items.ensures i c.loop-link-test.true)
          (omega (arith, is, c.size-nodes.ensures, c.if-nodes-w.false)),
      c.type_inv.graph (c.args.v + 2),
    )

pub offset_bounds-incoming-w-in-loop-link : goal.offset_bounds-incoming-w-in-loop-link
offset_bounds-incoming-w-in-loop-link c = omega (arith, c.loop-link.invariant.small, c.size-nodes.ensures, c.if-nodes-w.false)

pub bounds-incoming-w-in-loop-link : goal.bounds-incoming-w-in-loop-link
bounds-incoming-w-in-loop-link c = omega (arith, c.loop-link.invariant.small, c.size-nodes.ensures, c.if-nodes-w.false)

pub loop-link-preserved : goal.loop-link-preserved
loop-link-preserved c =
    let node = c.requires.counted.shaped.node c.args.v c.requires.v_bound in
    let i = c.loop-link.link-index in
    let is = links-target node c.links-link-items.ensures i c.loop-link-test.true c.target-w.ensures in
    rw (is, ← add_assoc)
    (counting-next c.loop-link.invariant (links-inside node c.links-link-items.ensures i c.loop-link-test.true)
    (omega (arith, is, c.size-nodes.ensures, c.if-nodes-w.false)))

pub returns : goal.returns
returns c =
    let node = c.requires.counted.shaped.node c.args.v c.requires.v_bound in
    counting-done c.loop-link.invariant (omega (arith, links-long node c.links-link-items.ensures, c.loop-link-test.false))
