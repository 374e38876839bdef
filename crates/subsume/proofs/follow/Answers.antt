use native.Mathlib.Nat.{add-zero, add_assoc}
use native.Mathlib.Omega.{arith}
use Rattle.layout.proofs.NodeLinks.{links-long, links-inside, links-feature, links-target}
use Rattle.subsume.proofs.Following.{spans, nodes, following-start, following-done, following-met, following-new, following-as, lacks-end, lacks-feature, splits-here, target-in, room}
use Rattle.subsume.proofs.follow.Goals.{then-image, else-image+else-image-x}
use Rattle.subsume.proofs.follow.Goals as goal

pub links_from-j-requires : goal.links_from-j-requires
links_from-j-requires c = let node = nodes c.requires.recorded in omega (arith, node.listed)

pub bounds-s-u : goal.bounds-s-u
bounds-s-u c = let node = nodes c.requires.recorded in omega (arith, node.listed)

pub loop-link-init : goal.loop-link-init
loop-link-init c = rw (add-zero, c.links_from-j.ensures) (following-start (spans c.requires.recorded.0 _ c.requires.recorded.1) (spans c.requires.recorded_2.0 _ c.requires.recorded_2.1) c.requires.queued)

pub seek-j-requires : goal.seek-j-requires
seek-j-requires c =
    let node = c.requires.recorded_2.0.sound.shaped.node c.args.v c.requires.recorded_2.1 in
    let i = c.loop-link.link-index in
    let inside = links-inside node c.links-link-items.ensures i c.loop-link-test.true in
    let by = links-feature node c.links-link-items.ensures i c.loop-link-test.true c.feature-f.ensures in
    (c.loop-link.invariant.s-high, c.loop-link.invariant.s-row.node.ended, omega (arith, c.feature-f.ensures, c.type_inv.link))

pub returns-then-s_end-j : goal.returns-then-s_end-j
returns-then-s_end-j c =
    let node = c.requires.recorded_2.0.sound.shaped.node c.args.v c.requires.recorded_2.1 in
    let i = c.loop-link.link-index in
    let inside = links-inside node c.links-link-items.ensures i c.loop-link-test.true in
    let by = links-feature node c.links-link-items.ensures i c.loop-link-test.true c.feature-f.ensures in
    lacks-end c.loop-link.invariant inside (rw by at c.seek-j.ensures) c.if-s_end-j.true

pub bounds-s-j : goal.bounds-s-j
bounds-s-j c = omega (arith, c.loop-link.invariant.s-row.node.ended, c.if-s_end-j.false)

pub returns-then-feature-f : goal.returns-then-feature-f
returns-then-feature-f c =
    let node = c.requires.recorded_2.0.sound.shaped.node c.args.v c.requires.recorded_2.1 in
    let i = c.loop-link.link-index in
    let inside = links-inside node c.links-link-items.ensures i c.loop-link-test.true in
    let by = links-feature node c.links-link-items.ensures i c.loop-link-test.true c.feature-f.ensures in
    lacks-feature c.loop-link.invariant inside (rw by at c.seek-j.ensures) (λ e. omega (arith, c.if-feature-f.true, c.feature.ensures, by)) (omega (arith, c.if-s_end-j.false))

pub bounds-map-w : goal.bounds-map-w
bounds-map-w c =
    let node = c.requires.recorded_2.0.sound.shaped.node c.args.v c.requires.recorded_2.1 in
    let i = c.loop-link.link-index in
    let inside = links-inside node c.links-link-items.ensures i c.loop-link-test.true in
    let by = links-feature node c.links-link-items.ensures i c.loop-link-test.true c.feature-f.ensures in
    let is = links-target node c.links-link-items.ensures i c.loop-link-test.true c.target-w.ensures in
    omega (arith, is, target-in c.loop-link.invariant inside (rw by at c.seek-j.ensures))

pub bounds-map-w-then-image : goal.bounds-map-w-then-image
bounds-map-w-then-image c =
    let node = c.requires.recorded_2.0.sound.shaped.node c.args.v c.requires.recorded_2.1 in
    let i = c.loop-link.link-index in
    let inside = links-inside node c.links-link-items.ensures i c.loop-link-test.true in
    let by = links-feature node c.links-link-items.ensures i c.loop-link-test.true c.feature-f.ensures in
    let is = links-target node c.links-link-items.ensures i c.loop-link-test.true c.target-w.ensures in
    omega (arith, is, target-in c.loop-link.invariant inside (rw by at c.seek-j.ensures))

pub overflow_cast-queue : goal.overflow_cast-queue
overflow_cast-queue c =
    let node = c.requires.recorded_2.0.sound.shaped.node c.args.v c.requires.recorded_2.1 in
    let i = c.loop-link.link-index in
    let inside = links-inside node c.links-link-items.ensures i c.loop-link-test.true in
    let by = links-feature node c.links-link-items.ensures i c.loop-link-test.true c.feature-f.ensures in
    let is = links-target node c.links-link-items.ensures i c.loop-link-test.true c.target-w.ensures in
    omega (arith, is, target-in c.loop-link.invariant inside (rw by at c.seek-j.ensures))

pub bounds-queue-end : goal.bounds-queue-end
bounds-queue-end c =
    let node = c.requires.recorded_2.0.sound.shaped.node c.args.v c.requires.recorded_2.1 in
    let i = c.loop-link.link-index in
    let inside = links-inside node c.links-link-items.ensures i c.loop-link-test.true in
    let by = links-feature node c.links-link-items.ensures i c.loop-link-test.true c.feature-f.ensures in
    let is = links-target node c.links-link-items.ensures i c.loop-link-test.true c.target-w.ensures in
    room c.loop-link.invariant.followed.queued (target-in c.loop-link.invariant inside (rw by at c.seek-j.ensures)) (rw is at c.if-image.true)

pub overflow_add-end : goal.overflow_add-end
overflow_add-end c =
    let node = c.requires.recorded_2.0.sound.shaped.node c.args.v c.requires.recorded_2.1 in
    let i = c.loop-link.link-index in
    let inside = links-inside node c.links-link-items.ensures i c.loop-link-test.true in
    let by = links-feature node c.links-link-items.ensures i c.loop-link-test.true c.feature-f.ensures in
    let is = links-target node c.links-link-items.ensures i c.loop-link-test.true c.target-w.ensures in
    omega (arith, room c.loop-link.invariant.followed.queued (target-in c.loop-link.invariant inside (rw by at c.seek-j.ensures)) (rw is at c.if-image.true))

pub returns-then-image-x : goal.returns-then-image-x
returns-then-image-x c =
    let node = c.requires.recorded_2.0.sound.shaped.node c.args.v c.requires.recorded_2.1 in
    let i = c.loop-link.link-index in
    let inside = links-inside node c.links-link-items.ensures i c.loop-link-test.true in
    let by = links-feature node c.links-link-items.ensures i c.loop-link-test.true c.feature-f.ensures in
    let is = links-target node c.links-link-items.ensures i c.loop-link-test.true c.target-w.ensures in
    splits-here c.loop-link.invariant inside (rw by at c.seek-j.ensures) (omega (arith, c.if-s_end-j.false)) (omega (arith, c.if-feature-f.false, c.feature.ensures, by)) (rw is at c.if-image.false) (λ e. omega (arith, rw (is, c.target-x.ensures) at c.if-image-x.true))

pub loop-link-preserved : goal.loop-link-preserved
loop-link-preserved c =
    let node = c.requires.recorded_2.0.sound.shaped.node c.args.v c.requires.recorded_2.1 in
    let i = c.loop-link.link-index in
    let inside = links-inside node c.links-link-items.ensures i c.loop-link-test.true in
    let by = links-feature node c.links-link-items.ensures i c.loop-link-test.true c.feature-f.ensures in
    let is = links-target node c.links-link-items.ensures i c.loop-link-test.true c.target-w.ensures in
    let aim = c.target-x.ensures in
    elim c.if-image.branch [
      | then-image w ↦ rw (← add_assoc) (following-as (rw (is, aim) at w.map-is) (rw is at w.queue-is) w.end-is (following-new c.loop-link.invariant inside (rw by at c.seek-j.ensures) (omega (arith, c.if-s_end-j.false)) (omega (arith, c.if-feature-f.false, c.feature.ensures, by)) (rw is at w.if-image.true)))
      | else-image+else-image-x w ↦ rw (← add_assoc) (following-as w.map-is w.queue-is w.end-is (following-met c.loop-link.invariant inside (rw by at c.seek-j.ensures) (omega (arith, c.if-s_end-j.false)) (omega (arith, c.if-feature-f.false, c.feature.ensures, by)) (omega (arith, rw (is, aim) at w.if-image-x.false))))
    ]

pub returns : goal.returns
returns c =
    let node = c.requires.recorded_2.0.sound.shaped.node c.args.v c.requires.recorded_2.1 in
    following-done c.loop-link.invariant (omega (arith, links-long node c.links-link-items.ensures, c.loop-link-test.false))
