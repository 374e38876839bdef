use mathlib.Core.Path.{◌∙◌, ap}
use native.Mathlib.Nat.{add-zero, add_assoc}
use native.Mathlib.Omega.{arith}
use lib.ListN.{length}
use Rattle.layout.specs.Builder.{put_label}
use Rattle.layout.proofs.Builder.{length-put}
use Rattle.layout.proofs.NodeLinks.{links-long, links-inside, links-feature, links-target}
use Rattle.numbering.proofs.CopiedRows.{turn-start, turn_step, turn-done, turn-feature, turn-number, turn-room, turn-short, turn-target}
use Rattle.numbering.proofs.copy_row.Goals as goal

pub label_at-requires : goal.label_at-requires
label_at-requires c = (c.requires.numbered.sound.shaped, c.requires.numbered.inside)

pub put_label-requires : goal.put_label-requires
put_label-requires c = omega (arith, c.requires.v_bound.1)

pub overflow_add-next : goal.overflow_add-next
overflow_add-next c = omega (arith, c.requires.v_bound.0)

pub links-link-items-requires : goal.links-link-items-requires
links-link-items-requires c = c.requires.numbered.sound.shaped.node c.args.v c.requires.numbered.inside

pub loop-link-init : goal.loop-link-init
loop-link-init c =
    rw add-zero
    (turn-start c.args.new.now c.requires.numbered c.requires.v_bound.0 c.requires.v_bound.1
    (c.put_label.ensures ∙ ap (put_label c.args.new.now c.args.at) c.label_at.ensures))

pub bounds-numbers-target : goal.bounds-numbers-target
bounds-numbers-target c =
    let node = c.requires.numbered.sound.shaped.node c.args.v c.requires.numbered.inside in
    let i = c.loop-link.link-index in
    let is = links-target node c.links-link-items.ensures i c.loop-link-test.true c.target-target.ensures in
    let inside = links-inside node c.links-link-items.ensures i c.loop-link-test.true in
    omega (arith, is, turn-target c.loop-link.invariant inside)

pub link-requires : goal.link-requires
link-requires c =
    let node = c.requires.numbered.sound.shaped.node c.args.v c.requires.numbered.inside in
    let i = c.loop-link.link-index in
    let is = links-target node c.links-link-items.ensures i c.loop-link-test.true c.target-target.ensures in
    let inside = links-inside node c.links-link-items.ensures i c.loop-link-test.true in
    let feature-is = links-feature node c.links-link-items.ensures i c.loop-link-test.true c.feature.ensures in
    (rw feature-is (turn-feature c.loop-link.invariant inside), rw is (omega (arith, turn-number c.loop-link.invariant inside)))

pub bounds-new-next : goal.bounds-new-next
bounds-new-next c =
    let node = c.requires.numbered.sound.shaped.node c.args.v c.requires.numbered.inside in
    let i = c.loop-link.link-index in
    let is = links-target node c.links-link-items.ensures i c.loop-link-test.true c.target-target.ensures in
    let inside = links-inside node c.links-link-items.ensures i c.loop-link-test.true in
    turn-room c.loop-link.invariant inside

pub overflow_add-next-in-loop-link : goal.overflow_add-next-in-loop-link
overflow_add-next-in-loop-link c =
    let node = c.requires.numbered.sound.shaped.node c.args.v c.requires.numbered.inside in
    let i = c.loop-link.link-index in
    let is = links-target node c.links-link-items.ensures i c.loop-link-test.true c.target-target.ensures in
    let inside = links-inside node c.links-link-items.ensures i c.loop-link-test.true in
    omega (arith, turn-short c.loop-link.invariant inside)

pub loop-link-preserved : goal.loop-link-preserved
loop-link-preserved c =
    let node = c.requires.numbered.sound.shaped.node c.args.v c.requires.numbered.inside in
    let i = c.loop-link.link-index in
    let is = links-target node c.links-link-items.ensures i c.loop-link-test.true c.target-target.ensures in
    let inside = links-inside node c.links-link-items.ensures i c.loop-link-test.true in
    let feature-is = links-feature node c.links-link-items.ensures i c.loop-link-test.true c.feature.ensures in
    rw (← add_assoc) (turn_step c.loop-link.invariant inside (rw (is, feature-is) at c.link.ensures))

pub shape_of-new : goal.shape_of-new
shape_of-new c = c.loop-link.invariant.long ∙ ap length c.put_label.ensures ∙ length-put _ _ _

pub returns : goal.returns
returns c =
    let node = c.requires.numbered.sound.shaped.node c.args.v c.requires.numbered.inside in
    turn-done c.args.new.now (c.put_label.ensures ∙ ap (put_label c.args.new.now c.args.at) c.label_at.ensures) c.loop-link.invariant
    (omega (arith, links-long node c.links-link-items.ensures, c.loop-link-test.false))
