-- `numbering::visit` meets its contract. The measure is the depth left. The loop's invariant: what the visit finds is what following the
-- rest of the targets finds.
use Prim.Native.Nat.{◌+◌}
use native.Mathlib.Nat.{add-zero, add_assoc}
use native.Mathlib.Omega.{arith}
use borrow.Author.Rules.{rules}
use Rattle.std.specs.Prelude.{Some, None}
use Rattle.layout.proofs.NodeLinks.{links-long, links-inside, links-target}
use Rattle.visits.proofs.Visiting.{follow, follows-as, follow-met, follow-found, found_all, found-crowded, found-deep, found-full, entered, ready, target-in}
use Rattle.visits.proofs.numbering.+visit.Goals as goal
use Rattle.visits.proofs.numbering.+visit.Goals.{then-numbers-w+else-count-ge255+else-depth-eq0+in_ok-count, else-numbers-w}

pub loop-link-init : goal.loop-link-init
loop-link-init t c = rw add-zero (follow c.args.depth c.requires)

pub offset_bounds-numbers-w : goal.offset_bounds-numbers-w
offset_bounds-numbers-w t c =
    let node = c.requires.sound.shaped.node c.args.v c.requires.inside in
    let i = c.loop-link.link-index in
    let is = links-target node c.links-link-items.ensures i c.loop-link-test.true c.target-w.ensures in
    let inside = links-inside node c.links-link-items.ensures i c.loop-link-test.true in
    omega (arith, is, target-in c.loop-link.invariant inside)

pub bounds-numbers-w : goal.bounds-numbers-w
bounds-numbers-w t c =
    let node = c.requires.sound.shaped.node c.args.v c.requires.inside in
    let i = c.loop-link.link-index in
    let is = links-target node c.links-link-items.ensures i c.loop-link-test.true c.target-w.ensures in
    let inside = links-inside node c.links-link-items.ensures i c.loop-link-test.true in
    omega (arith, is, target-in c.loop-link.invariant inside)

pub returns-then-count-ge255 : goal.returns-then-count-ge255
returns-then-count-ge255 t c =
    let node = c.requires.sound.shaped.node c.args.v c.requires.inside in
    let i = c.loop-link.link-index in
    let is = links-target node c.links-link-items.ensures i c.loop-link-test.true c.target-w.ensures in
    let inside = links-inside node c.links-link-items.ensures i c.loop-link-test.true in
    entered c.requires c.args.depth None c.loop-link.numbers c.loop-link.visited
    (found-crowded c.loop-link.invariant inside (rw is at c.if-numbers-w.true) (omega (arith, c.if-count-ge255.true)))

pub returns-then-depth-eq0 : goal.returns-then-depth-eq0
returns-then-depth-eq0 t c =
    let node = c.requires.sound.shaped.node c.args.v c.requires.inside in
    let i = c.loop-link.link-index in
    let is = links-target node c.links-link-items.ensures i c.loop-link-test.true c.target-w.ensures in
    let inside = links-inside node c.links-link-items.ensures i c.loop-link-test.true in
    entered c.requires c.args.depth None c.loop-link.numbers c.loop-link.visited
    (found-deep c.loop-link.invariant inside (rw is at c.if-numbers-w.true) c.if-depth-eq0.true)

pub visit-requires : goal.visit-requires
visit-requires t c =
    let node = c.requires.sound.shaped.node c.args.v c.requires.inside in
    let i = c.loop-link.link-index in
    let is = links-target node c.links-link-items.ensures i c.loop-link-test.true c.target-w.ensures in
    let inside = links-inside node c.links-link-items.ensures i c.loop-link-test.true in (
      search rules,
      rw is (ready c.loop-link.invariant inside (rw is at c.if-numbers-w.true)
          (omega (arith, c.if-count-ge255.false))),
    )

pub returns-in_err-count : goal.returns-in_err-count
returns-in_err-count t c =
    let node = c.requires.sound.shaped.node c.args.v c.requires.inside in
    let i = c.loop-link.link-index in
    let is = links-target node c.links-link-items.ensures i c.loop-link-test.true c.target-w.ensures in
    let inside = links-inside node c.links-link-items.ensures i c.loop-link-test.true in
    rw c.from_residual.ensures
    (entered c.requires c.args.depth None c.visit.new.numbers c.visit.new.visited
    (found-full c.loop-link.invariant inside (rw is at c.if-numbers-w.true)
    (omega (arith, c.if-count-ge255.false)) c.if-depth-eq0.false (rw is at c.visit.ensures) c.in_err-count.was))

pub loop-link-preserved : goal.loop-link-preserved
loop-link-preserved t c =
    let node = c.requires.sound.shaped.node c.args.v c.requires.inside in
    let i = c.loop-link.link-index in
    let is = links-target node c.links-link-items.ensures i c.loop-link-test.true c.target-w.ensures in
    let inside = links-inside node c.links-link-items.ensures i c.loop-link-test.true in
    elim c.if-numbers-w.branch [
      | then-numbers-w+else-count-ge255+else-depth-eq0+in_ok-count w ↦
          follows-as w.numbers-is w.visited-is w.count-is
          (rw (← add_assoc) (follow-found c.loop-link.invariant inside (rw is at w.if-numbers-w.true)
          (omega (arith, w.if-count-ge255.false)) w.if-depth-eq0.false (rw is at w.visit.ensures) w.in_ok-count.was))
      | else-numbers-w w ↦
          follows-as w.numbers-is w.visited-is w.count-is
          (rw (← add_assoc) (follow-met c.loop-link.invariant inside (rw is at w.if-numbers-w.false)))
    ]

pub returns : goal.returns
returns t c =
    let node = c.requires.sound.shaped.node c.args.v c.requires.inside in
    entered c.requires c.args.depth (Some c.loop-link.count) c.loop-link.numbers c.loop-link.visited
    (found_all c.loop-link.invariant (omega (arith, links-long node c.links-link-items.ensures, c.loop-link-test.false)))
