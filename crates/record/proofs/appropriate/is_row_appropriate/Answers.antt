use mathlib.Core.Path.{sym, ◌∙◌, ap}
use native.Mathlib.Nat.{add-zero, add_assoc}
use native.Mathlib.Omega.{arith}
use Rattle.layout.proofs.NodeLinks.{links-long, links-inside, links-feature}
use Rattle.record.proofs.Allowed.{row-start, row-kind, row-feature, row-entry, row_next, row_out, row-all}
use Rattle.record.proofs.appropriate.is_row_appropriate.Goals as goal

pub label_at-label-requires : goal.label_at-label-requires
label_at-label-requires c = (c.requires.typed.0.sound.shaped, c.requires.typed.1)

pub links-link-items-requires : goal.links-link-items-requires
links-link-items-requires c = c.requires.typed.0.sound.shaped.node c.args.v c.requires.typed.1

pub loop-link-init : goal.loop-link-init
loop-link-init c =
    rw add-zero (row-start c.requires.listed c.requires.typed.0 c.requires.typed.1 (ap (λ l. l.type) c.label_at-label.ensures))

pub bounds-list-f : goal.bounds-list-f
bounds-list-f c =
    let node = c.requires.typed.0.sound.shaped.node c.args.v c.requires.typed.1 in
    let i = c.loop-link.link-index in
    let is = links-feature node c.links-link-items.ensures i c.loop-link-test.true c.feature-f.ensures in
    let inside = links-inside node c.links-link-items.ensures i c.loop-link-test.true in
    omega (arith, is, row-feature c.loop-link.invariant inside, c.loop-link.invariant.listed.long)

pub overflow_cast-list : goal.overflow_cast-list
overflow_cast-list c =
    let node = c.requires.typed.0.sound.shaped.node c.args.v c.requires.typed.1 in
    let i = c.loop-link.link-index in
    let is = links-feature node c.links-link-items.ensures i c.loop-link-test.true c.feature-f.ensures in
    let inside = links-inside node c.links-link-items.ensures i c.loop-link-test.true in
    rw is (omega (arith, row-entry c.loop-link.invariant inside))

pub is_below-requires : goal.is_below-requires
is_below-requires c =
    let node = c.requires.typed.0.sound.shaped.node c.args.v c.requires.typed.1 in
    let i = c.loop-link.link-index in
    let is = links-feature node c.links-link-items.ensures i c.loop-link-test.true c.feature-f.ensures in
    let inside = links-inside node c.links-link-items.ensures i c.loop-link-test.true in
    let kind = row-kind c.loop-link.invariant in
    let entry = row-entry c.loop-link.invariant inside in
    (omega arith, rw is (omega arith))

pub returns-then-not-is_below : goal.returns-then-not-is_below
returns-then-not-is_below c =
    let node = c.requires.typed.0.sound.shaped.node c.args.v c.requires.typed.1 in
    let i = c.loop-link.link-index in
    let is = links-feature node c.links-link-items.ensures i c.loop-link-test.true c.feature-f.ensures in
    let inside = links-inside node c.links-link-items.ensures i c.loop-link-test.true in
    row_out c.loop-link.invariant inside (sym (rw is at c.is_below.ensures) ∙ c.if-not-is_below.true)

pub loop-link-preserved : goal.loop-link-preserved
loop-link-preserved c =
    let node = c.requires.typed.0.sound.shaped.node c.args.v c.requires.typed.1 in
    let i = c.loop-link.link-index in
    let is = links-feature node c.links-link-items.ensures i c.loop-link-test.true c.feature-f.ensures in
    let inside = links-inside node c.links-link-items.ensures i c.loop-link-test.true in
    rw (← add_assoc) (row_next c.loop-link.invariant inside (sym (rw is at c.is_below.ensures) ∙ c.if-not-is_below.false))

pub returns : goal.returns
returns c =
    let node = c.requires.typed.0.sound.shaped.node c.args.v c.requires.typed.1 in
    row-all c.loop-link.invariant (omega (arith, links-long node c.links-link-items.ensures, c.loop-link-test.false))
