use mathlib.Core.Path.{refl, sym, ap₂, subst, ◌∙◌}
use Prim.Native.Nat.{◌<◌}
use native.Mathlib.Omega.{arith}
use lib.ListN.{replicate}
use Rattle.lattice.specs.Labels.{table_labels}
use Rattle.subsume.proofs.Searching.{searched-start, searched-on, next-node, node-map, order-label, order-clash}
use Rattle.subsume.proofs.subsume.Goals as goal

pub loop-head-init : goal.loop-head-init
loop-head-init c = searched-start (replicate 255 65535) (replicate 255 0) c.requires.0 c.requires.1 refl refl

pub offset_bounds-queue-head : goal.offset_bounds-queue-head
offset_bounds-queue-head c = omega (arith, c.loop-head.invariant.queued.counted, c.loop-head-test.true)

pub bounds-queue-head : goal.bounds-queue-head
bounds-queue-head c = omega (arith, c.loop-head.invariant.queued.counted, c.loop-head-test.true)

pub overflow_cast-v : goal.overflow_cast-v
overflow_cast-v c = let node = next-node c.loop-head.invariant c.loop-head-test.true in omega (arith, node.small)

pub offset_bounds-map-v : goal.offset_bounds-map-v
offset_bounds-map-v c = let node = next-node c.loop-head.invariant c.loop-head-test.true in omega (arith, node.small)

pub bounds-map-v : goal.bounds-map-v
bounds-map-v c = let node = next-node c.loop-head.invariant c.loop-head-test.true in omega (arith, node.small)

pub overflow_cast-u : goal.overflow_cast-u
overflow_cast-u c = let node = next-node c.loop-head.invariant c.loop-head-test.true in omega (arith, node.image-small)

pub label_at-a-requires : goal.label_at-a-requires
label_at-a-requires c = let node = next-node c.loop-head.invariant c.loop-head-test.true in (c.loop-head.invariant.lower.sound.shaped, node.image)

pub label_at-b-requires : goal.label_at-b-requires
label_at-b-requires c = let node = next-node c.loop-head.invariant c.loop-head-test.true in (c.loop-head.invariant.upper.sound.shaped, node.inside)

pub is_label_below-requires : goal.is_label_below-requires
is_label_below-requires c = let node = next-node c.loop-head.invariant c.loop-head-test.true in (subst (λ l. l.type < 64) (sym c.label_at-a.ensures) node.image-typed.type, subst (λ l. l.type < 64) (sym c.label_at-b.ensures) node.typed.type)

pub returns-then-not-is_label_below : goal.returns-then-not-is_label_below
returns-then-not-is_label_below c = λ n. order-label c.loop-head.invariant c.loop-head-test.true n (ap₂ (table_labels n _).le (sym c.label_at-a.ensures) (sym c.label_at-b.ensures) ∙ sym (c.is_label_below.ensures n) ∙ c.if-not-is_label_below.true)

pub follow-requires : goal.follow-requires
follow-requires c = let node = next-node c.loop-head.invariant c.loop-head-test.true in let inv = c.loop-head.invariant in record { recorded = (inv.lower, node.image); recorded_2 = (inv.upper, node.inside); queued = inv.queued }

pub returns-in_err-count : goal.returns-in_err-count
returns-in_err-count c = λ n. rw c.from_residual.ensures (order-clash c.loop-head.invariant c.loop-head-test.true n c.in_err-count.ensures)

pub overflow_add-head : goal.overflow_add-head
overflow_add-head c = omega (arith, c.loop-head.invariant.queued.counted, c.loop-head-test.true)

pub loop-head-smaller : goal.loop-head-smaller
loop-head-smaller c = omega (arith, c.loop-head.invariant.queued.counted, c.loop-head-test.true)

pub loop-head-preserved : goal.loop-head-preserved
loop-head-preserved c = searched-on c.loop-head.invariant c.loop-head-test.true (λ n. ap₂ (table_labels n _).le (sym c.label_at-a.ensures) (sym c.label_at-b.ensures) ∙ sym (c.is_label_below.ensures n) ∙ c.if-not-is_label_below.false) c.in_ok-count.ensures

pub returns : goal.returns
returns c = node-map c.loop-head.invariant c.loop-head-test.false
