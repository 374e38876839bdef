use mathlib.Core.Path.{ap}
use mathlib.Core.Bool.{not}
use native.Mathlib.Omega.{arith}
use borrow.Author.Tests.{not-true}
use Rattle.versions.proofs.Unpacked.{restored-start, restored-all, restored-absent, restored-short, restored-refused, restored-present, restored_same}
use Rattle.versions.proofs.unpacking.restore_all.Goals.{then-left-eq1+else-end-eq0+else-not-restore, else-left-eq1}
use Rattle.versions.proofs.unpacking.restore_all.Goals as goal

pub loop-version-init : goal.loop-version-init
loop-version-init c =
    let a = c.args in
    restored-start a.n a.table.now a.part.now a.bits a.differences.now a.slots.now c.requires.1

pub end_at-end-requires : goal.end_at-end-requires
end_at-end-requires c = c.loop-version.invariant.inside

pub returns-then-end-eq0 : goal.returns-then-end-eq0
returns-then-end-eq0 c = (record { slotted = c.loop-version.invariant.absent.slotted; differences_value = restored-short c.loop-version.invariant c.loop-version-test.true c.if-left-eq1.true c.end_at-end.ensures c.if-end-eq0.true })

pub overflow_add-at : goal.overflow_add-at
overflow_add-at c = omega (arith, c.end_at-end.ensures.whole c.if-end-eq0.false)

pub slice_bounds-restore-count : goal.slice_bounds-restore-count
slice_bounds-restore-count c = omega (arith, c.end_at-end.ensures.whole c.if-end-eq0.false)

pub slice_bounds-restore-start : goal.slice_bounds-restore-start
slice_bounds-restore-start c = omega (arith, c.end_at-end.ensures.whole c.if-end-eq0.false)

pub slice_bounds-restore-end : goal.slice_bounds-restore-end
slice_bounds-restore-end c = omega (arith, c.end_at-end.ensures.whole c.if-end-eq0.false)

pub restore-requires : goal.restore-requires
restore-requires c = (c.requires.0, c.loop-version.invariant.absent, c.loop-version-test.true)

pub returns-then-not-restore : goal.returns-then-not-restore
returns-then-not-restore c = (record { slotted = c.restore.ensures.slotted; differences_value = restored-refused c.loop-version.invariant c.loop-version-test.true c.if-left-eq1.true c.end_at-end.ensures c.if-end-eq0.false c.restore.ensures (not-true c.restore.result (ap not c.if-not-restore.true)) })

pub loop-version-smaller : goal.loop-version-smaller
loop-version-smaller c = omega (arith, c.loop-version-test.true)

pub loop-version-preserved : goal.loop-version-preserved
loop-version-preserved c =
    let so = c.loop-version.invariant in
    let inside = c.loop-version-test.true in
    elim c.if-left-eq1.branch [
      | then-left-eq1+else-end-eq0+else-not-restore w ↦
          restored_same (restored-present so inside w.if-left-eq1.true w.end_at-end.ensures w.if-end-eq0.false w.restore.ensures w.if-not-restore.false)
          w.slots-is w.at-is
      | else-left-eq1 w ↦ restored_same (restored-absent so inside w.if-left-eq1.false) w.slots-is w.at-is
    ]

pub returns : goal.returns
returns c = (record { slotted = c.loop-version.invariant.absent.slotted; differences_value = restored-all c.loop-version.invariant c.loop-version-test.false })
