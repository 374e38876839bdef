-- `unpack` meets its contract.
use mathlib.Core.Path.{refl, sym, ◌∙◌}
use native.Mathlib.Omega.{arith}
use Rattle.lattice.proofs.Every.{true-not-false}
use Rattle.versions.proofs.Unpacked.{unpacks-none, unpacks-short, unpacks-all, not-refused}
use Rattle.versions.proofs.unpacking.unpack.Goals as goal

pub returns-then-bits-eq0 : goal.returns-then-bits-eq0
returns-then-bits-eq0 c =
    let a = c.args in
    unpacks-none a.n a.table.now a.buffer.now c.requires.1 c.length_at-bits.ensures c.requires.2 c.if-bits-eq0.true

pub returns-then-end-eq0 : goal.returns-then-end-eq0
returns-then-end-eq0 c =
    let a = c.args in
    unpacks-short a.n a.table.now a.buffer.now c.requires.1 c.length_at-bits.ensures c.if-bits-eq0.false c.end_at-end.ensures c.requires.2 c.if-end-eq0.true

pub slice_bounds-restore_all-count : goal.slice_bounds-restore_all-count
slice_bounds-restore_all-count c = omega (arith, c.end_at-end.ensures.whole c.if-end-eq0.false)

pub slice_bounds-restore_all-start : goal.slice_bounds-restore_all-start
slice_bounds-restore_all-start c = omega (arith, c.end_at-end.ensures.whole c.if-end-eq0.false)

pub slice_bounds-restore_all-end : goal.slice_bounds-restore_all-end
slice_bounds-restore_all-end c = omega (arith, c.end_at-end.ensures.whole c.if-end-eq0.false)

pub slice_bounds-restore_all-count-2 : goal.slice_bounds-restore_all-count-2
slice_bounds-restore_all-count-2 c = omega (arith, c.end_at-end.ensures.whole c.if-end-eq0.false)

pub restore_all-requires : goal.restore_all-requires
restore_all-requires c = (record { ok = c.requires.0; lent = _; long = λ d. refl; holding = c.open.ensures.holds c.requires.0 }, c.requires.2)

pub returns-then-is_err : goal.returns-then-is_err
returns-then-is_err c =
    absurd (true-not-false _ (sym c.is_err.ensures.value ∙ c.if-is_err.true) (not-refused c.args.n c.args.table.now c.requires.0 c.open.ensures.answers))

pub returns : goal.returns
returns c =
    let a = c.args in
    unpacks-all a.n a.table.now a.buffer.now c.requires.1 c.length_at-bits.ensures c.if-bits-eq0.false c.end_at-end.ensures c.if-end-eq0.false c.restore_all.ensures.slotted c.restore_all.ensures.differences_value
