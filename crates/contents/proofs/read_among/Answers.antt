-- The buffer is opened, and the record of its version written.
use mathlib.Core.Path.{refl, sym, ◌∙◌}
use Prim.Native.Nat.{ℕ}
use native.Mathlib.Omega.{arith}
use lib.ListN.{length-replicate}
use Rattle.versions.proofs.SlotLaws.{absent-replicate, part-blank}
use Rattle.contents.proofs.Room.{blank-room}
use Rattle.contents.proofs.Among.{read-not-held, read_above, read-absent, read_short, read-copied}
use Rattle.contents.proofs.read_among.Goals as goal

pub slice_bounds-is_held-end : goal.slice_bounds-is_held-end
slice_bounds-is_held-end c = sym (length-replicate {A = ℕ} 77696 0)

pub slice_bounds-is_held-end-2 : goal.slice_bounds-is_held-end-2
slice_bounds-is_held-end-2 c = sym (length-replicate {A = ℕ} 4856 0)

pub slice_bounds-state-end : goal.slice_bounds-state-end
slice_bounds-state-end c = c.requires.1

pub slice_bounds-is_held-end-3 : goal.slice_bounds-is_held-end-3
slice_bounds-is_held-end-3 c = sym (blank-room _ c.requires.1)

pub is_held-requires : goal.is_held-requires
is_held-requires c =
    (c.requires.0, absent-replicate, part-blank, blank-room _ c.requires.1, c.requires.1)

pub returns-then-not-is_held : goal.returns-then-not-is_held
returns-then-not-is_held c =
    read-not-held c.is_held.ensures c.if-not-is_held.true c.args.version c.args.out.now

pub returns-then-version-ge-VERSIONS : goal.returns-then-version-ge-VERSIONS
returns-then-version-ge-VERSIONS c = read_above c.is_held.ensures c.if-not-is_held.false c.args.store.now refl c.args.version c.args.out.now c.if-version-ge-VERSIONS.true

pub slice_bounds-length_in-end : goal.slice_bounds-length_in-end
slice_bounds-length_in-end c = sym c.is_held.ensures.slotted.long

pub length_in-length-requires : goal.length_in-length-requires
length_in-length-requires c = (c.is_held.ensures.slotted, omega (arith, c.if-version-ge-VERSIONS.false))

pub returns-then-length-eq0 : goal.returns-then-length-eq0
returns-then-length-eq0 c = read-absent c.is_held.ensures c.if-not-is_held.false c.args.store.now refl c.args.version c.args.out.now (omega (arith, c.if-version-ge-VERSIONS.false)) (sym c.length_in-length.ensures.0 ∙ c.if-length-eq0.true)

pub returns-then-out-length : goal.returns-then-out-length
returns-then-out-length c =
    let there = c.length_in-length.ensures.0 in
    read_short c.is_held.ensures c.if-not-is_held.false c.args.store.now refl c.args.version c.args.out.now (omega (arith, c.if-version-ge-VERSIONS.false)) (λ e. c.if-length-eq0.false (there ∙ e)) (omega (arith, there, c.if-out-length.true))

pub overflow_mul-start : goal.overflow_mul-start
overflow_mul-start c = omega (arith, c.if-version-ge-VERSIONS.false)

pub overflow_add-start : goal.overflow_add-start
overflow_add-start c = omega (arith, c.if-version-ge-VERSIONS.false)

pub overflow_add-start-2 : goal.overflow_add-start-2
overflow_add-start-2 c = omega (arith, c.if-version-ge-VERSIONS.false, c.length_in-length.ensures.1)

pub slice_bounds-copy-count : goal.slice_bounds-copy-count
slice_bounds-copy-count c = omega arith

pub slice_bounds-copy-start : goal.slice_bounds-copy-start
slice_bounds-copy-start c = omega arith

pub slice_bounds-copy-end : goal.slice_bounds-copy-end
slice_bounds-copy-end c = omega (arith, c.if-version-ge-VERSIONS.false, c.length_in-length.ensures.1, c.is_held.ensures.slotted.long)

pub returns : goal.returns
returns c =
    let there = c.length_in-length.ensures.0 in
    read-copied c.is_held.ensures c.if-not-is_held.false c.args.store.now refl c.args.version c.args.out.now
    (omega (arith, c.if-version-ge-VERSIONS.false)) (λ e. c.if-length-eq0.false (there ∙ e)) c.length_in-length.result there c.if-out-length.false c.copy.ensures
