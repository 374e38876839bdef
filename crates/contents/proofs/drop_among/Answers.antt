-- The buffer is opened, and its version dropped from those of the buffer.
use mathlib.Core.Path.{sym, ◌∙◌}
use Prim.Native.Nat.{ℕ, ◌<◌}
use native.Mathlib.Omega.{arith}
use lib.ListN.{length-replicate}
use Rattle.replies.specs.Replies.{told}
use Rattle.versions.proofs.SlotLaws.{absent-replicate, part-blank, clear-slot}
use Rattle.contents.proofs.Among.{wide, not-held, drop-above, drop-absent, drop-goes}
use Rattle.contents.proofs.drop_among.Goals as goal

pub slice_bounds-is_held-end : goal.slice_bounds-is_held-end
slice_bounds-is_held-end c = sym (length-replicate {A = ℕ} 77696 0)

pub slice_bounds-is_held-end-2 : goal.slice_bounds-is_held-end-2
slice_bounds-is_held-end-2 c = sym (length-replicate {A = ℕ} 4856 0)

pub is_held-requires : goal.is_held-requires
is_held-requires c =
    (c.requires.0, absent-replicate, part-blank, c.requires.1, c.requires.2)

pub shape_of-state-then-not-is_held : goal.shape_of-state-then-not-is_held
shape_of-state-then-not-is_held c = c.is_held.ensures.long ∙ sym c.requires.1

pub returns-then-not-is_held : goal.returns-then-not-is_held
returns-then-not-is_held c =
    not-held c.is_held.ensures c.if-not-is_held.true _ c.args.state.now c.requires.1

pub shape_of-state-then-version-ge-VERSIONS : goal.shape_of-state-then-version-ge-VERSIONS
shape_of-state-then-version-ge-VERSIONS c = c.is_held.ensures.long ∙ sym c.requires.1

pub returns-then-version-ge-VERSIONS : goal.returns-then-version-ge-VERSIONS
returns-then-version-ge-VERSIONS c =
    drop-above c.is_held.ensures c.if-not-is_held.false c.args.state.now c.requires.1 c.args.version c.if-version-ge-VERSIONS.true

pub slice_bounds-length_in-end : goal.slice_bounds-length_in-end
slice_bounds-length_in-end c = sym c.is_held.ensures.slotted.long

pub length_in-requires : goal.length_in-requires
length_in-requires c = (c.is_held.ensures.slotted, omega (arith, c.if-version-ge-VERSIONS.false))

pub shape_of-state-then-length_in-eq0 : goal.shape_of-state-then-length_in-eq0
shape_of-state-then-length_in-eq0 c = c.is_held.ensures.long ∙ sym c.requires.1

pub returns-then-length_in-eq0 : goal.returns-then-length_in-eq0
returns-then-length_in-eq0 c =
    drop-absent c.is_held.ensures c.if-not-is_held.false c.args.state.now c.requires.1 c.args.version
    (omega (arith, c.if-version-ge-VERSIONS.false)) (sym c.length_in.ensures.0 ∙ c.if-length_in-eq0.true)

pub overflow_mul-version : goal.overflow_mul-version
overflow_mul-version c = omega (arith, c.if-version-ge-VERSIONS.false)

pub slice_bounds-put_length-end : goal.slice_bounds-put_length-end
slice_bounds-put_length-end c = sym c.is_held.ensures.slotted.long

pub put_length-requires : goal.put_length-requires
put_length-requires c = omega (arith, c.if-version-ge-VERSIONS.false, c.is_held.ensures.slotted.long)

pub slice_bounds-go-end : goal.slice_bounds-go-end
slice_bounds-go-end c =
    let low : c.args.version < 16 = omega (arith, c.if-version-ge-VERSIONS.false) in
    sym (clear-slot c.is_held.ensures.slotted low c.put_length.ensures).0.long

pub slice_bounds-go-end-2 : goal.slice_bounds-go-end-2
slice_bounds-go-end-2 c = sym c.is_held.ensures.parted.long

pub go-requires : goal.go-requires
go-requires c =
    let opens = c.is_held.ensures in
    let low : c.args.version < 16 = omega (arith, c.if-version-ge-VERSIONS.false) in
    (c.requires.0, (clear-slot opens.slotted low c.put_length.ensures).0, opens.parted, wide opens c.if-not-is_held.false c.args.state.now c.requires.1, omega (arith, opens.long, c.requires.2))

pub shape_of-state : goal.shape_of-state
shape_of-state c = c.go.ensures.long ∙ c.is_held.ensures.long ∙ sym c.requires.1

pub returns : goal.returns
returns c =
    let opens = c.is_held.ensures in
    let low : c.args.version < 16 = omega (arith, c.if-version-ge-VERSIONS.false) in
    let went = c.go.ensures in
    drop-goes opens c.if-not-is_held.false c.args.state.now c.requires.1 c.args.version low
    (λ e. c.if-length_in-eq0.false (c.length_in.ensures.0 ∙ e)) _ (told c.go.result) (clear-slot opens.slotted low c.put_length.ensures).1 went.long went.inside went.goes
