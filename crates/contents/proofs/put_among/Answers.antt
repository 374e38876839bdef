-- The buffer is opened, the program read, and its version put among those of the buffer.
use mathlib.Core.Path.{sym, ◌∙◌}
use Prim.Native.Nat.{ℕ, ◌<◌}
use native.Mathlib.Omega.{arith}
use lib.ListN.{length-replicate}
use Rattle.lattice.proofs.Laws.{accepted-size}
use Rattle.replies.specs.Replies.{told}
use Rattle.gathering.proofs.Told.{told-ok, told-err, handed-on}
use Rattle.versions.proofs.SlotLaws.{absent-replicate, part-blank, put-slot}
use Rattle.contents.proofs.Programs.{told-inside, told-length, told-short, told-some}
use Rattle.contents.proofs.Among.{put-there, wide, not-held, put_refused, put-above, put-present, put-goes, put-steps}
use Rattle.contents.proofs.put_among.Goals as goal

pub slice_bounds-is_held-end : goal.slice_bounds-is_held-end
slice_bounds-is_held-end c = sym (length-replicate {A = ℕ} 77696 0)

pub slice_bounds-is_held-end-2 : goal.slice_bounds-is_held-end-2
slice_bounds-is_held-end-2 c = sym (length-replicate {A = ℕ} 4856 0)

pub is_held-requires : goal.is_held-requires
is_held-requires c =
    (c.requires.0, absent-replicate, part-blank, c.requires.1, c.requires.2)

pub shape_of-state-then-not-is_held : goal.shape_of-state-then-not-is_held
shape_of-state-then-not-is_held c = c.is_held.ensures.long ∙ sym c.requires.1

pub returns-then-not-is_held : goal.returns-then-not-is_held
returns-then-not-is_held c =
    not-held c.is_held.ensures c.if-not-is_held.true _ c.args.state.now c.requires.1

pub slice_bounds-write_program-end : goal.slice_bounds-write_program-end
slice_bounds-write_program-end c = sym (length-replicate {A = ℕ} 4854 0)

pub write_program-requires : goal.write_program-requires
write_program-requires c =
    ((accepted-size c.args.n c.args.table.now c.requires.0.ok).1, length-replicate {A = ℕ} 4854 0)

pub shape_of-state-in_err-length : goal.shape_of-state-in_err-length
shape_of-state-in_err-length c = c.is_held.ensures.long ∙ sym c.requires.1

pub returns-in_err-length : goal.returns-in_err-length
returns-in_err-length c =
    rw (handed-on c.from_residual.ensures.1 c.in_err-length.was)
    (put_refused c.is_held.ensures c.if-not-is_held.false c.args.state.now c.requires.1 c.args.version c.args.bytes.now
    c.write_program.ensures (told-err c.in_err-length.was))

pub shape_of-state-then-version-ge-VERSIONS : goal.shape_of-state-then-version-ge-VERSIONS
shape_of-state-then-version-ge-VERSIONS c = c.is_held.ensures.long ∙ sym c.requires.1

pub returns-then-version-ge-VERSIONS : goal.returns-then-version-ge-VERSIONS
returns-then-version-ge-VERSIONS c =
    put-above c.is_held.ensures c.if-not-is_held.false c.args.state.now c.requires.1 c.args.version c.args.bytes.now
    c.write_program.ensures _ (told-ok c.in_ok-length.was) c.if-version-ge-VERSIONS.true

pub slice_bounds-length_in-end : goal.slice_bounds-length_in-end
slice_bounds-length_in-end c = sym c.is_held.ensures.slotted.long

pub length_in-requires : goal.length_in-requires
length_in-requires c = (c.is_held.ensures.slotted, omega (arith, c.if-version-ge-VERSIONS.false))

pub shape_of-state-then-length_in-ne0 : goal.shape_of-state-then-length_in-ne0
shape_of-state-then-length_in-ne0 c = c.is_held.ensures.long ∙ sym c.requires.1

pub returns-then-length_in-ne0 : goal.returns-then-length_in-ne0
returns-then-length_in-ne0 c =
    put-present c.is_held.ensures c.if-not-is_held.false c.args.state.now c.requires.1 c.args.version c.args.bytes.now
    c.write_program.ensures _ (told-ok c.in_ok-length.was) (omega (arith, c.if-version-ge-VERSIONS.false)) (λ e. c.if-length_in-ne0.true (c.length_in.ensures.0 ∙ e))

pub slice_bounds-is_none_from-end : goal.slice_bounds-is_none_from-end
slice_bounds-is_none_from-end c = sym c.is_held.ensures.slotted.long

pub is_none_from-last-requires : goal.is_none_from-last-requires
is_none_from-last-requires c = (c.is_held.ensures.slotted, omega (arith, c.if-version-ge-VERSIONS.false))

pub slice_bounds-record-end : goal.slice_bounds-record-end
slice_bounds-record-end c = told-inside c.write_program.ensures _ (told-ok c.in_ok-length.was)

pub slice_bounds-put_measured-end : goal.slice_bounds-put_measured-end
slice_bounds-put_measured-end c = sym (told-length c.write_program.ensures _ (told-ok c.in_ok-length.was))

pub overflow_mul-version : goal.overflow_mul-version
overflow_mul-version c = omega (arith, c.if-version-ge-VERSIONS.false)

pub slice_bounds-put_measured-end-2 : goal.slice_bounds-put_measured-end-2
slice_bounds-put_measured-end-2 c = sym c.is_held.ensures.slotted.long

pub put_measured-requires : goal.put_measured-requires
put_measured-requires c = (told-short c.write_program.ensures _ (told-ok c.in_ok-length.was), omega (arith, c.if-version-ge-VERSIONS.false))

pub slice_bounds-step-end : goal.slice_bounds-step-end
slice_bounds-step-end c = sym (c.put_measured.ensures.long ∙ c.is_held.ensures.slotted.long)

pub slice_bounds-step-end-then-last : goal.slice_bounds-step-end-then-last
slice_bounds-step-end-then-last c = sym c.is_held.ensures.parted.long

pub step-requires : goal.step-requires
step-requires c =
    let a = c.args in
    let opens = c.is_held.ensures in
    let is_held = c.if-not-is_held.false in
    let wrote = c.write_program.ensures in
    let tells = told-ok c.in_ok-length.was in
    let low : a.version < 16 = omega (arith, c.if-version-ge-VERSIONS.false) in
    let (slotted, is) = put-slot opens.slotted low (told-short wrote _ tells) c.put_measured.ensures (told-some wrote _ tells) in
    (c.requires.0, slotted, low, put-there opens.slotted low (told-short wrote _ tells) c.put_measured.ensures (told-some wrote _ tells), opens.parted, wide opens is_held a.state.now c.requires.1, omega (arith, opens.long, c.requires.2))

pub shape_of-state-then-last : goal.shape_of-state-then-last
shape_of-state-then-last c = c.step.ensures.long ∙ c.is_held.ensures.long ∙ sym c.requires.1

pub returns-then-last : goal.returns-then-last
returns-then-last c =
    let a = c.args in
    let opens = c.is_held.ensures in
    let is_held = c.if-not-is_held.false in
    let wrote = c.write_program.ensures in
    let tells = told-ok c.in_ok-length.was in
    let low : a.version < 16 = omega (arith, c.if-version-ge-VERSIONS.false) in
    let (slotted, is) = put-slot opens.slotted low (told-short wrote _ tells) c.put_measured.ensures (told-some wrote _ tells) in
    put-steps opens is_held a.state.now c.requires.1 a.version a.bytes.now wrote _ tells low (sym c.length_in.ensures.0 ∙ c.if-length_in-ne0.false) _ is
    (c.is_none_from-last.ensures c.if-last.true) c.step.ensures

pub slice_bounds-go-end : goal.slice_bounds-go-end
slice_bounds-go-end c = sym (c.put_measured.ensures.long ∙ c.is_held.ensures.slotted.long)

pub slice_bounds-go-end-2 : goal.slice_bounds-go-end-2
slice_bounds-go-end-2 c = sym c.is_held.ensures.parted.long

pub go-requires : goal.go-requires
go-requires c =
    let a = c.args in
    let opens = c.is_held.ensures in
    let is_held = c.if-not-is_held.false in
    let wrote = c.write_program.ensures in
    let tells = told-ok c.in_ok-length.was in
    let low : a.version < 16 = omega (arith, c.if-version-ge-VERSIONS.false) in
    let (slotted, is) = put-slot opens.slotted low (told-short wrote _ tells) c.put_measured.ensures (told-some wrote _ tells) in
    (c.requires.0, slotted, opens.parted, wide opens is_held a.state.now c.requires.1, omega (arith, opens.long, c.requires.2))

pub shape_of-state : goal.shape_of-state
shape_of-state c = c.go.ensures.long ∙ c.is_held.ensures.long ∙ sym c.requires.1

pub returns : goal.returns
returns c =
    let a = c.args in
    let opens = c.is_held.ensures in
    let is_held = c.if-not-is_held.false in
    let wrote = c.write_program.ensures in
    let tells = told-ok c.in_ok-length.was in
    let low : a.version < 16 = omega (arith, c.if-version-ge-VERSIONS.false) in
    let (slotted, is) = put-slot opens.slotted low (told-short wrote _ tells) c.put_measured.ensures (told-some wrote _ tells) in
    let went = c.go.ensures in
    put-goes opens is_held a.state.now c.requires.1 a.version a.bytes.now wrote _ tells low (sym c.length_in.ensures.0 ∙ c.if-length_in-ne0.false) _ is
    (told c.go.result) went.long went.inside went.goes
