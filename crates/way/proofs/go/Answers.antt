-- `go` meets its contract: the way of the programs goes one version after the other.
use mathlib.Core.Path.{◌∙◌, sym, ap, subst}
use Prim.Native.Nat.{ℕ}
use native.Mathlib.Omega.{arith}
use lib.ListN.{take}
use Rattle.replies.specs.Reply.{length_of}
use Rattle.versions.specs.State.{way}
use Rattle.versions.specs.Slots.{programs_in}
use Rattle.replies.specs.Replies.{told}
use Rattle.gathering.proofs.Told.{none-some, told-ok, told-err, handed-on}
use Rattle.versions.proofs.Lengths.{none-bounded, length-bounded}
use Rattle.versions.proofs.Packs.{two-long}
use Rattle.way.specs.Promise.{Led}
use Rattle.way.proofs.Ways.{going_start, going-same, going-absent, going_step, going-stops, going-ends, going-led}
use Rattle.way.proofs.go.Goals.{then-length_in-ne0+in_ok-used, else-length_in-ne0}
use Rattle.way.proofs.go.Goals as goal

pub loop-version-init : goal.loop-version-init
loop-version-init c =
    going_start c.args.n c.args.table.now c.args.slots.now c.args.part.now _ c.args.state.now
    c.requires.2 c.requires.3 c.put_length.ensures c.put_length-2.ensures

pub length_in-requires : goal.length_in-requires
length_in-requires c = (c.requires.1, c.loop-version-test.true)

pub step-requires : goal.step-requires
step-requires c =
    let a = c.args in
    let begun = two-long 0 a.state.now c.put_length-2.ensures c.requires.3 in
    let kept = c.loop-version.invariant.long ∙ begun in
    let found = c.length_in.ensures.0 in (
      c.requires.0,
      c.requires.1,
      c.loop-version-test.true,
      omega (arith, found, c.if-length_in-ne0.true),
      c.loop-version.invariant.led.parted,
      omega (arith, kept, c.requires.3),
      omega (arith, kept, c.requires.4),
    )

pub shape_of-part-in_err-used : goal.shape_of-part-in_err-used
shape_of-part-in_err-used c = c.step.ensures.parted.long ∙ sym c.requires.2.long

pub shape_of-state-in_err-used : goal.shape_of-state-in_err-used
shape_of-state-in_err-used c =
    let a = c.args in
    let begun = two-long 0 a.state.now c.put_length-2.ensures c.requires.3 in
    c.step.ensures.long ∙ c.loop-version.invariant.long ∙ begun

pub returns-in_err-used : goal.returns-in_err-used
returns-in_err-used c =
    let a = c.args in
    let begun = two-long 0 a.state.now c.put_length-2.ensures c.requires.3 in
    let whole = ap (λ (room : ℕ). way a.n a.table.now room (programs_in a.slots.now)) begun in
    let refused = told-err c.in_err-used.was in
    rw (handed-on c.from_residual.ensures.1 c.in_err-used.was)
    (record {
      long = c.step.ensures.long ∙ c.loop-version.invariant.long ∙ begun;
      inside = none-bounded (told c.step.result) refused _;
      parted = c.step.ensures.parted;
      goes = going-stops c.loop-version.invariant c.loop-version-test.true (λ e. c.if-length_in-ne0.true (c.length_in.ensures.0 ∙ e)) c.step.ensures refused ∙ whole;
      led = λ k e. none-some (sym refused ∙ ap length_of e);
    })

pub loop-version-preserved : goal.loop-version-preserved
loop-version-preserved c =
    let so = c.loop-version.invariant in
    let inside = c.loop-version-test.true in
    let found = c.length_in.ensures.0 in
    elim c.if-length_in-ne0.branch [
      | then-length_in-ne0+in_ok-used w ↦
          going-same (going_step so inside (λ e. w.if-length_in-ne0.true (found ∙ e)) w.step.ensures _ (told-ok w.in_ok-used.was)) w.part-is w.state-is w.used-is
      | else-length_in-ne0 w ↦ going-same (going-absent so inside (sym found ∙ w.if-length_in-ne0.false)) w.part-is w.state-is w.used-is
    ]

pub shape_of-part : goal.shape_of-part
shape_of-part c = c.loop-version.invariant.led.parted.long ∙ sym c.requires.2.long

pub shape_of-state : goal.shape_of-state
shape_of-state c =
    let a = c.args in
    let begun = two-long 0 a.state.now c.put_length-2.ensures c.requires.3 in
    c.loop-version.invariant.long ∙ begun

pub returns : goal.returns
returns c =
    let a = c.args in
    let begun = two-long 0 a.state.now c.put_length-2.ensures c.requires.3 in
    let whole = ap (λ (room : ℕ). way a.n a.table.now room (programs_in a.slots.now)) begun in
    let all = c.loop-version-test.false in
    record {
      long = c.loop-version.invariant.long ∙ begun;
      inside = length-bounded c.loop-version.used _ (omega (arith, c.loop-version.invariant.fits, begun));
      parted = c.loop-version.invariant.led.parted;
      goes = going-ends c.loop-version.invariant all ∙ whole;
      led = λ k e.
          subst (λ (room : ℕ). Led a.n a.table.now room (programs_in a.slots.now) 16 c.loop-version.part (take k c.loop-version.state))
          begun (going-led c.loop-version.invariant all k e);
    }
