-- `packing::pack` meets its contract: the map and the common part are put, then each version in turn.
use mathlib.Core.Path.{◌∙◌, ap}
use Prim.Native.Nat.{ℕ}
use native.Mathlib.Omega.{arith}
use lib.ListN.{take}
use Rattle.replies.specs.Reply.{length_of}
use Rattle.versions.specs.State.{stored}
use Rattle.versions.specs.Slots.{programs_in}
use Rattle.replies.specs.Replies.{told}
use Rattle.gathering.proofs.Told.{none-some, told-ok, told-err, handed-on}
use Rattle.versions.proofs.Lengths.{none-bounded, length-bounded}
use Rattle.versions.proofs.Packs.{start-long, packing-start, packing-step, packing-stops, packing-fits, packing-over}
use Rattle.versions.proofs.packing.pack.Goals as goal

pub loop-version-init : goal.loop-version-init
loop-version-init c =
    let a = c.args in
    packing-start c.map_of.result a.state.now c.requires.4 c.put_length.ensures c.put_measured.ensures
    a.n a.table.now a.slots.now a.count c.requires.2 c.requires.3 c.map_of.ensures.0

pub pack_version-requires : goal.pack_version-requires
pack_version-requires c =
    (c.requires.0, c.requires.1, omega (arith, c.loop-version-test.true, c.loop-version.invariant.few), c.loop-version.invariant.near)

pub shape_of-state-in_err-at : goal.shape_of-state-in_err-at
shape_of-state-in_err-at c =
    let a = c.args in
    let begun = start-long c.map_of.result a.state.now c.requires.4 c.put_length.ensures c.put_measured.ensures in
    c.pack_version.ensures.long ∙ c.loop-version.invariant.long ∙ begun

pub returns-in_err-at : goal.returns-in_err-at
returns-in_err-at c =
    let a = c.args in
    let begun = start-long c.map_of.result a.state.now c.requires.4 c.put_length.ensures c.put_measured.ensures in
    let whole = ap (λ (room : ℕ). stored a.n a.table.now room a.part.now (take a.count (programs_in a.slots.now))) begun in
    let refused = told-err c.in_err-at.was in
    rw (handed-on c.from_residual.ensures.1 c.in_err-at.was)
    (record {
      long = c.pack_version.ensures.long ∙ c.loop-version.invariant.long ∙ begun;
      inside = none-bounded (told c.pack_version.result) refused _;
      packs = packing-stops c.loop-version.invariant c.loop-version-test.true (told c.pack_version.result) _ c.pack_version.ensures.goes refused ∙ whole;
    })

pub loop-version-preserved : goal.loop-version-preserved
loop-version-preserved c =
    packing-step c.loop-version.invariant c.loop-version-test.true (told c.pack_version.result) _
    c.pack_version.ensures.goes c.pack_version.ensures.long c.pack_version.ensures.near _ (told-ok c.in_ok-at.was)

pub shape_of-state-then-state-at : goal.shape_of-state-then-state-at
shape_of-state-then-state-at c =
    let a = c.args in
    let begun = start-long c.map_of.result a.state.now c.requires.4 c.put_length.ensures c.put_measured.ensures in
    c.loop-version.invariant.long ∙ begun

pub returns-then-state-at : goal.returns-then-state-at
returns-then-state-at c =
    let a = c.args in
    let begun = start-long c.map_of.result a.state.now c.requires.4 c.put_length.ensures c.put_measured.ensures in
    let whole = ap (λ (room : ℕ). stored a.n a.table.now room a.part.now (take a.count (programs_in a.slots.now))) begun in
    record {
      long = c.loop-version.invariant.long ∙ begun;
      inside = λ l e. none-some (ap length_of e);
      packs = packing-over c.loop-version.invariant c.loop-version-test.false c.if-state-at.true ∙ whole;
    }

pub shape_of-state : goal.shape_of-state
shape_of-state c =
    let a = c.args in
    let begun = start-long c.map_of.result a.state.now c.requires.4 c.put_length.ensures c.put_measured.ensures in
    c.loop-version.invariant.long ∙ begun

pub returns : goal.returns
returns c =
    let a = c.args in
    let begun = start-long c.map_of.result a.state.now c.requires.4 c.put_length.ensures c.put_measured.ensures in
    let kept = c.loop-version.invariant.long ∙ begun in
    let whole = ap (λ (room : ℕ). stored a.n a.table.now room a.part.now (take a.count (programs_in a.slots.now))) begun in
    record {
      long = kept;
      inside = length-bounded c.loop-version.at _ (omega (arith, c.if-state-at.false, kept));
      packs = packing-fits c.loop-version.invariant c.loop-version-test.false c.if-state-at.false ∙ whole;
    }
