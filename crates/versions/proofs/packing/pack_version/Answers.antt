-- `packing::pack_version` meets its contract: the version is absent, its difference is refused, or the difference is put behind the bytes that
-- stand.
use mathlib.Core.Path.{refl}
use native.Mathlib.Omega.{arith}
use Rattle.versions.specs.Promise.{standing}
use Rattle.replies.specs.Replies.{told}
use Rattle.gathering.proofs.Told.{told-ok, told-err, handed-on}
use Rattle.versions.proofs.Lengths.{none-bounded, length-bounded}
use Rattle.versions.proofs.Packs.{goes-absent, differs-in, goes-refused, size_fits, size_is, goes-put}
use Rattle.versions.proofs.packing.pack_version.Goals as goal

pub returns-then-length-eq0 : goal.returns-then-length-eq0
returns-then-length-eq0 c =
    let a = c.args in
    record {
      long = refl;
      near = length-bounded a.at _ (omega (arith, c.requires.3));
      goes = goes-absent a.n a.table.now a.slots.now a.part.now a.version c.length_in-length.result
          c.length_in-length.ensures.0 c.if-length-eq0.true _ (standing a.at a.state.now);
    }

pub returns-in_err-size : goal.returns-in_err-size
returns-in_err-size c =
    let a = c.args in
    let d = differs-in a.n a.table.now a.slots.now a.part.now a.version c.length_in-length.result (told c.part_from.result) _
    c.length_in-length.ensures.0 c.if-length-eq0.false c.part_from.ensures in
    let refused = told-err c.in_err-size.was in
    rw (handed-on c.from_residual.ensures.1 c.in_err-size.was)
    (record {
      long = refl;
      near = none-bounded (told c.part_from.result) refused _;
      goes = λ ps. goes-refused d refused _ (standing a.at a.state.now) ps _;
    })

pub slice_bounds-record-end : goal.slice_bounds-record-end
slice_bounds-record-end c =
    let a = c.args in
    let d = differs-in a.n a.table.now a.slots.now a.part.now a.version c.length_in-length.result (told c.part_from.result) _
    c.length_in-length.ensures.0 c.if-length-eq0.false c.part_from.ensures in
    size_fits d _ (told-ok c.in_ok-size.was)

pub slice_bounds-put_measured-end : goal.slice_bounds-put_measured-end
slice_bounds-put_measured-end c =
    let a = c.args in
    let d = differs-in a.n a.table.now a.slots.now a.part.now a.version c.length_in-length.result (told c.part_from.result) _
    c.length_in-length.ensures.0 c.if-length-eq0.false c.part_from.ensures in
    size_is d _ (told-ok c.in_ok-size.was)

pub put_measured-requires : goal.put_measured-requires
put_measured-requires c =
    let a = c.args in
    let d = differs-in a.n a.table.now a.slots.now a.part.now a.version c.length_in-length.result (told c.part_from.result) _
    c.length_in-length.ensures.0 c.if-length-eq0.false c.part_from.ensures in
    (omega (arith, size_is d _ (told-ok c.in_ok-size.was), d.short _ (told-ok c.in_ok-size.was)), omega (arith, c.requires.2, c.requires.3))

pub overflow_add-result-2 : goal.overflow_add-result-2
overflow_add-result-2 c =
    let a = c.args in
    let d = differs-in a.n a.table.now a.slots.now a.part.now a.version c.length_in-length.result (told c.part_from.result) _
    c.length_in-length.ensures.0 c.if-length-eq0.false c.part_from.ensures in
    omega (arith, d.short _ (told-ok c.in_ok-size.was), c.requires.2, c.requires.3)

pub returns : goal.returns
returns c =
    let a = c.args in
    let d = differs-in a.n a.table.now a.slots.now a.part.now a.version c.length_in-length.result (told c.part_from.result) _
    c.length_in-length.ensures.0 c.if-length-eq0.false c.part_from.ensures in
    record {
      long = c.put_measured.ensures.long;
      near = length-bounded _ _ (omega (arith, c.requires.3, d.short _ (told-ok c.in_ok-size.was)));
      goes = goes-put d _ (told-ok c.in_ok-size.was) c.put_measured.ensures;
    }
