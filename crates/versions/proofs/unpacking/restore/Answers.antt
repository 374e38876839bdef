-- `restore` meets its contract.
use mathlib.Core.Path.{refl, sym}
use native.Mathlib.Omega.{arith}
use Rattle.pairs.proofs.Readings.{optional-none}
use Rattle.gathering.proofs.Told.{told-ok, ok-told}
use Rattle.versions.proofs.Restoring.{not-restored, is-restored, restored-most, restored-inside, restored-length}
use Rattle.versions.proofs.unpacking.restore.Goals as goal

pub of_records-combined-requires : goal.of_records-combined-requires
of_records-combined-requires c = (c.requires.0, optional-none c.args.n _ refl)

pub returns-in_default : goal.returns-in_default
returns-in_default c =
    let a = c.args in
    not-restored a.n a.table.now _ a.difference.now a.part.now c.requires.0.ok refl c.of_records-combined.ensures c.requires.1
    (λ l e. c.in_default.not-Ok l (ok-told e))

pub slice_bounds-record-end : goal.slice_bounds-record-end
slice_bounds-record-end c =
    let a = c.args in
    restored-inside a.n a.table.now _ a.difference.now a.part.now c.requires.0.ok refl c.of_records-combined.ensures _ (told-ok c.in-Ok.is)

pub slice_bounds-put_measured-end : goal.slice_bounds-put_measured-end
slice_bounds-put_measured-end c =
    let a = c.args in
    sym (restored-length a.n a.table.now _ a.difference.now a.part.now c.requires.0.ok refl c.of_records-combined.ensures _ (told-ok c.in-Ok.is))

pub put_measured-requires : goal.put_measured-requires
put_measured-requires c =
    let a = c.args in (
      omega (
        arith,
        restored-length a.n a.table.now _ a.difference.now a.part.now c.requires.0.ok refl c.of_records-combined.ensures _ (told-ok c.in-Ok.is),
        restored-most a.n a.table.now _ a.difference.now a.part.now c.requires.0.ok refl c.of_records-combined.ensures _ (told-ok c.in-Ok.is),
      ),
      omega (arith, c.requires.2),
    )

pub returns : goal.returns
returns c =
    let a = c.args in
    is-restored a.n a.table.now _ a.difference.now a.part.now c.requires.0.ok refl c.of_records-combined.ensures c.requires.1
    c.requires.2 _ (told-ok c.in-Ok.is) c.put_measured.ensures
