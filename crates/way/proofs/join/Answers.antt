-- `join` meets its contract: the program is the first, the new common part is too large, or the new common part is put.
use mathlib.Core.Path.{refl, sym}
use native.Mathlib.Omega.{arith}
use Rattle.pairs.proofs.Readings.{optional-none}
use Rattle.replies.specs.Replies.{told}
use Rattle.gathering.proofs.Told.{told-ok, told-err, handed-on}
use Rattle.way.proofs.Joined.{joins-first, common-part, joins-refused, common-fits, common-short, joins-common}
use Rattle.way.proofs.join.Goals as goal

pub put_measured-requires : goal.put_measured-requires
put_measured-requires c = (c.requires.2, omega arith)

pub returns-then-length-eq0 : goal.returns-then-length-eq0
returns-then-length-eq0 c =
    joins-first c.args.n c.args.table.now c.length_at-length.ensures c.if-length-eq0.true
    c.requires.3 c.requires.2 c.requires.1 c.put_measured.ensures

pub of_records-requires : goal.of_records-requires
of_records-requires c =
    (c.requires.0, optional-none c.args.n _ refl)

pub returns-in_err-size : goal.returns-in_err-size
returns-in_err-size c =
    let a = c.args in
    let common = common-part a.n a.table.now _ a.part.now a.program.now c.length_at-length.result (told c.of_records.result) _
    c.requires.0.ok refl c.requires.3 c.length_at-length.ensures c.if-length-eq0.false c.of_records.ensures in
    rw (handed-on c.from_residual.ensures.1 c.in_err-size.was)
    (joins-refused common (told-err c.in_err-size.was))

pub slice_bounds-record-end : goal.slice_bounds-record-end
slice_bounds-record-end c =
    let a = c.args in
    let common = common-part a.n a.table.now _ a.part.now a.program.now c.length_at-length.result (told c.of_records.result) _
    c.requires.0.ok refl c.requires.3 c.length_at-length.ensures c.if-length-eq0.false c.of_records.ensures in
    common-fits common _ (told-ok c.in_ok-size.was)

pub slice_bounds-put_measured-end : goal.slice_bounds-put_measured-end
slice_bounds-put_measured-end c =
    let a = c.args in
    let common = common-part a.n a.table.now _ a.part.now a.program.now c.length_at-length.result (told c.of_records.result) _
    c.requires.0.ok refl c.requires.3 c.length_at-length.ensures c.if-length-eq0.false c.of_records.ensures in
    sym (common.is-long _ (told-ok c.in_ok-size.was))

pub put_measured-requires-2 : goal.put_measured-requires-2
put_measured-requires-2 c =
    let a = c.args in
    let common = common-part a.n a.table.now _ a.part.now a.program.now c.length_at-length.result (told c.of_records.result) _
    c.requires.0.ok refl c.requires.3 c.length_at-length.ensures c.if-length-eq0.false c.of_records.ensures in
    (common-short common _ (told-ok c.in_ok-size.was), omega arith)

pub returns : goal.returns
returns c =
    let a = c.args in
    let common = common-part a.n a.table.now _ a.part.now a.program.now c.length_at-length.result (told c.of_records.result) _
    c.requires.0.ok refl c.requires.3 c.length_at-length.ensures c.if-length-eq0.false c.of_records.ensures in
    joins-common common _ (told-ok c.in_ok-size.was) c.put_measured-2.ensures
