-- `open` meets its contract: the table is refused, the types are held as sets, or the cells are filled.
use mathlib.Core.Path.{refl, ap}
use Rattle.std.specs.Prelude.{Ok}
use Rattle.std.proofs.lemmas.Result.{err_from_is_err_and}
use Rattle.bounds.proofs.Opening.{opening-refused, opening-sets, opening-cells}
use Rattle.bounds.proofs.open.Goals as goal

pub choose-requires : goal.choose-requires
choose-requires c = c.requires.0

pub fill-requires : goal.fill-requires
fill-requires c = let needed = c.in_ok-form.ensures.as-cells (ap Ok c.in-Cells.is) in (needed.size, needed.order)

pub returns-in_err-form : goal.returns-in_err-form
returns-in_err-form c =
    let a = c.args in
    let told = err_from_is_err_and c.from_residual.result c.from_residual.ensures.1 in
    rw (told.1, told.2) (opening-refused a.up a.n a.table.now _ _ _ (c.in_err-form.ensures.refused _ refl))

pub returns-in-Sets : goal.returns-in-Sets
returns-in-Sets c =
    let a = c.args in
    opening-sets a.up a.n a.table.now _ _ (c.in_ok-form.ensures.as-sets (ap Ok c.in-Sets.is))

pub returns-in-Cells : goal.returns-in-Cells
returns-in-Cells c =
    let a = c.args in
    opening-cells a.up a.n a.table.now _ _ _ _ (c.in_ok-form.ensures.as-cells (ap Ok c.in-Cells.is)) c.requires.1 c.fill.ensures
