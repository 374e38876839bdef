-- `operate_by_cells` meets its contract: the cells are filled and the list is tested; then the result is written.
use mathlib.Core.Path.{refl, sym, ◌∙◌}
use mathlib.Core.Logic.{inl, inr}
use Rattle.std.proofs.lemmas.Result.{err_from_is_err_and}
use Rattle.acceptance.proofs.Acceptance.{opened-accepted}
use Rattle.bounds.proofs.Opening.{opened-cells}
use Rattle.record.specs.Appropriate.{list_accepted}
use Rattle.engine.specs.Operation.{operated_beside}
use Rattle.calls.proofs.Listed.{table-before-list, list-refused, list-passed}
use Rattle.calls.proofs.Beside.{opened-as, beside-checked, optional-passed, test-passed, test-failed}
use Rattle.calls.proofs.operating.operate_by_cells.Goals.{else-listed-via-then-listed+else-not-is_list_accepted, else-listed-via-else-listed}
use Rattle.calls.proofs.operating.operate_by_cells.Goals as goal

pub fill-requires : goal.fill-requires
fill-requires g c = let needed = c.requires.0 in (needed.size, needed.order)

pub returns-then-not-is_list_accepted : goal.returns-then-not-is_list_accepted
returns-then-not-is_list_accepted g c =
    let a = c.args in
    list-refused (beside-checked a.n a.table.now a.listed a.list.now a.out.now (operated_beside g.O.Operation.written a.n a.table.now a.list.now a.first.now a.second.now a.out.now))
    (sym c.in_ok-fill.ensures.answers)
    (test-failed a.listed (list_accepted a.n a.list.now) c.if-listed.true (sym c.is_list_accepted.ensures ∙ c.if-not-is_list_accepted.true))

pub slice_bounds-of_records-end : goal.slice_bounds-of_records-end
slice_bounds-of_records-end g c = sym c.fill.ensures.long

pub of_records-requires : goal.of_records-requires
of_records-requires g c =
    let a = c.args in
    let ok = opened-accepted a.n a.table.now _ c.fill.ensures.answers c.in_ok-fill.was in (
      opened-as c.JOINS.ensures (opened-cells _ a.n a.table.now _ c.requires.0 ok _ _ refl (c.fill.ensures.filled-cells ok)),
      optional-passed a.n a.listed a.list.now c.requires.1 (test-passed a.listed (list_accepted a.n a.list.now) (elim c.else-listed.branch [
        | else-listed-via-then-listed+else-not-is_list_accepted w ↦ inl (w.if-listed.true, sym w.is_list_accepted.ensures ∙ w.if-not-is_list_accepted.false)
        | else-listed-via-else-listed w ↦ inr w.if-listed.false
      ])),
    )

pub returns-in_err-fill : goal.returns-in_err-fill
returns-in_err-fill g c =
    let a = c.args in
    let refused = err_from_is_err_and c.from_residual.result c.from_residual.ensures.1 in
    rw (refused.1, refused.2) (table-before-list (beside-checked a.n a.table.now a.listed a.list.now a.out.now (operated_beside g.O.Operation.written a.n a.table.now a.list.now a.first.now a.second.now a.out.now)) _
    (sym c.in_err-fill.ensures.answers))

pub returns : goal.returns
returns g c =
    let a = c.args in
    c.of_records.ensures ∙
    list-passed (beside-checked a.n a.table.now a.listed a.list.now a.out.now (operated_beside g.O.Operation.written a.n a.table.now a.list.now a.first.now a.second.now a.out.now))
    (sym c.in_ok-fill.ensures.answers)
    (test-passed a.listed (list_accepted a.n a.list.now) (elim c.else-listed.branch [
      | else-listed-via-then-listed+else-not-is_list_accepted w ↦ inl (w.if-listed.true, sym w.is_list_accepted.ensures ∙ w.if-not-is_list_accepted.false)
      | else-listed-via-else-listed w ↦ inr w.if-listed.false
    ]))
