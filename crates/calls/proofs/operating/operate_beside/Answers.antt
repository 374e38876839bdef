-- `operate_beside` meets its contract: the form is chosen and the list is tested; then the result is written, by sets or by cells.
use Prim.Native.Nat.{ℕ}
use mathlib.Core.Path.{sym, ap, ◌∙◌}
use Rattle.std.proofs.lemmas.Result.{err_from_is_err_and}
use Rattle.std.specs.Prelude.{Ok}
use mathlib.Core.Logic.{inl, inr}
use lib.ListN.{length-replicate}
use Rattle.acceptance.proofs.Acceptance.{accepted-opened}
use Rattle.bounds.proofs.Opening.{opened-sets}
use Rattle.record.specs.Appropriate.{list_accepted}
use Rattle.engine.specs.Operation.{operated_beside}
use Rattle.calls.proofs.Listed.{table-before-list, list-refused, list-passed}
use Rattle.calls.proofs.Beside.{opened-as, beside-checked, optional-passed, test-passed, test-failed}
use Rattle.calls.proofs.operating.operate_beside.Goals.{else-listed-via-then-listed+else-not-is_list_accepted, else-listed-via-else-listed}
use Rattle.calls.proofs.operating.operate_beside.Goals as goal

pub choose-requires : goal.choose-requires
choose-requires g c = length-replicate {A = ℕ} 128 0

pub operate_by_cells-requires : goal.operate_by_cells-requires
operate_by_cells-requires g c = (c.in_ok-choose.ensures.as-cells (ap Ok c.in-Cells.is), c.requires)

pub returns-then-not-is_list_accepted : goal.returns-then-not-is_list_accepted
returns-then-not-is_list_accepted g c =
    let a = c.args in
    list-refused (beside-checked a.n a.table.now a.listed a.list.now a.out.now (operated_beside g.O.Operation.written a.n a.table.now a.list.now a.first.now a.second.now a.out.now))
    (accepted-opened a.n a.table.now (c.in_ok-choose.ensures.as-sets (ap Ok c.in-Sets.is)).ok)
    (test-failed a.listed (list_accepted a.n a.list.now) c.if-listed.true (sym c.is_list_accepted.ensures ∙ c.if-not-is_list_accepted.true))

pub of_records-requires : goal.of_records-requires
of_records-requires g c =
    let a = c.args in (
      opened-as c.JOINS.ensures (opened-sets _ a.n a.table.now _ (c.in_ok-choose.ensures.as-sets (ap Ok c.in-Sets.is))),
      optional-passed a.n a.listed a.list.now c.requires (test-passed a.listed (list_accepted a.n a.list.now) (elim c.else-listed.branch [
        | else-listed-via-then-listed+else-not-is_list_accepted w ↦ inl (w.if-listed.true, sym w.is_list_accepted.ensures ∙ w.if-not-is_list_accepted.false)
        | else-listed-via-else-listed w ↦ inr w.if-listed.false
      ])),
    )

pub returns-in_err-choose : goal.returns-in_err-choose
returns-in_err-choose g c =
    let a = c.args in
    let refused = err_from_is_err_and c.from_residual.result c.from_residual.ensures.1 in
    rw (refused.1, refused.2) (table-before-list (beside-checked a.n a.table.now a.listed a.list.now a.out.now (operated_beside g.O.Operation.written a.n a.table.now a.list.now a.first.now a.second.now a.out.now)) _
    (sym (c.choose.ensures.refused _ c.in_err-choose.was)))

pub returns-in-Cells : goal.returns-in-Cells
returns-in-Cells g c = c.operate_by_cells.ensures

pub returns-else-listed : goal.returns-else-listed
returns-else-listed g c =
    let a = c.args in
    c.of_records.ensures ∙
    list-passed (beside-checked a.n a.table.now a.listed a.list.now a.out.now (operated_beside g.O.Operation.written a.n a.table.now a.list.now a.first.now a.second.now a.out.now))
    (accepted-opened a.n a.table.now (c.in_ok-choose.ensures.as-sets (ap Ok c.in-Sets.is)).ok)
    (test-passed a.listed (list_accepted a.n a.list.now) (elim c.else-listed.branch [
      | else-listed-via-then-listed+else-not-is_list_accepted w ↦ inl (w.if-listed.true, sym w.is_list_accepted.ensures ∙ w.if-not-is_list_accepted.false)
      | else-listed-via-else-listed w ↦ inr w.if-listed.false
    ]))
