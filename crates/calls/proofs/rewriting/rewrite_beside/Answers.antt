-- `rewrite_beside` meets its contract: the table is tested, then the list; then the record is rewritten.
use mathlib.Core.Path.{sym, ◌∙◌}
use mathlib.Core.Logic.{inl, inr}
use Rattle.std.proofs.lemmas.Result.{err_from_is_err_and}
use Rattle.acceptance.proofs.Acceptance.{opened-accepted}
use Rattle.record.specs.Appropriate.{list_accepted}
use Rattle.calls.proofs.Listed.{table-before-list, list-refused, list-passed}
use Rattle.calls.proofs.Beside.{beside-checked, optional-passed, test-passed, test-failed}
use Rattle.lattice.proofs.Laws.{accepted-size}
use Rattle.pairs.specs.Pair.{reading_beside}
use Rattle.engine.specs.Rewriting.{rewritten}
use Rattle.calls.proofs.rewriting.rewrite_beside.Goals.{else-listed-via-then-listed+else-not-is_list_accepted, else-listed-via-else-listed}
use Rattle.calls.proofs.rewriting.rewrite_beside.Goals as goal

pub returns-then-not-is_list_accepted : goal.returns-then-not-is_list_accepted
returns-then-not-is_list_accepted c =
    let a = c.args in
    list-refused (beside-checked a.n a.table.now a.listed a.list.now a.out.now (rewritten (reading_beside a.n a.table.now a.list.now a.bytes.now) a.out.now))
    (sym c.in_ok-accept.ensures)
    (test-failed a.listed (list_accepted a.n a.list.now) c.if-listed.true (sym c.is_list_accepted.ensures ∙ c.if-not-is_list_accepted.true))

pub of_record-requires : goal.of_record-requires
of_record-requires c =
    let a = c.args in (
      (accepted-size a.n a.table.now (opened-accepted a.n a.table.now _ c.accept.ensures c.in_ok-accept.was)).1,
      optional-passed a.n a.listed a.list.now c.requires (test-passed a.listed (list_accepted a.n a.list.now) (elim c.else-listed.branch [
        | else-listed-via-then-listed+else-not-is_list_accepted w ↦ inl (w.if-listed.true, sym w.is_list_accepted.ensures ∙ w.if-not-is_list_accepted.false)
        | else-listed-via-else-listed w ↦ inr w.if-listed.false
      ])),
    )

pub returns-in_err-accept : goal.returns-in_err-accept
returns-in_err-accept c =
    let a = c.args in
    let refused = err_from_is_err_and c.from_residual.result c.from_residual.ensures.1 in
    rw (refused.1, refused.2) (table-before-list (beside-checked a.n a.table.now a.listed a.list.now a.out.now (rewritten (reading_beside a.n a.table.now a.list.now a.bytes.now) a.out.now)) _ (sym c.in_err-accept.ensures))

pub returns : goal.returns
returns c =
    let a = c.args in
    c.of_record.ensures ∙
    list-passed (beside-checked a.n a.table.now a.listed a.list.now a.out.now (rewritten (reading_beside a.n a.table.now a.list.now a.bytes.now) a.out.now))
    (sym c.in_ok-accept.ensures)
    (test-passed a.listed (list_accepted a.n a.list.now) (elim c.else-listed.branch [
      | else-listed-via-then-listed+else-not-is_list_accepted w ↦ inl (w.if-listed.true, sym w.is_list_accepted.ensures ∙ w.if-not-is_list_accepted.false)
      | else-listed-via-else-listed w ↦ inr w.if-listed.false
    ]))
