-- `difference_explained_by` meets its contract: it is the call with a list and with reasons.
use mathlib.Core.Path.{◌∙◌}
use Rattle.calls.proofs.Differences.{with-explaining-by}
use Rattle.calls.proofs.differing.difference_explained_by.Goals as goal

pub returns : goal.returns
returns c =
    let a = c.args in
    c.difference_by_with.ensures ∙ with-explaining-by a.n a.table.now a.list.now a.first.now a.second.now a.out.now a.reasons.now
