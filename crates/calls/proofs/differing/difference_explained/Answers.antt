-- `difference_explained` meets its contract: it is the call without a list and with reasons.
use mathlib.Core.Path.{◌∙◌}
use Rattle.calls.proofs.Differences.{with-explaining}
use Rattle.calls.proofs.differing.difference_explained.Goals as goal

pub returns : goal.returns
returns c =
    let a = c.args in
    c.difference_with.ensures ∙ with-explaining a.n a.table.now a.first.now a.second.now a.out.now a.reasons.now
