-- `generalize_appropriate` meets its contract: it is the call with a list.
use mathlib.Core.Path.{refl, ◌∙◌}
use Rattle.graphs.proofs.Search.{true-false}
use Rattle.calls.proofs.Beside.{generalizing-listed}
use Rattle.calls.proofs.generalizing.generalize_appropriate.Goals as goal

pub operate_beside-requires : goal.operate_beside-requires
operate_beside-requires c = λ q. true-false refl q

pub returns : goal.returns
returns c =
    let a = c.args in
    c.operate_beside.ensures ∙ generalizing-listed a.n a.table.now a.list.now a.out.now a.first.now a.second.now
