-- `unify_appropriate` meets its contract: it is the call with a list.
use mathlib.Core.Path.{refl, ◌∙◌}
use Rattle.graphs.proofs.Search.{true-false}
use Rattle.calls.proofs.Beside.{unifying-listed}
use Rattle.calls.proofs.unifying.unify_appropriate.Goals as goal

pub operate_beside-requires : goal.operate_beside-requires
operate_beside-requires c = λ q. true-false refl q

pub returns : goal.returns
returns c =
    let a = c.args in
    c.operate_beside.ensures ∙ unifying-listed a.n a.table.now a.list.now a.out.now a.first.now a.second.now
