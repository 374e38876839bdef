-- `unify` meets its contract: it is the call without a list.
use mathlib.Core.Path.{refl, ◌∙◌}
use Rattle.calls.proofs.Beside.{unifying-plain}
use Rattle.calls.proofs.unifying.unify.Goals as goal

pub operate_beside-requires : goal.operate_beside-requires
operate_beside-requires c = λ _. refl

pub returns : goal.returns
returns c =
    let a = c.args in
    c.operate_beside.ensures ∙ unifying-plain a.n a.table.now _ refl a.out.now a.first.now a.second.now
