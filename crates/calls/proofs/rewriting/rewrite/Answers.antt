-- `rewrite` meets its contract: it is the call without a list.
use mathlib.Core.Path.{refl, ◌∙◌}
use Rattle.calls.proofs.Beside.{rewriting-plain}
use Rattle.calls.proofs.rewriting.rewrite.Goals as goal

pub rewrite_beside-requires : goal.rewrite_beside-requires
rewrite_beside-requires c = λ _. refl

pub returns : goal.returns
returns c =
    let a = c.args in
    c.rewrite_beside.ensures ∙ rewriting-plain a.n a.table.now _ refl a.out.now a.bytes.now
