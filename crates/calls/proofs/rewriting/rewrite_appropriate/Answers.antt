-- `rewrite_appropriate` meets its contract: it is the call with a list.
use mathlib.Core.Path.{refl, ◌∙◌}
use Rattle.graphs.proofs.Search.{true-false}
use Rattle.calls.proofs.Beside.{rewriting-listed}
use Rattle.calls.proofs.rewriting.rewrite_appropriate.Goals as goal

pub rewrite_beside-requires : goal.rewrite_beside-requires
rewrite_beside-requires c = λ q. true-false refl q

pub returns : goal.returns
returns c =
    let a = c.args in
    c.rewrite_beside.ensures ∙ rewriting-listed a.n a.table.now a.list.now a.out.now a.bytes.now
