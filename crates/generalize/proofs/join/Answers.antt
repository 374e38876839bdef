-- `join` meets its contract: the type is the join, and the range is the hull.
use mathlib.Core.Path.{◌∙◌, ap}
use Rattle.lattice.specs.Label.{Label}
use Rattle.lattice.proofs.Lawful.{label-parts}
use Rattle.generalize.proofs.join.Goals as goal

pub returns : goal.returns
returns c =
    let is = c.hull.ensures in
    label-parts (ap (λ (l : Label). l.type) is ∙ c.join-kind.ensures) (ap (λ (l : Label). l.lowest) is) (ap (λ (l : Label). l.highest) is)
