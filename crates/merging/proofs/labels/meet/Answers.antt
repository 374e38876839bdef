-- `meet` meets its contract, component by component.
use Rattle.lattice.proofs.Lawful.{label-parts}
use Rattle.merging.proofs.labels.meet.Goals as goal

pub returns : goal.returns
returns c = label-parts c.meet.ensures c.max.ensures c.min.ensures
