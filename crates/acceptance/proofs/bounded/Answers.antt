-- `bounded` meets its contract, branch by branch.
use mathlib.Core.Path.{ap}
use mathlib.Core.Bool.{not}
use mathlib.Core.Path.{refl}
use Rattle.lattice.proofs.Every.{refuted, held}
use Rattle.acceptance.proofs.bounded.Goals as goal

pub returns-then-not-all : goal.returns-then-not-all
returns-then-not-all c = rw (refuted {b = c.args.all} refl (ap not c.if-not-all.true))

pub returns : goal.returns
returns c = rw (held {b = c.args.all} refl (ap not c.if-not-all.false))
