-- `go` meets its contract: the way of the programs goes one version after the other.
use lib.ListN.{length}
use Rattle.way.proofs.Ways.{Going}
use Rattle.way.proofs.go.Given as goal

abbrev pub invariant-loop-version : goal.invariant-loop-version
invariant-loop-version l = Going l.n l.table l.slots (length l.initial.state) l.part l.state l.used l.version
