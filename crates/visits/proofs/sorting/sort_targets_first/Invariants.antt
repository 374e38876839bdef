-- `sorting::sort_targets_first` meets its contract. The loop's invariant: the nodes before v are finished, and none is on the way down.
use Rattle.visits.proofs.Colouring.{Sweeping}
use Rattle.visits.proofs.sorting.sort_targets_first.Given as goal

abbrev pub invariant-loop-v : goal.invariant-loop-v
invariant-loop-v l = Sweeping l.graph l.colour l.order l.v l.count
