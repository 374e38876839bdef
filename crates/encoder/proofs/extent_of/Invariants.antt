-- `extent_of` meets its contract. The loop's invariant: the sums are those of the nodes so far. In a turn the links grow by less than
-- 65,536 and the ranges by at most 1, so the sums fit.
use Rattle.encoder.proofs.WrittenRows.{Summed}
use Rattle.encoder.proofs.extent_of.Given as goal

abbrev pub invariant-loop-v : goal.invariant-loop-v
invariant-loop-v l = Summed l.graph l.visited l.count l.links l.ranges l.v-index
