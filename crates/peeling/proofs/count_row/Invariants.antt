-- `peeling::count_row` meets its contract. The loop's invariant: the links of v so far lead to nodes and are counted.
use Prim.Native.Nat.{◌+◌}
use Rattle.layout.specs.Layout.{links_from}
use Rattle.peeling.proofs.Counting.{Counting}
use Rattle.peeling.proofs.count_row.Given as goal

abbrev pub invariant-loop-link : goal.invariant-loop-link
invariant-loop-link l = Counting l.graph l.v l.incoming (links_from l.graph l.v + l.link-index)
