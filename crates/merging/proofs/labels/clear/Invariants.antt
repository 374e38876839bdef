-- `clear` meets its contract. The loop's invariant: the classes before c have the label top.
use Rattle.std.proofs.Common.{◌≤◌}
use Rattle.merging.proofs.Lowering.{Cleared}
use Rattle.merging.proofs.labels.clear.Given as goal

abbrev pub invariant-loop-c : goal.invariant-loop-c
invariant-loop-c l =
    Cleared l.n l.labels l.c × (l.c ≤ l.nodes)
