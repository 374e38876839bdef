-- `copy_spans` meets its contract. The loop's invariant: the nodes before v have their spans.
use Rattle.std.proofs.Common.{◌≤◌}
use Rattle.merging.specs.Rows.{SpansCopied}
use Rattle.merging.proofs.operands.copy_spans.Given as goal

abbrev pub invariant-loop-v : goal.invariant-loop-v
invariant-loop-v l =
    SpansCopied l.graph l.v l.at l.shift l.initial.spans.start l.initial.spans.end l.spans.start l.spans.end × (l.v ≤ l.nodes)
