-- `copy` meets its contract. The loop's invariant: the first i bytes stand in the state.
use Rattle.gathering.proofs.Spans.{Copied}
use Rattle.gathering.proofs.parts.copy.Given as goal

abbrev pub invariant-loop-i : goal.invariant-loop-i
invariant-loop-i l = Copied l.bytes l.at l.initial.state l.state l.i
