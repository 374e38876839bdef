-- `copy_row` meets its contract. The loop's invariant: the links so far are copied.
use Prim.Native.Nat.{◌+◌}
use Rattle.layout.specs.Layout.{links_from}
use Rattle.numbering.proofs.CopiedRows.{Turn}
use Rattle.numbering.proofs.copy_row.Given as goal

abbrev pub invariant-loop-link : goal.invariant-loop-link
invariant-loop-link l = Turn l.graph l.numbers l.v l.at l.initial.new l.new l.next (links_from l.graph l.v + l.link-index)
