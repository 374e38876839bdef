-- `encode_row` meets its contract. Each turn of the loop stores one target behind those before it and adds one bit to the map.
use Prim.Native.Nat.{◌+◌}
use Rattle.layout.specs.Layout.{links_from, row_end}
use Rattle.encoder.proofs.WrittenRows.{Turn}
use Rattle.encoder.proofs.encode_row.Given as goal

abbrev pub invariant-loop-link : goal.invariant-loop-link
invariant-loop-link l =
    Turn l.graph l.numbers l.map_at (links_from l.graph l.v) (row_end l.graph l.v) l.initial.out l.out l.map l.next (links_from l.graph l.v + l.link-index)
