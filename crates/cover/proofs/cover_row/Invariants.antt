-- `cover_row` meets its contract. The loop's invariant: the links of y so far are laid over links of s.
use Prim.Native.Nat.{◌+◌}
use Rattle.layout.specs.Layout.{links_from}
use Rattle.cover.proofs.Covering.{Covering}
use Rattle.cover.proofs.cover_row.Given as goal

abbrev pub invariant-loop-link : goal.invariant-loop-link
invariant-loop-link l = Covering l.s l.g l.map l.y (links_from l.g l.y + l.link-index) l.j l.owner l.parent
