-- `label_at` meets its contract: the header of a node lies inside the words.
use Prim.Native.Nat.{◌+◌}
use native.Mathlib.Omega.{arith}
use Rattle.layout.proofs.label_at.Goals as goal

-- src/lib.rt:60:23
pub bounds-graph-v : goal.bounds-graph-v
bounds-graph-v c = omega (arith, (c.requires.0.node c.args.v c.requires.1).listed)

-- src/lib.rt:60:23
pub overflow_cast-graph : goal.overflow_cast-graph
overflow_cast-graph c = omega (arith, c.type_inv.graph (c.args.v + 1))

-- src/lib.rt:60:5
pub label_from-requires : goal.label_from-requires
label_from-requires c =
    let node = c.requires.0.node c.args.v c.requires.1 in
    (omega (arith, node.begun, node.ended), c.requires.0.labelled c.args.v c.requires.1)
