-- `put_length` meets its contract.
use native.Mathlib.Omega.{arith}
use Prim.Native.Nat.{◌%◌}
use lib.ListN.{length-set}
use Rattle.gathering.proofs.Spans.{length-put}
use Rattle.gathering.proofs.parts.put_length.Goals as goal

pub bounds-state-at-2 : goal.bounds-state-at-2
bounds-state-at-2 c = omega (arith, c.requires, length-set c.args.state.now c.args.at (c.args.count % 256))

pub returns : goal.returns
returns c = length-put c.args.state.now c.args.at c.args.count c.requires
