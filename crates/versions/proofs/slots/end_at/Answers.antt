-- `end_at` meets its contract.
use native.Mathlib.Omega.{arith}
use Prim.Native.Nat.{◌+◌}
use Rattle.versions.proofs.SlotLaws.{length-at-small, ends-early, ends-whole}
use Rattle.versions.proofs.slots.end_at.Goals as goal

pub overflow_add-length : goal.overflow_add-length
overflow_add-length c = omega (arith, c.length_at-length.ensures, length-at-small c.args.bytes.now c.args.at (omega (arith, c.type_inv.bytes c.args.at)) (omega (arith, c.type_inv.bytes (c.args.at + 1))))

pub returns-then-bytes-at : goal.returns-then-bytes-at
returns-then-bytes-at c = ends-early c.args.bytes.now c.args.at c.length_at-length.ensures c.requires c.if-bytes-at.true

pub returns : goal.returns
returns c = ends-whole c.args.bytes.now c.args.at c.length_at-length.ensures c.requires c.if-bytes-at.false
