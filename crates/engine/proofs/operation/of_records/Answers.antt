-- `operation::of_records` meets its contract: so many words have room for the two graphs, whether both records are short or not.
use native.Mathlib.Omega.{arith}
use Rattle.engine.proofs.operation.of_records.Goals as goal

pub operate_sized-requires : goal.operate_sized-requires
operate_sized-requires g c =
    let short = c.are_short.ensures c.if-are_short.true in
    record { few = omega arith; opened = c.requires; roomy = (omega (arith, short.0), omega (arith, short.1)) }

pub operate_sized-requires-2 : goal.operate_sized-requires-2
operate_sized-requires-2 g c = record { few = omega arith; opened = c.requires; roomy = (omega arith, omega arith) }
