-- `differing::of_records` meets its contract: so many words have room for the graphs, whether both records are short or not.
use native.Mathlib.Omega.{arith}
use Rattle.engine.proofs.differing.of_records.Goals as goal

pub differ_sized-requires : goal.differ_sized-requires
differ_sized-requires c =
    let short = c.are_short.ensures c.if-are_short.true in
    record { few = omega arith; table_value = c.requires; roomy = (omega (arith, short.0), omega (arith, short.1)) }

pub differ_sized-requires-2 : goal.differ_sized-requires-2
differ_sized-requires-2 c = record { few = omega arith; table_value = c.requires; roomy = (omega arith, omega arith) }
