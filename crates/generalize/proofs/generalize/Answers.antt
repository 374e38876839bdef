-- `generalize` meets its contract, in few words or in enough words.
use native.Mathlib.Omega.{arith}
use Rattle.layout.proofs.Order.{directory}
use Rattle.generalize.proofs.generalize.Goals as goal

pub bounds-a-0 : goal.bounds-a-0
bounds-a-0 c = omega (arith, directory c.requires.recorded.sound.shaped)

pub bounds-b-0 : goal.bounds-b-0
bounds-b-0 c = omega (arith, directory c.requires.recorded_2.sound.shaped)

pub generalize_sized-requires : goal.generalize_sized-requires
generalize_sized-requires c = let p = c.requires in record { recorded = p.recorded; recorded_2 = p.recorded_2; joinable = p.joinable; seekable = p.seekable; in_bounds = (omega arith, omega arith) }

pub generalize_sized-requires-2 : goal.generalize_sized-requires-2
generalize_sized-requires-2 c = let p = c.requires in record { recorded = p.recorded; recorded_2 = p.recorded_2; joinable = p.joinable; seekable = p.seekable; in_bounds = (omega arith, omega arith) }

pub returns-in-Some : goal.returns-in-Some
returns-in-Some c = c.generalize_sized.ensures.written _ c.in-Some.is

pub returns-in-None : goal.returns-in-None
returns-in-None c = absurd (omega (arith, (c.generalize_sized-2.ensures.too_few c.in-None.is).1))
