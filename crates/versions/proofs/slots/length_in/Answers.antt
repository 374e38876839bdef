-- `length_in` meets its contract.
use native.Mathlib.Omega.{arith}
use Rattle.versions.proofs.slots.length_in.Goals as goal

pub returns : goal.returns
returns c = (c.length_at.ensures, omega (arith, c.length_at.ensures, c.requires.0.short c.args.version c.requires.1))
