-- `has_bit` meets its contract: it reads the bit.
use mathlib.Core.Path.{refl}
use Rattle.lattice.specs.Words.{bit}
use Rattle.lattice.proofs.words.has_bit.Goals as goal

pub returns : goal.returns
unfolding bit
returns c = refl
