-- `label_from` meets its contract: a type below 128 is its own remainder.
use mathlib.Core.Path.{refl}
use native.Mathlib.Omega.{arith}
use Rattle.lattice.proofs.Lawful.{label-parts}
use Rattle.layout.proofs.label_from.Goals as goal

pub returns : goal.returns
returns c = label-parts (omega (arith, c.requires.1.type)) refl refl
