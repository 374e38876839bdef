-- The first bytes of the state are copied.
use mathlib.Core.Path.{refl, sym}
use native.Mathlib.Omega.{arith}
use lib.Seq.{length-take-le}
use Rattle.store.proofs.Settling.{settle-some}
use Rattle.store.proofs.settle.Goals as goal

pub slice_bounds-copy-end : goal.slice_bounds-copy-end
slice_bounds-copy-end c = sym (length-take-le _ _ c.requires.0)

pub copy-requires : goal.copy-requires
copy-requires c = omega (arith, c.requires.0, c.requires.1, length-take-le _ c.args.state.now c.requires.0)

pub returns : goal.returns
returns c = settle-some c.args.used c.args.state.now c.args.store.now refl c.requires.0 c.copy.ensures
