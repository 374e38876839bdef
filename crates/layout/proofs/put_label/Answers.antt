-- `put_label` meets its contract: it makes two stores.
use mathlib.Core.Path.{refl}
use native.Mathlib.Omega.{arith}
use lib.ListN.{length-set}
use Rattle.layout.specs.Builder.{put_label}
use Rattle.layout.proofs.put_label.Goals as goal

-- src/lib.rt:39:5
pub bounds-words-at-2 : goal.bounds-words-at-2
bounds-words-at-2 c =
    omega (arith, length-set c.args.words.now c.args.at c.args.label.kind, c.requires)

-- src/lib.rt:34:1
pub returns : goal.returns
unfolding put_label
returns c = refl
