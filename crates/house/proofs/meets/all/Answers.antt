-- `all` meets its contract: the constant is the meets of all pairs. The rule is tested over the whole constant by computation.
use mathlib.Core.Path.{refl}
use Rattle.house.specs.House.{lesser}
use Rattle.house.proofs.Entries.{rule-meets}
use Rattle.house.proofs.meets.all.Goals as goal

pub returns : goal.returns
unfolding lesser
returns c = rule-meets _ refl refl
