-- `cleared` meets its contract: the one bit shifted to j is 2 ^ j.
use mathlib.Core.Path.{ap, ◌∙◌}
use Rattle.lattice.specs.Words.{without}
use Rattle.lattice.proofs.WordLaws.{shifted}
use borrow.Author.Rules.{rules}
use Rattle.lattice.proofs.words.cleared.Goals as goal

pub returns : goal.returns
returns c = c.without.ensures ∙ ap (without c.args.word) (shifted c.args.j (search rules))
