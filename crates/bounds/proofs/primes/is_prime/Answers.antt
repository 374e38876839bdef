-- `is_prime` meets its contract: the search finds the type whose word has the types that are not in `above`, if there is one.
use mathlib.Core.Path.{◌∙◌}
use Rattle.bounds.specs.Primes.{word_splits}
use Rattle.lattice.proofs.Seeking.{part-found}
use borrow.Author.Rules.{rules}
use Rattle.bounds.proofs.primes.is_prime.Goals as goal

pub returns : goal.returns
unfolding word_splits
returns c =
    c.is_some.ensures ∙
    part-found c.args.n c.args.down.now _ c.args.above _ _ (search rules) c.requires.1 c.requires.2
    c.without-others.ensures c.find_word.ensures
