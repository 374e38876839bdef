-- `is_irreducible` meets its contract: the search finds the type whose word has the types strictly below j, if there is one.
use Prim.Native.Nat.{◌^◌}
use mathlib.Core.Path.{◌∙◌}
use Rattle.bounds.specs.Primes.{word_irreducible}
use Rattle.lattice.proofs.Seeking.{part-found}
use Rattle.bounds.proofs.primes.is_irreducible.Goals as goal

pub returns : goal.returns
unfolding word_irreducible
returns c =
    c.is_some.ensures ∙
    part-found c.args.n c.args.down.now c.args.j (2 ^ c.args.j) _ _ c.requires.0 c.requires.1 c.requires.2
    c.cleared-lower.ensures c.find_word.ensures
