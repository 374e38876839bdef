-- `find_irreducibles` meets its contract. The loop's invariant: the irreducible types before j are prime, and they are the types found.
use Prim.Native.Nat.{◌≤◌}
use mathlib.Core.Path.{◌≡◌}
use mathlib.Core.Bool.{true}
use Rattle.lattice.specs.Table.{every}
use Rattle.lattice.specs.Words.{word}
use Rattle.bounds.specs.Primes.{word_irreducible, word_prime}
use Rattle.bounds.proofs.Held.{Kept}
use Rattle.bounds.proofs.primes.find_irreducibles.Given as goal

abbrev pub invariant-loop-j : goal.invariant-loop-j
invariant-loop-j l = (l.j ≤ l.n) × (every l.j (word_prime l.n l.down) ≡ true) × (l.types ≡ word l.j (word_irreducible l.n l.down)) × Kept l.n l.down l.above l.j
