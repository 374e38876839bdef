-- `read_words` meets its contract. The loop's invariant: the words before i are read.
use Prim.Native.Nat.{ℕ, ◌≤◌, ◌<◌}
use mathlib.Core.Path.{◌≡◌}
use mathlib.Core.Bool.{false}
use lib.ListN.{length, get_or}
use Rattle.lattice.specs.Words.{word, related}
use Rattle.lattice.proofs.words.read_words.Given as goal

abbrev pub invariant-loop-i : goal.invariant-loop-i
invariant-loop-i l = (l.i ≤ l.n) × (length l.words ≡ 64) × ((k : ℕ) → k < l.i → get_or l.words k 0 ≡ word 64
    (related l.table false k))
