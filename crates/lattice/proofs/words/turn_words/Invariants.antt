-- `turn_words` meets its contract. The loop's invariant: the words are turned for the rows before j.
use Prim.Native.Nat.{ℕ, ◌≤◌, ◌<◌}
use mathlib.Core.Path.{◌≡◌}
use lib.ListN.{length, get_or}
use Rattle.lattice.specs.Words.{turned}
use Rattle.lattice.proofs.words.turn_words.Given as goal

abbrev pub invariant-loop-j : goal.invariant-loop-j
invariant-loop-j l = (l.j ≤ l.n) × (length l.result ≡ 64) × ((i : ℕ) → i < 64 → get_or l.result i 0 ≡ turned l.j l.words i)
