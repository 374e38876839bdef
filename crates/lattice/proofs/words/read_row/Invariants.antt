-- `read_row` meets its contract: the word has the bits of the bytes before k.
use Prim.Native.Nat.{◌*◌}
use mathlib.Core.Path.{◌≡◌}
use mathlib.Core.Bool.{false}
use Rattle.lattice.specs.Words.{word as word_of, related}
use Rattle.lattice.proofs.words.read_row.Given as goal

abbrev pub invariant-loop-k : goal.invariant-loop-k
invariant-loop-k l = l.word ≡ word_of (8 * l.k) (related l.row false 0)
