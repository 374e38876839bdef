-- `turn_word` meets its contract. The loop's invariant: the word has the bits from j on, and those before j are still to come.
use Prim.Native.Nat.{◌+◌, ◌*◌, ◌≤◌, ◌^◌}
use mathlib.Core.Path.{◌≡◌}
use lib.ListN.{get_or}
use Rattle.lattice.specs.Words.{word as word_of, bit}
use Rattle.lattice.proofs.words.turn_word.Given as goal

abbrev pub invariant-loop-j : goal.invariant-loop-j
invariant-loop-j l =
    (l.j ≤ l.n) × (word_of l.n (λ k. bit (get_or l.words k 0) l.i) ≡ l.word * 2 ^ l.j + word_of l.j (λ k. bit (get_or l.words k 0) l.i))
