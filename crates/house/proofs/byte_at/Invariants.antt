-- `byte_at` meets its contract. The loop's invariant: the word has the bits before j. After eight bits the word is the byte.
use Prim.Native.Nat.{ℕ, ◌+◌, ◌*◌, ◌/◌, ◌%◌, ◌≤◌, ◌-◌}
use mathlib.Core.Path.{◌≡◌}
use mathlib.Core.Bool.{Bool}
use Rattle.lattice.specs.Words.{word as word_of}
use Rattle.house.specs.House.{under}
use Rattle.house.proofs.byte_at.Given as goal

-- the bits of byte k
abbrev pub stands_at : ℕ → ℕ → Bool
stands_at k j = under (8 * (k % 8) + j) (k / 8)

abbrev pub invariant-loop-j : goal.invariant-loop-j
invariant-loop-j l = (l.j ≤ 8) × (l.word ≡ word_of l.j (stands_at l.k))
