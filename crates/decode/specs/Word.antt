-- This file defines the eight bytes of a feature map as one word, and the links that the word's binary digits state.
use Rattle.std.specs.Prelude.{cond, List, [], ℕ, zero, suc, ◌+◌, ◌*◌, ◌/◌, ◌%◌, eqb, get_or, drop}
use Rattle.std.proofs.Math.Option.{Option, some}
use Rattle.decode.specs.Decode.{Taken, take_target}

-- the first k bytes as one number, lowest byte first
unfoldable pub word_of : ℕ → List ℕ → ℕ
word_of zero bytes = 0
word_of (suc k) bytes = word_of k (drop 1 bytes) * 256 + get_or bytes 0 0

-- the links that `take_links` reads, by the k lowest digits of a word, the lowest of which stands for feature f
unfoldable pub take_word : ℕ → ℕ → ℕ → ℕ → List ℕ → Option (Taken (List (ℕ × ℕ)))
take_word zero f word room rest = some (record { value = []; room = room; rest = rest })
take_word (suc k) f word room rest =
    cond (eqb (word % 2) 1)
    (take_target f (take_word k (suc f) (word / 2)) room rest)
    (take_word k (suc f) (word / 2) room rest)
