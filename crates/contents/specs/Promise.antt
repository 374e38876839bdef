-- What the parts of a store's calls promise to each other.
use Rattle.std.specs.Prelude.{◌≡◌, List, ℕ, ◌≤◌, length}
use Rattle.record.specs.Read.{reading}
use Rattle.replies.specs.Replies.{Reply}
use Rattle.replies.specs.Replies.{Length}
use Rattle.replies.specs.Reply.{resulting, Bounded}
use Rattle.versions.specs.State.{Made, made, taken}
use Rattle.contents.specs.Contents.{on_program}

-- The bytes that a call makes beside the store, or the reply that refuses it.
pub record Among (m : Made) (old : List ℕ) (r : Reply) (new : List ℕ) : Type 0 where
  pub long : length new ≡ length old
  pub inside : Bounded r (length old)
  pub makes : taken (resulting r new) ≡ m

-- The written record of a program, or its 4 to 7 as those of the second graph.
pub record Programmed (n : ℕ) (bytes : List ℕ) (r : Reply) (record₂ : List ℕ) : Type 0 where
  pub long : length record₂ ≡ 4854
  pub short : Bounded r 4854
  pub some_bytes : (l : ℕ) → r ≡ Length l → 1 ≤ l
  pub writes : taken (resulting r record₂) ≡ on_program (reading n bytes) made
