-- What building the common part in lent words leaves.
use Rattle.std.specs.Prelude.{◌≡◌, List, ℕ, ◌+◌, ◌<◌, Option, Some, None}
use Rattle.layout.specs.Layout.{longest}
use Rattle.encode.specs.Encode.{Outcome, yielding, Writing}

-- the number of words that a result is built in
abbrev pub room : ℕ
room = longest + 64

-- What building in so many words leaves: the outcome; or the output as it was, if fewer than `room` words were lent.
pub record Found (r : Option Writing) (outcome : Outcome) (words : ℕ) (old new : List ℕ) : Type 0 where
  pub written : (w : Writing) → r ≡ Some w → yielding w new ≡ outcome
  pub too_few : r ≡ None → (new ≡ old) × (words < room)
