-- What opening the table of a call answers, over a buffer of so many bytes.
use Rattle.std.specs.Prelude.{◌≡◌, true, List, ℕ, ◌≤◌, ⊤, length, Result, Ok, Err}
use Rattle.bounds.specs.Opening.{OpenedFor}
use Rattle.replies.specs.declared.Refusal.{Refusal}
use Rattle.versions.specs.State.{Made, stopped, Programs}
use Rattle.store.specs.Calls.{in_table}

-- The sets and cells hold the joins of the accepted table, and the buffer is not too long; or every call over a buffer of this length is refused
-- so.
pub record Opens (n : ℕ) (t : List ℕ) (room : ℕ) (answer : Result ⊤ Refusal) (sets : List ℕ) (cells : List (List ℕ)) : Type 0 where
  pub opened : answer ≡ Ok tt → OpenedFor true n t sets cells × (room ≤ 16384)
  pub refused : (why : Refusal) → answer ≡ Err why → (next : Programs → Made) (buffer : List ℕ) → length buffer ≡ room →
      in_table n t next buffer ≡ stopped (Err why)
