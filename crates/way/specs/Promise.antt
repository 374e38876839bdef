-- What the functions that go the way of a store's programs promise to each other.
use Rattle.std.specs.Prelude.{◌≡◌, Bool, true, false, List, [], ◌∷◌, ◌++◌, ℕ, suc, ◌≤◌, length, take, drop, get_or}
use Rattle.std.proofs.Math.Option.{none, some}
use Rattle.replies.specs.Replies.{Reply}
use Rattle.replies.specs.Replies.{Length}
use Rattle.replies.specs.Reply.{resulting, Bounded}
use Rattle.gathering.specs.Gathering.{length_at}
use Rattle.versions.specs.State.{Made, taken, Programs, empty_state, way_from, held}
use Rattle.versions.specs.Slots.{measured_in, programs_in, Slotted, Parted}
use Rattle.versions.specs.Promise.{onward, NoneFrom}

-- The way up to version v leads to `part` and `state`: the way of the versions before v and any versions ahead goes on from there. The same holds
-- for every k before v where the versions from k to v are absent.
pub record Led (n : ℕ) (t : List ℕ) (room : ℕ) (ps : Programs) (v : ℕ) (part state : List ℕ) : Type 0 where
  pub parted : Parted part
  pub leads : (k : ℕ) → k ≤ v → NoneFrom k v ps → (ahead : Programs) →
      way_from n t room [] none empty_state (take k ps ++ ahead) ≡ way_from n t room (take k ps) (measured_in part) state ahead

-- The common part of the programs so far and one more stands behind its length, or the reply stops.
pub record Joins (m : Made) (r : Reply) (part : List ℕ) : Type 0 where
  pub parted : Parted part
  pub joins : taken (resulting r (drop 2 part)) ≡ m
  pub tells : (l : ℕ) → r ≡ Length l → (length_at part ≡ l) × (1 ≤ l)

-- One step of the way, by version v. Where the reply tells a length, the way goes on from the new part and state, whatever lies ahead.
pub record Steps (n : ℕ) (t : List ℕ) (ps : Programs) (v : ℕ) (part state : List ℕ) (r : Reply) (part₂ state₂ : List ℕ) : Type 0 where
  pub parted : Parted part₂
  pub long : length state₂ ≡ length state
  pub inside : Bounded r (length state)
  pub goes : (old : List ℕ) (ahead : Programs) →
      way_from n t (length state) (take v ps) (measured_in part) old (get_or ps v none ∷ ahead) ≡
      onward r (λ l. way_from n t (length state) (take (suc v) ps) (measured_in part₂) (take l state₂) ahead)

-- Where the answer is yes, the slots have the programs that the buffer holds, and `part` and `state` are where their way leads; else the buffer
-- holds none.
pub record Opens (n : ℕ) (t buffer : List ℕ) (answer : Bool) (slots part state : List ℕ) : Type 0 where
  pub slotted : Slotted slots
  pub parted : Parted part
  pub long : length state ≡ length buffer
  pub holds : answer ≡ true → (held n t buffer ≡ some (programs_in slots)) ×
      ((used : ℕ) × Led n t (length buffer) (programs_in slots) 16 part (take used state))
  pub fails : answer ≡ false → held n t buffer ≡ none
