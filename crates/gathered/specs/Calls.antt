-- Definitions for the theorems on gatherings: calls made in turn on a state, the additions that are accepted among them, and the fold of
-- programs.
use Rattle.std.specs.Prelude.{List, [], ◌∷◌, map, ℕ, take}
use Rattle.std.proofs.Math.Option.{Option, none, some}
use Rattle.replies.specs.Reply.{Result, resulting, length_of}
unfoldable pub use Rattle.gathering.specs.Gathering.{blank}
use Rattle.gathering.specs.Gathering.{joining, adding, comparing, finishing}

-- A call on a gathering, with the program that is handed in or the output that is lent.
pub data Call : Type 0 where
  add : List ℕ → Call
  order : List ℕ → Call
  finish : List ℕ → Call

-- the reply of a call, and the state after it
abbrev pub called : List ℕ → Call → Result
called state (add bytes) = adding state bytes
called state (order bytes) = resulting (comparing state bytes) state
called state (finish out) = resulting (finishing state out).reply state

-- The state after all calls.
unfoldable pub state_after : List ℕ → List Call → List ℕ
state_after state [] = state
state_after state (c ∷ cs) = state_after (called state c).output cs

-- An addition that is answered by a length stands before the later ones; any other is left out.
abbrev pub kept_where : Option ℕ → List ℕ → List (List ℕ) → List (List ℕ)
kept_where none bytes others = others
kept_where (some l) bytes others = bytes ∷ others

-- The accepted additions, in their order: those that are answered by a length.
unfoldable pub additions : List ℕ → List Call → List (List ℕ)
additions state [] = []
additions state (add bytes ∷ cs) = kept_where (length_of (adding state bytes).reply) bytes (additions (adding state bytes).output cs)
additions state (order bytes ∷ cs) = additions state cs
additions state (finish out ∷ cs) = additions state cs

-- The calls that only add these programs.
abbrev pub alone : List (List ℕ) → List Call
alone programs = map add programs

-- The record that a call writes; none where it answers no length.
abbrev pub taken_by : Option ℕ → Result → Option (List ℕ)
taken_by none r = none
taken_by (some l) r = some (take l r.output)

-- `taken_by`, by the length that the reply tells.
abbrev pub taken : Result → Option (List ℕ)
taken r = taken_by (length_of r.reply) r

-- The new common part, or the old one where there is no new one.
abbrev pub instead : Option (List ℕ) → Option (List ℕ) → Option (List ℕ)
instead o none = o
instead o (some part) = some part

-- "folded in their order": the first program gives what `rewriting` writes; each later one gives what `generalizing` writes for it and the common
-- part so far.
unfoldable pub folded : ℕ → List ℕ → Option (List ℕ) → List (List ℕ) → Option (List ℕ)
folded n t o [] = o
folded n t o (bytes ∷ more) = folded n t (instead o (taken (joining n t o bytes blank))) more
