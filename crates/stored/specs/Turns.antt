-- Definitions for the theorems on stores: calls in turn on one buffer over one table, the programs that remain after them, and the puts of
-- programs in version order.
use Rattle.std.specs.Prelude.{◌≡◌, List, [], ◌∷◌, ℕ, suc, take, set}
use Rattle.std.proofs.Math.Option.{Option, none, some}
use Rattle.record.specs.Read.{Reading, refused, accepted, reading}
use Rattle.replies.specs.Replies.{Reply}
use Rattle.replies.specs.Replies.{Length}
use Rattle.replies.specs.Reply.{Result, resulting, length_of}
use Rattle.versions.specs.State.{Made, made, stopped, Programs}
use Rattle.contents.specs.Contents.{written_record}
use Rattle.store.specs.Calls.{putting, dropping, fetching}

-- A put has a version and a program, a drop has a version, and a read has a version and the output that is lent.
pub data Call : Type 0 where
  put : ℕ → List ℕ → Call
  remove : ℕ → Call
  fetch : ℕ → List ℕ → Call

-- the written record of a program; no bytes where it is refused
abbrev pub written_in : Reading → List ℕ
written_in (refused fault) = []
written_in (accepted rows) = written_record rows

-- The second programs where a reply tells a length, else the first.
abbrev pub where_given : Option ℕ → Programs → Programs → Programs
where_given none ps qs = ps
where_given (some l) ps qs = qs

-- A reply that tells a length goes on with the buffer and its used bytes; any other reply stops.
abbrev pub on_length : Option ℕ → Result → (List ℕ → List ℕ → Made) → Made
on_length none r next = stopped r.reply
on_length (some l) r next = next r.output (take l r.output)

module _ (n : ℕ) (t : List ℕ) where
  -- the reply of a call, and the buffer after it
  abbrev pub called : List ℕ → Call → Result
  called buffer (put version bytes) = putting n t buffer version bytes
  called buffer (remove version) = dropping n t buffer version
  called buffer (fetch version out) = resulting (fetching n t buffer version out).reply buffer

  -- The buffer after all calls.
  unfoldable pub buffer_after : List ℕ → List Call → List ℕ
  buffer_after buffer [] = buffer
  buffer_after buffer (c ∷ cs) = buffer_after (called buffer c).output cs

  -- The replies of all calls.
  unfoldable pub replies : List ℕ → List Call → List Reply
  replies buffer [] = []
  replies buffer (c ∷ cs) = (called buffer c).reply ∷ replies (called buffer c).output cs

  -- what a call that is not refused does to the programs
  abbrev pub done : Call → Programs → Programs
  done (put version bytes) ps = set ps version (some (written_in (reading n bytes)))
  done (remove version) ps = set ps version none
  done (fetch version out) ps = ps

  -- The programs after all calls: a call changes them where it is answered by a length.
  unfoldable pub programs_after : List ℕ → Programs → List Call → Programs
  programs_after buffer ps [] = ps
  programs_after buffer ps (c ∷ cs) =
      programs_after (called buffer c).output (where_given (length_of (called buffer c).reply) ps (done c ps)) cs

  -- "put in version order under their numbers": the used bytes after the programs are put, where the list begins with the number `version`; or
  -- the first reply that refuses a put.
  unfoldable pub puts_from : List ℕ → List ℕ → ℕ → Programs → Made
  puts_from buffer used version [] = made used
  puts_from buffer used version (none ∷ ps) = puts_from buffer used (suc version) ps
  puts_from buffer used version (some p ∷ ps) =
      on_length (length_of (putting n t buffer version p).reply) (putting n t buffer version p) λ after state. puts_from after state (suc version) ps

  -- One of the calls is a drop of the version that is answered by a length.
  pub data Drops (version : ℕ) : List ℕ → List Call → Type 0 where
    here : (buffer : List ℕ) (l : ℕ) (cs : List Call) → (dropping n t buffer version).reply ≡ Length l → Drops version buffer (remove version ∷ cs)
    later : (buffer : List ℕ) (c : Call) (cs : List Call) → Drops version (called buffer c).output cs → Drops version buffer (c ∷ cs)

  -- One of the calls is a put of the program under the version that is answered by a length, and no later call drops the version.
  pub data Keeps (version : ℕ) (bytes : List ℕ) : List ℕ → List Call → Type 0 where
    here : (buffer : List ℕ) (l : ℕ) (cs : List Call) → (putting n t buffer version bytes).reply ≡ Length l →
        (Drops version (putting n t buffer version bytes).output cs → ⊥) → Keeps version bytes buffer (put version bytes ∷ cs)
    later : (buffer : List ℕ) (c : Call) (cs : List Call) → Keeps version bytes (called buffer c).output cs → Keeps version bytes buffer (c ∷ cs)
