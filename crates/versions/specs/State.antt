-- The versions of a program in one buffer (document 02, Paper 11): the bytes of a state, the way to it, and what a buffer holds. Records are the
-- bytes that the calls of document 01 write. `Calls` of crate `store` defines put, drop and read.
use Rattle.std.specs.Prelude.{Bool, true, false, cond, ◌&&◌, List, [], ◌∷◌, ◌++◌, ℕ, zero, suc, ◌+◌, ◌*◌, ◌/◌, ◌%◌, eqb, leb, length, take, drop, replicate}
use Rattle.std.proofs.Math.Option.{Option, none, some, map, bind}
use Rattle.graphs.specs.Number.{count_some}
use Rattle.replies.specs.Replies.{Reply}
use Rattle.replies.specs.Replies.{NoStoreRoom}
use Rattle.replies.specs.Reply.{Result, length_of}
use Rattle.calls.specs.Calls.{generalizing, unifying, differing}
unfoldable pub use Rattle.gathering.specs.Gathering.{blank, two_bytes}

-- "the first number met": either bytes, or the reply that stopped their making.
pub data Made : Type 0 where
  made : List ℕ → Made
  stopped : Reply → Made

-- Goes on with the bytes that are made; a reply that stopped stays.
abbrev pub and_then : Made → (List ℕ → Made) → Made
and_then (made bytes) next = next bytes
and_then (stopped r) next = stopped r

-- The bytes that are made, if any.
abbrev pub record_in : Made → Option (List ℕ)
record_in (made bytes) = some bytes
record_in (stopped r) = none

-- The bytes whose length a reply tells; any other reply stops.
abbrev pub taken_by : Option ℕ → Result → Made
taken_by none r = stopped r.reply
taken_by (some l) r = made (take l r.output)

-- `taken_by`, by the length that the reply tells.
abbrev pub taken : Result → Made
taken r = taken_by (length_of r.reply) r

-- The record of the common part of a and b. This call of document 01, and the two below, write into room for the longest record.
unfoldable pub common_part : ℕ → List ℕ → List ℕ → List ℕ → Made
common_part n t a b = taken (generalizing n t a b blank)

-- The record of the combination of a and b.
unfoldable pub combination : ℕ → List ℕ → List ℕ → List ℕ → Made
combination n t a b = taken (unifying n t a b blank)

-- The record of the difference of g and s.
unfoldable pub difference_of : ℕ → List ℕ → List ℕ → List ℕ → Made
difference_of n t g s = taken (differing n t g s blank)

-- The programs of a store: for each version number from 0 up, the written record where the version exists.
abbrev pub Programs : Type 0
Programs = List (Option (List ℕ))

-- "up to 16 versions"
abbrev pub no_programs : Programs
no_programs = replicate 16 none

-- "a map of 16 bits .. saying which exist": bit v stands when version v does
unfoldable pub map_of : Programs → ℕ
map_of [] = 0
map_of (p ∷ ps) = count_some p + 2 * map_of ps

-- "the length and record"
unfoldable pub measured : List ℕ → List ℕ
measured bytes = two_bytes (length bytes) ++ bytes

-- "a map of 16 bits .. saying which exist, then the length and record of their common part, then the length and difference of each version that
-- exists"
unfoldable pub state_of : Programs → List ℕ → List ℕ → List ℕ
state_of ps part differences = two_bytes (map_of ps) ++ (measured part ++ differences)

-- "An empty store is two zero bytes."
abbrev pub empty_state : List ℕ
empty_state = 0 ∷ 0 ∷ []

-- "too few bytes for its state is 21"
unfoldable pub within : ℕ → List ℕ → Made
within room state = cond (leb (length state) room) (made state) (stopped NoStoreRoom)

module _ (n : ℕ) (t : List ℕ) where
  -- "the length and difference of each version that exists", in version order, or 13
  unfoldable pub differences : List ℕ → Programs → Made
  differences part [] = made []
  differences part (none ∷ ps) = differences part ps
  differences part (some p ∷ ps) =
      and_then (difference_of n t part p) λ d. and_then (differences part ps) λ ds. made (measured d ++ ds)

  -- "stores the common part of its programs .. and every program's difference from it": 13 comes before 21.
  unfoldable pub stored : ℕ → List ℕ → Programs → Made
  stored room part ps = and_then (differences part ps) λ ds. within room (state_of ps part ds)

  -- "the common part of its programs, folded in version order": that of the programs so far, if any, and one more; or 11.
  abbrev pub joined : Option (List ℕ) → List ℕ → Made
  joined none p = made p
  joined (some part) p = common_part n t part p

  -- The way is "an empty store into which the remaining programs were put in version order under their numbers". `done` are the versions behind,
  -- with their common part and the state that stores them; the other versions lie ahead. "on the way, after a step's 11 and 13, too few bytes for
  -- its state is 21".
  unfoldable pub way_from : ℕ → Programs → Option (List ℕ) → List ℕ → Programs → Made
  way_from room done part state [] = made state
  way_from room done part state (none ∷ ahead) = way_from room (done ++ none ∷ []) part state ahead
  way_from room done part state (some p ∷ ahead) =
      and_then (joined part p) λ c.
      and_then (stored room c (done ++ some p ∷ [])) λ s.
      way_from room (done ++ some p ∷ []) (some c) s ahead

  -- The whole way of programs in a room of so many bytes.
  unfoldable pub way : ℕ → Programs → Made
  way room ps = way_from room [] none empty_state ps

-- A record behind its length, and what stands behind the record; none where the bytes end early.
unfoldable pub take_measured : List ℕ → Option (List ℕ × List ℕ)
take_measured [] = none
take_measured (low ∷ []) = none
take_measured (low ∷ high ∷ rest) =
    cond (leb (low + 256 * high) (length rest)) (some (take (low + 256 * high) rest, drop (low + 256 * high) rest)) none

-- The first list is the beginning of the second.
unfoldable pub starts_with : List ℕ → List ℕ → Bool
starts_with [] bytes = true
starts_with (x ∷ xs) [] = false
starts_with (x ∷ xs) (b ∷ bs) = eqb x b && starts_with xs bs

-- The buffer begins with the state that is made.
abbrev pub begins : Made → List ℕ → Bool
begins (made state) buffer = starts_with state buffer
begins (stopped r) buffer = false

module _ (n : ℕ) (t : List ℕ) where
  -- The programs of `count` versions, by the bits of a map, the lowest bit first. Each difference in turn, combined with the common part, gives a
  -- program.
  unfoldable pub restored : List ℕ → ℕ → ℕ → List ℕ → Option Programs
  restored part zero bits bytes = some []
  restored part (suc count) bits bytes =
      cond (eqb (bits % 2) 1)
      (bind (take_measured bytes) λ d.
      bind (record_in (combination n t d.0 part)) λ p.
      map (λ ps. some p ∷ ps) (restored part count (bits / 2) d.1))
      (map (λ ps. none ∷ ps) (restored part count (bits / 2) bytes))

  -- The programs by a map and the bytes behind it.
  abbrev pub unpacked_by : ℕ → List ℕ → Option Programs
  unpacked_by bits rest =
      cond (eqb bits 0) (some no_programs) (bind (take_measured rest) λ part. restored part.0 16 bits part.1)

  -- The only programs whose state the bytes can begin with.
  unfoldable pub unpacked : List ℕ → Option Programs
  unpacked [] = none
  unpacked (low ∷ []) = none
  unpacked (low ∷ high ∷ rest) = unpacked_by (low + 256 * high) rest

  -- The programs that a buffer holds: its first bytes are the state that their way "within its length" ends in. "A buffer above 16,384 bytes"
  -- holds none.
  unfoldable pub held : List ℕ → Option Programs
  held buffer =
      cond (leb (length buffer) 16384)
      (bind (unpacked buffer) λ ps. cond (begins (way n t (length buffer) ps) buffer) (some ps) none)
      none
