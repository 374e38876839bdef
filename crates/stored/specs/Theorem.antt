-- Definitions for the theorems on stores: which programs a store may have, when a buffer holds programs, where a way ends or which number is met
-- first on it, and when each reply of a call is due.
use Rattle.std.specs.Prelude.{◌≡◌, List, [], ◌∷◌, ◌++◌, ◌⊎◌, ℕ, ◌≤◌, ◌<◌, length, take, drop, get_or, set, Ok, Err}
use Rattle.std.proofs.Math.Option.{Option, none, some}
use Rattle.graphs.specs.Rows.{Row}
use Rattle.lattice.specs.Label.{Label}
use Rattle.demands.specs.Wanted.{SomeUnwanted}
use Rattle.acceptance.specs.declared.TableFault.{TableFault}
use Rattle.acceptance.specs.Reply.{opened}
use Rattle.record.specs.declared.GraphFault.{GraphFault}
use Rattle.record.specs.declared.GraphFault.TheVariants.{Malformed}
use Rattle.record.specs.Read.{reading, accepted, refused, graph_of_rows}
use Rattle.replies.specs.declared.Side.TheVariants.{First, Second}
use Rattle.replies.specs.Replies.{Reply}
use Rattle.replies.specs.Replies.{Length, Table, Graph, NoRoom, TooLarge, NoWantedType, WrongVersion, NoStoreRoom}
use Rattle.demands.specs.Demand.{WrittenRecord, Large, common}
use Rattle.versions.specs.State.{made, Programs, empty_state, state_of, differences, stored, joined, way}
use Rattle.contents.specs.Contents.{written_record}

-- "up to 16 versions": each that exists is the written record of a program.
pub record Versions (n : ℕ) (ps : Programs) : Type 0 where
  pub sixteen : length ps ≡ 16
  pub written : (v : ℕ) (p : List ℕ) → get_or ps v none ≡ some p → WrittenRecord n p

-- The buffer holds the programs: their way in the buffer's length ends in the used bytes, which are the first bytes of the buffer.
pub record Holds (n : ℕ) (t buffer : List ℕ) (ps : Programs) : Type 0 where
  pub versions : Versions n ps
  pub lent : length buffer ≤ 16384
  pub state : List ℕ
  pub reached : way n t (length buffer) ps ≡ made state
  pub first : buffer ≡ state ++ drop (length state) buffer

-- The buffer holds no list of programs.
abbrev pub HoldsNone : ℕ → List ℕ → List ℕ → Type 0
HoldsNone n t buffer = (ps : Programs) → Holds n t buffer ps → ⊥

-- "Each step of that way stores the common part of its programs, folded in version order, and every program's difference from it." In a room of
-- so many bytes, the way has passed these versions, and has their common part so far, if a version exists, and the state that stores them.
pub data Passed (n : ℕ) (t : List ℕ) (room : ℕ) : Programs → Option (List ℕ) → List ℕ → Type 0 where
  start : Passed n t room [] none empty_state
  absent : (behind : Programs) (part : Option (List ℕ)) (state : List ℕ) → Passed n t room behind part state → Passed n t room (behind ++ none ∷ []) part state
  steps : (behind : Programs) (part : Option (List ℕ)) (state program c s : List ℕ) → Passed n t room behind part state →
      joined n t part program ≡ made c → stored n t room c (behind ++ some program ∷ []) ≡ made s →
      Passed n t room (behind ++ some program ∷ []) (some c) s

-- A step of the way of the programs ps: one program, with all versions behind it passed.
pub record Step (n : ℕ) (t : List ℕ) (room : ℕ) (ps : Programs) : Type 0 where
  pub behind : Programs
  pub program : List ℕ
  pub ahead : Programs
  pub whole : ps ≡ behind ++ some program ∷ ahead
  pub part : Option (List ℕ)
  pub state : List ℕ
  pub passed : Passed n t room behind part state

-- the programs of a step
abbrev pub programs_of : {n : ℕ} {t : List ℕ} {room : ℕ} {ps : Programs} → Step n t room ps → Programs
programs_of step = step.behind ++ some step.program ∷ []

-- "the first number met on that way": the way passes every step before some step and stops at that step.
pub data Met (n : ℕ) (t : List ℕ) (room : ℕ) (ps : Programs) : Reply → Type 0 where
  -- 11 is met where the common part so far and the step's program have a common part of "over 255 nodes or 2,048 links".
  too_large : (step : Step n t room ps) (part : List ℕ) (g h : List (Row Label)) → step.part ≡ some part →
      reading n part ≡ accepted g → reading n step.program ≡ accepted h → Large (common n t g h) → Met n t room ps TooLarge
  -- 13 is met where the common part is made and some node of one of the step's programs has no wanted type for the difference from it.
  unwanted : (step : Step n t room ps) (c : List ℕ) (v : ℕ) (p : List ℕ) (g s : List (Row Label)) → joined n t step.part step.program ≡ made c →
      get_or (programs_of step) v none ≡ some p → reading n c ≡ accepted g → reading n p ≡ accepted s →
      SomeUnwanted n t (graph_of_rows s) (graph_of_rows g) → Met n t room ps NoWantedType
  -- 21 is met where all differences are made too: "after a step's 11 and 13, too few bytes for its state is 21".
  short : (step : Step n t room ps) (c ds : List ℕ) → joined n t step.part step.program ≡ made c →
      differences n t c (programs_of step) ≡ made ds → room < length (state_of (programs_of step) c ds) → Met n t room ps NoStoreRoom

-- A put passes the checks before its way: the table is accepted, the buffer holds programs, the program is accepted, and the version number is
-- "from 0 to 15" and "absent".
pub record PutChecked (n : ℕ) (t buffer : List ℕ) (version : ℕ) (bytes : List ℕ) (ps : Programs) (rows : List (Row Label)) : Type 0 where
  pub opens : opened n t ≡ Ok tt
  pub holds : Holds n t buffer ps
  pub reads : reading n bytes ≡ accepted rows
  pub numbered : version < 16
  pub absent : get_or ps version none ≡ none

-- A drop or a read passes its checks: the table is accepted, the buffer holds programs, and the version is one of them.
pub record VersionChecked (n : ℕ) (t buffer : List ℕ) (version : ℕ) (ps : Programs) (p : List ℕ) : Type 0 where
  pub opens : opened n t ≡ Ok tt
  pub holds : Holds n t buffer ps
  pub present : get_or ps version none ≡ some p

-- What a put or drop that is answered by the length l leaves in the buffer: the buffer holds the new programs, the used bytes have that length,
-- and the bytes past them stay.
pub record Changed (n : ℕ) (t buffer : List ℕ) (l : ℕ) (new : List ℕ) (qs : Programs) : Type 0 where
  pub holds : Holds n t new qs
  pub used : length holds.state ≡ l
  pub others : drop l new ≡ drop l buffer
  pub long : length new ≡ length buffer

-- The two buffers have one length and the same used bytes.
pub record Alike (n : ℕ) (t buffer other : List ℕ) : Type 0 where
  pub long : length other ≡ length buffer
  pub programs : Programs
  pub holds : Holds n t buffer programs
  pub same : take (length holds.state) other ≡ holds.state

-- When each reply of a call is due. The cases stand in the order of the checks.

module _ (n : ℕ) (t buffer : List ℕ) (version : ℕ) where
  -- The replies of a put.
  pub data PutDue (bytes : List ℕ) : Reply → Type 0 where
    -- 1 to 3: "The table is checked first".
    table : (fault : TableFault) → opened n t ≡ Err fault → PutDue bytes (Table fault)
    -- 4: "then the buffer, where one holding no state so reached within its length is 4 of the first graph".
    no-state : opened n t ≡ Ok tt → HoldsNone n t buffer → PutDue bytes (Graph Malformed First)
    -- 4 to 7: "then the program's 4 to 7, as the second".
    program : (ps : Programs) (fault : GraphFault) → opened n t ≡ Ok tt → Holds n t buffer ps → reading n bytes ≡ refused fault →
        PutDue bytes (Graph fault Second)
    -- 20: "next a version above 15, or .. present for put, is 20".
    numbered : (ps : Programs) (rows : List (Row Label)) → opened n t ≡ Ok tt → Holds n t buffer ps → reading n bytes ≡ accepted rows →
        (15 < version) ⊎ ((p : List ℕ) × (get_or ps version none ≡ some p)) → PutDue bytes WrongVersion
    -- 11, 13 and 21: "refused with the first number met on that way".
    met : (ps : Programs) (rows : List (Row Label)) (r : Reply) → PutChecked n t buffer version bytes ps rows →
        Met n t (length buffer) (set ps version (some (written_record rows))) r → PutDue bytes r
    -- "Put and drop return the used length."
    used : (ps : Programs) (rows : List (Row Label)) (s : List ℕ) → PutChecked n t buffer version bytes ps rows →
        way n t (length buffer) (set ps version (some (written_record rows))) ≡ made s → PutDue bytes (Length (length s))

  -- The replies of a drop.
  pub data DropDue : Reply → Type 0 where
    -- 1 to 3
    table : (fault : TableFault) → opened n t ≡ Err fault → DropDue (Table fault)
    -- 4 of the first graph
    no-state : opened n t ≡ Ok tt → HoldsNone n t buffer → DropDue (Graph Malformed First)
    -- 20: "a version above 15, or absent for read and drop".
    numbered : (ps : Programs) → opened n t ≡ Ok tt → Holds n t buffer ps → (15 < version) ⊎ (get_or ps version none ≡ none) → DropDue WrongVersion
    -- 11, 13 and 21
    met : (ps : Programs) (p : List ℕ) (r : Reply) → VersionChecked n t buffer version ps p → Met n t (length buffer) (set ps version none) r → DropDue r
    -- the used length
    used : (ps : Programs) (p s : List ℕ) → VersionChecked n t buffer version ps p → way n t (length buffer) (set ps version none) ≡ made s →
        DropDue (Length (length s))

  -- The replies of a read with an output of so many bytes.
  pub data ReadDue (room : ℕ) : Reply → Type 0 where
    -- 1 to 3
    table : (fault : TableFault) → opened n t ≡ Err fault → ReadDue room (Table fault)
    -- 4 of the first graph
    no-state : opened n t ≡ Ok tt → HoldsNone n t buffer → ReadDue room (Graph Malformed First)
    -- 20
    numbered : (ps : Programs) → opened n t ≡ Ok tt → Holds n t buffer ps → (15 < version) ⊎ (get_or ps version none ≡ none) → ReadDue room WrongVersion
    -- 8: "the result exists and the output is shorter" (document 01).
    shorter : (ps : Programs) (p : List ℕ) → VersionChecked n t buffer version ps p → room < length p → ReadDue room NoRoom
    -- the record's length
    fits : (ps : Programs) (p : List ℕ) → VersionChecked n t buffer version ps p → length p ≤ room → ReadDue room (Length (length p))
