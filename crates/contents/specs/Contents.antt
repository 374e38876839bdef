-- What put, drop and read make of the programs that a buffer holds (document 02, Paper 11): "the buffer, .. then the program's 4 to 7, as the
-- second; next .. 20, and on the way" 11, 13 and 21; for read 8.
use Rattle.std.specs.Prelude.{Bool, true, false, cond, ◌&&◌, List, ℕ, eqb, ltb, get_or, set}
use Rattle.std.proofs.Math.Option.{Option, none, some}
use Rattle.graphs.specs.Number.{canonical}
use Rattle.graphs.specs.Rows.{Row}
use Rattle.lattice.specs.Label.{Label}
use Rattle.encoder.specs.Encode.{encoded}
use Rattle.encode.specs.Encode.{fitted}
use Rattle.record.specs.declared.GraphFault.TheVariants.{Malformed}
use Rattle.record.specs.Read.{Reading, refused, accepted, reading, graph_of_rows}
use Rattle.difference.specs.Difference.{numbered}
use Rattle.replies.specs.declared.Side.TheVariants.{First, Second}
use Rattle.replies.specs.Replies.{Graph, WrongVersion}
use Rattle.replies.specs.Reply.{Result, refusing, result_of}
use Rattle.versions.specs.State.{Made, made, stopped, Programs, way}

-- "one holding no state so reached within its length is 4 of the first graph"
abbrev pub on_held : Option Programs → (Programs → Made) → Made
on_held none next = stopped (Graph Malformed First)
on_held (some ps) next = next ps

-- the written record of a graph
abbrev pub written_record : List (Row Label) → List ℕ
written_record rows = encoded (numbered (canonical eqb (graph_of_rows rows)))

-- "the program's 4 to 7, as the second", else its written record
abbrev pub on_program : Reading → (List ℕ → Made) → Made
on_program (refused fault) next = stopped (Graph fault Second)
on_program (accepted rows) next = next (written_record rows)

-- "a version above 15, or .. present for put, is 20"
abbrev pub is_none : {A : Type 0} → Option A → Bool
is_none none = true
is_none (some x) = false

abbrev pub on_absent : Programs → ℕ → Made → Made
on_absent ps version next = cond (ltb version 16 && is_none (get_or ps version none)) next (stopped WrongVersion)

-- "a version above 15, or absent for read and drop"
abbrev pub on_present : Option (List ℕ) → (List ℕ → Made) → Made
on_present none next = stopped WrongVersion
on_present (some p) next = next p

-- "read gives back the written record that was put", or 8
abbrev pub given : List ℕ → Made → Result
given out (made p) = result_of (fitted p out)
given out (stopped r) = refusing r out

module _ (n : ℕ) (t : List ℕ) where
  -- the state after the version is put among the programs, in a room of so many bytes
  abbrev pub put_among : ℕ → ℕ → List ℕ → Programs → Made
  put_among room version bytes ps =
      on_program (reading n bytes) λ p. on_absent ps version (way n t room (set ps version (some p)))

  -- and after it is dropped
  abbrev pub drop_among : ℕ → ℕ → Programs → Made
  drop_among room version ps = on_present (get_or ps version none) λ p. way n t room (set ps version none)
