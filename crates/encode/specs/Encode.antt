-- This file defines what writing the record of a graph answers, and what it leaves in a lent output.
use Rattle.std.specs.Prelude.{cond, List, ◌++◌, ℕ, leb, length, drop, Result, Ok, Err}
use Rattle.graphs.specs.Number.{Canonical, many_nodes, many_links, written}
use Rattle.lattice.specs.Label.{Label}
use Rattle.encoder.specs.Encode.{encoded}
use Rattle.encode.specs.declared.Unwritten.{Unwritten}
use Rattle.encode.specs.declared.Unwritten.TheVariants.{TooLarge, NoRoom}

-- What a call that is lent an output yields: its answer, and what the output holds at the end.
pub record Yield (A : Type 0) : Type 0 where
  pub answer : A
  pub output : List ℕ

-- an answer with the output beside it
abbrev pub yielding : {A : Type 0} → A → List ℕ → Yield A
yielding answer output = record { answer = answer; output = output }

-- What writing answers: the record's length, or why there is none.
abbrev pub Writing : Type 0
Writing = Result ℕ Unwritten

-- What writing yields. Of the output, "its first bytes are the record, the others unchanged"; on a refusal it is unchanged.
abbrev pub Outcome : Type 0
Outcome = Yield Writing

-- The record is written where it fits; else 8 is answered.
unfoldable pub fitted : List ℕ → List ℕ → Outcome
fitted bytes old =
    cond (leb (length bytes) (length old))
    (yielding (Ok (length bytes)) (bytes ++ drop (length bytes) old))
    (yielding (Err NoRoom) old)

-- "result over 255 nodes or 2,048 links" is 11, and 8 comes after it.
unfoldable pub written_out : Canonical Label → List ℕ → Outcome
written_out many_nodes old = yielding (Err TooLarge) old
written_out many_links old = yielding (Err TooLarge) old
written_out (written rows) old = fitted (encoded rows) old
