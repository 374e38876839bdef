-- What the exported calls over lent rows yield: the code of a reply, and what the rows and node bytes hold at the end.
use Rattle.std.specs.Prelude.{List, ℕ}
use Rattle.rows.specs.declared.Row as lent
use Rattle.planning.specs.Planning.{Exported}
use Rattle.record_engine.specs.Code.{code_of}

-- A code, and what the lent rows and node bytes hold at the end.
pub record YieldRows : Type 0 where
  pub answer : ℕ
  pub rows : List lent.Row
  pub nodes : List ℕ

-- This code with these rows and node bytes.
abbrev pub yielding_rows : ℕ → List lent.Row → List ℕ → YieldRows
yielding_rows answer rows nodes = record { answer = answer; rows = rows; nodes = nodes }

-- The code of export's reply, with the rows and node bytes.
abbrev pub coded_rows : Exported → YieldRows
coded_rows result = yielding_rows (code_of result.reply) result.rows result.nodes
