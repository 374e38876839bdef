-- What the exported functions yield: the code of a reply, with one output or two beside it.
use Rattle.std.specs.Prelude.{List, ℕ}
use Rattle.encode.specs.Encode.{Yield, yielding}
use Rattle.replies.specs.Reply.{Result}
use Rattle.difference.specs.Explained.{Explained}
use Rattle.record_engine.specs.Code.{code_of}

-- The code of a result's reply, with the output.
abbrev pub coded : Result → Yield ℕ
coded result = yielding (code_of result.reply) result.output

-- A code, and what the two outputs hold at the end.
pub record YieldBoth : Type 0 where
  pub answer : ℕ
  pub output : List ℕ
  pub reasons : List ℕ

-- This code with these outputs.
abbrev pub yielding_both : ℕ → List ℕ → List ℕ → YieldBoth
yielding_both answer output reasons = record { answer = answer; output = output; reasons = reasons }

-- The code of the reply of a call with reasons, with both outputs.
abbrev pub coded_both : Explained → YieldBoth
coded_both result = yielding_both (code_of result.reply) result.output result.reasons
