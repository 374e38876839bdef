-- The promises of writing and of reading give the result of an operation.
use mathlib.Core.Path.{◌≡◌, sym, ◌∙◌, ap}
use mathlib.Core.List.{List}
use Prim.Native.Nat.{ℕ}
use Rattle.std.specs.Prelude.{Ok, Err}
use Rattle.layout.specs.Layout.{rows_of}
use Rattle.encode.specs.Encode.{Outcome, yielding, Writing}
use Rattle.record.specs.declared.GraphFault.{GraphFault}
use Rattle.record.specs.Read.{Reading}
use Rattle.record.specs.Reads.{ReadsAs, Verdict}
use Rattle.replies.specs.declared.Side.TheVariants.{First}
use Rattle.replies.specs.Replies.{Reply}
use Rattle.replies.specs.Replies.{Graph}
use Rattle.replies.specs.Reply.{resulting, reply_of, result_of}
use Rattle.pairs.proofs.Readings.{told-refused, told-accepted}
use Rattle.engine.specs.Rewriting.{rewritten, rewritten_rows}

-- The reply that tells the answer of writing makes, with the output, the result of writing.
pub replied-as : {o : Outcome} {w : Writing} {r : Reply} {new : List ℕ} → yielding w new ≡ o → r ≡ reply_of w → resulting r new ≡ result_of o
replied-as {new = new} yields said = ap (λ (q : Reply). resulting q new) said ∙ ap result_of yields

-- A refused record gives its refusal, and the graph of an accepted record is written.
module _ {n : ℕ} {o : Reading} {v : Verdict} {ws : List ℕ} (tells : ReadsAs n o v ws) (out : List ℕ) where
  pub rewritten-refused : (fault : GraphFault) → v ≡ Err fault → resulting (Graph fault First) out ≡ rewritten o out
  rewritten-refused fault e = sym (ap (λ (i : Reading). rewritten i out) (told-refused tells fault e))

  pub rewritten-accepted : v ≡ Ok tt → rewritten_rows out (rows_of ws) ≡ rewritten o out
  rewritten-accepted e = sym (ap (λ (i : Reading). rewritten i out) (told-accepted tells e).is)
