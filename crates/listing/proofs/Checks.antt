-- The order of the checks: the table, the record, then what the call goes on with.
use mathlib.Core.Path.{◌≡◌, refl, sym, ◌∙◌, ap}
use mathlib.Core.List.{List, [], ◌∷◌}
use mathlib.Core.Logic.{◌≢◌}
use Prim.Native.Nat.{ℕ}
use native.Mathlib.Omega.{arith}
use lib.ListN.{length}
use Rattle.std.specs.Prelude.{Ok, Err}
use Rattle.acceptance.specs.declared.TableFault.{TableFault}
use Rattle.acceptance.specs.Reply.{TableAnswer}
use Rattle.acceptance.specs.Reply as table
use Rattle.record.specs.declared.GraphFault.{GraphFault}
use Rattle.record.specs.Read as graph
use Rattle.record.specs.Reads.{ReadsAs, verdict_of, Verdict}
use Rattle.replies.specs.declared.Side.TheVariants.{First}
use Rattle.replies.specs.Replies.{Table, Graph}
use Rattle.replies.specs.Reply.{Result, refusing}
use Rattle.listing.specs.Call.{continued, counted, after_reading, after_record, after_table, stepped, stepping}

module _ (n F : ℕ) (bytes out : List ℕ) where
  pub over_none : {x : Result} → length bytes ≡ 0 → x ≡ counted F (continued n F [] out) out → x ≡ stepped n F bytes out
  unfolding stepped
  over_none {x} h e = go bytes h
    where
      go : (l : List ℕ) → length l ≡ 0 → x ≡ after_record n l out (counted F (continued n F l out) out)
      go [] q = e
      go (b ∷ bs) q = absurd (omega arith)

  after-reading : (next : Result) → length bytes ≢ 0 → after_record n bytes out next ≡ after_reading (graph.reading n bytes) out next
  after-reading next h = go bytes h
    where
      go : (l : List ℕ) → length l ≢ 0 → after_record n l out next ≡ after_reading (graph.reading n l) out next
      go [] q = absurd (q refl)
      go (b ∷ bs) q = refl

  module _ {v : Verdict} {ws : List ℕ} (reads : ReadsAs n (graph.reading n bytes) v ws) (h : length bytes ≢ 0) where
    pub over-refused : (fault : GraphFault) → v ≡ Err fault → refusing (Graph fault First) out ≡ stepped n F bytes out
    unfolding stepped
    over-refused fault q =
        go (graph.reading n bytes) (sym q ∙ reads.verdict) ∙ sym (after-reading (counted F (continued n F bytes out) out) h)
      where
        go : (o : graph.Reading) → Err fault ≡ verdict_of o → refusing (Graph fault First) out ≡ after_reading o out (counted F (continued n F bytes out) out)
        go (graph.refused other) e = let same : fault ≡ other = cc in ap (λ (f : GraphFault). refusing (Graph f First) out) same
        go (graph.accepted rows) e = let z : ◌≡◌ {A = ℕ} 0 1 = cc in absurd (omega arith)

    pub over-accepted : {x : Result} → v ≡ Ok tt → x ≡ counted F (continued n F bytes out) out → x ≡ stepped n F bytes out
    unfolding stepped
    over-accepted {x} q is =
        go (graph.reading n bytes) (sym q ∙ reads.verdict) ∙ sym (after-reading (counted F (continued n F bytes out) out) h)
      where
        go : (o : graph.Reading) → Ok tt ≡ verdict_of o → x ≡ after_reading o out (counted F (continued n F bytes out) out)
        go (graph.refused other) e = let z : ◌≡◌ {A = ℕ} 0 1 = cc in absurd (omega arith)
        go (graph.accepted rows) e = is

module _ (n : ℕ) (t : List ℕ) (F : ℕ) (bytes out : List ℕ) {o : TableAnswer} (is : o ≡ table.opened n t) where
  pub table-refused : (fault : TableFault) → o ≡ Err fault → refusing (Table fault) out ≡ stepping n t F bytes out
  unfolding stepping
  table-refused fault e = ap (λ (x : TableAnswer). after_table x out (stepped n F bytes out)) (sym e ∙ is)

  pub table-accepted : {x : Result} → o ≡ Ok tt → x ≡ stepped n F bytes out → x ≡ stepping n t F bytes out
  unfolding stepping
  table-accepted e q = q ∙ ap (λ (x : TableAnswer). after_table x out (stepped n F bytes out)) (sym e ∙ is)
