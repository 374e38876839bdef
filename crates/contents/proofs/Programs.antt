-- The program of a put: its refusals, as those of the second graph, and its written record.
use mathlib.Core.Path.{◌≡◌, sym, ◌∙◌, ap}
use mathlib.Core.Bool.{Bool, cond}
use mathlib.Core.List.{List, [], ◌++◌}
use Prim.Native.Nat.{ℕ, ◌≤◌}
use native.Mathlib.Omega.{arith}
use borrow.Author.Tests.{le-leb}
use lib.Dec.{eqb}
use lib.ListN.{length, take, drop, length-append, length-drop}
use lib.Seq.{take-append_seam, length-take-le}
use Rattle.std.specs.Prelude.{Ok, Err}
use Rattle.graphs.specs.Rows.{Row}
use Rattle.graphs.specs.Number.{Canonical, canonical, written}
use Rattle.lattice.specs.Label.{Label}
use Rattle.encoder.specs.Encode.{encoded}
use Rattle.encode.specs.declared.Unwritten.TheVariants as unwritten
use Rattle.encode.specs.Encode.{yielding, fitted, written_out}
use Rattle.encoder.proofs.Lengths.{longest}
use Rattle.record.specs.declared.GraphFault.{GraphFault}
use Rattle.record.specs.Read.{Reading, accepted, reading, graph_of_rows}
use Rattle.record.specs.Reads.{Reads, Verdict}
use Rattle.record.proofs.Accepted.{accepted-rules}
use Rattle.record.proofs.Theorems.{accepted-fits, written-accepted}
use Rattle.difference.specs.Difference.{numbered}
use Rattle.replies.specs.declared.Side.TheVariants.{Second}
use Rattle.replies.specs.Replies.{Reply}
use Rattle.replies.specs.Replies.{Length, Graph}
use Rattle.replies.specs.Reply.{Result, resulting, result_of}
use Rattle.pairs.proofs.Readings.{told-refused}
use Rattle.engine.specs.Rewriting.{rewritten_rows}
use Rattle.versions.specs.State.{made, taken}
use Rattle.contents.specs.Contents.{on_program}
use Rattle.contents.specs.Promise.{Programmed}

-- its 4 to 7
pub program-refused : {n : ℕ} {bytes ws : List ℕ} {v : Verdict} → Reads n bytes v ws → (fault : GraphFault) → v ≡ Err fault → (out : List ℕ) → length out ≡ 4854 →
    Programmed n bytes (Graph fault Second) out
program-refused reads fault e out room = record {
  long = room;
  short = λ l q. let z : ◌≡◌ {A = ℕ} 0 1 = cc in absurd (omega arith);
  some_bytes = λ l q. let z : ◌≡◌ {A = ℕ} 0 1 = cc in absurd (omega arith);
  writes = sym (ap (λ (o : Reading). on_program o made) (told-refused reads fault e));
}

-- its record, where there is room for the longest
module _ (n : ℕ) (bytes : List ℕ) (rows : List (Row Label)) (ok : reading n bytes ≡ accepted rows) (out : List ℕ) (room : length out ≡ 4854) where
  abbrev form : List (Row Label)
  form = (accepted-fits n bytes rows ok).0

  is-form : canonical eqb (graph_of_rows rows) ≡ written form
  is-form = (accepted-fits n bytes rows ok).1

  form-short : length (encoded form) ≤ 4854
  form-short =
      let rules = accepted-rules n (encoded form) form (written-accepted n [] bytes rows ok form is-form).0 in
      longest form rules.short rules.links

  form-written : rewritten_rows out rows ≡ resulting (Length (length (encoded form))) (encoded form ++ drop (length (encoded form)) out)
  unfolding written_out fitted
  form-written =
      ap (λ (c : Canonical Label). result_of (written_out c out)) is-form
      ∙ ap (λ (b : Bool). result_of (cond b (yielding (Ok (length (encoded form))) (encoded form ++ drop (length (encoded form)) out)) (yielding (Err unwritten.NoRoom) out)))
      (le-leb (length (encoded form)) (length out) (omega (arith, form-short)))

  form-some : 1 ≤ length (encoded form)
  unfolding encoded
  form-some = omega arith

  told : {r : Reply} {new : List ℕ} → resulting r new ≡ rewritten_rows out rows → r ≡ Length (length (encoded form))
  told is = ap (λ (x : Result). x.reply) (is ∙ form-written)

  same_length : (k l : ℕ) → ◌≡◌ {A = Reply} (Length k) (Length l) → k ≡ l
  same_length k l e = cc

  pub program-written : {r : Reply} {new : List ℕ} → resulting r new ≡ rewritten_rows out rows → Programmed n bytes r new
  program-written {r} {new} is = record {
    long =
        ap (λ (x : Result). length x.output) (is ∙ form-written)
        ∙ length-append (encoded form) (drop (length (encoded form)) out)
        ∙ omega (arith, length-drop (length (encoded form)) out, form-short);
    short = λ l q. omega (arith, form-short, same_length (length (encoded form)) l (sym (told is) ∙ q));
    some_bytes = λ l q. omega (arith, form-some, same_length (length (encoded form)) l (sym (told is) ∙ q));
    writes =
        ap taken (is ∙ form-written)
        ∙ ap made (take-append_seam (encoded form) (drop (length (encoded form)) out))
        ∙ ap (λ (c : Canonical Label). made (encoded (numbered c))) (sym is-form)
        ∙ sym (ap (λ (o : Reading). on_program o made) ok);
  }

-- the record that is told, in the output
module _ {n : ℕ} {bytes : List ℕ} {r : Reply} {out : List ℕ} (programmed : Programmed n bytes r out) (l : ℕ) (told : r ≡ Length l) where
  pub told-inside : l ≤ length out
  told-inside = omega (arith, programmed.short l told, programmed.long)

  pub told-length : length (take l out) ≡ l
  told-length = length-take-le l out told-inside

  pub told-short : length (take l out) ≤ 4854
  told-short = omega (arith, told-length, programmed.short l told)

  pub told-some : 1 ≤ length (take l out)
  told-some = omega (arith, told-length, programmed.some_bytes l told)
