-- An addition writes a written record, which does not depend on the bytes in the room, where the room has space for the longest record.
use mathlib.Core.Path.{◌≡◌, refl, sym, ◌∙◌, ap}
use mathlib.Core.Bool.{Bool, true, cond}
use mathlib.Core.List.{List, ◌++◌}
use mathlib.Core.Logic.{◌⊎◌, inl, inr}
use mathlib.Core.Option.{Option, none, some}
use Prim.Native.Nat.{ℕ, ◌≤◌}
use native.Mathlib.Omega.{arith}
use borrow.Author.Tests.{le-leb}
use lib.Dec.{leb, eqb}
use lib.ListN.{length, drop, length-replicate}
use lib.Seq.{take-append_seam}
use Rattle.std.specs.Prelude.{Ok, Err}
use Rattle.graphs.specs.Graph.{Graph}
use Rattle.graphs.specs.Number.{Canonical, canonical, many_nodes, many_links, written}
use Rattle.graphs.specs.Rows.{Row}
use Rattle.graphs.specs.OfRows.{same_pair}
use Rattle.lattice.specs.Label.{Label}
use Rattle.acceptance.specs.Reply.{opened}
use Rattle.encoder.specs.Encode.{encoded}
use Rattle.encode.specs.declared.Unwritten.TheVariants as unwritten
use Rattle.encode.specs.Encode.{fitted, yielding, written_out}
use Rattle.encoder.proofs.Lengths.{longest}
use Rattle.record.specs.declared.GraphFault.{GraphFault}
use Rattle.record.specs.Read.{Reading, refused, reading, accepted, graph_of_rows}
use Rattle.record.proofs.Accepted.{accepted-rules}
use Rattle.replies.specs.declared.Side.TheVariants.{First}
use Rattle.replies.specs.Replies.{Reply}
use Rattle.replies.specs.Replies.{Graph as OfGraph, TooLarge}
use Rattle.replies.specs.Reply.{Result, refusing, result_of, length_of}
use Rattle.engine.specs.Generalizing.{generalized}
use Rattle.calls.specs.Calls.{generalizing, rewriting}
use Rattle.demands.specs.Demand.{Given, WrittenRecord, Leaves, common}
use Rattle.demands.proofs.Results.{result_for, rewriting-is}
use Rattle.demands.proofs.Demands.{length-bounded, rewriting-leaves, generalizing-leaves, rewriting-never-large}
use Rattle.gathering.specs.Gathering.{joining}
use Rattle.gathering.proofs.Told.{none-some}
use Rattle.gathered.specs.Calls.{blank, taken}

pub length-blank : length blank ≡ 4854
unfolding blank
length-blank = length-replicate {A = ℕ} 4854 0

-- A written record has at least one byte, and no more than the longest record.
pub written-some : (n : ℕ) (b : List ℕ) → WrittenRecord n b → 1 ≤ length b
unfolding encoded
written-some n b one = omega (arith, ap length one.bytes-are)

pub written-short : (n : ℕ) (b : List ℕ) → WrittenRecord n b → length b ≤ 4854
written-short n b one =
    let rules = accepted-rules n b one.form one.reads in
    omega (arith, ap length one.bytes-are, longest one.form rules.short rules.links)

pub taken-fitted : (p out : List ℕ) → length p ≤ length out → taken (result_of (fitted p out)) ≡ some p
unfolding fitted
taken-fitted p out h =
    ap (λ (b : Bool). taken (result_of (cond b (yielding (Ok (length p)) (p ++ drop (length p) out)) (yielding (Err unwritten.NoRoom) out))))
    (le-leb (length p) (length out) h) ∙
    ap some (take-append_seam p (drop (length p) out))

-- the record of a written form, whatever its length
abbrev pub record_of : Canonical Label → Option (List ℕ)
record_of many_nodes = none
record_of many_links = none
record_of (written rows) = some (encoded rows)

-- Facts on a call that writes a graph.
module _ (n : ℕ) {C : Type 0} (same : C → C → Bool) (k : Graph Label C) (call : List ℕ → Result) (leaves : (out : List ℕ) → Leaves n out (call out))
    (is : (out : List ℕ) → call out ≡ result_for same k out) where
  pub form-short : (form : List (Row Label)) → canonical same k ≡ written form → length (encoded form) ≤ 4854
  unfolding written_out fitted
  form-short form e =
      let bytes : List ℕ = encoded form in
      length-bounded n bytes bytes (call bytes) (leaves bytes) (length bytes)
      (ap (λ (r : Result). r.reply)
      (is bytes ∙ ap (λ (c : Canonical Label). result_of (written_out c bytes)) e ∙
      ap (λ (b : Bool). result_of (cond b (yielding (Ok (length bytes)) (bytes ++ drop (length bytes) bytes)) (yielding (Err unwritten.NoRoom) bytes)))
      (le-leb (length bytes) (length bytes) (omega arith))))

  call-record : (out : List ℕ) → 4854 ≤ length out → taken (call out) ≡ record_of (canonical same k)
  unfolding written_out
  call-record out h = ap taken (is out) ∙ go (canonical same k) refl
    where
      go : (c : Canonical Label) → canonical same k ≡ c → taken (result_of (written_out c out)) ≡ record_of c
      go many_nodes e = refl
      go many_links e = refl
      go (written form) e = taken-fitted (encoded form) out (omega (arith, form-short form e))

  pub call-room : (out : List ℕ) → 4854 ≤ length out → taken (call out) ≡ taken (call blank)
  call-room out h = call-record out h ∙ sym (call-record blank (omega (arith, length-blank)))

  -- In room for the longest record, a call that answers no length answers 11.
  pub call-large : (out : List ℕ) → 4854 ≤ length out → length_of (call out).reply ≡ none → (call out).reply ≡ TooLarge
  unfolding written_out fitted
  call-large out h e =
      ap (λ (r : Result). r.reply) (is out) ∙
      go (canonical same k) refl (ap (λ (r : Result). length_of r.reply) (sym (is out)) ∙ e)
    where
      go : (c : Canonical Label) → canonical same k ≡ c → length_of (result_of (written_out c out)).reply ≡ none → (result_of (written_out c out)).reply ≡ TooLarge
      go many_nodes q d = refl
      go many_links q d = refl
      go (written form) q d =
          let fits : leb (length (encoded form)) (length out) ≡ true = le-leb (length (encoded form)) (length out) (omega (arith, form-short form q)) in
          none-some (sym d ∙
          ap (λ (b : Bool). length_of (result_of (cond b (yielding (Ok (length (encoded form))) (encoded form ++ drop (length (encoded form)) out)) (yielding (Err unwritten.NoRoom) out))).reply) fits)

-- The reason of a refused addition: the program's 4 to 7, or 11 once something is gathered.
abbrev pub Why : ℕ → List ℕ → Option (List ℕ) → Reply → Type 0
Why n bytes o r =
    ((fault : GraphFault) × (reading n bytes ≡ refused fault) × (r ≡ OfGraph fault First)) ⊎ ((part : List ℕ) × (o ≡ some part) × (r ≡ TooLarge))

module _ (n : ℕ) (t : List ℕ) (opens : opened n t ≡ Ok tt) where
  pub joining-leaves : (o : Option (List ℕ)) (bytes out : List ℕ) → Leaves n out (joining n t o bytes out)
  joining-leaves none bytes out = rewriting-leaves n t out bytes
  joining-leaves (some part) bytes out = generalizing-leaves n t out bytes part

  pub rewriting-refused : (bytes : List ℕ) (fault : GraphFault) → reading n bytes ≡ refused fault → (out : List ℕ) →
      rewriting n t bytes out ≡ refusing (OfGraph fault First) out
  unfolding rewriting
  rewriting-refused bytes fault e out = rw (opens, e)

  pub generalizing-refused : (bytes part : List ℕ) (fault : GraphFault) → reading n bytes ≡ refused fault → (out : List ℕ) →
      generalizing n t bytes part out ≡ refusing (OfGraph fault First) out
  unfolding generalizing
  generalizing-refused bytes part fault e out = rw (opens, e)

  generalizing-is : (bytes part : List ℕ) (g h : List (Row Label)) → Given n t bytes part g h → (out : List ℕ) →
      generalizing n t bytes part out ≡ result_for same_pair (common n t g h) out
  unfolding generalizing generalized
  generalizing-is bytes part g h given out = rw (given.opens, given.first, given.second)

  -- Facts where what is gathered is a written record.
  module _ (o : Option (List ℕ)) (whole : (part : List ℕ) → o ≡ some part → WrittenRecord n part) (bytes : List ℕ) where
    -- The bytes in the room do not matter.
    pub joining-room : (out : List ℕ) → 4854 ≤ length out → taken (joining n t o bytes out) ≡ taken (joining n t o bytes blank)
    joining-room out h = go o whole (reading n bytes) refl
      where
        go : (o : Option (List ℕ)) → ((part : List ℕ) → o ≡ some part → WrittenRecord n part) → (r : Reading) → reading n bytes ≡ r →
            taken (joining n t o bytes out) ≡ taken (joining n t o bytes blank)
        go none w (refused fault) e = ap taken (rewriting-refused bytes fault e out) ∙ sym (ap taken (rewriting-refused bytes fault e blank))
        go (some part) w (refused fault) e =
            ap taken (generalizing-refused bytes part fault e out) ∙ sym (ap taken (generalizing-refused bytes part fault e blank))
        go none w (accepted rows) e =
            call-room n eqb (graph_of_rows rows) (rewriting n t bytes) (λ out. rewriting-leaves n t out bytes) (rewriting-is n t bytes rows opens e) out h
        go (some part) w (accepted rows) e =
            call-room n same_pair (common n t rows (w part refl).form) (generalizing n t bytes part) (λ out. generalizing-leaves n t out bytes part)
            (generalizing-is bytes part rows (w part refl).form (record { opens = opens; first = e; second = (w part refl).reads })) out h

    pub joining-why : (out : List ℕ) → 4854 ≤ length out → length_of (joining n t o bytes out).reply ≡ none → Why n bytes o (joining n t o bytes out).reply
    joining-why out h = go o whole (reading n bytes) refl
      where
        go : (o : Option (List ℕ)) → ((part : List ℕ) → o ≡ some part → WrittenRecord n part) → (r : Reading) → reading n bytes ≡ r →
            length_of (joining n t o bytes out).reply ≡ none → Why n bytes o (joining n t o bytes out).reply
        go none w (refused fault) e d = inl (fault, e, ap (λ (r : Result). r.reply) (rewriting-refused bytes fault e out))
        go (some part) w (refused fault) e d = inl (fault, e, ap (λ (r : Result). r.reply) (generalizing-refused bytes part fault e out))
        go none w (accepted rows) e d =
            absurd (rewriting-never-large n t out bytes
            (call-large n eqb (graph_of_rows rows) (rewriting n t bytes) (λ out. rewriting-leaves n t out bytes) (rewriting-is n t bytes rows opens e) out h d))
        go (some part) w (accepted rows) e d =
            inr (
              part,
              refl,
              call-large n same_pair (common n t rows (w part refl).form) (generalizing n t bytes part)
                  (λ out. generalizing-leaves n t out bytes part)
                  (generalizing-is bytes part rows (w part refl).form (record { opens = opens; first = e; second = (w part refl).reads })) out h d,
            )
