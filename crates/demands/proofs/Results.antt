-- A call that writes a graph of any size answers 11 exactly where the graph is too large, else 8 exactly where the output is shorter than its
-- record, and else the record's length, with the record in the output. This holds whatever operation made the graph.
use mathlib.Core.Path.{◌≡◌, refl, sym, ◌∙◌, ap}
use mathlib.Core.Bool.{Bool, true, false, cond}
use mathlib.Core.List.{List, ◌++◌}
use mathlib.Core.Logic.{◌↔◌, ◌⊎◌, inl, inr, ⊎_elim}
use mathlib.Core.Option.{some}
use Prim.Native.Nat.{ℕ, ◌≤◌, ◌<◌}
use native.Mathlib.Omega.{arith}
use borrow.Author.Tests.{leb-true, leb-false}
use lib.Dec.{leb, eqb}
use lib.ListN.{length, take, drop}
use lib.Seq.{take-append_seam, drop-append_seam}
use Rattle.std.specs.Prelude.{Ok, Err}
use Rattle.graphs.specs.Graph.{Graph, TellsApart, Reached, SameMeaning}
use Rattle.graphs.specs.Rows.{Row}
use Rattle.graphs.specs.Number.{Canonical, canonical, many_nodes, many_links, written}
use Rattle.graphs.proofs.Form.Large.{canonical-many-nodes, canonical-many-links, canonical-fits}
use Rattle.lattice.specs.Label.{Label}
use Rattle.lattice.specs.Table as table
use Rattle.acceptance.specs.Reply.{opened}
use Rattle.lattice.proofs.Laws.{accepted-size}
use Rattle.lattice.specs.Labels.{table_labels, OfAnySize}
use Rattle.encoder.specs.Encode.{encoded}
use Rattle.encode.specs.declared.Unwritten.TheVariants as unwritten
use Rattle.encode.specs.Encode.{fitted, written_out}
use Rattle.record.specs.Read.{reading, accepted, graph_of_rows}
use Rattle.record.proofs.Rewritten.{written-injective}
use Rattle.record.proofs.Theorems.{written-reads}
use Rattle.replies.specs.Replies.{Reply}
use Rattle.replies.specs.Replies.{Length, NoRoom, TooLarge}
use Rattle.replies.specs.Reply.{Result, refusing, result_of}
use Rattle.calls.specs.Calls.{rewriting}
use Rattle.demands.specs.Demand.{Large, form_bytes, record_of, writing}

-- What a call leaves beside a length: the first bytes of the output are the record of the graph, the other bytes are unchanged, and reading the
-- record gives a graph of the same meaning.
pub record Wrote (n : ℕ) (t : List ℕ) {C : Type 0} (same : C → C → Bool) (k : Graph Label C) (out : List ℕ) (l : ℕ)
    (output : List ℕ) : Type 0 where
  pub form : List (Row Label)
  pub fits : canonical same k ≡ written form
  pub bytes : take l output ≡ encoded form
  pub others : drop l output ≡ drop l out
  pub reads : reading n (take l output) ≡ accepted form
  pub means : SameMeaning (table_labels n t) k (graph_of_rows form)

-- The graph has a record, and P holds for the record's length.
abbrev pub RecordLength : {C : Type 0} → (C → C → Bool) → Graph Label C → (ℕ → Type 0) → Type 0
RecordLength same k P = (form : List (Row Label)) × (canonical same k ≡ written form) × P (length (encoded form))

-- The result of writing a graph is 11, 8 or a length, each exactly where it is due, and the output is as it should be.
pub record Writes (n : ℕ) (t : List ℕ) {C : Type 0} (same : C → C → Bool) (k : Graph Label C) (out : List ℕ) (r : Result) : Type 0 where
  pub replies : (r.reply ≡ TooLarge) ⊎ (r.reply ≡ NoRoom) ⊎ ((l : ℕ) × (r.reply ≡ Length l))
  pub too_large : (r.reply ≡ TooLarge) ↔ Large k
  -- "the result exists and the output is shorter"
  pub no_room : (r.reply ≡ NoRoom) ↔ ((Large k → ⊥) × RecordLength same k (λ m. length out < m))
  -- "the record fits"
  pub fits : (l : ℕ) → (r.reply ≡ Length l) ↔ ((Large k → ⊥) × RecordLength same k (λ m. (m ≡ l) × (m ≤ length out)))
  pub unchanged : (r.reply ≡ TooLarge) ⊎ (r.reply ≡ NoRoom) → r.output ≡ out
  pub wrote : (l : ℕ) → r.reply ≡ Length l → Wrote n t same k out l r.output

-- the types of a graph of any size over an accepted table have seven bits
pub seven-bits : (n : ℕ) (t : List ℕ) → table.accepted n t ≡ true → {C : Type 0} (k : Graph Label C) → OfAnySize n t k → (v : C) → Reached k v →
    (k.label v).type < 128
seven-bits n t ok k size v r = omega (arith, (size.typed v r).type, (accepted-size n t ok).1)

-- a graph as a call's result
abbrev pub result_for : {C : Type 0} → (C → C → Bool) → Graph Label C → List ℕ → Result
result_for same k out = result_of (written_out (canonical same k) out)

-- A graph as a call's result is what writing the graph's record gives.
pub result-record : {C : Type 0} (same : C → C → Bool) (k : Graph Label C) (out : List ℕ) → result_for same k out ≡ writing (record_of same k) out
unfolding written_out
result-record same k out = go (canonical same k)
  where
    go : (c : Canonical Label) → result_of (written_out c out) ≡ writing (form_bytes c) out
    go many_nodes = refl
    go many_links = refl
    go (written form) = refl

-- A graph that has a record has a written form, and the record is the bytes of that form.
pub record-form : {C : Type 0} (same : C → C → Bool) (k : Graph Label C) (bytes : List ℕ) → record_of same k ≡ some bytes →
    (form : List (Row Label)) × (canonical same k ≡ written form) × (encoded form ≡ bytes)
record-form same k bytes = go (canonical same k)
  where
    go : (c : Canonical Label) → form_bytes c ≡ some bytes → (form : List (Row Label)) × (c ≡ written form) × (encoded form ≡ bytes)
    go many_nodes e = let z : ◌≡◌ {A = ℕ} 0 1 = cc in absurd (omega arith)
    go many_links e = let z : ◌≡◌ {A = ℕ} 0 1 = cc in absurd (omega arith)
    go (written form) e = (form, refl, cc)

-- rewriting an accepted record writes its graph
pub rewriting-is : (n : ℕ) (t bytes : List ℕ) (rows : List (Row Label)) → opened n t ≡ Ok tt → reading n bytes ≡ accepted rows → (out : List ℕ) →
    rewriting n t bytes out ≡ result_for eqb (graph_of_rows rows) out
unfolding rewriting
rewriting-is n t bytes rows opens reads out = rw (opens, reads)

-- a record and what follows it in the output
abbrev holding : List ℕ → List ℕ → Result
holding bytes out = record { reply = Length (length bytes); output = bytes ++ drop (length bytes) out }

length_injective : {l m : ℕ} → ◌≡◌ {A = Reply} (Length l) (Length m) → l ≡ m
length_injective e = cc

module _ {C : Type 0} (same : C → C → Bool) (k : Graph Label C) (out : List ℕ) where
  -- the three results, each with its reason
  data Told : Result → Type 0 where
    large : Large k → Told (refusing TooLarge out)
    short : (form : List (Row Label)) → canonical same k ≡ written form → length out < length (encoded form) → Told (refusing NoRoom out)
    held : (form : List (Row Label)) → canonical same k ≡ written form → length (encoded form) ≤ length out → Told (holding (encoded form) out)

module _ (n : ℕ) (t : List ℕ) {C : Type 0} (same : C → C → Bool) (tells : TellsApart same) (k : Graph Label C) (size : OfAnySize n t k)
    (types : (v : C) → Reached k v → (k.label v).type < 128) (out : List ℕ) where
  told : Told same k out (result_for same k out)
  unfolding written_out fitted
  told = go (canonical same k) refl
    where
      small : (v w : C) (f : ℕ) → Reached k v → k.link v f ≡ some w → f < 64
      small = size.any-size.features

      room : (form : List (Row Label)) → canonical same k ≡ written form → (b : Bool) → leb (length (encoded form)) (length out) ≡ b →
          Told same k out
          (result_of
          (cond b
          (record { answer = Ok (length (encoded form)); output = encoded form ++ drop (length (encoded form)) out })
          (record { answer = Err unwritten.NoRoom; output = out })))
      room form e true h = held form e (leb-true (length (encoded form)) (length out) h)
      room form e false h = short form e (leb-false (length (encoded form)) (length out) h)

      go : (c : Canonical Label) → canonical same k ≡ c → Told same k out (result_of (written_out c out))
      go many_nodes e = large (inl ((canonical-many-nodes same tells k small).0 e))
      go many_links e = large (inr ((canonical-many-links same tells k small).0 e).1)
      go (written form) e = room form e (leb (length (encoded form)) (length out)) refl

  -- A graph with a written form is not too large.
  form-fits : (form : List (Row Label)) → canonical same k ≡ written form → Large k → ⊥
  form-fits form e =
      let (nodes, links) = (canonical-fits same tells k size.any-size.features).1 (form, e) in
      ⊎_elim nodes links

  -- A graph has one written form, hence one length.
  one-length : (form other : List (Row Label)) → canonical same k ≡ written form → canonical same k ≡ written other →
      length (encoded form) ≡ length (encoded other)
  one-length form other e d = ap (λ (f : List (Row Label)). length (encoded f)) (written-injective (sym e ∙ d))

  wrote-form : (form : List (Row Label)) → canonical same k ≡ written form → (l : ℕ) → length (encoded form) ≡ l →
      Wrote n t same k out l (holding (encoded form) out).output
  wrote-form form e l is =
      let output : List ℕ = (holding (encoded form) out).output in
      let bytes : take l output ≡ encoded form =
      ap (λ (m : ℕ). take m output) (sym is) ∙ take-append_seam (encoded form) (drop (length (encoded form)) out) in
      let (reads, means) = written-reads n t same tells k size form e types in
      record {
        form = form;
        fits = e;
        bytes = bytes;
        others = ap (λ (m : ℕ). drop m output) (sym is) ∙ drop-append_seam (encoded form) (drop (length (encoded form)) out) ∙
            ap (λ (m : ℕ). drop m out) is;
        reads = ap (reading n) bytes ∙ reads;
        means = means;
      }

  told_writes : (r : Result) → Told same k out r → Writes n t same k out r
  told_writes r (large many) =
      record {
        replies = inl refl;
        too_large = (λ _. many, λ _. refl);
        no_room = (λ q. let z : ◌≡◌ {A = ℕ} 0 1 = cc in absurd (omega arith), λ (few, _). absurd (few many));
        fits = λ l. (λ q. let z : ◌≡◌ {A = ℕ} 0 1 = cc in absurd (omega arith), λ (few, _). absurd (few many));
        unchanged = λ _. refl;
        wrote = λ l q. let z : ◌≡◌ {A = ℕ} 0 1 = cc in absurd (omega arith);
      }
  told_writes r (short form e less) =
      record {
        replies = inr (inl refl);
        too_large = (λ q. let z : ◌≡◌ {A = ℕ} 0 1 = cc in absurd (omega arith), λ many. absurd (form-fits form e many));
        no_room = (λ _. (form-fits form e, (form, e, less)), λ _. refl);
        fits = λ l. (
          λ q. let z : ◌≡◌ {A = ℕ} 0 1 = cc in absurd (omega arith),
          λ (_, (other, d, (is, fit))). absurd (omega (arith, one-length form other e d)),
        );
        unchanged = λ _. refl;
        wrote = λ l q. let z : ◌≡◌ {A = ℕ} 0 1 = cc in absurd (omega arith);
      }
  told_writes r (held form e fit) =
      record {
        replies = inr (inr (length (encoded form), refl));
        too_large = (λ q. let z : ◌≡◌ {A = ℕ} 0 1 = cc in absurd (omega arith), λ many. absurd (form-fits form e many));
        no_room = (
          λ q. let z : ◌≡◌ {A = ℕ} 0 1 = cc in absurd (omega arith),
          λ (_, (other, d, less)). absurd (omega (arith, one-length form other e d)),
        );
        fits = λ l. (
          λ q. (form-fits form e, (form, e, (length_injective q, fit))),
          λ (_, (other, d, (is, _))). ap Length (one-length form other e d ∙ is),
        );
        unchanged = λ q.
            ⊎_elim
            (λ q. let z : ◌≡◌ {A = ℕ} 0 1 = cc in absurd (omega arith))
            (λ q. let z : ◌≡◌ {A = ℕ} 0 1 = cc in absurd (omega arith)) q;
        wrote = λ l q. wrote-form form e l (length_injective q);
      }

  -- Writing a graph of any size gives what `Writes` says.
  pub result-writes : Writes n t same k out (result_for same k out)
  result-writes = told_writes (result_for same k out) told
