-- Meaning and bytes. Accepted records mean the same exactly when rewriting gives equal bytes, and exactly when the order answers same. What
-- rewriting writes means the same as the record and is its own written form. A record in written form is rewritten as itself, and two of them
-- mean the same exactly when they are equal.
use mathlib.Core.Path.{◌≡◌, refl, sym, ◌∙◌, ap, subst}
use mathlib.Core.List.{List}
use mathlib.Core.Logic.{◌↔◌}
use Prim.Native.Nat.{ℕ}
use native.Mathlib.Omega.{arith}
use lib.Dec.{eqb}
use lib.ListN.{length, take}
use Rattle.graphs.specs.Graph.{SameMeaning}
use Rattle.graphs.specs.Rows.{Row}
use Rattle.graphs.specs.Number.{Canonical, canonical, written}
use Rattle.graphs.proofs.Lists.{tells-eqb}
use Rattle.graphs.proofs.Below.{same-sym}
use Rattle.graphs.proofs.Form.Invariant.{same-canonical}
use Rattle.lattice.specs.Label.{Label}
use Rattle.std.specs.Prelude.{Ok}
use Rattle.acceptance.specs.Reply.{opened}
use Rattle.lattice.specs.Labels.{table_labels}
use Rattle.acceptance.proofs.Acceptance.{opened-accepted}
use Rattle.lattice.proofs.AnySize.{below_both}
use Rattle.encoder.specs.Encode.{encoded}
use Rattle.encode.specs.Encode.{fitted, written_out}
use Rattle.record.specs.Read.{reading, accepted, graph_of_rows}
use Rattle.record.proofs.Rewritten.{form-again}
use Rattle.record.proofs.Theorems.{accepted-of-any-size, accepted-fits, accepted-types}
use Rattle.record.proofs.Theorems as record-theorems
use Rattle.replies.specs.Replies.{Length, Same}
use Rattle.replies.specs.Reply.{Result, result_of}
use Rattle.calls.specs.Calls.{ordering, rewriting}
use Rattle.demands.specs.Demand.{Given, WrittenRecord, Rewritten}
use Rattle.demands.proofs.Results.{Writes, rewriting-is, result-writes}
use Rattle.demands.proofs.Demanded.Order.{same-exact}
use Rattle.demands.proofs.Demanded.Output.{rewriting-small}

module _ (n : ℕ) (t a : List ℕ) (rows : List (Row Label)) (opens : opened n t ≡ Ok tt) (reads : reading n a ≡ accepted rows) (out : List ℕ) where
  -- Rewriting refuses an accepted record by 8 alone, exactly where 8 is due.
  pub rewriting-writes : Writes n t eqb (graph_of_rows rows) out (rewriting n t a out)
  rewriting-writes =
      subst (Writes n t eqb (graph_of_rows rows) out) (sym (rewriting-is n t a rows opens reads out))
      (result-writes n t eqb tells-eqb (graph_of_rows rows) (accepted-of-any-size n a rows reads t) (accepted-types n a rows reads) out)

module _ (n : ℕ) (t a b : List ℕ) (s g : List (Row Label)) (given : Given n t a b s g) where
  -- Records of equal meaning give the same reply and output.
  same-rewriting : SameMeaning (table_labels n t) (graph_of_rows s) (graph_of_rows g) → (out : List ℕ) → rewriting n t a out ≡ rewriting n t b out
  same-rewriting m out =
      rewriting-is n t a s given.opens given.first out ∙
      ap (λ (c : Canonical Label). result_of (written_out c out))
      (same-canonical (table_labels n t) eqb eqb tells-eqb tells-eqb (graph_of_rows s) (graph_of_rows g) m) ∙
      sym (rewriting-is n t b g given.opens given.second out)

  -- Two records mean the same exactly when rewriting gives equal bytes, whatever the output.
  pub bytes-exact : (out : List ℕ) (l m : ℕ) → (rewriting n t a out).reply ≡ Length l → (rewriting n t b out).reply ≡ Length m →
      SameMeaning (table_labels n t) (graph_of_rows s) (graph_of_rows g) ↔
      (take l (rewriting n t a out).output ≡ take m (rewriting n t b out).output)
  bytes-exact out l m p q =
      let first = (rewriting-writes n t a s given.opens given.first out).wrote l p in
      let second = (rewriting-writes n t b g given.opens given.second out).wrote m q in
      let (there, back) =
      record-theorems.meaning-exact n t a b s g given.first given.second first.form second.form first.fits second.fits in (
        λ same. first.bytes ∙ there same ∙ sym second.bytes,
        λ e. back (sym first.bytes ∙ e ∙ second.bytes),
      )

  -- Two records mean the same exactly when rewriting gives the same reply and output for all outputs.
  pub meaning-exact : SameMeaning (table_labels n t) (graph_of_rows s) (graph_of_rows g) ↔
      ((out : List ℕ) → rewriting n t a out ≡ rewriting n t b out)
  meaning-exact = (same-rewriting, λ all. go all (accepted-fits n a s given.first))
    where
      go : ((out : List ℕ) → rewriting n t a out ≡ rewriting n t b out) → (form : List (Row Label)) × (canonical eqb (graph_of_rows s) ≡ written form) →
          SameMeaning (table_labels n t) (graph_of_rows s) (graph_of_rows g)
      go all (form, e) =
          let room : List ℕ = encoded form in
          let writes = rewriting-writes n t a s given.opens given.first room in
          let p : (rewriting n t a room).reply ≡ Length (length (encoded form)) =
          (writes.fits (length (encoded form))).1 (
            λ large. rewriting-small n t room a (writes.too_large.1 large),
            (form, e, (refl, omega arith)),
          ) in
          (bytes-exact room (length (encoded form)) (length (encoded form)) p (ap (λ (r : Result). r.reply) (sym (all room)) ∙ p)).1
          (ap (λ (r : Result). take (length (encoded form)) r.output) (all room))

  -- "Graphs of equal meaning, and no others, are below each other."
  pub order_same : (ordering n t a b ≡ Same) ↔ SameMeaning (table_labels n t) (graph_of_rows s) (graph_of_rows g)
  order_same =
      let accepts = opened-accepted n t (opened n t) refl given.opens in
      let (there, back) =
      below_both n t accepts (graph_of_rows s) (graph_of_rows g) (accepted-of-any-size n a s given.first t) (accepted-of-any-size n b g given.second t) in
      (λ e. back ((same-exact n t a b s g given).0 e), λ m. (same-exact n t a b s g given).1 (there m))

-- What rewriting writes.
module _ (n : ℕ) (t a : List ℕ) (rows : List (Row Label)) (opens : opened n t ≡ Ok tt) (reads : reading n a ≡ accepted rows) (out : List ℕ) where
  pub written-again : (l : ℕ) → (rewriting n t a out).reply ≡ Length l → Rewritten n t a rows (take l (rewriting n t a out).output)
  written-again l q =
      let wrote = (rewriting-writes n t a rows opens reads out).wrote l q in
      let bytes : List ℕ = take l (rewriting n t a out).output in
      let own : canonical eqb (graph_of_rows wrote.form) ≡ written wrote.form =
      form-again n t eqb tells-eqb (graph_of_rows rows) (accepted-of-any-size n a rows reads t) wrote.form wrote.fits in
      record {
        is-record =
            record {
              is-written = record { form = wrote.form; reads = wrote.reads; own = own; bytes-are = wrote.bytes };
              means = wrote.means;
            };
        again = same-rewriting n t bytes a wrote.form rows (record { opens = opens; first = wrote.reads; second = reads }) (same-sym wrote.means);
      }

-- Records in written form, whichever call wrote them.
module _ (n : ℕ) (t a : List ℕ) (one : WrittenRecord n a) where
  -- Rewriting gives the record's own bytes, or 8 where the output is shorter.
  pub own-bytes : opened n t ≡ Ok tt → (out : List ℕ) → rewriting n t a out ≡ result_of (fitted a out)
  unfolding written_out
  own-bytes opens out =
      rewriting-is n t a one.form opens one.reads out ∙
      ap (λ (c : Canonical Label). result_of (written_out c out)) one.own ∙
      ap (λ (bytes : List ℕ). result_of (fitted bytes out)) (sym one.bytes-are)

  -- Two records in written form mean the same exactly when they are equal.
  pub one_form : (b : List ℕ) (other : WrittenRecord n b) →
      SameMeaning (table_labels n t) (graph_of_rows one.form) (graph_of_rows other.form) ↔ (a ≡ b)
  one_form b other =
      let (there, back) =
      record-theorems.meaning-exact n t a b one.form other.form one.reads other.reads one.form other.form one.own other.own in (
        λ same. one.bytes-are ∙ there same ∙ sym other.bytes-are,
        λ e. back (sym one.bytes-are ∙ e ∙ other.bytes-are),
      )
