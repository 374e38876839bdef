-- The record of a graph of any size over an accepted table. There is none exactly where the graph is too large; a record means the same as its
-- graph; and two graphs have one record exactly where they mean the same.
use mathlib.Core.Path.{◌≡◌, refl, sym, ◌∙◌, ap, subst}
use mathlib.Core.Bool.{Bool}
use mathlib.Core.List.{List}
use mathlib.Core.Logic.{◌↔◌, inl, inr, ⊎_elim}
use mathlib.Core.Option.{none, some}
use Prim.Native.Nat.{ℕ}
use native.Mathlib.Omega.{arith}
use Rattle.graphs.specs.Graph.{Graph, TellsApart, SameMeaning}
use Rattle.graphs.specs.Rows.{Row}
use Rattle.graphs.specs.Number.{Canonical, many_nodes, many_links, written, canonical}
use Rattle.graphs.proofs.Below.{same-sym, same-trans}
use Rattle.graphs.proofs.Form.Invariant.{same-canonical}
use Rattle.graphs.proofs.Form.Large.{canonical-many-nodes, canonical-many-links, canonical-fits}
use Rattle.lattice.specs.Label.{Label}
use Rattle.std.specs.Prelude.{Ok}
use Rattle.acceptance.specs.Reply.{opened}
use Rattle.lattice.specs.Labels.{table_labels, OfAnySize}
use Rattle.acceptance.proofs.Acceptance.{opened-accepted}
use Rattle.record.specs.Read.{reading, graph_of_rows}
use Rattle.record.proofs.Rewritten.{form-again}
use Rattle.record.proofs.Theorems.{written-reads}
use Rattle.record.proofs.Accepted.{accepted-injective}
use Rattle.demands.specs.Demand.{Large, form_bytes, record_of, RecordOf}
use Rattle.demands.proofs.Results.{record-form, seven-bits}

module _ (n : ℕ) (t : List ℕ) (opens : opened n t ≡ Ok tt) {C : Type 0} (same : C → C → Bool) (tells : TellsApart same) (k : Graph Label C)
    (size : OfAnySize n t k) where
  pub record-none : (record_of same k ≡ none) ↔ Large k
  record-none = (there (canonical same k) refl, back (canonical same k) refl)
    where
      there : (c : Canonical Label) → canonical same k ≡ c → form_bytes c ≡ none → Large k
      there many_nodes e _ = inl ((canonical-many-nodes same tells k size.any-size.features).0 e)
      there many_links e _ = inr ((canonical-many-links same tells k size.any-size.features).0 e).1
      there (written form) e q = let z : ◌≡◌ {A = ℕ} 0 1 = cc in absurd (omega arith)

      back : (c : Canonical Label) → canonical same k ≡ c → Large k → form_bytes c ≡ none
      back many_nodes e _ = refl
      back many_links e _ = refl
      back (written form) e large =
          let (nodes, links) = (canonical-fits same tells k size.any-size.features).1 (form, e) in
          absurd (⊎_elim nodes links large)

  pub record-means : (bytes : List ℕ) → record_of same k ≡ some bytes → RecordOf n t k bytes
  record-means bytes is =
      let (form, e, bytes-are) = record-form same k bytes is in
      let accepts = opened-accepted n t (opened n t) refl opens in
      let (reads, means) = written-reads n t same tells k size form e (seven-bits n t accepts k size) in
      record {
        is-written =
            record {
              form = form;
              reads = ap (reading n) (sym bytes-are) ∙ reads;
              own = form-again n t same tells k size form e;
              bytes-are = sym bytes-are;
            };
        means = means;
      }

pub record-exact : (n : ℕ) (t : List ℕ) → opened n t ≡ Ok tt → {C : Type 0} (same : C → C → Bool) → TellsApart same → (k : Graph Label C) →
    OfAnySize n t k → (bytes : List ℕ) → record_of same k ≡ some bytes → {D : Type 0} (other : D → D → Bool) → TellsApart other → (m : Graph Label D) →
    OfAnySize n t m → SameMeaning (table_labels n t) k m ↔ (record_of other m ≡ some bytes)
record-exact n t opens same tells k size bytes is other tells-other m size-other = (
  λ means. ap form_bytes (same-canonical (table_labels n t) other same tells-other tells m k (same-sym means)) ∙ is,
  λ q.
      let one = record-means n t opens same tells k size bytes is in
      let two = record-means n t opens other tells-other m size-other bytes q in
      let e = accepted-injective (sym two.is-written.reads ∙ one.is-written.reads) in
      same-trans one.means
      (same-sym (subst (λ (form : List (Row Label)). SameMeaning (table_labels n t) m (graph_of_rows form)) e two.means)),
)
