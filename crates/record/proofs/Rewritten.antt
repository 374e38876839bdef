-- This file is about written records. The written form of a graph of any size, whose types have seven bits, keeps the rules of a record,
-- since its rows are the reached nodes of that graph and a cycle of one is a cycle of the other. So it is accepted, and is its own written
-- form. Reading undoes writing, so equal bytes are equal forms, and equal forms are equal meanings.
use mathlib.Core.Path.{◌≡◌, sym, ◌∙◌, ap, subst}
use mathlib.Core.Bool.{Bool}
use mathlib.Core.List.{List, ◌∷◌, ◌++◌}
use mathlib.Core.Logic.{◌↔◌}
use mathlib.Core.Option.{some}
use Prim.Native.Nat.{ℕ, ◌<◌}
use lib.Dec.{eqb}
use lib.ListN.{length}
use Rattle.graphs.specs.Graph.{Graph, TellsApart, Reached, SameMeaning}
use Rattle.graphs.specs.Rows.{Row}
use Rattle.graphs.specs.Number.{Canonical, canonical, written}
use Rattle.graphs.proofs.Walk.{some-injective, walk-append}
use Rattle.graphs.proofs.Lists.{tells-eqb, full-list}
use Rattle.graphs.proofs.Search.{not-true-false}
use Rattle.graphs.proofs.Form.Canonical.{canonical-idempotent, canonical-exact}
use Rattle.lattice.specs.Label.{Label, no_label}
use Rattle.graphs.proofs.Form.Rules.{
  form-nodes,
  form-short,
  form-links,
  form-nonempty,
  form-labels,
  form-ascending,
  form-features,
  form-targets,
}
use Rattle.lattice.specs.Labels.{table_labels, OfAnySize}
use Rattle.decode.specs.Decode.{decoded}
use Rattle.encoder.specs.Encode.{encoded}
use Rattle.peeling.proofs.Range.{LabelInRange}
use Rattle.record.specs.Read.{graph_of_rows, cyclic, reading, accepted}
use Rattle.record.proofs.Readings.{InRange, reading-says, in-range}
use Rattle.record.proofs.RoundTrip.{decode-encode, form-types}
use Rattle.record.proofs.Nodes.{Linked, reached-inside, narrow}
use Rattle.record.proofs.Reaching.{SelfReach, AllReached, cyclic-exact, reaches-exact}
use Rattle.record.proofs.Accepted.{Rules, rules-linked, consistent-in-range, rules-of-any-size, rules-types}

-- equal forms are written of one list of rows
pub written-injective : {form other : List (Row Label)} → ◌≡◌ {A = Canonical Label} (written form) (written other) → form ≡ other
written-injective e = cc

rules-decoded : {n : ℕ} {rows : List (Row Label)} → Rules n rows → decoded (encoded rows) ≡ some rows
rules-decoded {rows = rows} rules = decode-encode rows rules.nonempty rules.links rules.types rules.ordered

-- rows that keep the rules are read from their bytes
pub rules-read : (n : ℕ) (rows : List (Row Label)) → Rules n rows → reading n (encoded rows) ≡ accepted rows
rules-read n rows rules =
    (reading-says n (encoded rows) (accepted rows)).1 (
      rules-decoded rules,
      (in-range n rows).1 rules.ranged,
      not-true-false (cyclic rows) (λ q. rules.acyclic ((cyclic-exact rows (rules-linked rules)).0 q)),
      (reaches-exact rows (rules-linked rules)).1 (rules.short, rules.reached),
    )

module _ (n : ℕ) (t : List ℕ) {A : Type 0} (same : A → A → Bool) (tells : TellsApart same) (g : Graph Label A) (size : OfAnySize n t g)
    (form : List (Row Label)) (e : canonical same g ≡ written form) where
  small : (v w : A) (f : ℕ) → Reached g v → g.link v f ≡ some w → f < 64
  small = size.any-size.features

  form-linked : Linked form
  form-linked =
      record {
        nonempty = form-nonempty same tells g small form e;
        features = form-features same tells g small form e;
        targets = form-targets same tells g small form e;
      }

  -- the form, written again, is the form
  pub form-again : canonical eqb (graph_of_rows form) ≡ written form
  form-again = canonical-idempotent same tells g small no_label form e

  pub form-meaning : SameMeaning (table_labels n t) g (graph_of_rows form)
  form-meaning =
      (canonical-exact (table_labels n t) same eqb tells tells-eqb g (graph_of_rows form) small (narrow form form-linked) form e).1 form-again

  form-ranged : InRange n form
  form-ranged r m =
      let (v, reached, label) = form-labels same tells g small form e r m in
      let ranged = consistent-in-range n t (size.typed v reached) (size.any-size.consistent v reached) in
      (subst (LabelInRange n) (sym label) ranged, form-linked.targets r m)

  -- the form has as many rows as its graph has nodes
  form-reached : AllReached form
  form-reached v h =
      let (nodes, d, listed, q) = form-nodes eqb tells-eqb (graph_of_rows form) (narrow form form-linked) form form-again in
      (listed v).1 (full-list (length form) nodes d (λ x m. reached-inside form form-linked x ((listed x).1 m)) (sym q) v h)

  -- a node that reaches itself is at the end of two paths that share, and they share in the graph that was written
  form-acyclic : SelfReach form → ⊥
  form-acyclic (v, h, f, p, loop) =
      let (path, at) = form-reached v h in
      let (w, d, c) = (form-meaning.corefers path (path ++ (f ∷ p))).1
      (v, at, walk-append (graph_of_rows form) path (f ∷ p) at ∙ loop) in
      size.any-size.acyclic w f p (path, d) (sym (walk-append g path (f ∷ p) d) ∙ c)

  module _ (types : (v : A) → Reached g v → (g.label v).type < 128) where
    -- what is written keeps the rules
    pub form-rules : Rules n form
    form-rules =
        record {
          nonempty = form-linked.nonempty;
          short = form-short same tells g small form e;
          links = form-links same tells g small form e;
          ordered = λ r m. (form-ascending same tells g small form e r m, form-linked.features r m);
          types = form-types same tells g small types form e;
          ranged = form-ranged;
          acyclic = form-acyclic;
          reached = form-reached;
        }

    -- what is written is accepted when it is read, and means what was written
    pub written-reads : (reading n (encoded form) ≡ accepted form) × SameMeaning (table_labels n t) g (graph_of_rows form)
    written-reads = (rules-read n form form-rules, form-meaning)

-- rows that keep the rules are determined by their bytes
encoded-injective : {n : ℕ} (rows other : List (Row Label)) → Rules n rows → Rules n other → encoded rows ≡ encoded other → rows ≡ other
encoded-injective rows other rules same q =
    some-injective (sym (rules-decoded rules) ∙ ap decoded q ∙ rules-decoded same)

-- equal meaning is equal bytes once written
pub meaning-by-bytes : (n : ℕ) (t : List ℕ) (rows other : List (Row Label)) → Rules n rows → Rules n other →
    (form form' : List (Row Label)) → canonical eqb (graph_of_rows rows) ≡ written form →
    canonical eqb (graph_of_rows other) ≡ written form' →
    SameMeaning (table_labels n t) (graph_of_rows rows) (graph_of_rows other) ↔ (encoded form ≡ encoded form')
meaning-by-bytes n t rows other rules same form form' e e' = (
  λ m. ap encoded (written-injective (sym (exact.0 m) ∙ e')),
  λ q.
      exact.1
      (e' ∙ ap written (sym (encoded-injective form form' (rewritten rows rules form e) (rewritten other same form' e') q))),
)
  where
    rewritten : (rows : List (Row Label)) → Rules n rows → (form : List (Row Label)) → canonical eqb (graph_of_rows rows) ≡ written form → Rules n form
    rewritten rows rules form e =
        form-rules n t eqb tells-eqb (graph_of_rows rows) (rules-of-any-size n rows rules t) form e (rules-types n rows rules)

    exact : SameMeaning (table_labels n t) (graph_of_rows rows) (graph_of_rows other) ↔ (canonical eqb (graph_of_rows other) ≡ written form)
    exact =
        canonical-exact (table_labels n t) eqb eqb tells-eqb tells-eqb (graph_of_rows rows) (graph_of_rows other)
        (narrow rows (rules-linked rules)) (narrow other (rules-linked same)) form e
