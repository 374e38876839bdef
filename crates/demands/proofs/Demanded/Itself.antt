-- A graph's difference from itself is a lone top. Every node has the wanted label top, and the difference lies below a lone top. If it lay
-- strictly below, the lone top would be more general and would restore too.
use mathlib.Core.Path.{◌≡◌, refl, sym, ◌∙◌, ap, subst}
use mathlib.Core.Bool.{true}
use mathlib.Core.List.Memᴰ
use mathlib.Core.List.{List, [], ◌∷◌, Memᴰ}
use mathlib.Core.Logic.{◌↔◌, inl, inr, ⊎_elim}
use mathlib.Core.Option.{some, none, bind}
use Prim.Native.Nat.{ℕ, ◌-◌, ◌<◌}
use native.Mathlib.Omega.{arith}
use borrow.Author.Tests.{ne_eqb}
use lib.Dec.{eqb}
use lib.ListN.{length}
use Rattle.graphs.specs.Graph.{Graph, walk, follow, Reached, Below, SameMeaning}
use Rattle.graphs.specs.Rows.{Row, from, links_of, target}
use Rattle.graphs.specs.Number.{canonical, written, visit, each, member, index_of, out_degree, link_count, row_of}
use Rattle.graphs.specs.Order.{subsumes}
use Rattle.graphs.proofs.Walk.{none-some, some-injective, some-unique, follow-none, reached-root}
use Rattle.graphs.specs.Difference.{by_number}
use Rattle.graphs.proofs.Lists.{tells-eqb}
use Rattle.graphs.proofs.Difference.ByNumber.{by-number-order}
use Rattle.graphs.proofs.Search.{true-false}
use Rattle.graphs.proofs.Below.{same-sym}
use Rattle.graphs.proofs.Order.{subsumes-exact}
use Rattle.graphs.proofs.Form.Large.{canonical-fits}
use Rattle.graphs.proofs.Form.Canonical.{canonical-exact}
use Rattle.lattice.specs.Label.{Label, plain}
use Rattle.std.specs.Prelude.{Ok}
use Rattle.lattice.specs.Table as table
use Rattle.acceptance.specs.Reply.{opened}
use Rattle.lattice.specs.Labels.{type_labels, table_labels, Known, OfAnySize}
use Rattle.lattice.proofs.Every.{not-false-true}
use Rattle.lattice.proofs.Laws.{accepted-size, top-type, top-greatest, below-reflexive, wanted-sound, wanted-of-same}
use Rattle.lattice.proofs.Lawful.{inside-le, le-antisymmetric, le-reflexive, plain_known}
use Rattle.lattice.proofs.Plain.{contradiction-plain}
use Rattle.lattice.proofs.Relabel.{same-below-right}
use Rattle.acceptance.proofs.Acceptance.{opened-accepted}
use Rattle.encoder.specs.Encode.{bits_from, is_full, encoded_label, encoded_row, encoded_rows, encoded}
use Rattle.encode.specs.Encode.{fitted, written_out}
use Rattle.record.specs.Read.{reading, accepted, graph_of_rows}
use Rattle.record.proofs.Accepted.{accepted-rules}
use Rattle.record.proofs.Theorems.{accepted-of-any-size, written-reads}
use Rattle.replies.specs.Reply.{result_of}
use Rattle.calls.specs.Calls.{differing}
use Rattle.demands.specs.Wanted.{SomeUnwanted}
use Rattle.demands.specs.Demand.{Given, lone_top, remainder, Restores}
use Rattle.record.proofs.Ordered.{short}
use Rattle.demands.proofs.Results.{seven-bits}
use Rattle.demands.proofs.Demanded.Difference.{plain-parts, all_wanted_lem, remainder-small, remainder-restores, remainder-result}

-- a graph of one node
abbrev lone : Label → Graph Label ℕ
lone c = record { root = 0; label = λ _. c; link = λ _ _. none }

-- The only path of a graph of one node is the empty one.
lone-path : (c : Label) (p : List ℕ) (v : ℕ) → walk (lone c) p ≡ some v → p ≡ []
unfolding follow
lone-path c [] v e = refl
lone-path c (f ∷ p) v e = none-some (sym (follow-none (lone c).link p) ∙ e)

-- The written form of a graph of one node, and its bytes.
lone-form : (c : Label) → canonical eqb (lone c) ≡ written ((c, []) ∷ [])
unfolding canonical visit each member index_of out_degree link_count row_of links_of target from bind
lone-form c = refl

lone-encoded : (n : ℕ) → encoded ((plain (n - 1), []) ∷ []) ≡ lone_top n
unfolding encoded encoded_rows encoded_row encoded_label is_full bits_from from target
lone-encoded n = refl

module _ (n : ℕ) (t : List ℕ) (ok : table.accepted n t ≡ true) where
  abbrev top : Graph Label ℕ
  top = lone (plain (n - 1))

  top-known : Known n (plain (n - 1))
  top-known = plain_known n (n - 1) (top-type n t ok)

  -- Every label of the table is below top.
  under_top : (x : Label) → Known n x → (table_labels n t).le x (plain (n - 1)) ≡ true
  under_top x k =
      inside-le n t x (plain (n - 1)) (record { type = top-greatest n t ok x.type k.type; lowest = omega arith; highest = k.highest })

  top-listed : (v : ℕ) → Reached top v ↔ Memᴰ v (0 ∷ [])
  unfolding follow
  top-listed v = (
    λ (p, e).
        Memᴰ.head (sym (some-injective (subst (λ (q : List ℕ). walk top q ≡ some v) (lone-path (plain (n - 1)) p v e) e))),
    λ m. ⊎_elim (λ (e : v ≡ 0). ([], ap some (sym e))) (λ i. absurd (Memᴰ.not-nil i)) (Memᴰ.cases_cons m),
  )

  top-size : OfAnySize n t top
  unfolding follow
  top-size =
      record {
        any-size =
            record {
              nodes = 0 ∷ [];
              listed = top-listed;
              features = λ v w f r e. none-some e;
              consistent = λ v r.
                  contradiction-plain (type_labels n t) (n - 1) ∙ ne_eqb (n - 1) 0 (λ e. omega (arith, (accepted-size n t ok).0));
              acyclic = λ v f p r e. none-some (sym (follow-none top.link p) ∙ e);
            };
        typed = λ v r. top-known;
      }

  -- Every graph of labels of the table lies below a lone top.
  below_top : {A : Type 0} (g : Graph Label A) → OfAnySize n t g → Below (table_labels n t) g top
  unfolding follow
  below_top {A} g size =
      record {
        paths = λ p v e.
            subst (λ (q : List ℕ). (w : A) × (walk g q ≡ some w) × ((table_labels n t).le (g.label w) (plain (n - 1)) ≡ true)) (sym (lone-path (plain (n - 1)) p v e))
            (g.root, refl, under_top (g.label g.root) (size.typed g.root (reached-root g)));
        corefers = λ p q (v, d, e). (
          g.root,
          ap (walk g) (lone-path (plain (n - 1)) p v d),
          ap (walk g) (lone-path (plain (n - 1)) q v e),
        );
      }

  below_self : {A : Type 0} (g : Graph Label A) → OfAnySize n t g → Below (table_labels n t) g g
  below_self g size =
      record { paths = λ p v e. (v, e, le-reflexive n t ok (g.label v) (size.typed v (p, e))); corefers = λ p q c. c }

  -- A graph that a lone top lies below means the same as a lone top.
  same-top : {A : Type 0} (d : Graph Label A) → OfAnySize n t d → Below (table_labels n t) top d → SameMeaning (table_labels n t) top d
  same-top d size below =
      record {
        there = λ p v e.
            let (w, i, l) = (below_top d size).paths p v e in
            (w, i, label w (p, i) (below.paths p w i).2);
        back = λ p w e.
            let (v, i, l) = below.paths p w e in
            (v, i, label w (p, e) l);
        corefers = λ p q. ((below_top d size).corefers p q, below.corefers p q);
      }
    where
      label : (w : _) → Reached d w → (table_labels n t).le (plain (n - 1)) (d.label w) ≡ true → plain (n - 1) ≡ d.label w
      label w r l =
          le-antisymmetric n t ok (plain (n - 1)) (d.label w) top-known (size.typed w r) l (under_top (d.label w) (size.typed w r))

  -- Over a graph itself every node has a wanted type, the greatest type.
  none-unwanted : {A : Type 0} (s : Graph Label A) → OfAnySize n t s → SomeUnwanted n t s s → ⊥
  none-unwanted s size (v, (p, d), nothing) =
      let type : ℕ = (s.label v).type in
      let known : type < n = (size.typed v (p, d)).type in
      nothing (n - 1)
      (record {
        over = type;
        is-over =
            record {
              known = known;
              under = λ q y i j. ap (λ w. table.below t type (s.label w).type) (some-unique j i) ∙ below-reflexive n t ok type known;
              greatest = λ b l under. under p v d d;
            };
        known = top-type n t ok;
        restores = (wanted-sound n t ok type type (n - 1) known (wanted-of-same n t ok type known)).exact;
        greatest = λ e l _. top-greatest n t ok e l;
      })

module _ (n : ℕ) (t a : List ℕ) (s : List (Row Label)) (opens : opened n t ≡ Ok tt) (reads : reading n a ≡ accepted s) where
  given : Given n t a a s s
  given = record { opens = opens; first = reads; second = reads }

  ok : table.accepted n t ≡ true
  ok = opened-accepted n t (opened n t) refl opens

  size : OfAnySize n t (graph_of_rows s)
  size = accepted-of-any-size n a s reads t

  below : Below (table_labels n t) (graph_of_rows s) (graph_of_rows s)
  below = below_self n t ok (graph_of_rows s) size

  abbrev d : Graph Label ℕ
  d = remainder by_number n t s s

  restores : Restores n t d (graph_of_rows s) (graph_of_rows s)
  restores = remainder-restores n t a a s s given by-number-order below (all_wanted_lem n t a a s s given below (none-unwanted n t ok (graph_of_rows s) size))

  -- It is contradictory that a lone top is not below the difference.
  not-strict : (Below (table_labels n t) (top n t ok) d → ⊥) → ⊥
  not-strict strict =
      (restores.most-general (top n t ok) (top-size n t ok) (below_top n t ok d restores.of-any-size, strict) (graph_of_rows s)
      (record {
        of-any-size = size;
        left = below_top n t ok (graph_of_rows s) size;
        right = below;
        greatest = λ m _ _ y. y;
      })).1 below

  -- The order is decided, so the difference means the same as a lone top.
  means-top : SameMeaning (table_labels n t) (top n t ok) d
  means-top =
      let small = remainder-small n t a a s s given by-number-order below (all_wanted_lem n t a a s s given below (none-unwanted n t ok (graph_of_rows s) size)) in
      let (form, fits) =
      (canonical-fits eqb tells-eqb d restores.of-any-size.any-size.features).0 (λ m. small (inl m), λ m. small (inr m)) in
      let (reads, means) = written-reads n t eqb tells-eqb d restores.of-any-size form fits (seven-bits n t ok d restores.of-any-size) in
      let rules = accepted-rules n (encoded form) form reads in
      let exact =
      subsumes-exact (table_labels n t) eqb eqb tells-eqb tells-eqb (top n t ok) (graph_of_rows form)
      (accepted-of-any-size n (encoded form) form reads t).any-size.features (length form) (short n t form form rules) in
      same-top n t ok d restores.of-any-size
      (same-below-right (same-sym means) (exact.0
      (not-false-true (subsumes (table_labels n t) eqb eqb (top n t ok) (graph_of_rows form) (length form))
      (λ e. not-strict (λ lies. true-false (exact.1 (same-below-right means lies)) e)))))

  pub itself : (out : List ℕ) → differing n t a a out ≡ result_of (fitted (lone_top n) out)
  unfolding written_out
  itself out =
      remainder-result n t a a s s given by-number-order (plain-parts n t a a given out) below (all_wanted_lem n t a a s s given below (none-unwanted n t ok (graph_of_rows s) size)) ∙
      ap (λ c. result_of (written_out c out))
      ((canonical-exact (table_labels n t) eqb eqb tells-eqb tells-eqb (top n t ok) d (top-size n t ok).any-size.features
      restores.of-any-size.any-size.features ((plain (n - 1), []) ∷ []) (lone-form (plain (n - 1)))).0 means-top) ∙
      ap (λ (bytes : List ℕ). result_of (fitted bytes out)) (lone-encoded n)
