-- The graph of a planning table: the node bytes give its labels, and the rows its links (document 02, Paper 2). A planning table to which none of
-- 4, 14, 15 and 5 to 7 applies keeps the rules of an accepted record.
use mathlib.Core.Path.{◌≡◌, sym, ◌∙◌, ap, subst}
use mathlib.Core.List.Memᴰ
use mathlib.Core.List.{List, [], Memᴰ}
use mathlib.Core.Logic.{◌↔◌}
use mathlib.Core.Option.{some}
use Prim.Native.Nat.{ℕ, ◌+◌, ◌≤◌, ◌<◌}
use native.Mathlib.Decide.{dec_lt}
use native.Mathlib.Omega.{arith}
use lib.ListN.{length, get_or, length-map, get_or-eq_default}
use Rattle.graphs.specs.Rows.{Row, features, from, target}
use Rattle.graphs.specs.Large.{Ascending}
use Rattle.graphs.proofs.Lists.{features-small, from_member, from-range, length_from, get_or-from}
use Rattle.graphs.proofs.Rows.{links_of-source, links_of-ascending, target-links_of}
use Rattle.graphs.proofs.Walk.{none-some}
use Rattle.lattice.specs.Label.{Label, no_label}
use Rattle.peeling.proofs.Range.{LabelInRange}
use Rattle.record.proofs.Accepted.{Rules}
use Rattle.record.proofs.Nodes.{Linked}
use Rattle.rows.specs.declared.Row as lent
use Rattle.rows.specs.Rows.{target_in, label_in, nodes_in, table_rows}
use Rattle.rows.specs.Faults.{Formed}
use Rattle.rows.proofs.AnyOrder.{target-exact}
use Rattle.rows.proofs.Tables.{stated, table-links, target_row}
use Rattle.rows.proofs.Tests.{once-exact}
use Rattle.planning.specs.Importable.{table_graph, InsideLabel, Importable}

-- A label inside the range passes the test of a record's labels.
pub inside-range : (n : ℕ) (l : Label) → InsideLabel n l → LabelInRange n l
inside-range n l (low, high, up, top) = (low, record { type = high; lowest = omega arith; highest = top }, up)

module _ (nodes : List ℕ) (rows : List lent.Row) where
  -- The rows of the graph, by number.

  pub table-length : length (table_rows nodes rows) ≡ nodes_in nodes
  unfolding table_rows
  table-length = length-map (from 0 (nodes_in nodes)) (stated nodes rows) ∙ length_from 0 (nodes_in nodes)

  table_at : (v : ℕ) → v < nodes_in nodes → get_or (table_rows nodes rows) v (no_label, []) ≡ stated nodes rows v
  unfolding table_rows
  table_at v h = get_or-from (stated nodes rows) (no_label, []) (nodes_in nodes) 0 v h ∙ ap (stated nodes rows) none_more
    where
      none_more : 0 + v ≡ v
      none_more = omega arith

  pub table-row : (v : ℕ) → v < nodes_in nodes → Memᴰ (stated nodes rows v) (table_rows nodes rows)
  unfolding table_rows
  table-row v h = Memᴰ.map (stated nodes rows) (from_member 0 (nodes_in nodes) v (omega arith) (omega arith))

  pub table-source : (r : Row Label) → Memᴰ r (table_rows nodes rows) → (v : ℕ) × (v < nodes_in nodes) × (stated nodes rows v ≡ r)
  unfolding table_rows
  table-source r m =
      let (v, i, e) = Memᴰ.of_map (stated nodes rows) (from 0 (nodes_in nodes)) m in
      (v, omega (arith, (from-range 0 (nodes_in nodes) v i).1), e)

  -- Each node's label is its three bytes.
  pub table-label : (v : ℕ) → v < nodes_in nodes → (table_graph nodes rows).label v ≡ label_in nodes v
  table-label v h = ap (λ (r : Row Label). r.0) (table_at v h)

  proper : (r : Row Label) → Memᴰ r (table_rows nodes rows) → Ascending r.1 × ((l : ℕ × ℕ) → Memᴰ l r.1 → l.0 < 64)
  proper r m =
      let (v, h, e) = table-source r m in
      subst (λ (x : Row Label). Ascending x.1 × ((l : ℕ × ℕ) → Memᴰ l x.1 → l.0 < 64)) e
      (links_of-ascending (target_in rows v) 0 64, λ l j. features-small l.0 (links_of-source (target_in rows v) features l j).0)

  module _ (formed : Formed nodes rows) where
    -- The graph of rows: node v has a link by f to w exactly when some row says so.
    pub table-link : (v f w : ℕ) → ((table_graph nodes rows).link v f ≡ some w) ↔ Memᴰ (record { parent = v; feature = f; target = w }) rows
    unfolding target
    table-link v f w = go (dec_lt v (nodes_in nodes))
      where
        narrow : (g x : ℕ) → target_in rows v g ≡ some x → g < 64
        narrow g x q = (formed.known (record { parent = v; feature = g; target = x }) (target_row rows v g x q)).0

        go : Dec (v < nodes_in nodes) → ((table_graph nodes rows).link v f ≡ some w) ↔ Memᴰ (record { parent = v; feature = f; target = w }) rows
        go (yes h) =
            let e : (table_graph nodes rows).link v f ≡ target_in rows v f =
            ap (λ (r : Row Label). target r.1 f) (table_at v h) ∙ target-links_of (target_in rows v) narrow f in
            let exact = target-exact rows ((once-exact rows).1 formed.once) v f w in
            (λ q. exact.0 (sym e ∙ q), λ m. e ∙ exact.1 m)
        go (no h) = (
          λ q.
              none-some
              (sym (ap (λ (r : Row Label). target r.1 f) (get_or-eq_default (table_rows nodes rows) (no_label, []) {n = v} (omega (arith, table-length))))
              ∙ q),
          λ m. absurd (omega (arith, (formed.known (record { parent = v; feature = f; target = w }) m).1)),
        )

    pub table-linked : Linked (table_rows nodes rows)
    table-linked =
        record {
          nonempty = omega (arith, table-length, formed.sized.1);
          features = λ r m. (proper r m).1;
          targets = λ r m l i.
              let (v, h, e) = table-source r m in
              let (_, said) = links_of-source (target_in rows v) features l (subst (λ (x : Row Label). Memᴰ l x.1) (sym e) i) in
              let known = formed.known (record { parent = v; feature = l.0; target = l.1 }) (target_row rows v l.0 l.1 said) in
              omega (arith, table-length, known.2);
        }

  -- If no refusal applies to the planning table, its rows keep the rules of an accepted record.
  pub importable-rules : (n : ℕ) → n ≤ 64 → Importable n nodes rows → Rules n (table_rows nodes rows)
  importable-rules n types ok =
      record {
        nonempty = omega (arith, table-length, ok.formed.sized.1);
        short = omega (arith, table-length, ok.formed.sized.2);
        links = omega (arith, table-links nodes rows, ok.formed.sized.3);
        ordered = proper;
        types = λ r m.
            let (v, h, e) = table-source r m in
            let inside = ok.labels v h in
            omega (arith, inside.1, ap (λ (x : Row Label). x.0.type) e);
        ranged = λ r m. (
          let (v, h, e) = table-source r m in
              subst (λ (x : Row Label). LabelInRange n x.0) e (inside-range n (label_in nodes v) (ok.labels v h)),
          (table-linked ok.formed).targets r m,
        );
        acyclic = λ (v, h, f, p, e). ok.loopless (v, omega (arith, table-length), f, p, e);
        reached = λ v h. ok.reached v (omega (arith, table-length));
      }

  -- If its rows keep the rules of an accepted record, no refusal applies to the planning table.
  pub rules-importable : (n : ℕ) → Formed nodes rows → Rules n (table_rows nodes rows) → Importable n nodes rows
  rules-importable n formed rules =
      record {
        formed = formed;
        labels = λ v h. let (low, known, up) = (rules.ranged (stated nodes rows v) (table-row v h)).0 in (low, known.type, up, known.highest);
        loopless = λ (v, h, f, p, e). rules.acyclic (v, omega (arith, table-length), f, p, e);
        reached = λ v h. rules.reached v (omega (arith, table-length));
      }
