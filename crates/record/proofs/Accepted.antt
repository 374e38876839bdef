-- This file states without bytes the rules that the rows of an accepted record keep. Rows that keep the rules state a graph of any size
-- that fits, so an accepted record can always be written. Nothing here asks that the table's types are a lattice.
use mathlib.Core.Path.{◌≡◌, refl}
use mathlib.Core.Bool.{false}
use mathlib.Core.List.{List, [], Memᴰ}
use mathlib.Core.Logic.{inl, inr, ⊎_elim}
use Prim.Native.Nat.{ℕ, ◌≤◌, ◌<◌}
use native.Mathlib.Omega.{arith}
use native.Mathlib.Decide.{ℕ_discrete, dec_le}
use lib.Dec.{eqb}
use lib.ListN.{length, get_or}
use Rattle.graphs.specs.Graph.{AnySize, Reached}
use Rattle.graphs.specs.Rows.{Row, from}
use Rattle.graphs.specs.Number.{canonical, written}
use Rattle.graphs.specs.Large.{links_in}
use Rattle.graphs.proofs.Lists.{from-range, tells-eqb}
use Rattle.graphs.proofs.Search.{true-false, not-true-false}
use Rattle.graphs.proofs.Form.Large.{canonical-fits}
use Rattle.lattice.specs.Label.{Label, no_label}
use Rattle.lattice.specs.Labels.{table_labels, Known, OfAnySize}
use Rattle.lattice.proofs.Lawful.{contradiction-parts, contradiction-from}
use Rattle.peeling.proofs.Range.{LabelInRange}
use Rattle.record.specs.Read.{graph_of_rows, reading, accepted}
use Rattle.record.proofs.Readings.{Stands, InRange, reading-says, in-range}
use Rattle.decode.proofs.Decoded.{Proper, decoded-says}
use Rattle.record.proofs.Labels.{SevenBits, decoded-types}
use Rattle.record.proofs.Nodes.{Linked, decoded-linked, node_row, reached-inside, reached-listed, narrow, few-nodes, few-links}
use Rattle.record.proofs.Reaching.{SelfReach, AllReached, cyclic-exact, reaches-exact}

-- What 4 to 7 ask of rows over a table with n types.
pub record Rules (n : ℕ) (rows : List (Row Label)) : Type 0 where
  pub nonempty : 0 < length rows
  pub short : length rows ≤ 255
  pub links : links_in rows ≤ 2048
  pub ordered : (r : Row Label) → Memᴰ r rows → Proper r
  pub types : SevenBits rows
  pub ranged : InRange n rows
  pub acyclic : SelfReach rows → ⊥
  pub reached : AllReached rows

pub rules-linked : {n : ℕ} {rows : List (Row Label)} → Rules n rows → Linked rows
rules-linked rules =
    record {
      nonempty = rules.nonempty;
      features = λ r m. (rules.ordered r m).1;
      targets = λ r m. (rules.ranged r m).1;
    }

-- the rows of an accepted record are determined
pub accepted-injective : {a b : List (Row Label)} → accepted a ≡ accepted b → a ≡ b
accepted-injective e = cc

-- an accepted record keeps the rules
pub accepted-rules : (n : ℕ) (bytes : List ℕ) (rows : List (Row Label)) → reading n bytes ≡ accepted rows → Rules n rows
accepted-rules n bytes rows ok = rules ((reading-says n bytes (accepted rows)).0 ok)
  where
    rules : Stands n bytes (accepted rows) → Rules n rows
    rules (parsed, ranges, acyclic, reaches) =
        let says = decoded-says bytes rows parsed in
        let ranged : InRange n rows = (in-range n rows).0 ranges in
        let linked : Linked rows = decoded-linked says ranged in
        let (short, reached) = (reaches-exact rows linked).0 reaches in
        record {
          nonempty = says.nonempty;
          short = short;
          links = says.few-links;
          ordered = says.ordered;
          types = decoded-types bytes rows parsed;
          ranged = ranged;
          acyclic = λ s. true-false ((cyclic-exact rows linked).1 s) acyclic;
          reached = reached;
        }

-- A label of the table is in range exactly where it is no contradiction.
module _ (n : ℕ) (t : List ℕ) {l : Label} where
  in-range-consistent : LabelInRange n l → (table_labels n t).contradiction l ≡ false
  in-range-consistent (nonzero, _, up) =
      not-true-false ((table_labels n t).contradiction l)
      (λ e. ⊎_elim (λ (z : l.type ≡ 0). omega arith) (λ (h : l.highest < l.lowest). omega arith) (contradiction-parts n t l e))

  pub consistent-in-range : Known n l → (table_labels n t).contradiction l ≡ false → LabelInRange n l
  consistent-in-range known e = (nonzero (ℕ_discrete l.type 0), known, up (dec_le l.lowest l.highest))
    where
      nonzero : Dec (l.type ≡ 0) → 0 < l.type
      nonzero (yes z) = true-false (contradiction-from n t l (inl z)) e
      nonzero (no d) = omega arith

      up : Dec (l.lowest ≤ l.highest) → l.lowest ≤ l.highest
      up (yes h) = h
      up (no d) = true-false (contradiction-from n t l (inr (omega arith))) e

module _ (n : ℕ) (rows : List (Row Label)) (rules : Rules n rows) where
  -- the label of a reached node is that of a row
  reached-label : (P : Label → Type 0) → ((r : Row Label) → Memᴰ r rows → P r.0) → (v : ℕ) → Reached (graph_of_rows rows) v →
      P ((graph_of_rows rows).label v)
  reached-label P each v r = each (get_or rows v (no_label, [])) (node_row rows v (reached-inside rows (rules-linked rules) v r))

  -- "A graph of any size keeps every rule of an accepted record but the counts"
  rules-any-size : (t : List ℕ) → AnySize (table_labels n t) (graph_of_rows rows)
  rules-any-size t =
      record {
        nodes = from 0 (length rows);
        listed = λ v. (
          reached-listed rows (rules-linked rules) v,
          λ m. rules.reached v (omega (arith, from-range 0 (length rows) v m)),
        );
        features = narrow rows (rules-linked rules);
        consistent = λ v r. in-range-consistent n t (reached-label (LabelInRange n) (λ x m. (rules.ranged x m).0) v r);
        acyclic = λ v f p r e. rules.acyclic (v, reached-inside rows (rules-linked rules) v r, f, p, e);
      }

  -- the graph has types below n
  pub rules-of-any-size : (t : List ℕ) → OfAnySize n t (graph_of_rows rows)
  rules-of-any-size t =
      record {
        any-size = rules-any-size t;
        typed = reached-label (Known n) (λ x m. (rules.ranged x m).0.1);
      }

  -- the graph has types of seven bits
  pub rules-types : (v : ℕ) → Reached (graph_of_rows rows) v → ((graph_of_rows rows).label v).type < 128
  rules-types = reached-label (λ l. l.type < 128) rules.types

  -- the nodes of the graph are the numbers of the rows
  pub rules-nodes : (t : List ℕ) → (rules-of-any-size t).any-size.nodes ≡ from 0 (length rows)
  unfolding rules-of-any-size rules-any-size
  rules-nodes t = refl

  -- neither count is passed, so there is a written form
  pub rules-fit : (form : List (Row Label)) × (canonical eqb (graph_of_rows rows) ≡ written form)
  rules-fit =
      (canonical-fits eqb tells-eqb (graph_of_rows rows) (narrow rows (rules-linked rules))).0
      (few-nodes rows (rules-linked rules) rules.short, few-links rows rules.links)
