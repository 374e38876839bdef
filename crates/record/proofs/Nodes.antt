-- This file is about the nodes and links of the graph that rows state, where each link has a feature below 64 and leads to a row. The nodes
-- that are reached are among the numbers of the rows, so there are no more nodes than rows. There are no more links than the rows list. The
-- tests for 6 and 7 and the counts for 11 rest on this.
use mathlib.Core.Path.{◌≡◌, refl, sym, ◌∙◌, ap, ap₂}
use mathlib.Core.Bool.{Bool, true, false, cond}
use mathlib.Core.List.Memᴰ
use mathlib.Core.List.{
  List,
  [],
  ◌∷◌,
  ◌++◌,
  map,
  Memᴰ,
}
use mathlib.Core.Option.{some}
use Prim.Native.Nat.{ℕ, zero, suc, ◌+◌, ◌≤◌, ◌<◌}
use native.Mathlib.Omega.{arith}
use borrow.Author.Tests.{leb-true, leb-false, eqb-true}
use lib.Dec.{eqb, leb}
use lib.ListN.{length, length-append, length-map, get_or, get_or-eq_default}
use Rattle.graphs.specs.Graph.{follow, Reached}
use Rattle.graphs.specs.Rows.{Row, from, target}
use Rattle.graphs.specs.Large.{ManyNodes, ManyLinks, links_in}
use Rattle.graphs.proofs.Walk.{some-injective, none-some, follow-start}
use Rattle.graphs.proofs.Lists.{from_member, length_from, distinct-bound, get_or-member}
use Rattle.lattice.specs.Label.{Label, no_label}
use Rattle.record.specs.Read.{graph_of_rows}
use Rattle.decode.proofs.Decoded.{Decoded}
use Rattle.record.proofs.Readings.{InRange}

pub record Linked (rows : List (Row Label)) : Type 0 where
  pub nonempty : 0 < length rows
  pub features : (r : Row Label) → Memᴰ r rows → (l : ℕ × ℕ) → Memᴰ l r.1 → l.0 < 64
  pub targets : (r : Row Label) → Memᴰ r rows → (l : ℕ × ℕ) → Memᴰ l r.1 → l.1 < length rows

-- in a record that is well formed and in range, each link has a feature below 64 and leads to a row
pub decoded-linked : {n : ℕ} {bytes : List ℕ} {rows : List (Row Label)} → Decoded bytes rows → InRange n rows → Linked rows
decoded-linked says ranged =
    record {
      nonempty = says.nonempty;
      features = λ r m. (says.ordered r m).1;
      targets = λ r m. (ranged r m).1;
    }

-- what a feature leads to stands among the links
pub target-source : (ls : List (ℕ × ℕ)) (f w : ℕ) → target ls f ≡ some w → Memᴰ (f, w) ls
unfolding target
target-source [] f w e = none-some e
target-source (l ∷ ls) f w e = go (eqb l.0 f) refl e (target-source ls f w)
  where
    go : (b : Bool) → eqb l.0 f ≡ b → cond b (some l.1) (target ls f) ≡ some w →
        (target ls f ≡ some w → Memᴰ (f, w) ls) → Memᴰ (f, w) (l ∷ ls)
    go true h q later =
        Memᴰ.head (ap₂ {C = ℕ × ℕ} (λ a b. (a, b)) (sym (eqb-true l.0 f h)) (sym (some-injective q)))
    go false h q later = Memᴰ.tail (later q)

-- only a row has links
link-node : (rows : List (Row Label)) (v w f : ℕ) → (graph_of_rows rows).link v f ≡ some w → v < length rows
unfolding target
link-node rows v w f e = go (leb (suc v) (length rows)) refl
  where
    go : (b : Bool) → leb (suc v) (length rows) ≡ b → v < length rows
    go true h = leb-true (suc v) (length rows) h
    go false h =
        let past : length rows ≤ v = omega (arith, leb-false (suc v) (length rows) h) in
        none-some (sym (ap (λ (r : Row Label). target r.1 f) (get_or-eq_default rows (no_label, []) past)) ∙ e)

-- the links of rows that are numbered from k up, each a node and a feature
links_from : ℕ → List (Row Label) → List (ℕ × ℕ)
links_from k [] = []
links_from k (r ∷ rs) = map (λ l. (k, l.0)) r.1 ++ links_from (suc k) rs

links_from-length : (k : ℕ) (rows : List (Row Label)) → length (links_from k rows) ≡ links_in rows
unfolding links_from links_in
links_from-length k [] = refl
links_from-length k (r ∷ rs) =
    omega (
      arith,
      length-append (map (λ l. (k, l.0)) r.1) (links_from (suc k) rs),
      length-map {B = ℕ × ℕ} r.1 (λ l. (k, l.0)),
      links_from-length (suc k) rs,
    )

links_from-member : (rows : List (Row Label)) (k v i f w : ℕ) → i ≡ k + v → target (get_or rows v (no_label, [])).1 f ≡ some w →
    Memᴰ (i, f) (links_from k rows)
unfolding links_from target
links_from-member [] k v i f w q e = none-some e
links_from-member (r ∷ rs) k zero i f w q e =
    Memᴰ.append_left (links_from (suc k) rs)
    (Memᴰ.cast (ap {B = ℕ × ℕ} (λ a. (a, f)) (omega arith)) (Memᴰ.map {B = ℕ × ℕ} (λ l. (k, l.0)) (target-source r.1 f w e)))
links_from-member (r ∷ rs) k (suc v) i f w q e =
    Memᴰ.append_right (map (λ l. (k, l.0)) r.1) (links_from-member rs (suc k) v i f w (omega arith) e)

-- a graph has no more links than its rows list
pub few-links : (rows : List (Row Label)) → links_in rows ≤ 2048 → ManyLinks (graph_of_rows rows) → ⊥
few-links rows few (ls, d, all, h) =
    let listed = distinct-bound ls (links_from 0 rows) d
    (λ l m. let (w, e) = (all l m).1 in links_from-member rows 0 l.0 l.0 l.1 w (omega arith) e) in
    omega (arith, links_from-length 0 rows)

pub node_row : (rows : List (Row Label)) (v : ℕ) → v < length rows → Memᴰ (get_or rows v (no_label, [])) rows
node_row rows v h = get_or-member rows v (no_label, []) h

module _ (rows : List (Row Label)) (linked : Linked rows) where
  pub link-small : (v w f : ℕ) → (graph_of_rows rows).link v f ≡ some w → f < 64
  link-small v w f e =
      linked.features (get_or rows v (no_label, [])) (node_row rows v (link-node rows v w f e)) (f, w)
      (target-source (get_or rows v (no_label, [])).1 f w e)

  link-inside : (v w f : ℕ) → (graph_of_rows rows).link v f ≡ some w → w < length rows
  link-inside v w f e =
      linked.targets (get_or rows v (no_label, [])) (node_row rows v (link-node rows v w f e)) (f, w)
      (target-source (get_or rows v (no_label, [])).1 f w e)

  -- a walk from a row ends at a row
  pub follow-inside : (p : List ℕ) (v w : ℕ) → v < length rows → follow (graph_of_rows rows).link (some v) p ≡ some w →
      w < length rows
  unfolding follow
  follow-inside [] v w h e = let q = some-injective e in omega arith
  follow-inside (f ∷ p) v w h e =
      let (u, d) = follow-start (graph_of_rows rows).link ((graph_of_rows rows).link v f) p w e in
      follow-inside p u w (link-inside v u f d) (ap (λ o. follow (graph_of_rows rows).link o p) (sym d) ∙ e)

  pub reached-inside : (v : ℕ) → Reached (graph_of_rows rows) v → v < length rows
  reached-inside v r = follow-inside r.0 0 v linked.nonempty r.1

  pub reached-listed : (v : ℕ) → Reached (graph_of_rows rows) v → Memᴰ v (from 0 (length rows))
  reached-listed v r = from_member 0 (length rows) v (omega arith) (omega (arith, reached-inside v r))

  -- features below 64, as the theory of graphs asks it
  pub narrow : (v w f : ℕ) → Reached (graph_of_rows rows) v → (graph_of_rows rows).link v f ≡ some w → f < 64
  narrow v w f r e = link-small v w f e

  -- a graph has no more nodes than rows
  pub few-nodes : length rows ≤ 255 → ManyNodes (graph_of_rows rows) → ⊥
  few-nodes short (xs, d, all, h) =
      let few = distinct-bound xs (from 0 (length rows)) d (λ x m. reached-listed x (all x m)) in
      omega (arith, length_from 0 (length rows))
