-- This file is about filling words with a graph: the links of a row are stored one after another by feature, and the rows one after
-- another by the builder. The file shows which rows the words then hold.
use mathlib.Core.Path.{◌≡◌, refl, sym, ◌∙◌, ap, ap₂, subst}
use mathlib.Core.Bool.{true, false}
use mathlib.Core.List.Memᴰ
use mathlib.Core.List.{List, [], ◌∷◌, ◌++◌, map, append-nil, Memᴰ, map-append}
use mathlib.Core.Option.{Option, none, some}
use Prim.Native.Nat.{ℕ, zero, suc, ◌+◌, ◌-◌, ◌*◌, ◌≤◌, ◌<◌}
use native.Mathlib.Decide.{ℕ_discrete}
use native.Mathlib.Nat.{add-zero}
use native.Mathlib.Omega.{arith}
use lib.ListN.{length, get_or, set, length-set, length-append}
use Rattle.graphs.specs.Rows.{Row, features, from, links_of, add_link}
use Rattle.graphs.specs.Large.{Ascending, links_in}
use Rattle.graphs.proofs.Lists.{features-small, from-range}
use Rattle.graphs.proofs.Rows.{links_of-source, links_of-ascending}
use Rattle.lattice.specs.Label.{Label}
use Rattle.lattice.specs.Labels.{Known}
use Rattle.layout.specs.Layout.{header, longest, label_from, link_word, links_between, rows_from, rows_of}
use Rattle.layout.specs.Builder.{Built, Open, Same, put_label}
use Rattle.layout.proofs.Spans.{links-none}
use Rattle.layout.proofs.Builder.{length-put, label-put, put-before, Orderly, built-begin, built-kept, built-shaped, closed-rows, label_same, links-put, row_closes, rows-kept, same-before, same-trans, size_is, size-kept, size-rows}
use Rattle.layout.proofs.Sums.{links-append}
use Rattle.rows.specs.Rows.{label_in, nodes_in}
use Rattle.rows.specs.Filling.{cell, cell_at, placed_links, placed_row, placed_rows, Labelled, Fillable, RowFilled, Filled}

-- Lists.

from-append : (a k m : ℕ) → from a (k + m) ≡ from a k ++ from (a + k) m
unfolding from
from-append a zero m = let e : 0 + m ≡ m = omega arith in ap (from a) e ∙ ap (λ (b : ℕ). from b m) (sym (add-zero a))
from-append a (suc k) m =
    let e : suc k + m ≡ suc (k + m) = omega arith in
    let q : suc a + k ≡ a + suc k = omega arith in
    ap (from a) e ∙ ap (λ (l : List ℕ). a ∷ l) (from-append (suc a) k m ∙ ap (λ (b : ℕ). from (suc a) k ++ from b m) q)

-- the numbers below k + 1 are those below k, and k
pub from_more : (k : ℕ) → from 0 (k + 1) ≡ from 0 k ++ (k ∷ [])
unfolding from
from_more k = let e : 0 + k ≡ k = omega arith in from-append 0 k 1 ∙ ap (λ (b : ℕ). from 0 k ++ (b ∷ [])) e

links_of-append : (next : ℕ → Option ℕ) (xs ys : List ℕ) → links_of next (xs ++ ys) ≡ links_of next xs ++ links_of next ys
unfolding links_of
links_of-append next [] ys = refl
links_of-append next (f ∷ xs) ys = go (next f) (links_of-append next xs ys)
  where
    go : (o : Option ℕ) → links_of next (xs ++ ys) ≡ links_of next xs ++ links_of next ys →
        add_link f o (links_of next (xs ++ ys)) ≡ add_link f o (links_of next xs) ++ links_of next ys
    go none e = e
    go (some w) e = ap (λ (l : List (ℕ × ℕ)). (f, w) ∷ l) e

-- the links by the features below f + 1 are those by the features below f, and the one by f if there is one
pub links-one : (next : ℕ → Option ℕ) (f : ℕ) → links_of next (from 0 (f + 1)) ≡ links_of next (from 0 f) ++ add_link f (next f) []
unfolding links_of
links-one next f = ap (links_of next) (from_more f) ∙ links_of-append next (from 0 f) (f ∷ [])

links-few : (next : ℕ → Option ℕ) (k m : ℕ) → length (links_of next (from 0 k)) ≤ length (links_of next (from 0 (k + m)))
links-few next k m =
    omega (
      arith,
      ap length (ap (links_of next) (from-append 0 k m) ∙ links_of-append next (from 0 k) (from (0 + k) m)),
      length-append (links_of next (from 0 k)) (links_of next (from (0 + k) m)),
    )

-- Cells.

pub cell-none : (c : ℕ) → c ≡ 0 → cell c ≡ none
cell-none c e = ap cell e

pub cell-some : (c : ℕ) → 0 < c → cell c ≡ some (c - 1)
cell-some zero h = absurd (omega arith)
cell-some (suc w) h = let e : w ≡ suc w - 1 = omega arith in ap (λ (x : ℕ). some x) e

-- One row.

-- How far a row is filled: the links by features below f.
pub record Turn (nodes targets : List ℕ) (v at : ℕ) (old new : List ℕ) (next f : ℕ) : Type 0 where
  pub fillable : Fillable nodes targets
  pub inside : v < nodes_in nodes
  pub room : at + header + length (placed_links targets v) ≤ longest
  pub high : f ≤ 64
  pub next-is : next ≡ at + header + length (links_of (cell_at targets v) (from 0 f))
  pub long : length new ≡ longest
  pub kept : Same old new 0 at
  pub label : label_from new at ≡ label_in nodes v
  pub links : links_between new (at + header) next ≡ links_of (cell_at targets v) (from 0 f)

module _ {nodes targets : List ℕ} {v at : ℕ} where
  pub turn-start : (old : List ℕ) {opened : List ℕ} → Fillable nodes targets → v < nodes_in nodes → at + header + length (placed_links targets v) ≤ longest →
      length old ≡ longest → opened ≡ put_label old at (label_in nodes v) → Turn nodes targets v at opened opened (at + header) 0
  unfolding from links_of
  turn-start old s i room long e =
      subst (λ (l : List ℕ). Turn nodes targets v at l l (at + header) 0) (sym e)
      record {
        fillable = s;
        inside = i;
        room = room;
        high = omega arith;
        next-is = omega arith;
        long = length-put old at (label_in nodes v) ∙ long;
        kept = λ k low high. refl;
        label = label-put old at (label_in nodes v) (omega arith) (s.labels v i).highest;
        links = links-none (put_label old at (label_in nodes v)) (at + header);
      }

  module _ {old new : List ℕ} {next f : ℕ} (t : Turn nodes targets v at old new next f) (h : f < 64) where
    abbrev here : ℕ
    here = get_or targets (v * 64 + f) 0

    along : links_of (cell_at targets v) (from 0 (f + 1)) ≡ links_of (cell_at targets v) (from 0 f) ++ add_link f (cell here) []
    along = links-one (cell_at targets v) f

    within : length (links_of (cell_at targets v) (from 0 (f + 1))) ≤ length (placed_links targets v)
    unfolding placed_links
    within =
        let e : f + 1 + (63 - f) ≡ 64 = omega arith in
        subst (λ (n : ℕ). length (links_of (cell_at targets v) (from 0 (f + 1))) ≤ length (links_of (cell_at targets v) (from 0 n))) e
        (links-few (cell_at targets v) (f + 1) (63 - f))

    longer : 0 < here → length (links_of (cell_at targets v) (from 0 (f + 1))) ≡ length (links_of (cell_at targets v) (from 0 f)) + 1
    longer c =
        ap length (along ∙ ap (λ (o : Option ℕ). links_of (cell_at targets v) (from 0 f) ++ add_link f o []) (cell-some here c))
        ∙ length-append (links_of (cell_at targets v) (from 0 f)) ((f, here - 1) ∷ [])

    pub turn-room : 0 < here → next < longest
    turn-room c = omega (arith, within, longer c, t.next-is, t.room)

    pub turn-target : here - 1 < 1024
    turn-target = omega (arith, t.fillable.low (v * 64 + f))

    pub turn-none : here ≡ 0 → Turn nodes targets v at old new next (f + 1)
    turn-none c =
        let same : links_of (cell_at targets v) (from 0 (f + 1)) ≡ links_of (cell_at targets v) (from 0 f) =
        along ∙ ap (λ (o : Option ℕ). links_of (cell_at targets v) (from 0 f) ++ add_link f o []) (cell-none here c)
        ∙ append-nil (links_of (cell_at targets v) (from 0 f)) in
        record {
          fillable = t.fillable;
          inside = t.inside;
          room = t.room;
          high = omega arith;
          next-is = t.next-is ∙ ap (λ (l : List (ℕ × ℕ)). at + header + length l) (sym same);
          long = t.long;
          kept = t.kept;
          label = t.label;
          links = t.links ∙ sym same;
        }

    pub turn-some : {w : ℕ} → 0 < here → w ≡ link_word (f, here - 1) → Turn nodes targets v at old (set new next w) (next + 1) (f + 1)
    turn-some {w} c e =
        let place : next < length new = omega (arith, turn-room c, t.long) in
        record {
          fillable = t.fillable;
          inside = t.inside;
          room = t.room;
          high = omega arith;
          next-is = omega (arith, longer c, t.next-is);
          long = length-set new next w ∙ t.long;
          kept = same-trans old new (set new next w) t.kept (same-before new next w 0 at (omega (arith, t.next-is)));
          label = label_same new (set new next w) at (same-before new next w at (at + header) (omega (arith, t.next-is))) ∙ t.label;
          links =
              ap (λ (x : ℕ). links_between (set new next x) (at + header) (next + 1)) e
              ∙ links-put new (at + header) next (f, here - 1) (omega (arith, t.next-is)) place turn-target
              ∙ ap (λ (ls : List (ℕ × ℕ)). ls ++ ((f, here - 1) ∷ [])) t.links
              ∙ ap (λ (o : Option ℕ). links_of (cell_at targets v) (from 0 f) ++ add_link f o []) (sym (cell-some here c))
              ∙ sym along;
        }

  pub turn-done : (old : List ℕ) {opened new : List ℕ} {next f : ℕ} → opened ≡ put_label old at (label_in nodes v) →
      Turn nodes targets v at opened new next f → 64 ≤ f → RowFilled nodes targets v old at new next
  unfolding placed_links
  turn-done old {opened} {new} {next} {f} is t h =
      let e : f ≡ 64 = omega (arith, t.high) in
      record {
        long = t.long;
        next-is = t.next-is ∙ ap (λ (n : ℕ). at + header + length (links_of (cell_at targets v) (from 0 n))) e;
        kept =
            same-trans old opened new
            (subst (λ (l : List ℕ). Same old l 0 at) (sym is) (put-before old at (label_in nodes v) 0 at (omega arith))) t.kept;
        row =
            ap₂ {C = Row Label} (λ (x : Label) (ls : List (ℕ × ℕ)). (x, ls)) t.label
            (t.links ∙ ap (λ (n : ℕ). links_of (cell_at targets v) (from 0 n)) e);
      }

-- All rows.

-- How far the words are filled: the rows of the first v nodes.
pub record Filling (nodes targets new : List ℕ) (at v : ℕ) : Type 0 where
  pub fillable : Fillable nodes targets
  pub high : v ≤ nodes_in nodes
  pub long : length new ≡ longest
  pub at-is : at ≡ nodes_in nodes + 2 + header * v + links_in (placed_rows nodes targets v)
  pub built : Built new (nodes_in nodes + 2) v at
  pub rows : rows_from new 0 v ≡ placed_rows nodes targets v

module _ (nodes targets : List ℕ) where
  along-rows : (v : ℕ) → placed_rows nodes targets (v + 1) ≡ placed_rows nodes targets v ++ (placed_row nodes targets v ∷ [])
  along-rows v = ap (map (placed_row nodes targets)) (from_more v) ∙ map-append (placed_row nodes targets) (from 0 v) (v ∷ [])

  more-links : (v : ℕ) → links_in (placed_rows nodes targets (v + 1)) ≡ links_in (placed_rows nodes targets v) + length (placed_links targets v)
  unfolding links_in
  more-links v = omega (arith, ap links_in (along-rows v), links-append (placed_rows nodes targets v) (placed_row nodes targets v ∷ []))

  rows_few : (k m : ℕ) → links_in (placed_rows nodes targets k) ≤ links_in (placed_rows nodes targets (k + m))
  rows_few k m =
      omega (
        arith,
        ap links_in (ap (map (placed_row nodes targets)) (from-append 0 k m) ∙ map-append (placed_row nodes targets) (from 0 k) (from (0 + k) m)),
        links-append (placed_rows nodes targets k) (map (placed_row nodes targets) (from (0 + k) m)),
      )

module _ {nodes targets : List ℕ} where
  pub filling-start : (new : List ℕ) → Fillable nodes targets → length new ≡ longest →
      Filling nodes targets (set new 1 (nodes_in nodes + 2)) (nodes_in nodes + 2) 0
  unfolding rows_from from links_in
  filling-start new s long =
      record {
        fillable = s;
        high = omega arith;
        long = length-set new 1 (nodes_in nodes + 2) ∙ long;
        at-is = omega arith;
        built = built-begin new (nodes_in nodes + 2) (omega arith) (omega (arith, s.few));
        rows = refl;
      }

  module _ {new : List ℕ} {at v : ℕ} (c : Filling nodes targets new at v) (h : v < nodes_in nodes) where
    pub filling-room : at + header + length (placed_links targets v) ≤ longest
    filling-room =
        let e : v + 1 + (nodes_in nodes - (v + 1)) ≡ nodes_in nodes = omega arith in
        let few : links_in (placed_rows nodes targets (v + 1)) ≤ links_in (placed_rows nodes targets (nodes_in nodes)) =
        subst (λ (n : ℕ). links_in (placed_rows nodes targets (v + 1)) ≤ links_in (placed_rows nodes targets n)) e
        (rows_few nodes targets (v + 1) (nodes_in nodes - (v + 1))) in
        omega (arith, c.at-is, more-links nodes targets v, c.fillable.links, c.fillable.few)

    module _ {new' : List ℕ} {next : ℕ} (r : RowFilled nodes targets v new at new' next) where
      pub next_low : next ≤ longest
      next_low = omega (arith, r.next-is, filling-room)

      same_length : length new' ≡ length new
      same_length = r.long ∙ sym c.long

      starts : Same new new' 1 (v + 2)
      starts k low high = r.kept k (omega arith) (omega (arith, c.built.listed, c.built.low))

      opened : Open new' (nodes_in nodes + 2) v at next
      opened =
          record {
            built = built-kept c.built new' same_length starts;
            headed = omega (arith, r.next-is);
            inside = omega (arith, r.long, next_low);
          }

      pub filling_step : Filling nodes targets (set new' (v + 2) next) next (v + 1)
      filling_step =
          record {
            fillable = c.fillable;
            high = omega arith;
            long = length-set new' (v + 2) next ∙ r.long;
            at-is = omega (arith, c.at-is, r.next-is, more-links nodes targets v);
            built = row_closes opened (omega arith);
            rows =
                closed-rows opened (omega arith)
                ∙ ap₂ (λ (rs : List (Row Label)) (x : Row Label). rs ++ (x ∷ []))
                (rows-kept c.built new' same_length starts (λ k low high. r.kept k (omega arith) high) ∙ c.rows) r.row
                ∙ sym (along-rows nodes targets v);
          }

  -- the rows are such as a graph has
  placed-orderly : Fillable nodes targets → Orderly (placed_rows nodes targets (nodes_in nodes))
  unfolding placed_links
  placed-orderly s =
      record {
        labels =
            λ r m.
            let (v, i, e) = Memᴰ.of_map (placed_row nodes targets) (from 0 (nodes_in nodes)) m in
            subst (λ (x : Row Label). Known 128 x.0) e (s.labels v (omega (arith, (from-range 0 (nodes_in nodes) v i).1)));
        ascends =
            λ r m.
            let (v, i, e) = Memᴰ.of_map (placed_row nodes targets) (from 0 (nodes_in nodes)) m in
            subst (λ (x : Row Label). Ascending x.1) e (links_of-ascending (cell_at targets v) 0 64);
        features =
            λ r m l j.
            let (v, i, e) = Memᴰ.of_map (placed_row nodes targets) (from 0 (nodes_in nodes)) m in
            features-small l.0
            (links_of-source (cell_at targets v) features l (subst (λ (x : Row Label). Memᴰ l x.1) (sym e) j)).0;
      }

  pub filling-done : {new : List ℕ} {at v : ℕ} → Filling nodes targets new at v → nodes_in nodes ≤ v →
      Filled nodes targets (set new 0 (nodes_in nodes))
  filling-done {new} {at} {v} c h =
      let n : ℕ = nodes_in nodes in
      let e : v ≡ n = omega (arith, c.high) in
      let built : Built new (n + 2) n at = subst (λ (k : ℕ). Built new (n + 2) k at) e c.built in
      let rows : rows_of (set new 0 n) ≡ placed_rows nodes targets n =
      ap (rows_from (set new 0 n) 0) (size_is built n) ∙ size-rows built n ∙ ap (rows_from new 0) (sym e) ∙ c.rows
      ∙ ap (placed_rows nodes targets) e in
      record {
        long = length-set new 0 n ∙ c.long;
        rows_are = rows;
        shaped =
            built-shaped (size-kept built n) (size_is built n) (omega (arith, c.fillable.some-nodes)) (omega (arith, c.fillable.few))
            (subst Orderly (sym rows) (placed-orderly c.fillable));
        small = omega (arith, size_is built n, c.fillable.few);
      }

-- The test of labels.

-- the labels of the first v nodes are such as a record can state
abbrev pub Stated : List ℕ → ℕ → Type 0
Stated nodes v = (u : ℕ) → u < v → Known 128 (label_in nodes u)

pub stated-none : (nodes : List ℕ) → Stated nodes 0
stated-none nodes u h = absurd (omega arith)

pub stated-more : (nodes : List ℕ) (v : ℕ) → Stated nodes v → Known 128 (label_in nodes v) → Stated nodes (v + 1)
stated-more nodes v s k u h = go (ℕ_discrete u v)
  where
    go : Dec (u ≡ v) → Known 128 (label_in nodes u)
    go (yes e) = subst (λ (x : ℕ). Known 128 (label_in nodes x)) (sym e) k
    go (no d) = s u (omega arith)

yes-no : true ≡ false → ⊥
yes-no e = let z : ◌≡◌ {A = ℕ} 0 1 = cc in omega arith

pub stated-stop : (nodes : List ℕ) (v : ℕ) → v < nodes_in nodes → 128 ≤ (label_in nodes v).type → Labelled nodes false
stated-stop nodes v h k = record { known = λ e. absurd (yes-no (sym e)); unknown = λ e. (v, h, k) }

pub stated-end : (nodes : List ℕ) (v : ℕ) → Stated nodes v → nodes_in nodes ≤ v → Labelled nodes true
stated-end nodes v s h = record { known = λ e u i. s u (omega arith); unknown = λ e. absurd (yes-no e) }
