-- This file has the laws of building a graph in words: how to begin, to open a row with its label, to put a link behind others, and to close
-- a row that has its header and its links. The file shows which graph the words hold once the number of nodes is stored, and what a store
-- elsewhere keeps.
use mathlib.Core.Path.{◌≡◌, sym, ◌∙◌, ap, ap₂, subst}
use mathlib.Core.List.{List, [], ◌∷◌, ◌++◌, map, Memᴰ}
use Prim.Native.Nat.{ℕ, ◌+◌, ◌-◌, ◌*◌, ◌/◌, ◌%◌, ◌≤◌, ◌<◌}
use mathlib.Core.Logic.{⊎_elim, inl, inr, ◌⊎◌}
use native.Mathlib.Decide.{ℕ_discrete}
use native.Mathlib.Numerals.{add-one}
use native.Mathlib.Omega.{arith}
use lib.ListN.{length, get_or, set, length-set}
use lib.Seq.{get_or-set_same, get_or-set_other}
use Rattle.graphs.specs.Rows.{Row}
use Rattle.graphs.specs.Large.{Ascending}
use Rattle.lattice.specs.Label.{Label}
use Rattle.lattice.specs.Labels.{Known}
use Rattle.layout.specs.Layout.{header, levels, scale, label_from, link_of, link_word, size, row_from, links_from, row_end, label_at, target_at, links_between, links_at, rows_from, rows_of, Node, Shaped, Sound}
use Rattle.layout.specs.Builder.{Built, Open, Same, put_label}
use Rattle.layout.proofs.Spans.{link_at, slice-same, links-more, links-at, places-ascending}
use Rattle.layout.proofs.Rows.{rows-member, rows_more, rows_alike}

-- What a store keeps.

module _ (ws : List ℕ) (k w : ℕ) where
  pub same-behind : (a b : ℕ) → k < a → Same ws (set ws k w) a b
  same-behind a b h j low high = get_or-set_other ws k j w 0 (λ (e : j ≡ k). omega arith)

  pub same-before : (a b : ℕ) → b ≤ k → Same ws (set ws k w) a b
  same-before a b h j low high = get_or-set_other ws k j w 0 (λ (e : j ≡ k). omega arith)

pub same-trans : (a b c : List ℕ) {start end : ℕ} → Same a b start end → Same b c start end → Same a c start end
same-trans a b c p q k low high = q k low high ∙ p k low high

-- a label depends on its header
pub label_same : (ws ws' : List ℕ) (k : ℕ) → Same ws ws' k (k + header) → label_from ws' k ≡ label_from ws k
label_same ws ws' k same =
    ap₂ {C = Label} (λ (a r : ℕ). record { type = a; lowest = r / levels; highest = r % levels }) (same k (omega arith) (omega arith))
    (same (k + 1) (omega arith) (omega arith))

-- A label that is put: the words keep their length and the rest, and hold it.
module _ (ws : List ℕ) (at : ℕ) (l : Label) where
  abbrev word : ℕ
  word = l.lowest * levels + l.highest

  pub length-put : length (put_label ws at l) ≡ length ws
  unfolding put_label
  length-put = length-set (set ws at l.type) (at + 1) word ∙ length-set ws at l.type

  pub put-before : (a b : ℕ) → b ≤ at → Same ws (put_label ws at l) a b
  unfolding put_label
  put-before a b h =
      same-trans ws (set ws at l.type) (put_label ws at l) (same-before ws at l.type a b h)
      (same-before (set ws at l.type) (at + 1) word a b (omega arith))

  pub put-behind : (a b : ℕ) → at + header ≤ a → Same ws (put_label ws at l) a b
  unfolding put_label
  put-behind a b h =
      same-trans ws (set ws at l.type) (put_label ws at l) (same-behind ws at l.type a b (omega arith))
      (same-behind (set ws at l.type) (at + 1) word a b (omega arith))

  pub label-put : at + header ≤ length ws → l.highest ≤ 255 → label_from (put_label ws at l) at ≡ l
  unfolding put_label
  label-put room high =
      ap₂ {C = Label} (λ (a r : ℕ). record { type = a; lowest = r / levels; highest = r % levels })
      (get_or-set_other (set ws at l.type) (at + 1) at word 0 (λ (e : at ≡ at + 1). omega arith)
      ∙ get_or-set_same ws at l.type 0 (omega arith))
      (get_or-set_same (set ws at l.type) (at + 1) word 0 (omega (arith, length-set ws at l.type)))
      ∙ ap₂ {C = Label} (λ (x y : ℕ). record { type = l.type; lowest = x; highest = y }) (omega arith) (omega arith)

pub links-same : (ws ws' : List ℕ) (a b : ℕ) → a ≤ b → b ≤ length ws → length ws' ≡ length ws → Same ws ws' a b →
    links_between ws' a b ≡ links_between ws a b
unfolding links_between
links-same ws ws' a b h inside long same =
    ap (map link_of) (slice-same ws ws' (b - a) a b (omega arith) inside (omega (arith, long)) same)

-- the word of a link, stored behind the links from a place on
pub links-put : (ws : List ℕ) (a b : ℕ) (l : ℕ × ℕ) → a ≤ b → b < length ws → l.1 < scale →
    links_between (set ws b (link_word l)) a (b + 1) ≡ links_between ws a b ++ (l ∷ [])
links-put ws a b l low room small =
    links-more (set ws b (link_word l)) a b low (omega (arith, length-set ws b (link_word l)))
    ∙ ap₂ (λ (ls : List (ℕ × ℕ)) (m : ℕ × ℕ). ls ++ (m ∷ []))
    (links-same ws (set ws b (link_word l)) a b low (omega arith) (length-set ws b (link_word l))
    (same-before ws b (link_word l) a b (omega arith)))
    (ap link_of (get_or-set_same ws b (link_word l) 0 room) ∙ link-word l small)
  where
    link-word : (m : ℕ × ℕ) → m.1 < scale → link_of (link_word m) ≡ m
    link-word m h = ap₂ {C = ℕ × ℕ} (λ (x y : ℕ). (x, y)) (omega arith) (omega arith)

module _ {ws : List ℕ} {base i at : ℕ} (b : Built ws base i at) where
  -- words stay built if the places that say where rows begin are kept
  pub built-kept : (ws' : List ℕ) → length ws' ≡ length ws → Same ws ws' 1 (i + 2) → Built ws' base i at
  built-kept ws' long same =
      record {
        listed = b.listed;
        low = b.low;
        high = omega (arith, b.high, long);
        next = same (i + 1) (omega arith) (omega arith) ∙ b.next;
        lower = λ v h. omega (arith, same (v + 1) (omega arith) (omega arith), b.lower v h);
        begun = λ v h. omega (arith, same (v + 1) (omega arith) (omega arith), same (v + 2) (omega arith) (omega arith), b.begun v h);
        ended = λ v h. omega (arith, same (v + 2) (omega arith) (omega arith), b.ended v h);
      }

  -- the rows stay the same if the words between `base` and `at` are kept too
  pub rows-kept : (ws' : List ℕ) → length ws' ≡ length ws → Same ws ws' 1 (i + 2) → Same ws ws' base at →
      rows_from ws' 0 i ≡ rows_from ws 0 i
  rows-kept ws' long same within = rows_alike ws ws' i 0 (λ v _ h. row v (omega arith))
    where
      row : (v : ℕ) → v < i → ◌≡◌ {A = Row Label} (label_at ws' v, links_at ws' v) (label_at ws v, links_at ws v)
      row v h =
          let starts : row_from ws' v ≡ row_from ws v = same (v + 1) (omega arith) (omega arith) in
          let ends : row_end ws' v ≡ row_end ws v = same (v + 2) (omega arith) (omega arith) in
          ap₂ {C = Row Label} (λ (x y : ℕ). (label_from ws' x, links_between ws' (x + header) y)) starts ends
          ∙ ap₂ {C = Row Label} (λ (x : Label) (ls : List (ℕ × ℕ)). (x, ls))
          (label_same ws ws' (row_from ws v)
          (λ k low high. within k (omega (arith, b.lower v h)) (omega (arith, b.begun v h, b.ended v h))))
          (links-same ws ws' (links_from ws v) (row_end ws v) (b.begun v h) (omega (arith, b.ended v h, b.high)) long
          (λ k low high. within k (omega (arith, b.lower v h)) (omega (arith, b.ended v h))))

-- To begin: the first row is to begin at `base`.
pub built-begin : (ws : List ℕ) (base : ℕ) → 2 ≤ base → base ≤ length ws → Built (set ws 1 base) base 0 base
built-begin ws base low high =
    record {
      listed = low;
      low = omega arith;
      high = omega (arith, length-set ws 1 base);
      next = get_or-set_same ws 1 base 0 (omega arith);
      lower = λ v h. absurd (omega arith);
      begun = λ v h. absurd (omega arith);
      ended = λ v h. absurd (omega arith);
    }

-- To close the row: the next one begins where it ends.
module _ {ws : List ℕ} {base i at end : ℕ} (o : Open ws base i at end) (room : i + 2 < base) where
  inside : i + 2 < length ws
  inside = omega (arith, o.built.low, o.built.high)

  last : get_or (set ws (i + 2) end) (i + 2) 0 ≡ end
  last = get_or-set_same ws (i + 2) end 0 inside

  kept : Built (set ws (i + 2) end) base i at
  kept = built-kept o.built (set ws (i + 2) end) (length-set ws (i + 2) end) (same-before ws (i + 2) end 1 (i + 2) (omega arith))

  begins : row_from (set ws (i + 2) end) i ≡ at
  begins = kept.next

  pub row_closes : Built (set ws (i + 2) end) base (i + 1) end
  row_closes =
      record {
        listed = omega arith;
        low = omega (arith, o.built.low, o.headed);
        high = omega (arith, length-set ws (i + 2) end, o.inside);
        next = ap (λ (k : ℕ). get_or (set ws (i + 2) end) k 0) (omega arith) ∙ last;
        lower = λ v h. ⊎_elim (λ (e : v < i). kept.lower v e) (λ (e : v ≡ i). lower_last v e) (split v h);
        begun = λ v h. ⊎_elim (λ (e : v < i). kept.begun v e) (λ (e : v ≡ i). begun-last v e) (split v h);
        ended = λ v h. ⊎_elim (λ (e : v < i). omega (arith, kept.ended v e, o.headed)) (λ (e : v ≡ i). ended-last v e) (split v h);
      }
    where
      split : (v : ℕ) → v < i + 1 → (v < i) ⊎ (v ≡ i)
      split v h = go (ℕ_discrete v i)
        where
          go : Dec (v ≡ i) → (v < i) ⊎ (v ≡ i)
          go (yes e) = inr e
          go (no d) = inl (omega arith)

      lower_last : (v : ℕ) → v ≡ i → base ≤ row_from (set ws (i + 2) end) v
      lower_last v e = rw (e, begins) o.built.low

      begun-last : (v : ℕ) → v ≡ i → links_from (set ws (i + 2) end) v ≤ row_end (set ws (i + 2) end) v
      begun-last v e = rw (e, begins, last) o.headed

      ended-last : (v : ℕ) → v ≡ i → row_end (set ws (i + 2) end) v ≤ end
      ended-last v e = rw (e, last) (omega arith)

  none : 0 + i ≡ i
  none = omega arith

  pub closed-rows : rows_from (set ws (i + 2) end) 0 (i + 1)
      ≡ rows_from ws 0 i ++ ((label_from ws at, links_between ws (at + header) end) ∷ [])
  closed-rows =
      ap (rows_from (set ws (i + 2) end) 0) (add-one i)
      ∙ rows_more (set ws (i + 2) end) i 0
      ∙ ap (λ (v : ℕ). rows_from (set ws (i + 2) end) 0 i ++ ((label_at (set ws (i + 2) end) v, links_at (set ws (i + 2) end) v) ∷ [])) none
      ∙ ap₂ (λ (rs : List (Row Label)) (r : Row Label). rs ++ (r ∷ []))
      (rows-kept o.built (set ws (i + 2) end) (length-set ws (i + 2) end) (same-before ws (i + 2) end 1 (i + 2) (omega arith))
      (same-behind ws (i + 2) end base at room))
      (ap₂ {C = Row Label} (λ (x y : ℕ). (label_from (set ws (i + 2) end) x, links_between (set ws (i + 2) end) (x + header) y)) begins last
      ∙ ap₂ {C = Row Label} (λ (x : Label) (ls : List (ℕ × ℕ)). (x, ls))
      (label_same ws (set ws (i + 2) end) at (same-behind ws (i + 2) end at (at + header) (omega (arith, o.built.low))))
      (links-same ws (set ws (i + 2) end) (at + header) end o.headed o.inside (length-set ws (i + 2) end)
      (same-behind ws (i + 2) end (at + header) end (omega (arith, o.built.low)))))

-- To state the number of nodes: word 0 is no part of what is built.
module _ {ws : List ℕ} {base i at : ℕ} (b : Built ws base i at) where
  pub size-kept : (w : ℕ) → Built (set ws 0 w) base i at
  size-kept w = built-kept b (set ws 0 w) (length-set ws 0 w) (same-behind ws 0 w 1 (i + 2) (omega arith))

  pub size-rows : (w : ℕ) → rows_from (set ws 0 w) 0 i ≡ rows_from ws 0 i
  size-rows w =
      rows-kept b (set ws 0 w) (length-set ws 0 w) (same-behind ws 0 w 1 (i + 2) (omega arith))
      (same-behind ws 0 w base at (omega (arith, b.listed)))

  pub size_is : (w : ℕ) → size (set ws 0 w) ≡ w
  size_is w = get_or-set_same ws 0 w 0 (omega (arith, b.listed, b.low, b.high))

-- Rows of a graph: labels that a record can state, and features that ascend below 64.
pub record Orderly (rows : List (Row Label)) : Type 0 where
  pub labels : (r : Row Label) → Memᴰ r rows → Known 128 r.0
  pub ascends : (r : Row Label) → Memᴰ r rows → Ascending r.1
  pub features : (r : Row Label) → Memᴰ r rows → (l : ℕ × ℕ) → Memᴰ l r.1 → l.0 < 64

-- The rows are orderly, and targets are below n.
pub record Aimed (n : ℕ) (rows : List (Row Label)) : Type 0 where
  pub targets : (r : Row Label) → Memᴰ r rows → (l : ℕ × ℕ) → Memᴰ l r.1 → l.1 < n

-- Words that are built, with their number of nodes, hold a graph.
module _ {ws : List ℕ} {base i at : ℕ} (b : Built ws base i at) (sized : size ws ≡ i) where
  pub built-node : (v : ℕ) → v < size ws → Node ws v
  built-node v h =
      record {
        inside = h;
        listed = omega (arith, b.listed, b.low, b.high);
        begun = b.begun v (omega arith);
        ended = omega (arith, b.ended v (omega arith), b.high);
      }

  row-member : (v : ℕ) → v < size ws → Memᴰ {A = Row Label} (label_at ws v, links_at ws v) (rows_of ws)
  row-member v h = rows-member ws (size ws) 0 v v (omega arith) h

  place-member : (v k : ℕ) → v < size ws → links_from ws v ≤ k → k < row_end ws v → Memᴰ {A = ℕ × ℕ} (link_at ws k) (links_at ws v)
  place-member v k h low high =
      links-at ws (row_end ws v) (built-node v h).ended (row_end ws v - links_from ws v) (links_from ws v)
      (omega (arith, (built-node v h).begun)) k low high

  pub built-shaped : 0 < i → i ≤ 510 → Orderly (rows_of ws) → Shaped ws
  built-shaped some few o =
      record {
        nonempty = omega arith;
        few = omega arith;
        behind = omega (arith, b.listed, b.lower 0 some);
        node = built-node;
        labelled = λ v h. o.labels (label_at ws v, links_at ws v) (row-member v h);
        known = λ v k h low high. o.features (label_at ws v, links_at ws v) (row-member v h) (link_at ws k) (place-member v k h low high);
        ascending =
            λ v k h low high.
            places-ascending ws (row_end ws v) (built-node v h).ended (row_end ws v - links_from ws v) (links_from ws v)
            (omega (arith, (built-node v h).begun)) (o.ascends (label_at ws v, links_at ws v) (row-member v h)) k low high;
      }

  pub built-sound : Shaped ws → Aimed i (rows_of ws) → Sound ws
  built-sound s a =
      record {
        shaped = s;
        targets =
            λ v k h low high.
            subst (λ (n : ℕ). target_at ws k < n) (sym sized)
            (a.targets (label_at ws v, links_at ws v) (row-member v h) (link_at ws k) (place-member v k h low high));
      }
