-- This file is about making a planning table: the rows are made link by link along the words, and the node bytes are written label by
-- label.
use mathlib.Core.Path.{◌≡◌, refl, sym, ◌∙◌, ap, ap₂, subst}
use mathlib.Core.List.{List, [], ◌∷◌, ◌++◌, map, append_assoc, append-nil, map-append}
use Prim.Native.Nat.{ℕ, zero, suc, ◌+◌, ◌-◌, ◌*◌, ◌/◌, ◌%◌, ◌≤◌, ◌<◌}
use native.Mathlib.Nat.{add-zero}
use native.Mathlib.Numerals.{add-one}
use native.Mathlib.Omega.{arith}
use lib.ListN.{length, get_or, set, take, drop, length-append, length-drop, length-take}
use lib.Seq.{sets, sets-eq, get_or-take, get_or-drop}
use Rattle.graphs.specs.Rows.{Row}
use Rattle.graphs.specs.Large.{links_in}
use Rattle.graphs.proofs.Stores.{sets-append, sets_more}
use Rattle.lattice.specs.Label.{Label}
use Rattle.layout.specs.Layout.{Shaped, header, scale, size, row_from, links_from, row_end, rows_end, label_at, feature_at, target_at, links_between, links_at, rows_from, rows_of}
use Rattle.layout.proofs.Spans.{link_at, links-none, links-more}
use Rattle.layout.proofs.Rows.{length-rows, rows_more}
use Rattle.layout.proofs.Sums.{degree, links-of-more, rows_end_lem}
use Rattle.rows.specs.declared.Row as lent
use Rattle.rows.specs.Rows.{filled, lent_link, lent_from, lent_rows, lent_nodes}
use Rattle.rows.specs.Lending.{Lendable}

-- one row more
module _ (ws : List ℕ) where
  rows_next : (v : ℕ) → rows_from ws 0 (v + 1) ≡ rows_from ws 0 v ++ ((label_at ws v, links_at ws v) ∷ [])
  rows_next v =
      let e : 0 + v ≡ v = omega arith in
      ap (rows_from ws 0) (add-one v) ∙ rows_more ws v 0
      ∙ ap (λ (u : ℕ). rows_from ws 0 v ++ ((label_at ws u, links_at ws u) ∷ [])) e

  links-next : (v : ℕ) → row_end ws v ≤ length ws → links_in (rows_from ws 0 (v + 1)) ≡ links_in (rows_from ws 0 v) + degree ws v
  links-next v h = ap (λ (n : ℕ). links_in (rows_from ws 0 n)) (add-one v) ∙ links-of-more ws v h

  -- the links of the first rows are no more than all
  links-upto : Shaped ws → (m a : ℕ) → a + m ≤ size ws → links_in (rows_from ws 0 a) ≤ links_in (rows_from ws 0 (a + m))
  links-upto shaped zero a h = let e : a + 0 ≡ a = omega arith in omega (arith, ap (λ (n : ℕ). links_in (rows_from ws 0 n)) e)
  links-upto shaped (suc m) a h =
      let e : a + suc m ≡ a + m + 1 = omega arith in
      omega (
        arith,
        ap (λ (n : ℕ). links_in (rows_from ws 0 n)) e,
        links-next (a + m) (shaped.node (a + m) (omega arith)).ended,
        links-upto shaped m a (omega arith),
      )

lent-append : (rs ss : List (Row Label)) (u : ℕ) → lent_from u (rs ++ ss) ≡ lent_from u rs ++ lent_from (u + length rs) ss
unfolding lent_from
lent-append [] ss u = ap (λ (n : ℕ). lent_from n ss) (sym (add-zero u))
lent-append (r ∷ rs) ss u =
    let e : suc u + length rs ≡ u + suc (length rs) = omega arith in
    ap (λ (l : List lent.Row). map (lent_link u) r.1 ++ l) (lent-append rs ss (suc u) ∙ ap (λ (n : ℕ). lent_from (suc u) rs ++ lent_from n ss) e)
    ∙ sym (append_assoc (map (lent_link u) r.1) (lent_from (suc u) rs) (lent_from (u + suc (length rs)) ss))

-- The rows that are made when place k of node v is reached.
abbrev pub lent_to : List ℕ → ℕ → ℕ → List lent.Row
lent_to ws v k = lent_from 0 (rows_from ws 0 v) ++ map (lent_link v) (links_between ws (links_from ws v) k)

lent-link : (ws : List ℕ) (v k : ℕ) → links_from ws v ≤ k → k < length ws → lent_to ws v (k + 1) ≡ lent_to ws v k ++ (lent_link v (link_at ws k) ∷ [])
lent-link ws v k low high =
    ap (λ (ls : List (ℕ × ℕ)). lent_from 0 (rows_from ws 0 v) ++ map (lent_link v) ls) (links-more ws (links_from ws v) k low high)
    ∙ ap (λ (l : List lent.Row). lent_from 0 (rows_from ws 0 v) ++ l) (map-append (lent_link v) (links_between ws (links_from ws v) k) (link_at ws k ∷ []))
    ∙ sym (append_assoc (lent_from 0 (rows_from ws 0 v)) (map (lent_link v) (links_between ws (links_from ws v) k)) (lent_link v (link_at ws k) ∷ []))

lent_none : (ws : List ℕ) (v : ℕ) → lent_to ws v (links_from ws v) ≡ lent_from 0 (rows_from ws 0 v)
lent_none ws v =
    ap (λ (ls : List (ℕ × ℕ)). lent_from 0 (rows_from ws 0 v) ++ map (lent_link v) ls) (links-none ws (links_from ws v))
    ∙ append-nil (lent_from 0 (rows_from ws 0 v))

lent_row : (ws : List ℕ) (v : ℕ) → lent_from 0 (rows_from ws 0 (v + 1)) ≡ lent_to ws v (row_end ws v)
unfolding lent_from
lent_row ws v =
    let e : 0 + length (rows_from ws 0 v) ≡ v = omega (arith, length-rows ws 0 v) in
    ap (lent_from 0) (rows_next ws v) ∙ lent-append (rows_from ws 0 v) ((label_at ws v, links_at ws v) ∷ []) 0
    ∙ ap (λ (u : ℕ). lent_from 0 (rows_from ws 0 v) ++ (map (lent_link u) (links_at ws v) ++ [])) e
    ∙ ap (λ (l : List lent.Row). lent_from 0 (rows_from ws 0 v) ++ l) (append-nil (map (lent_link v) (links_at ws v)))

-- the words of the links of node v, and word i of them
abbrev span : List ℕ → ℕ → ℕ → List ℕ
span ws begin v = take (row_end ws v - begin) (drop begin ws)

module _ (ws : List ℕ) (v i : ℕ) {begin : ℕ} (e : begin ≡ links_from ws v) where
  pub span-end : row_end ws v ≤ length ws → length (span ws begin v) ≤ i → row_end ws v ≤ links_from ws v + i
  span-end inside h = omega (arith, length-take (row_end ws v - begin) (drop begin ws), length-drop begin ws)

  module _ (h : i < length (span ws begin v)) where
    pub span-inside : links_from ws v + i < row_end ws v
    span-inside = omega (arith, length-take (row_end ws v - begin) (drop begin ws))

    span-at : get_or (span ws begin v) i 0 ≡ get_or ws (links_from ws v + i) 0
    span-at =
        get_or-take (row_end ws v - begin) (drop begin ws) i 0 (omega (arith, span-inside)) ∙ get_or-drop begin ws i 0
        ∙ ap (λ (b : ℕ). get_or ws (b + i) 0) e

    pub span-feature : get_or (span ws begin v) i 0 / scale ≡ feature_at ws (links_from ws v + i)
    span-feature = ap (λ (w : ℕ). w / scale) span-at

    pub span-target : get_or (span ws begin v) i 0 % scale ≡ target_at ws (links_from ws v + i)
    span-target = ap (λ (w : ℕ). w % scale) span-at

-- The first i lent rows are made: those of the links before place k of node v. The others stay.
pub record Making (ws : List ℕ) (old rows : List lent.Row) (i v k : ℕ) : Type 0 where
  pub lendable : Lendable ws
  pub room : links_in (rows_of ws) ≤ length old
  pub high : v ≤ size ws
  pub low : links_from ws v ≤ k
  pub within : v < size ws → k ≤ row_end ws v
  pub count : i + row_from ws 0 + header * v + header ≡ k
  pub made : length (lent_to ws v k) ≡ i
  pub rows_are : rows ≡ sets old 0 (lent_to ws v k)

module _ {ws : List ℕ} {old : List lent.Row} where
  pub making-start : Lendable ws → links_in (rows_of ws) ≤ length old → Making ws old old 0 0 (links_from ws 0)
  unfolding rows_from lent_from
  making-start d enough =
      record {
        lendable = d;
        room = enough;
        high = omega arith;
        low = omega arith;
        within = λ h. (d.sound.shaped.node 0 h).begun;
        count = omega arith;
        made = ap length (lent_none ws 0);
        rows_are = sym (ap (sets old 0) (lent_none ws 0));
      }

  module _ {rows : List lent.Row} {i v k : ℕ} (m : Making ws old rows i v k) (h : v < size ws) where
    abbrev shaped : Shaped ws
    shaped = m.lendable.sound.shaped

    pub making-inside : row_end ws v ≤ length ws
    making-inside = (shaped.node v h).ended

    pub making-room : k < row_end ws v → i < length old
    making-room l =
        let e : v + 1 + (size ws - (v + 1)) ≡ size ws = omega arith in
        let few : links_in (rows_from ws 0 (v + 1)) ≤ links_in (rows_of ws) =
        subst (λ (n : ℕ). links_in (rows_from ws 0 (v + 1)) ≤ links_in (rows_from ws 0 n)) e
        (links-upto ws shaped (size ws - (v + 1)) (v + 1) (omega arith)) in
        omega (
          arith,
          m.count,
          m.room,
          rows_end_lem ws shaped (v + 1) (omega arith),
          ap (λ (n : ℕ). get_or ws n 0) (two v),
        )
      where
        two : (u : ℕ) → u + 1 + 1 ≡ u + 2
        two u = omega arith

    pub making-target : k < row_end ws v → target_at ws k < 256
    making-target l = omega (arith, m.lendable.sound.targets v k h m.low l, m.lendable.small)

    -- place k holds a link, and its row is made
    pub making-link : {f w n : ℕ} → k < row_end ws v → f ≡ feature_at ws k → w ≡ target_at ws k → n ≡ k + 1 →
        Making ws old (set rows i (record { parent = v; feature = f; target = w })) (i + 1) v n
    making-link {f} {w} {n} l p q next =
        let more : lent_to ws v n ≡ lent_to ws v k ++ (lent_link v (link_at ws k) ∷ []) =
        ap (lent_to ws v) next ∙ lent-link ws v k m.low (omega (arith, making-inside)) in
        record {
          lendable = m.lendable;
          room = m.room;
          high = m.high;
          low = omega (arith, m.low);
          within = λ _. omega arith;
          count = omega (arith, m.count);
          made = ap length more ∙ omega (arith, length-append (lent_to ws v k) (lent_link v (link_at ws k) ∷ []), m.made);
          rows_are =
              ap₂ (λ (rs : List lent.Row) (r : lent.Row). set rs i r) m.rows_are
              (ap₂ {C = lent.Row} (λ (x y : ℕ). record { parent = v; feature = x; target = y }) p q)
              ∙ sym (sets_more (lent_to ws v k) old 0 i (lent_link v (link_at ws k)) (omega (arith, m.made)))
              ∙ ap (sets old 0) (sym more);
        }

    -- place k is the end of the row of node v, and node v + 1 comes next
    pub making-row : row_end ws v ≤ k → Making ws old rows i (v + 1) (links_from ws (v + 1))
    making-row l =
        let e : k ≡ row_end ws v = omega (arith, m.within h) in
        let begins : row_from ws (v + 1) ≡ row_end ws v = ap (λ (n : ℕ). get_or ws n 0) (two v) in
        let same : lent_to ws v k ≡ lent_to ws (v + 1) (links_from ws (v + 1)) =
        ap (lent_to ws v) e ∙ sym (lent_row ws v) ∙ sym (lent_none ws (v + 1)) in
        record {
          lendable = m.lendable;
          room = m.room;
          high = omega arith;
          low = omega arith;
          within = λ n. omega (arith, (shaped.node (v + 1) n).begun);
          count = omega (arith, m.count);
          made = ap length (sym same) ∙ m.made;
          rows_are = m.rows_are ∙ ap (sets old 0) same;
        }
      where
        two : (u : ℕ) → u + 1 + 1 ≡ u + 2
        two u = omega arith

  pub making-done : {rows : List lent.Row} {i v : ℕ} → Making ws old rows i v (links_from ws v) → size ws ≤ v → rows ≡ filled (lent_rows (rows_of ws)) old
  making-done {rows} {i} {v} m h =
      let e : v ≡ size ws = omega (arith, m.high) in
      let all : lent_to ws v (links_from ws v) ≡ lent_rows (rows_of ws) = lent_none ws v ∙ ap (λ (n : ℕ). lent_from 0 (rows_from ws 0 n)) e in
      let ends : links_in (rows_of ws) ≡ i =
      omega (arith, m.count, rows_end_lem ws m.lendable.sound.shaped (size ws) (omega arith), ap (row_from ws) e) in
      let long : length (lent_rows (rows_of ws)) ≡ i = ap length (sym all) ∙ m.made in
      m.rows_are ∙ ap (sets old 0) all ∙ sets-eq (lent_rows (rows_of ws)) old 0 (omega (arith, m.room))
      ∙ ap (λ (n : ℕ). lent_rows (rows_of ws) ++ drop n old) (none (length (lent_rows (rows_of ws))))
    where
      none : (n : ℕ) → 0 + n ≡ n
      none n = omega arith

-- Node bytes.

abbrev label_bytes : Label → List ℕ
label_bytes l = l.type ∷ l.lowest ∷ l.highest ∷ []

nodes-append : (rs : List (Row Label)) (r : Row Label) → lent_nodes (rs ++ (r ∷ [])) ≡ lent_nodes rs ++ label_bytes r.0
unfolding lent_nodes
nodes-append [] r = refl
nodes-append (x ∷ rs) r = ap (λ (l : List ℕ). x.0.type ∷ x.0.lowest ∷ x.0.highest ∷ l) (nodes-append rs r)

pub nodes-length : (rs : List (Row Label)) → length (lent_nodes rs) ≡ length rs * 3
unfolding lent_nodes
nodes-length [] = refl
nodes-length (r ∷ rs) = ap (λ (n : ℕ). suc (suc (suc n))) (nodes-length rs) ∙ omega arith

-- the bytes with those of the first v nodes written
abbrev pub written : List ℕ → List ℕ → ℕ → List ℕ
written ws old v = sets old 0 (lent_nodes (rows_from ws 0 v))

module _ (ws old : List ℕ) where
  written-length : (v : ℕ) → length (lent_nodes (rows_from ws 0 v)) ≡ v * 3
  written-length v = nodes-length (rows_from ws 0 v) ∙ ap (λ (n : ℕ). n * 3) (length-rows ws 0 v)

  pub written_next : (v : ℕ) {l : Label} → l ≡ label_at ws v →
      set (set (set (written ws old v) (v * 3) l.type) (v * 3 + 1) l.lowest) (v * 3 + 2) l.highest ≡ written ws old (v + 1)
  written_next v {l} e =
      let at : 0 + length (lent_nodes (rows_from ws 0 v)) ≡ v * 3 = omega (arith, written-length v) in
      let one : v * 3 + 1 ≡ suc (v * 3) = omega arith in
      let two : v * 3 + 2 ≡ suc (suc (v * 3)) = omega arith in
      ap₂ (λ (a b : ℕ). set (set (set (written ws old v) (v * 3) l.type) a l.lowest) b l.highest) one two
      ∙ ap (λ (x : Label). sets (written ws old v) (v * 3) (label_bytes x)) e
      ∙ ap (λ (n : ℕ). sets (written ws old v) n (label_bytes (label_at ws v))) (sym at)
      ∙ sym (sets-append (lent_nodes (rows_from ws 0 v)) old 0 (label_bytes (label_at ws v)))
      ∙ ap (sets old 0) (sym (ap lent_nodes (rows_next ws v) ∙ nodes-append (rows_from ws 0 v) (label_at ws v, links_at ws v)))

  pub written-done : (v : ℕ) → v ≡ size ws → size ws * 3 ≤ length old → written ws old v ≡ filled (lent_nodes (rows_of ws)) old
  written-done v e h =
      ap (written ws old) e ∙ sets-eq (lent_nodes (rows_of ws)) old 0 (omega (arith, written-length (size ws)))
      ∙ ap (λ (n : ℕ). lent_nodes (rows_of ws) ++ drop n old) (none (length (lent_nodes (rows_of ws))))
    where
      none : (n : ℕ) → 0 + n ≡ n
      none n = omega arith

  pub written_none : old ≡ written ws old 0
  unfolding rows_from lent_nodes
  written_none = refl

-- where the last row ends
pub all_end : {ws : List ℕ} → Lendable ws → rows_end ws ≡ row_from ws 0 + size ws * header + links_in (rows_of ws)
all_end {ws} d = rows_end_lem ws d.sound.shaped (size ws) (omega arith)
