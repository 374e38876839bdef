-- This file is about the loops of the encoder: the sums along the nodes visited, the links of a row, and the rows.
use mathlib.Core.Path.{◌≡◌, refl, sym, ◌∙◌, ap, ap₂, subst}
use mathlib.Core.List.{List, [], ◌∷◌, ◌++◌, map, map-map, reverse, reverse-cons}
use Prim.Native.Nat.{ℕ, suc, ◌+◌, ◌-◌, ◌*◌, ◌%◌, ◌^◌, ◌≤◌, ◌<◌}
use native.Mathlib.Nat.{add-zero}
use native.Mathlib.Numerals.{add-one}
use native.Mathlib.Omega.{arith}
use lib.ListN.{length, get_or, set, take, drop, length-append, length-map, length-set, take-append-drop}
use lib.Seq.{sets, take-suc, take-take, length-sets, length-take-le}
use lib.Bits.{bit_or}
use lib.Pow.{pow_pos}
use Rattle.std.proofs.lemmas.List.{get_or-take}
use Rattle.graphs.specs.Rows.{from}
use Rattle.graphs.specs.Large.{Ascending}
use Rattle.lattice.specs.Label.{Label}
use Rattle.layout.specs.Layout.{Node, Sound, size, links_from, row_end, label_at, feature_at, target_at, links_between, links_at}
use Rattle.layout.proofs.Spans.{link_at, links-none, links-more, length-links, links-ascending, links-member}
use Rattle.encoder.specs.Encode.{bits_from, encoded_label, encoded_row, encoded_rows, encoded}
use Rattle.encoder.specs.NumberedRows.{Visited, degree, degrees, low_bytes, number_byte, numbered_row, numbered_rows, range_count, ranges, sum_along}
use Rattle.graphs.proofs.Stores.{sets-append, sets_more}
use Rattle.encoder.proofs.RowBytes.{length-low_bytes, map_snoc, map-alike, row-stored, rows_more}
use Rattle.encoder.proofs.LabelBytes.{label-length}
use Rattle.encoder.proofs.Lengths.{row-length}
use Rattle.encoder.proofs.FeatureMap.{Within, map_of, map-none, map_more, map-bytes, bits-renamed, or_above, above-next}

pub visited-node : {ws vs : List ℕ} {count : ℕ} → Visited ws vs count → (i : ℕ) → i < count → Node ws (get_or vs i 0)
visited-node {vs = vs} v i h = v.sound.shaped.node (get_or vs i 0) (v.nodes i h)

pub visited-small : {ws vs : List ℕ} {count : ℕ} → Visited ws vs count → (i : ℕ) → i < count → get_or vs i 0 < 510
visited-small v i h = omega (arith, v.nodes i h, v.sound.shaped.few)

-- The first `count` nodes visited, as a list of their own.
module _ {ws vs : List ℕ} {count : ℕ} (v : Visited ws vs count) where
  taken-long : length (take count vs) ≡ count
  taken-long = length-take-le count vs (omega (arith, v.few, v.long))

  pub taken-inside : (i : ℕ) → i < length (take count vs) → i < count
  taken-inside i h = omega (arith, taken-long)

  pub taken-is : (i : ℕ) → i < length (take count vs) → get_or (take count vs) i 0 ≡ get_or vs i 0
  taken-is i h = get_or-take count vs i 0 (taken-inside i h)

  pub taken-end : (i : ℕ) → length (take count vs) ≤ i → count ≤ i
  taken-end i h = omega (arith, taken-long)

-- Sums along nodes.

module _ (number : ℕ → ℕ) where
  sum-append : (us vs : List ℕ) → sum_along number (us ++ vs) ≡ sum_along number us + sum_along number vs
  unfolding sum_along
  sum-append [] vs = omega arith
  sum-append (u ∷ us) vs = omega (arith, sum-append us vs)

  pub sum-none : (vs : List ℕ) → sum_along number (take 0 vs) ≡ 0
  unfolding sum_along
  sum-none vs = refl

  pub sum_more : (vs : List ℕ) (i : ℕ) → i < length vs →
      sum_along number (take (i + 1) vs) ≡ sum_along number (take i vs) + number (get_or vs i 0)
  unfolding sum_along
  sum_more vs i h =
      let e : i + 1 ≡ suc i = omega arith in
      ap (λ (n : ℕ). sum_along number (take n vs)) e
      ∙ ap (sum_along number) (take-suc vs i 0 h)
      ∙ sum-append (take i vs) (get_or vs i 0 ∷ [])
      ∙ ap (λ (n : ℕ). sum_along number (take i vs) + n) (add-zero (number (get_or vs i 0)))

  -- a turn of a loop that sums
  sum_step : (vs : List ℕ) (i : ℕ) {sum : ℕ} → i < length vs → sum ≡ sum_along number (take i vs) →
      sum + number (get_or vs i 0) ≡ sum_along number (take (i + 1) vs)
  sum_step vs i h e = ap (λ (m : ℕ). m + number (get_or vs i 0)) e ∙ sym (sum_more vs i h)

  -- the order of the nodes does not count
  pub sum-reverse : (vs : List ℕ) → sum_along number (reverse vs) ≡ sum_along number vs
  unfolding sum_along
  sum-reverse [] = refl
  sum-reverse (v ∷ vs) =
      omega (
        arith,
        ap (sum_along number) (reverse-cons v vs),
        sum-append (reverse vs) (v ∷ []),
        sum-reverse vs,
      )

  -- the sum of fewer nodes is no larger
  pub sum-upto : (vs : List ℕ) (i n : ℕ) → i ≤ n → sum_along number (take i vs) ≤ sum_along number (take n vs)
  sum-upto vs i n h =
      let us : List ℕ = take n vs in
      omega (
        arith,
        ap (sum_along number) (take-take i n vs h),
        sum-append (take i us) (drop i us),
        ap (sum_along number) (take-append-drop i us),
      )

-- 1 where the range of node v is written, else 0
abbrev range_at : List ℕ → ℕ → ℕ
range_at ws v = range_count (label_at ws v)

ranges-short : (ws vs : List ℕ) → ranges ws vs ≤ length vs
unfolding sum_along
ranges-short ws [] = omega arith
ranges-short ws (v ∷ vs) = omega (arith, label-length (label_at ws v), ranges-short ws vs)

pub ranges-upto : (ws vs : List ℕ) (i : ℕ) → i ≤ length vs → ranges ws (take i vs) ≤ i
ranges-upto ws vs i h = omega (arith, ranges-short ws (take i vs), length-take-le i vs h)

-- The links and the ranges of the first i nodes visited are summed.
pub record Summed (ws vs : List ℕ) (count links ranged i : ℕ) : Type 0 where
  pub visited : Visited ws vs count
  pub high : i ≤ count
  pub links-are : links ≡ degrees ws (take i vs)
  pub ranges-are : ranged ≡ ranges ws (take i vs)
  pub links-low : links ≤ 65535 * i

module _ {ws vs : List ℕ} {count : ℕ} where
  pub summed-start : Visited ws vs count → Summed ws vs count 0 0 0
  summed-start visited =
      record {
        visited = visited;
        high = omega arith;
        links-are = sym (sum-none (degree ws) vs);
        ranges-are = sym (sum-none (range_at ws) vs);
        links-low = omega arith;
      }

  module _ {links ranged i : ℕ} (s : Summed ws vs count links ranged i) where
    pub summed-few : ranged ≤ i
    summed-few = omega (arith, s.ranges-are, ranges-upto ws vs i (omega (arith, s.high, s.visited.few, s.visited.long)))

    pub summed-step : {more : ℕ} → i < count → row_end ws (get_or vs i 0) < 65536 → more ≡ range_at ws (get_or vs i 0) →
        Summed ws vs count (links + degree ws (get_or vs i 0)) (ranged + more) (i + 1)
    summed-step h low e =
        let inside : i < length vs = omega (arith, s.visited.few, s.visited.long) in
        record {
          visited = s.visited;
          high = omega arith;
          links-are = sum_step (degree ws) vs i inside s.links-are;
          ranges-are = ap (λ (n : ℕ). ranged + n) e ∙ sum_step (range_at ws) vs i inside s.ranges-are;
          links-low = omega (arith, s.links-low);
        }

    pub summed-done : count ≤ i → (links ≡ degrees ws (take count vs)) × (ranged ≡ ranges ws (take count vs))
    summed-done h =
        let e : i ≡ count = omega (arith, s.high) in (
          s.links-are ∙ ap (λ (n : ℕ). degrees ws (take n vs)) e,
          s.ranges-are ∙ ap (λ (n : ℕ). ranges ws (take n vs)) e,
        )

-- A row.

-- From one place to another there are features below 64 that ascend, and targets that can have a number.
pub record Placed (ws : List ℕ) (start end : ℕ) : Type 0 where
  pub rising : start ≤ end
  pub inside : end ≤ length ws
  pub known : (k : ℕ) → start ≤ k → k < end → feature_at ws k < 64
  pub ascending : (k : ℕ) → start ≤ k → k + 1 < end → feature_at ws k < feature_at ws (k + 1)
  pub within : (k : ℕ) → start ≤ k → k < end → target_at ws k < 510

row-placed : {ws : List ℕ} → Sound ws → (v : ℕ) → v < size ws → Placed ws (links_from ws v) (row_end ws v)
row-placed sound v h =
    record {
      rising = (sound.shaped.node v h).begun;
      inside = (sound.shaped.node v h).ended;
      known = λ k low high. sound.shaped.known v k h low high;
      ascending = λ k low high. sound.shaped.ascending v k h low high;
      within = λ k low high. omega (arith, sound.targets v k h low high, sound.shaped.few);
    }

-- the byte of a link
abbrev pub link_byte : List ℕ → ℕ × ℕ → ℕ
link_byte numbers l = number_byte numbers l.1

-- one link more is stored
links-step : (numbers out ws : List ℕ) (at start k next : ℕ) → start ≤ k → k < length ws → next ≡ at + (k - start) →
    sets out at (map (link_byte numbers) (links_between ws start (k + 1)))
    ≡ set (sets out at (map (link_byte numbers) (links_between ws start k))) next (number_byte numbers (target_at ws k))
links-step numbers out ws at start k next low high e =
    ap (λ (l : List (ℕ × ℕ)). sets out at (map (link_byte numbers) l)) (links-more ws start k low high)
    ∙ ap (sets out at) (map_snoc (link_byte numbers) (links_between ws start k) (link_at ws k))
    ∙ sets_more (map (link_byte numbers) (links_between ws start k)) out at next (number_byte numbers (target_at ws k))
    (omega (arith, length-map (links_between ws start k) (link_byte numbers), length-links ws start k (omega arith)))

-- the features of links
abbrev pub features : List (ℕ × ℕ) → List ℕ
features links = map (λ l. l.0) links

-- The links of a row are written up to place k. The map of the row is to stand at place `at`.
pub record Turn (ws numbers : List ℕ) (at start end : ℕ) (old out : List ℕ) (word next k : ℕ) : Type 0 where
  pub placed : Placed ws start end
  pub room : at + 8 + (end - start) ≤ length old
  pub low : start ≤ k
  pub high : k ≤ end
  pub next-is : next ≡ at + 8 + (k - start)
  pub length-is : length out ≡ length old
  pub out-is : out ≡ sets old (at + 8) (map (link_byte numbers) (links_between ws start k))
  pub word-is : word ≡ map_of (features (links_between ws start k))
  pub small : word < 2 ^ 64
  pub above : k < end → word < 2 ^ feature_at ws k

module _ {ws numbers : List ℕ} {at start end : ℕ} where
  turn-start : {old : List ℕ} → Placed ws start end → at + 8 + (end - start) ≤ length old →
      Turn ws numbers at start end old old 0 (at + 8) start
  turn-start {old} p h =
      record {
        placed = p;
        room = h;
        low = omega arith;
        high = p.rising;
        next-is = omega arith;
        length-is = refl;
        out-is = sym (ap (λ (l : List (ℕ × ℕ)). sets old (at + 8) (map (link_byte numbers) l)) (links-none ws start));
        word-is = sym (ap (λ (l : List (ℕ × ℕ)). map_of (features l)) (links-none ws start) ∙ map-none);
        small = pow_pos 64;
        above = λ _. pow_pos (feature_at ws start);
      }

  pub turn_step : {old out : List ℕ} {word next k : ℕ} → Turn ws numbers at start end old out word next k → k < end →
      Turn ws numbers at start end old (set out next (number_byte numbers (target_at ws k)))
      (bit_or word ((1 * 2 ^ feature_at ws k) % 2 ^ 64)) (next + 1) (k + 1)
  turn_step {old} {out} {word} {next} {k} t h =
      let f : ℕ = feature_at ws k in
      let sum : bit_or word ((1 * 2 ^ f) % 2 ^ 64) ≡ word + 2 ^ f = or_above word f (t.above h) (t.placed.known k t.low h) in
      record {
        placed = t.placed;
        room = t.room;
        low = omega (arith, t.low);
        high = omega arith;
        next-is = omega (arith, t.low, t.next-is);
        length-is = length-set out next (number_byte numbers (target_at ws k)) ∙ t.length-is;
        out-is =
            ap (λ (l : List ℕ). set l next (number_byte numbers (target_at ws k))) t.out-is
            ∙ sym (links-step numbers old ws (at + 8) start k next t.low (omega (arith, t.placed.inside)) t.next-is);
        word-is =
            sum
            ∙ ap (λ (n : ℕ). n + 2 ^ f) t.word-is
            ∙ sym
            (ap (λ (l : List (ℕ × ℕ)). map_of (features l)) (links-more ws start k t.low (omega (arith, t.placed.inside)))
            ∙ ap map_of (map_snoc (λ l. l.0) (links_between ws start k) (link_at ws k))
            ∙ map_more (features (links_between ws start k)) f);
        small = subst (λ (n : ℕ). n < 2 ^ 64) (sym sum) (above-next word f 64 (t.above h) (t.placed.known k t.low h));
        above = λ h'.
            subst (λ (n : ℕ). n < 2 ^ feature_at ws (k + 1)) (sym sum)
            (above-next word f (feature_at ws (k + 1)) (t.above h) (t.placed.ascending k t.low h'));
      }

module _ {ws : List ℕ} (sound : Sound ws) (v : ℕ) (h : v < size ws) where
  placed : Placed ws (links_from ws v) (row_end ws v)
  placed = row-placed sound v h

  filled : links_from ws v + (row_end ws v - links_from ws v) ≡ row_end ws v
  filled = omega (arith, placed.rising)

  pub row-ascending : Ascending (links_at ws v)
  row-ascending =
      links-ascending ws (row_end ws v) placed.inside (links_from ws v) placed.ascending (row_end ws v - links_from ws v)
      (links_from ws v) (omega arith) filled

  pub row_within : Within 0 64 (links_at ws v)
  row_within l m =
      let (k, low, high, e, _) = links-member ws (row_end ws v) placed.inside (row_end ws v - links_from ws v) (links_from ws v) filled l m in
      omega (arith, e, placed.known k low high)

  pub row-degree : length (links_at ws v) ≡ degree ws v
  row-degree = length-links ws (links_from ws v) (row_end ws v) placed.inside

  abbrev label : List ℕ
  label = encoded_label (label_at ws v)

  abbrev feature_map : List ℕ
  feature_map = low_bytes 8 (map_of (features (links_at ws v)))

  -- the bytes of the row: label, map, numbers
  row-bytes : (numbers : List ℕ) →
      encoded_row (numbered_row ws numbers v) ≡ label ++ feature_map ++ map (link_byte numbers) (links_at ws v)
  unfolding encoded_row numbered_row
  row-bytes numbers =
      ap₂ (λ (xs ys : List ℕ). label ++ xs ++ ys)
      (maps ∙ sym (map-bytes (links_at ws v) row-ascending row_within))
      (map-map (λ l. l.1) (λ l. (l.0, number_byte numbers l.1)) (links_at ws v))
    where
      maps : map (λ k. bits_from (map {B = ℕ × ℕ} (λ l. (l.0, number_byte numbers l.1)) (links_at ws v)) (8 * k) 8) (from 0 8)
          ≡ map (λ k. bits_from (links_at ws v) (8 * k) 8) (from 0 8)
      maps = map-alike (λ k. bits-renamed (number_byte numbers) (links_at ws v) (8 * k) 8) (from 0 8)

  numbered-length : (numbers : List ℕ) → length (encoded_row (numbered_row ws numbers v)) ≡ length label + 8 + degree ws v
  unfolding numbered_row
  numbered-length numbers =
      omega (
        arith,
        row-length (numbered_row ws numbers v),
        length-map {B = ℕ × ℕ} (links_at ws v) (λ l. (l.0, number_byte numbers l.1)),
        row-degree,
      )

  module _ (numbers : List ℕ) (at : ℕ) {l : Label} (is : l ≡ label_at ws v) (out : List ℕ)
      (room : at + length (encoded_row (numbered_row ws numbers v)) ≤ length out) where
    pub label-room : (l.type < 128) × (at + length (encoded_label l) ≤ length out)
    label-room = (
      subst (λ (m : Label). m.type < 128) (sym is) (sound.shaped.labelled v h).type,
      omega (arith, ap (λ (m : Label). length (encoded_label m)) is, numbered-length numbers),
    )

    -- The label is written.
    module _ {old : List ℕ} {mapAt : ℕ} (put : (mapAt ≡ at + length (encoded_label l)) × (old ≡ sets out at (encoded_label l))) where
      map-place : mapAt ≡ at + length label
      map-place = put.0 ∙ ap (λ (m : Label). at + length (encoded_label m)) is

      label-put : old ≡ sets out at label
      label-put = put.1 ∙ ap (λ (m : Label). sets out at (encoded_label m)) is

      pub map-room : mapAt + 8 + degree ws v ≤ length out
      map-room = omega (arith, map-place, numbered-length numbers)

      pub row-start : Turn ws numbers mapAt (links_from ws v) (row_end ws v) old old 0 (mapAt + 8) (links_from ws v)
      row-start = turn-start placed (omega (arith, map-room, ap length label-put, length-sets out at label))

      -- the row is written once its map is put between its label and its targets
      pub row_done : {out' last : List ℕ} {word next k : ℕ} →
          Turn ws numbers mapAt (links_from ws v) (row_end ws v) old out' word next k →
          row_end ws v ≤ k → last ≡ sets out' mapAt (low_bytes 8 word) →
          (next ≡ at + length (encoded_row (numbered_row ws numbers v))) × (last ≡ sets out at (encoded_row (numbered_row ws numbers v)))
      row_done {out'} {last} {word} {next} {k} t low e =
          let same : k ≡ row_end ws v = omega (arith, t.high) in (
            omega (arith, t.next-is, same, map-place, numbered-length numbers),
            e
                ∙ ap₂ (λ (o : List ℕ) (n : ℕ). sets o mapAt (low_bytes 8 n))
                (t.out-is ∙ ap (λ (j : ℕ). sets old (mapAt + 8) (map (link_byte numbers) (links_between ws (links_from ws v) j))) same)
                (t.word-is ∙ ap (λ (j : ℕ). map_of (features (links_between ws (links_from ws v) j))) same)
                ∙ ap₂ (λ (o : List ℕ) (m : ℕ). sets (sets o (m + 8) (map (link_byte numbers) (links_at ws v))) m feature_map) label-put map-place
                ∙ row-stored out at label feature_map (map (link_byte numbers) (links_at ws v))
                (length-low_bytes 8 (map_of (features (links_at ws v))))
                ∙ ap (sets out at) (sym (row-bytes numbers)),
          )

-- The rows.

module _ (ws numbers : List ℕ) where
  abbrev bytes_along : List ℕ → List ℕ
  bytes_along vs = encoded_rows (numbered_rows ws numbers vs)

  -- rows take nine bytes for each node, two for each range and one for each link
  pub rows-length : Sound ws → (vs : List ℕ) → ((i : ℕ) → i < length vs → get_or vs i 0 < size ws) →
      length (bytes_along vs) ≡ 9 * length vs + 2 * ranges ws vs + degrees ws vs
  unfolding encoded_rows sum_along
  rows-length sound [] h = refl
  rows-length sound (v ∷ vs) h =
      length-append (encoded_row (numbered_row ws numbers v)) (bytes_along vs)
      ∙ omega (
        arith,
        numbered-length sound v (h 0 (omega arith)) numbers,
        label-length (label_at ws v),
        rows-length sound vs (λ i l. h (suc i) (omega arith)),
      )

  -- The rows of the first i nodes of a list are written.
  pub record Progress (vs old out : List ℕ) (at i : ℕ) : Type 0 where
    pub at-is : at ≡ 1 + length (bytes_along (take i vs))
    pub length-is : length out ≡ length old
    pub out-is : out ≡ sets old 1 (bytes_along (take i vs))

  pub progress_start : (vs old : List ℕ) → Progress vs old old 1 0
  unfolding encoded_rows
  progress_start vs old = record { at-is = refl; length-is = refl; out-is = refl }

  abbrev row_length : ℕ → ℕ
  row_length v = length (encoded_row (numbered_row ws numbers v))

  rows-sum : (vs : List ℕ) → length (bytes_along vs) ≡ sum_along row_length vs
  unfolding encoded_rows sum_along
  rows-sum [] = refl
  rows-sum (v ∷ vs) =
      length-append (encoded_row (numbered_row ws numbers v)) (bytes_along vs) ∙ ap (λ (n : ℕ). row_length v + n) (rows-sum vs)

  rows_upto : (vs : List ℕ) (i n : ℕ) → i ≤ n → length (bytes_along (take i vs)) ≤ length (bytes_along (take n vs))
  rows_upto vs i n h = omega (arith, rows-sum (take i vs), rows-sum (take n vs), sum-upto row_length vs i n h)

  module _ (vs : List ℕ) (i : ℕ) (inside : i < length vs) where
    abbrev row : List ℕ
    row = encoded_row (numbered_row ws numbers (get_or vs i 0))

    along : bytes_along (take (i + 1) vs) ≡ bytes_along (take i vs) ++ row
    along =
        ap (λ (n : ℕ). bytes_along (take n vs)) (add-one i)
        ∙ ap bytes_along (take-suc vs i 0 inside)
        ∙ ap encoded_rows (map_snoc (numbered_row ws numbers) (take i vs) (get_or vs i 0))
        ∙ rows_more (numbered_rows ws numbers (take i vs)) (numbered_row ws numbers (get_or vs i 0))

    longer : length (bytes_along (take (i + 1) vs)) ≡ length (bytes_along (take i vs)) + length row
    longer = ap length along ∙ length-append (bytes_along (take i vs)) row

    pub progress-room : {old out : List ℕ} {at count : ℕ} → Progress vs old out at i → i < count →
        length (encoded (numbered_rows ws numbers (take count vs))) ≤ length old → at + length row ≤ length out
    unfolding encoded
    progress-room {old} {out} {at} {count} p h room =
        omega (
          arith,
          p.at-is,
          p.length-is,
          longer,
          rows_upto vs (i + 1) count (omega arith),
        )

    pub progress_step : {old out last : List ℕ} {at next : ℕ} → Progress vs old out at i →
        (next ≡ at + length row) × (last ≡ sets out at row) → Progress vs old last next (i + 1)
    progress_step {old} {out} {last} {at} {next} p (e, q) =
        record {
          at-is = omega (arith, p.at-is, longer);
          length-is = ap length q ∙ length-sets out at row ∙ p.length-is;
          out-is =
              q
              ∙ ap₂ (λ (o : List ℕ) (n : ℕ). sets o n row) p.out-is p.at-is
              ∙ sym (sets-append (bytes_along (take i vs)) old 1 row)
              ∙ ap (sets old 1) (sym along);
        }

  -- the record is written once all rows are, behind their number
  pub progress-done : (vs out : List ℕ) {last : List ℕ} {at i count : ℕ} → Progress vs (set out 0 (count % 256)) last at i → i ≡ count →
      count ≤ 255 → count ≤ length vs → last ≡ sets out 0 (encoded (numbered_rows ws numbers (take count vs)))
  unfolding encoded
  progress-done vs out {last} {at} {i} {count} p e small enough =
      let n : count % 256 ≡ length (numbered_rows ws numbers (take count vs)) =
      omega (arith, length-map (take count vs) (numbered_row ws numbers), length-take-le count vs enough) in
      p.out-is
      ∙ ap₂ (λ (c j : ℕ). sets (set out 0 c) 1 (bytes_along (take j vs))) n e
