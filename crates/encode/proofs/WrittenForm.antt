-- This file gets the written form of a graph in words from the numbering of its nodes: the visit over the rows that the words hold finds
-- the nodes that are numbered, their rows are those that are written, and their links are those that are counted. What `write` answers
-- follows.
use mathlib.Core.Path.{◌≡◌, refl, sym, ◌∙◌, ap, ap₂, subst}
use mathlib.Core.Bool.{Bool, cond}
use mathlib.Core.List.{List, [], ◌∷◌, ◌++◌, map, reverse, Memᴰ}
use mathlib.Core.Logic.{⊎_elim}
use mathlib.Core.Option
use mathlib.Core.Option.{Option, none, some}
use Prim.Native.Nat.{ℕ, zero, suc, ◌+◌, ◌-◌, ◌*◌, ◌≤◌, ◌<◌}
use native.Mathlib.Omega.{arith}
use borrow.Author.Tests.{le-leb, lt-leb}
use lib.Dec.{eqb}
use lib.ListN.{length, get_or, take, length-map, length-reverse, get_or-map}
use lib.Seq.{sets, slice, slice-cons, slice_empty, ext_get_or, get_or-take, length-take-le}
use Rattle.std.specs.Prelude.{Ok, Err, Some, None}
use Rattle.graphs.specs.Graph.{Graph}
use Rattle.graphs.specs.Rows.{Row, from, target, links_of}
use Rattle.graphs.specs.Number.{Canonical, canonical, counted, index_of, link_count, out_degree, many_links, many_nodes, row_of, visit, written}
use Rattle.graphs.specs.Difference.{Link}
use Rattle.graphs.specs.Reasons.{along_links, order_in, written_order}
use Rattle.graphs.proofs.Walk.{option-same}
use Rattle.graphs.proofs.Lists.{mem-reverse, mem-unreverse, get_or-index, index-within, tells-eqb, get_or-member, map-listed}
use Rattle.graphs.proofs.Rows.{links_of-length}
use Rattle.graphs.proofs.Form.Invariant.{links_of-cong}
use Rattle.graphs.proofs.Form.Visited.{Grown, visit-all}
use Rattle.lattice.specs.Label.{Label, no_label}
use Rattle.layout.specs.Layout.{Sound, Place, header, longest, size, links_from, row_end, feature_at, target_at, links_at, links_between, graph_in}
use Rattle.layout.proofs.Spans.{link_at, links-at, links-none, links-cons}
use Rattle.layout.proofs.Rows.{row-at}
use Rattle.layout.proofs.Places.{link-known, links-are}
use Rattle.visits.specs.Walks.{Numbers, found_in}
use Rattle.visits.proofs.GraphVisit.{visit-rows}
use Rattle.encoder.specs.Encode.{encoded}
use Rattle.encoder.specs.NumberedRows.{Visited, degree, degrees, number_byte, numbered_row, numbered_rows, ranges, sum_along}
use Rattle.encoder.proofs.WrittenRows.{ranges-upto, sum-reverse, row-ascending, row-degree, row_within, rows-length}
use Rattle.encode.specs.declared.Unwritten.TheVariants.{NoRoom}
use Rattle.encode.specs.Encode.{yielding, written_out}
use Rattle.encode.proofs.Links.{links_of-links, target-member}
use Rattle.encode.proofs.Outcomes.{fitted_short, fitted-room, both-short, both-narrow, both-room}
use Rattle.encode.specs.declared.Unmarked.TheVariants as unmarked
use Rattle.encode.specs.Marks.{MarksFit, Noted, noting, fitted_both, marks_along, marked_out}
use Rattle.encode.proofs.MarkedRows.{marks-length}
use Rattle.encode.proofs.RowPlaces.{rows_fit}

module _ {ws : List ℕ} (sound : Sound ws) where
  abbrev g : Graph Label ℕ
  g = graph_in ws

  abbrev Inside : ℕ → Type 0
  Inside v = v < size ws

  onto : (v w f : ℕ) → Inside v → g.link v f ≡ some w → Inside w
  onto v w f h e = (link-known sound v f w h e).1

  narrow : (v w f : ℕ) → Inside v → g.link v f ≡ some w → f < 64
  narrow v w f h e = (link-known sound v f w h e).0

  -- the links by feature are the row's links, however the targets are named
  row-links : (name : ℕ → ℕ) (v : ℕ) → Inside v →
      links_of (λ f. Option.map name (g.link v f)) (from 0 64) ≡ map {B = ℕ × ℕ} (λ l. (l.0, name l.1)) (links_at ws v)
  row-links name v h =
      ap (λ (r : Row Label). links_of (λ f. Option.map name (target r.1 f)) (from 0 64)) (row-at ws (size ws) 0 v v (no_label, []) (omega arith) h)
      ∙ links_of-links name (links_at ws v) 0 64 (row-ascending sound v h) (row_within sound v h)

  -- nodes have as many links as their rows have places for links
  links-counted : (vs : List ℕ) → ((v : ℕ) → Memᴰ v vs → Inside v) → link_count g.link vs ≡ degrees ws vs
  unfolding link_count sum_along
  links-counted [] inside = refl
  links-counted (v ∷ vs) inside =
      ap₂ (λ (m n : ℕ). m + n) (one (inside v (mathlib.Core.List.Memᴰ.head refl))) (links-counted vs (λ w m. inside w (mathlib.Core.List.Memᴰ.tail m)))
    where
      one : Inside v → out_degree g.link v (from 0 64) ≡ degree ws v
      one h =
          sym (links_of-length g.link (λ x. x) v (from 0 64))
          ∙ ap length (row-links (λ x. x) v h)
          ∙ length-map (links_at ws v) (λ l. (l.0, l.1))
          ∙ row-degree sound v h

  -- The marks tell a value of each link.
  module _ (value : Link ℕ → ℕ → ℕ) (marks : List ℕ) (enough : length ws ≤ length marks)
      (tell : (v k : ℕ) → Place ws v k → get_or marks k 0 ≡ value (v, feature_at ws k) (target_at ws k)) where
    row-values : (v : ℕ) → Inside v → (n a : ℕ) → links_from ws v ≤ a → a + n ≡ row_end ws v →
        map (λ l. value (v, l.0) l.1) (map {B = ℕ × ℕ} (λ l. (l.0, l.1)) (links_between ws a (row_end ws v))) ≡
        slice a (row_end ws v) marks
    row-values v h zero a low e =
        let b : a ≡ row_end ws v = omega arith in
        ap (λ (i : ℕ). map (λ l. value (v, l.0) l.1) (map {B = ℕ × ℕ} (λ l. (l.0, l.1)) (links_between ws i (row_end ws v)))) b
        ∙ ap (λ (ls : List (ℕ × ℕ)). map (λ l. value (v, l.0) l.1) (map {B = ℕ × ℕ} (λ l. (l.0, l.1)) ls)) (links-none ws (row_end ws v))
        ∙ sym (ap (λ (i : ℕ). slice i (row_end ws v) marks) b ∙ slice_empty (row_end ws v) marks)
    row-values v h (suc n) a low e =
        let ended = (sound.shaped.node v h).ended in
        ap (λ (ls : List (ℕ × ℕ)). map (λ l. value (v, l.0) l.1) (map {B = ℕ × ℕ} (λ l. (l.0, l.1)) ls))
        (links-cons ws (row_end ws v) ended a (omega arith))
        ∙ ap₂ (λ (x : ℕ) (xs : List ℕ). x ∷ xs) (sym (tell v a (record { inside = h; low = low; high = omega arith })))
        (row-values v h n (suc a) (omega arith) (omega arith))
        ∙ sym (slice-cons a (row_end ws v) marks 0 (omega arith) (omega (arith, ended)))

    -- the marks of the nodes of a list are the values along their links
    pub marks-tell : (vs : List ℕ) → ((v : ℕ) → Memᴰ v vs → Inside v) → along_links g value vs ≡ marks_along ws marks vs
    unfolding along_links marks_along
    marks-tell [] inside = refl
    marks-tell (v ∷ vs) inside =
        ap₂ (λ (xs ys : List ℕ). xs ++ ys)
        (ap (λ (ls : List (ℕ × ℕ)). map (λ l. value (v, l.0) l.1) ls)
        (links_of-cong (g.link v) (λ f. Option.map (λ x. x) (g.link v f)) (λ f. option-same (g.link v f)) (from 0 64) ∙ row-links (λ x. x) v here)
        ∙ row-values v here (row_end ws v - links_from ws v) (links_from ws v) (omega arith) (omega (arith, (sound.shaped.node v here).begun)))
        (marks-tell vs (λ w m. inside w (mathlib.Core.List.Memᴰ.tail m)))
      where
        here : Inside v
        here = inside v (mathlib.Core.List.Memᴰ.head refl)

  start : Inside 0
  start = sound.shaped.nonempty

  -- a count is there or not
  counted-none : {count : ℕ} → Some count ≡ None → ⊥
  counted-none e = let z : ◌≡◌ {A = ℕ} 0 1 = cc in omega arith

  -- more than 255 nodes
  pub too_many : {numbers visited : List ℕ} → Numbers ws None numbers visited → canonical eqb g ≡ many_nodes
  unfolding canonical
  too_many {numbers} {visited} numbered = go (found_in ws) refl
    where
      go : (o : Option (List ℕ)) → found_in ws ≡ o → counted eqb g (visit eqb g.link 255 0 []) ≡ many_nodes
      go none e = ap (counted eqb g) (visit-rows sound 255 0 [] start ∙ e)
      go (some seen) e = absurd (counted-none (sym (numbered.counted seen e)))

  module _ {count : ℕ} {numbers visited : List ℕ} (numbered : Numbers ws (Some count) numbers visited) (all : length visited ≡ 255) where
    -- the visit, and what it found
    module _ (seen : List ℕ) (e : found_in ws ≡ some seen) where
      visited-rows : visit eqb g.link 255 0 [] ≡ some seen
      visited-rows = visit-rows sound 255 0 [] start ∙ e

      grown : Grown eqb tells-eqb g.link Inside onto narrow [] seen
      grown = (visit-all eqb tells-eqb g.link Inside onto narrow 0 seen start visited-rows).0

      mem-new : (v : ℕ) → Memᴰ v seen → Memᴰ v grown.new
      mem-new v m =
          ⊎_elim (λ n. n) (λ n. absurd (mathlib.Core.List.Memᴰ.not-nil n))
          (mathlib.Core.List.Memᴰ.append_cases grown.new (subst (λ (l : List ℕ). Memᴰ v l) grown.joined m))

      seen-inside : (v : ℕ) → Memᴰ v seen → Inside v
      seen-inside v m = grown.with v (mem-new v m)

      seen-short : length seen ≤ 255
      seen-short = grown.short (omega arith)

      place-low : (w : ℕ) → Memᴰ w seen → index_of eqb w (reverse seen) < length seen
      place-low w m =
          subst (λ (n : ℕ). index_of eqb w (reverse seen) < n) (length-reverse seen)
          (index-within eqb tells-eqb w (reverse seen) (mem-reverse m))

      -- the number of a node is its place
      number_is : (w : ℕ) → Memᴰ w seen → index_of eqb w (reverse seen) ≡ get_or numbers w 0
      number_is w m =
          let i : ℕ = index_of eqb w (reverse seen) in
          let here : get_or (reverse seen) i 0 ≡ w =
          sym (get_or-map (λ (x : ℕ). x) (reverse seen) i 0) ∙ get_or-index eqb tells-eqb (λ x. x) 0 w (reverse seen) (mem-reverse m) in
          sym (ap (λ (x : ℕ). get_or numbers x 0) (sym here) ∙ numbered.by-node seen e i (place-low w m))

      number-low : (w : ℕ) → Memᴰ w seen → get_or numbers w 0 < length seen
      number-low w m = subst (λ (n : ℕ). n < length seen) (number_is w m) (place-low w m)

      number-byte : (w : ℕ) → Memᴰ w seen → index_of eqb w (reverse seen) ≡ number_byte numbers w
      number-byte w m = omega (arith, number_is w m, number-low w m, seen-short)

      link-seen : (v : ℕ) → Memᴰ v seen → (l : ℕ × ℕ) → Memᴰ l (links_at ws v) → Memᴰ l.1 seen
      link-seen v m l n =
          let h : Inside v = seen-inside v m in
          grown.closed v (mem-new v m) l.0 l.1 (links-are ws v l.0 h ∙ target-member l (links_at ws v) (row-ascending sound v h) n)

      row_is : (v : ℕ) → Memᴰ v seen → row_of eqb g (reverse seen) v ≡ numbered_row ws numbers v
      unfolding row_of numbered_row
      row_is v m =
          let h : Inside v = seen-inside v m in
          ap₂ {C = Row Label} (λ (x : Label) (ls : List (ℕ × ℕ)). (x, ls))
          (ap (λ (r : Row Label). r.0) (row-at ws (size ws) 0 v v (no_label, []) (omega arith) h))
          (row-links (λ x. index_of eqb x (reverse seen)) v h
          ∙ map-listed (links_at ws v) (λ l n. ap {B = ℕ × ℕ} (λ (x : ℕ). (l.0, x)) (number-byte l.1 (link-seen v m l n))))

      counted_is : count ≡ length seen
      counted_is = let same : Some count ≡ Some (length seen) = numbered.counted seen e in cc

      visited-is : take count visited ≡ reverse seen
      visited-is =
          let n : length (take count visited) ≡ count = length-take-le count visited (omega (arith, counted_is, seen-short)) in
          ext_get_or 0 (take count visited) (reverse seen) (n ∙ counted_is ∙ sym (length-reverse seen))
          (λ i h. get_or-take count visited i 0 (omega (arith, n)) ∙ numbered.by_number_lem seen e i (omega (arith, n, counted_is)))

      visited-seen : (i : ℕ) → i < count → Memᴰ (get_or visited i 0) seen
      visited-seen i h =
          let low : i < length (reverse seen) = omega (arith, counted_is, length-reverse seen) in
          subst (λ (v : ℕ). Memᴰ v seen) (sym (numbered.by_number_lem seen e i (omega (arith, counted_is))))
          (mem-unreverse (get_or-member (reverse seen) i 0 low))

      rows_are : map (row_of eqb g (reverse seen)) (reverse seen) ≡ numbered_rows ws numbers (take count visited)
      rows_are =
          map-listed (reverse seen) (λ v m. row_is v (mem-unreverse m)) ∙ ap (numbered_rows ws numbers) (sym visited-is)

      links-all : link_count g.link seen ≡ degrees ws (take count visited)
      links-all = links-counted seen seen-inside ∙ sym (sum-reverse (degree ws) seen) ∙ ap (degrees ws) (sym visited-is)

      seen-links : 2048 < degrees ws (take count visited) → canonical eqb g ≡ many_links
      unfolding canonical
      seen-links h =
          ap (counted eqb g) visited-rows
          ∙ ap (λ (t : Bool). cond t (written (map (row_of eqb g (reverse seen)) (reverse seen))) many_links)
          (lt-leb (link_count g.link seen) 2048 (omega (arith, links-all)))

      seen-written : degrees ws (take count visited) ≤ 2048 → canonical eqb g ≡ written (numbered_rows ws numbers (take count visited))
      unfolding canonical
      seen-written h =
          ap (counted eqb g) visited-rows
          ∙ ap (λ (t : Bool). cond t (written (map (row_of eqb g (reverse seen)) (reverse seen))) many_links)
          (le-leb (link_count g.link seen) 2048 (omega (arith, links-all)))
          ∙ ap (λ (rs : List (Row Label)). written rs) rows_are

    found : (seen : List ℕ) × (found_in ws ≡ some seen)
    found = go (found_in ws) refl
      where
        go : (o : Option (List ℕ)) → found_in ws ≡ o → (seen : List ℕ) × (found_in ws ≡ some seen)
        go none e = absurd (counted-none (numbered.full e))
        go (some seen) e = (seen, e)

    few : count ≤ 255
    few = let (seen, e) = found in omega (arith, counted_is seen e, seen-short seen e)

    pub visited-nodes : Visited ws visited count
    visited-nodes =
        record {
          sound = sound;
          few = few;
          long = all;
          nodes = λ i h. let (seen, e) = found in seen-inside seen e (get_or visited i 0) (visited-seen seen e i h);
        }

    -- a link from a node visited leads to one
    pub visited-closed : (i k : ℕ) → i < count → links_from ws (get_or visited i 0) ≤ k → k < row_end ws (get_or visited i 0) →
        get_or numbers (target_at ws k) 0 < count
    visited-closed i k h low high =
        let (seen, e) = found in
        let v : ℕ = get_or visited i 0 in
        let m : Memᴰ v seen = visited-seen seen e i h in
        let inside : Inside v = seen-inside seen e v m in
        omega (
          arith,
          counted_is seen e,
          number-low seen e (target_at ws k)
              (link-seen seen e v m (link_at ws k)
              (links-at ws (row_end ws v) (sound.shaped.node v inside).ended (row_end ws v - links_from ws v) (links_from ws v)
              (omega (arith, (sound.shaped.node v inside).begun)) k low high)),
        )

    -- the rows of the nodes visited have room where the graph has
    pub visited-room : count + 2 + header * count + degrees ws (take count visited) ≤ length ws
    visited-room =
        let (seen, e) = found in
        omega (
          arith,
          counted_is seen e,
          ap (degrees ws) (visited-is seen e) ∙ sum-reverse (degree ws) seen,
          rows_fit sound.shaped seen ((grown seen e).distinct tt) (seen-inside seen e),
        )

    visited-order : written_order eqb g ≡ take count visited
    unfolding written_order
    visited-order = let (seen, e) = found in ap order_in (visited-rows seen e) ∙ sym (visited-is seen e)

    -- more than 2,048 links
    pub many-links : 2048 < degrees ws (take count visited) → canonical eqb g ≡ many_links
    many-links h = let (seen, e) = found in seen-links seen e h

    pub written-rows : degrees ws (take count visited) ≤ 2048 → canonical eqb g ≡ written (numbered_rows ws numbers (take count visited))
    written-rows h = let (seen, e) = found in seen-written seen e h

    abbrev rows : List (Row Label)
    rows = numbered_rows ws numbers (take count visited)

    bytes-length : length (encoded rows) ≡ 1 + 9 * count + 2 * ranges ws (take count visited) + degrees ws (take count visited)
    unfolding encoded
    bytes-length =
        let n : length (take count visited) ≡ count = length-take-le count visited (omega (arith, few)) in
        omega (
          arith,
          n,
          rows-length ws numbers sound (take count visited)
              (λ i h.
              subst (λ (v : ℕ). Inside v) (sym (get_or-take count visited i 0 (omega (arith, n)))) (visited-nodes.nodes i (omega (arith, n)))),
        )

    module _ {links ranged : ℕ} (sums : (links ≡ degrees ws (take count visited)) × (ranged ≡ ranges ws (take count visited))) where
      abbrev size-written : ℕ
      size-written = 1 + 9 * count + 2 * ranged + links

      pub ranges-few : ranged ≤ 255
      ranges-few = omega (arith, sums.1, ranges-upto ws visited count (omega (arith, few)), few)

      length-is : length (encoded rows) ≡ size-written
      length-is = omega (arith, bytes-length, sums.0, sums.1)

      pub measured-fits : links ≤ 2048 → MarksFit ws numbers visited count links size-written
      measured-fits fits =
          record {
            nodes = visited-nodes;
            form = written-rows (omega (arith, sums.0));
            order = visited-order;
            links-are = sums.0;
            length-is = length-is;
          }

-- What writing a graph that fits yields.
module _ {ws numbers visited : List ℕ} {count links len : ℕ} (fits : MarksFit ws numbers visited count links len) (old : List ℕ) where
  abbrev rows_written : List (Row Label)
  rows_written = numbered_rows ws numbers (take count visited)

  pub too_short : length old < len → written_out (canonical eqb (graph_in ws)) old ≡ yielding (Err NoRoom) old
  unfolding written_out
  too_short short =
      ap (λ (form : Canonical Label). written_out form old) fits.form
      ∙ fitted_short (encoded rows_written) old (omega (arith, fits.length-is))

  pub written-whole : len ≤ length old →
      written_out (canonical eqb (graph_in ws)) old ≡ yielding (Ok len) (sets old 0 (encoded rows_written))
  unfolding written_out
  written-whole room =
      ap (λ (form : Canonical Label). written_out form old) fits.form
      ∙ fitted-room (encoded rows_written) old (omega (arith, fits.length-is))
      ∙ ap (λ (n : ℕ). yielding (Ok n) (sets old 0 (encoded rows_written))) fits.length-is

  -- with marks beside
  module _ (marks : List ℕ) (short : length ws ≤ longest) (long : length marks ≡ longest) (beside : List ℕ) where
    abbrev noted : Noted
    noted = marked_out (canonical eqb (graph_in ws)) (marks_along ws marks (written_order eqb (graph_in ws))) old beside

    abbrev marks-written : List ℕ
    marks-written = marks_along ws marks (take count visited)

    marks-count : length marks-written ≡ links
    marks-count =
        let n : length (take count visited) ≡ count = length-take-le count visited (omega (arith, fits.nodes.few, fits.nodes.long)) in
        marks-length ws marks fits.nodes.sound short long (take count visited)
        (λ i h. rw (get_or-take count visited i 0 (omega (arith, n))) (fits.nodes.nodes i (omega (arith, n))))
        ∙ sym fits.links-are

    noted-is : noted ≡ fitted_both (encoded rows_written) marks-written old beside
    unfolding marked_out
    noted-is =
        ap₂ (λ (form : Canonical Label) (vs : List ℕ). marked_out form (marks_along ws marks vs) old beside) fits.form fits.order

    pub marked-short : length old < len → noted ≡ noting (Err (unmarked.Unwritten NoRoom)) old beside
    marked-short h = noted-is ∙ both-short (encoded rows_written) marks-written old beside (omega (arith, fits.length-is))

    module _ (room : len ≤ length old) where
      pub marked-narrow : length beside < links → noted ≡ noting (Err unmarked.NoMarkRoom) old beside
      marked-narrow h =
          noted-is
          ∙ both-narrow (encoded rows_written) marks-written old beside (omega (arith, fits.length-is)) (omega (arith, marks-count))

      pub marked-whole : links ≤ length beside →
          noted ≡ noting (Ok len) (sets old 0 (encoded rows_written)) (sets beside 0 marks-written)
      marked-whole h =
          noted-is
          ∙ both-room (encoded rows_written) marks-written old beside (omega (arith, fits.length-is)) (omega (arith, marks-count))
          ∙ ap (λ (n : ℕ). noting (Ok n) (sets old 0 (encoded rows_written)) (sets beside 0 marks-written))
          fits.length-is
