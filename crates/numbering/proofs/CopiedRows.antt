-- This file is about renumbering: the links of a row are stored one after another, and the rows one after another by the builder. The words
-- then hold the rows of the written form, and are sound.
use mathlib.Core.Path.{◌≡◌, refl, sym, ◌∙◌, ap, ap₂, subst}
use mathlib.Core.Bool.{true, false}
use mathlib.Core.List.{List, [], ◌∷◌, ◌++◌, map}
use mathlib.Core.Option.{some}
use Prim.Native.Nat.{ℕ, ◌+◌, ◌-◌, ◌*◌, ◌%◌, ◌≤◌, ◌<◌}
use native.Mathlib.Numerals.{add-one}
use native.Mathlib.Omega.{arith}
use lib.Dec.{eqb}
use lib.ListN.{length, get_or, set, take, length-set}
use lib.Seq.{take-suc}
use Rattle.graphs.specs.Graph.{Reached}
use Rattle.graphs.specs.Rows.{Row}
use Rattle.graphs.specs.Number.{Canonical, canonical, many_nodes, many_links, written}
use Rattle.graphs.proofs.Lists.{tells-eqb}
use Rattle.graphs.proofs.Form.Rules.{form-ascending, form-features, form-labels, form-nonempty, form-short, form-targets}
use Rattle.lattice.specs.Label.{Label}
use Rattle.lattice.specs.Labels.{Known}
use Rattle.layout.specs.Layout.{longest, Sound, graph_in, header, size, links_from, row_end, label_at, label_from, feature_at, target_at, link_word, links_between, rows_from, rows_of}
use Rattle.layout.specs.Builder.{Built, Open, Same, put_label}
use Rattle.layout.proofs.Spans.{link_at, links-none, links-more}
use Rattle.layout.proofs.Rows.{length-rows}
use Rattle.layout.proofs.Places.{label-at, link-known}
use Rattle.layout.proofs.Reaching.{reached-inside}
use Rattle.layout.proofs.Builder.{length-put, label-put, put-before, Aimed, Orderly, built-begin, built-kept, built-shaped, built-sound, closed-rows, label_same, links-put, row_closes, rows-kept, same-before, same-trans, size_is, size-kept, size-rows}
use Rattle.std.specs.Prelude.{Some}
use Rattle.visits.specs.Walks.{Numbers}
use Rattle.encoder.specs.NumberedRows.{degree, degrees, number_byte, numbered_row, numbered_rows}
use Rattle.encoder.proofs.RowBytes.{map_snoc}
use Rattle.encoder.proofs.WrittenRows.{sum_more, sum-none, sum-upto}
use Rattle.encode.proofs.WrittenForm.{visited-closed, visited-nodes, written-rows}
use Rattle.numbering.specs.Copies.{Closed, Numbered, Renumbers, RowCopied, RowsCopied}

-- One row.

-- a link, its target by number
abbrev by_number : List ℕ → ℕ × ℕ → ℕ × ℕ
by_number numbers l = (l.0, number_byte numbers l.1)

-- How far a row is copied: the links of the places up to k.
pub record Turn (ws numbers : List ℕ) (v at : ℕ) (old new : List ℕ) (next k : ℕ) : Type 0 where
  pub numbered : Numbered ws numbers v
  pub short : at + header + degree ws v ≤ longest
  pub room : at + header + degree ws v ≤ length old
  pub low : links_from ws v ≤ k
  pub high : k ≤ row_end ws v
  pub next-is : next ≡ at + header + (k - links_from ws v)
  pub long : length new ≡ length old
  pub kept : Same old new 0 at
  pub label : label_from new at ≡ label_at ws v
  pub links : links_between new (at + header) next ≡ map (by_number numbers) (links_between ws (links_from ws v) k)

module _ {ws numbers : List ℕ} {v at : ℕ} where
  pub turn-start : (old : List ℕ) {opened : List ℕ} → Numbered ws numbers v → at + header + degree ws v ≤ longest → at + header + degree ws v ≤ length old →
      opened ≡ put_label old at (label_at ws v) → Turn ws numbers v at opened opened (at + header) (links_from ws v)
  turn-start old n short room e =
      subst (λ (l : List ℕ). Turn ws numbers v at l l (at + header) (links_from ws v)) (sym e)
      record {
        numbered = n;
        short = short;
        room = omega (arith, length-put old at (label_at ws v));
        low = omega arith;
        high = (n.sound.shaped.node v n.inside).begun;
        next-is = omega arith;
        long = refl;
        kept = λ k low high. refl;
        label = label-put old at (label_at ws v) (omega arith) (n.sound.shaped.labelled v n.inside).highest;
        links =
            links-none (put_label old at (label_at ws v)) (at + header)
            ∙ ap (map (by_number numbers)) (sym (links-none ws (links_from ws v)));
      }

  module _ {old new : List ℕ} {next k : ℕ} (t : Turn ws numbers v at old new next k) where
    pub turn-ended : row_end ws v ≤ length ws
    turn-ended = (t.numbered.sound.shaped.node v t.numbered.inside).ended

    pub turn-target : k < row_end ws v → target_at ws k < 510
    turn-target h =
        omega (arith, t.numbered.sound.targets v k t.numbered.inside t.low h, t.numbered.sound.shaped.few)

    pub turn-feature : k < row_end ws v → feature_at ws k < 64
    turn-feature h = t.numbered.sound.shaped.known v k t.numbered.inside t.low h

    pub turn-number : k < row_end ws v → get_or numbers (target_at ws k) 0 < 256
    turn-number h = t.numbered.low k t.low h

    pub turn-short : k < row_end ws v → next < longest
    turn-short h = omega (arith, t.short, t.low, t.next-is)

    pub turn-room : k < row_end ws v → next < length new
    turn-room h = omega (arith, t.room, t.low, t.next-is, t.long)

    pub turn_step : {w : ℕ} → k < row_end ws v → w ≡ link_word (feature_at ws k, get_or numbers (target_at ws k) 0) →
        Turn ws numbers v at old (set new next w) (next + 1) (k + 1)
    turn_step {w} h e =
        let number : ℕ = get_or numbers (target_at ws k) 0 in
        let small : number < 256 = turn-number h in
        let here : next < length new = turn-room h in
        let byte : number ≡ number % 256 = omega arith in
        record {
          numbered = t.numbered;
          short = t.short;
          room = t.room;
          low = omega (arith, t.low);
          high = omega arith;
          next-is = omega (arith, t.low, t.next-is);
          long = length-set new next w ∙ t.long;
          kept = same-trans old new (set new next w) t.kept (same-before new next w 0 at (omega (arith, t.next-is)));
          label =
              label_same new (set new next w) at (same-before new next w at (at + header) (omega (arith, t.next-is))) ∙ t.label;
          links =
              ap (λ (x : ℕ). links_between (set new next x) (at + header) (next + 1)) e
              ∙ links-put new (at + header) next (feature_at ws k, number) (omega (arith, t.next-is)) here (omega arith)
              ∙ ap₂ (λ (ls : List (ℕ × ℕ)) (x : ℕ). ls ++ ((feature_at ws k, x) ∷ [])) t.links byte
              ∙ sym (map_snoc (by_number numbers) (links_between ws (links_from ws v) k) (link_at ws k))
              ∙ ap (map (by_number numbers)) (sym (links-more ws (links_from ws v) k t.low (omega (arith, turn-ended))));
        }

  pub turn-done : (old : List ℕ) {opened new : List ℕ} {next k : ℕ} → opened ≡ put_label old at (label_at ws v) →
      Turn ws numbers v at opened new next k → row_end ws v ≤ k → RowCopied ws numbers v old at new next
  unfolding numbered_row
  turn-done old {opened} {new} {next} {k} is t h =
      let e : k ≡ row_end ws v = omega (arith, t.high) in
      record {
        long = t.long ∙ ap length is ∙ length-put old at (label_at ws v);
        next-is = t.next-is ∙ ap (λ (j : ℕ). at + header + (j - links_from ws v)) e;
        kept =
            same-trans old opened new
            (subst (λ (l : List ℕ). Same old l 0 at) (sym is) (put-before old at (label_at ws v) 0 at (omega arith))) t.kept;
        row =
            ap₂ {C = Row Label} (λ (x : Label) (ls : List (ℕ × ℕ)). (x, ls)) t.label
            (t.links ∙ ap (λ (j : ℕ). map (by_number numbers) (links_between ws (links_from ws v) j)) e);
      }

-- All rows.

-- How far the rows are copied: those of the first i nodes visited.
pub record Copying (ws numbers vs : List ℕ) (count room : ℕ) (new : List ℕ) (at i : ℕ) : Type 0 where
  pub closed : Closed ws numbers vs count
  pub high : i ≤ count
  pub fits : count + 2 + header * count + degrees ws (take count vs) ≤ room
  pub long : length new ≡ room
  pub at-is : at ≡ count + 2 + header * i + degrees ws (take i vs)
  pub built : Built new (count + 2) i at
  pub rows : rows_from new 0 i ≡ numbered_rows ws numbers (take i vs)

module _ {ws numbers vs : List ℕ} {count : ℕ} where
  pub copying-start : (new : List ℕ) → Closed ws numbers vs count → count + 2 + header * count + degrees ws (take count vs) ≤ length new →
      Copying ws numbers vs count (length (set new 1 (count + 2))) (set new 1 (count + 2)) (count + 2) 0
  unfolding rows_from
  copying-start new c fits =
      record {
        closed = c;
        high = omega arith;
        fits = omega (arith, length-set new 1 (count + 2));
        long = refl;
        at-is = omega (arith, sum-none (degree ws) vs);
        built = built-begin new (count + 2) (omega arith) (omega arith);
        rows = refl;
      }

  -- copying keeps the length
  pub copying-same : (new : List ℕ) {now : List ℕ} {at i : ℕ} → Copying ws numbers vs count (length (set new 1 (count + 2))) now at i →
      length (set now 0 count) ≡ length new
  copying-same new {now} c = length-set now 0 count ∙ c.long ∙ length-set new 1 (count + 2)

  module _ {new : List ℕ} {room at i : ℕ} (c : Copying ws numbers vs count room new at i) (h : i < count) where
    inside : i < length vs
    inside = omega (arith, c.closed.nodes.few, c.closed.nodes.long)

    pub copying-numbered : Numbered ws numbers (get_or vs i 0)
    copying-numbered =
        record {
          sound = c.closed.nodes.sound;
          inside = c.closed.nodes.nodes i h;
          low = λ k low high. omega (arith, c.closed.low i k h low high, c.closed.nodes.few);
        }

    copying-upto : at + header + degree ws (get_or vs i 0) ≤ count + 2 + header * count + degrees ws (take count vs)
    copying-upto =
        omega (arith, c.at-is, sum_more (degree ws) vs i inside, sum-upto (degree ws) vs (i + 1) count (omega arith))

    pub copying-short : at + header + degree ws (get_or vs i 0) ≤ longest
    copying-short = omega (arith, copying-upto, c.closed.nodes.few, c.closed.links)

    pub copying-room : at + header + degree ws (get_or vs i 0) ≤ length new
    copying-room = omega (arith, copying-upto, c.fits, c.long)

    along : numbered_rows ws numbers (take (i + 1) vs) ≡ numbered_rows ws numbers (take i vs) ++ (numbered_row ws numbers (get_or vs i 0) ∷ [])
    along =
        ap (λ (n : ℕ). numbered_rows ws numbers (take n vs)) (add-one i)
        ∙ ap (numbered_rows ws numbers) (take-suc vs i 0 inside)
        ∙ map_snoc (numbered_row ws numbers) (take i vs) (get_or vs i 0)

    module _ {new' : List ℕ} {next : ℕ} (r : RowCopied ws numbers (get_or vs i 0) new at new' next) where
      pub next_low : next ≤ longest
      next_low = omega (arith, r.next-is, copying-short)

      starts : Same new new' 1 (i + 2)
      starts k low high = r.kept k (omega arith) (omega (arith, c.built.listed, c.built.low))

      opened : Open new' (count + 2) i at next
      opened =
          record {
            built = built-kept c.built new' r.long starts;
            headed = omega (arith, r.next-is);
            inside = omega (arith, r.long, r.next-is, copying-room);
          }

      pub copying-step : Copying ws numbers vs count room (set new' (i + 2) next) next (i + 1)
      copying-step =
          record {
            closed = c.closed;
            high = omega arith;
            fits = c.fits;
            long = length-set new' (i + 2) next ∙ r.long ∙ c.long;
            at-is = omega (arith, c.at-is, r.next-is, sum_more (degree ws) vs i inside);
            built = row_closes opened (omega arith);
            rows =
                closed-rows opened (omega arith)
                ∙ ap₂ (λ (rs : List (Row Label)) (x : Row Label). rs ++ (x ∷ []))
                (rows-kept c.built new' r.long starts (λ k low high. r.kept k (omega arith) high) ∙ c.rows) r.row
                ∙ sym along;
          }

  pub copying-done : {new : List ℕ} {room at i : ℕ} → Copying ws numbers vs count room new at i → count ≤ i →
      RowsCopied ws numbers vs count (set new 0 count)
  copying-done {new} {room} {at} {i} c h =
      let e : i ≡ count = omega (arith, c.high) in
      let built : Built new (count + 2) count at = subst (λ (n : ℕ). Built new (count + 2) n at) e c.built in
      record {
        end = at;
        built = size-kept built count;
        sized = size_is built count;
        rows =
            ap (rows_from (set new 0 count) 0) (size_is built count)
            ∙ size-rows built count
            ∙ ap (rows_from new 0) (sym e)
            ∙ c.rows
            ∙ ap (λ (n : ℕ). numbered_rows ws numbers (take n vs)) e;
      }

-- The rows of a written form are a graph's.
module _ {ws : List ℕ} (sound : Sound ws) {rows : List (Row Label)} (form : canonical eqb (graph_in ws) ≡ written rows) where
  narrow : (v w f : ℕ) → Reached (graph_in ws) v → (graph_in ws).link v f ≡ some w → f < 64
  narrow v w f r e = (link-known sound v f w (reached-inside sound v r) e).0

  form-orderly : Orderly rows
  form-orderly =
      record {
        labels =
            λ r m.
            let (v, reached, e) = form-labels eqb tells-eqb (graph_in ws) narrow rows form r m in
            let h : v < size ws = reached-inside sound v reached in
            subst (Known 128) (sym (e ∙ label-at ws v h)) (sound.shaped.labelled v h);
        ascends = form-ascending eqb tells-eqb (graph_in ws) narrow rows form;
        features = form-features eqb tells-eqb (graph_in ws) narrow rows form;
      }

  form-aimed : Aimed (length rows) rows
  form-aimed = record { targets = form-targets eqb tells-eqb (graph_in ws) narrow rows form }

  -- words that are built of them are sound
  built-form : {new : List ℕ} {base end : ℕ} → Built new base (size new) end → rows_of new ≡ rows → Sound new × (size new ≤ 255)
  built-form {new} b e =
      let n : size new ≡ length rows = sym (length-rows new 0 (size new)) ∙ ap length e in
      let root : 0 < size new = omega (arith, form-nonempty eqb tells-eqb (graph_in ws) narrow rows form) in
      let few : size new ≤ 255 = omega (arith, form-short eqb tells-eqb (graph_in ws) narrow rows form) in (
        built-sound b refl (built-shaped b refl root (omega arith) (subst Orderly (sym e) form-orderly))
            (ap₂-aimed (sym n) (sym e) form-aimed),
        few,
      )
    where
      ap₂-aimed : {m n : ℕ} {xs ys : List (Row Label)} → m ≡ n → xs ≡ ys → Aimed m xs → Aimed n ys
      ap₂-aimed {m} {n} {xs} {ys} p q a =
          subst (λ (k : ℕ). Aimed k ys) p (subst (λ (zs : List (Row Label)). Aimed m zs) q a)

-- What renumbering promises for each form.

-- a form is not of two kinds
nodes-written : (rows : List (Row Label)) → ◌≡◌ {A = Canonical Label} many_nodes (written rows) → ⊥
nodes-written rows e = let z : ◌≡◌ {A = ℕ} 0 1 = cc in omega arith

links-written : (rows : List (Row Label)) → ◌≡◌ {A = Canonical Label} many_links (written rows) → ⊥
links-written rows e = let z : ◌≡◌ {A = ℕ} 0 1 = cc in omega arith

module _ {form : Canonical Label} {new : List ℕ} where
  pub renumbers-nodes : form ≡ many_nodes → Renumbers form false new
  renumbers-nodes e =
      record {
        answers = λ rows q. absurd (nodes-written rows (sym e ∙ q));
        rows_are = λ rows q. absurd (nodes-written rows (sym e ∙ q));
        sound = λ rows q. absurd (nodes-written rows (sym e ∙ q));
        small = λ rows q. absurd (nodes-written rows (sym e ∙ q));
        many-nodes = λ q. refl;
        many-links = λ q. refl;
      }

  pub renumbers-links : form ≡ many_links → Renumbers form false new
  renumbers-links e =
      record {
        answers = λ rows q. absurd (links-written rows (sym e ∙ q));
        rows_are = λ rows q. absurd (links-written rows (sym e ∙ q));
        sound = λ rows q. absurd (links-written rows (sym e ∙ q));
        small = λ rows q. absurd (links-written rows (sym e ∙ q));
        many-nodes = λ q. refl;
        many-links = λ q. refl;
      }

  renumbers-rows : form ≡ written (rows_of new) → Sound new → size new ≤ 255 → Renumbers form true new
  renumbers-rows e s h =
      record {
        answers = λ rows q. refl;
        rows_are = λ rows q. same rows (sym e ∙ q);
        sound = λ rows q. s;
        small = λ rows q. h;
        many-nodes = λ q. absurd (nodes-written (rows_of new) (sym q ∙ e));
        many-links = λ q. absurd (links-written (rows_of new) (sym q ∙ e));
      }
    where
      same : (rows : List (Row Label)) → ◌≡◌ {A = Canonical Label} (written (rows_of new)) (written rows) → rows_of new ≡ rows
      same rows q = cc

module _ {ws : List ℕ} (sound : Sound ws) {count : ℕ} {numbers visited : List ℕ} (numbered : Numbers ws (Some count) numbers visited)
    (all : length visited ≡ 255) {links : ℕ} (sum : links ≡ degrees ws (take count visited)) (fits : links ≤ 2048) where
  pub visited-numbered : Closed ws numbers visited count
  visited-numbered =
      record {
        nodes = visited-nodes sound numbered all;
        low = visited-closed sound numbered all;
        links = omega arith;
      }

  -- once the rows of the nodes visited are copied, the graph is renumbered
  pub renumbered : {new : List ℕ} → RowsCopied ws numbers visited count new → Renumbers (canonical eqb (graph_in ws)) true new
  renumbered {new} r =
      let form : canonical eqb (graph_in ws) ≡ written (rows_of new) =
      written-rows sound numbered all (omega arith) ∙ ap (λ (rows : List (Row Label)). written rows) (sym r.rows) in
      let held = built-form sound form (subst (λ (n : ℕ). Built new (count + 2) n r.end) (sym r.sized) r.built) refl in
      renumbers-rows form held.0 held.1
