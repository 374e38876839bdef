-- Rows with the kept links alone: a link is added or passed over, one row follows another, and the words hold the graph that results.
use mathlib.Core.Path.{◌≡◌, refl, sym, ◌∙◌, ap, subst}
use mathlib.Core.List.{List}
use Prim.Native.Nat.{ℕ, ◌+◌, ◌*◌, ◌/◌, ◌%◌, ◌≤◌, ◌<◌}
use native.Mathlib.Decide.{ℕ_discrete}
use native.Mathlib.Omega.{arith}
use lib.ListN.{length, get_or, set, length-set}
use lib.Seq.{get_or-set_same, get_or-set_other}
use Rattle.lattice.specs.Labels.{Known}
use Rattle.layout.specs.Layout.{longest, header, scale, size, row_from, links_from, row_end, label_at, label_from, feature_at, Sound, Place}
use Rattle.layout.specs.Builder.{Open, put_label}
use Rattle.layout.proofs.Builder.{label_same, put-before, label-put, built-begin, built-kept, row_closes, built-node}
use Rattle.layout.proofs.Order.{next_row, place-rises}
use Rattle.keeping.specs.Keeping.{Stays, Markable}
use Rattle.keeping.specs.Thinning.{Thinned, Rows, Kept}

-- The feature and the target of a word that is copied.
pub copied-feature : {w x : ℕ} → w ≡ x → w / scale ≡ x / scale
copied-feature e = ap (λ (w : ℕ). w / scale) e

pub copied-target : {w x : ℕ} → w ≡ x → w % scale ≡ x % scale
copied-target e = ap (λ (w : ℕ). w % scale) e

rises : {a b x y : ℕ} → x ≡ a → y ≡ b → a < b → x < y
rises p q h = omega arith

-- One row.

-- At place k of v's row: the kept links before it are copied.
pub record Thinning (s marks keep : List ℕ) (v k : ℕ) (ws₀ : List ℕ) (start : ℕ) (ws : List ℕ) (end : ℕ) : Type 0 where
  pub ready : Markable s marks keep
  pub inside : v < size s
  pub low : links_from s v ≤ k
  pub high : k ≤ row_end s v
  pub thinned : Thinned s marks keep v k ws₀ start ws end

module _ {s marks keep : List ℕ} {v : ℕ} where
  pub thin-start : {ws : List ℕ} {start : ℕ} → Markable s marks keep → v < size s → length ws ≡ length s → start ≤ links_from s v →
      Thinning s marks keep v (links_from s v) ws start ws start
  thin-start r h long low =
      record {
        ready = r;
        inside = h;
        low = omega arith;
        high = (r.sound.shaped.node v h).begun;
        thinned =
            record {
              long = long;
              same = λ i _ l. refl;
              rises = omega arith;
              short = low;
              source = λ i a b. absurd (omega arith);
              all = λ j p b. absurd (omega (arith, p.low));
              ascending = λ i a b. absurd (omega arith);
            };
      }

  module _ {k : ℕ} {ws₀ : List ℕ} {start : ℕ} {ws : List ℕ} {end : ℕ} (t : Thinning s marks keep v k ws₀ start ws end) (more : k < row_end s v) where
    here : Place s v k
    here = record { inside = t.inside; low = t.low; high = more }

    step : {ws' : List ℕ} {end' : ℕ} → Thinned s marks keep v (k + 1) ws₀ start ws' end' → Thinning s marks keep v (k + 1) ws₀ start ws' end'
    step new = record { ready = t.ready; inside = t.inside; low = omega (arith, t.low); high = omega arith; thinned = new }

    pub thin-room : end < longest
    thin-room =
        omega (arith, t.thinned.short, (t.ready.sound.shaped.node v t.inside).ended, t.ready.short)

    pub thin-inside : end < length ws
    thin-inside =
        omega (arith, t.thinned.short, (t.ready.sound.shaped.node v t.inside).ended, t.thinned.long)

    pub thin-stay : (Stays s marks keep k → ⊥) → Thinning s marks keep v (k + 1) ws₀ start ws end
    thin-stay none =
        step
        (record {
          long = t.thinned.long;
          same = t.thinned.same;
          rises = t.thinned.rises;
          short = omega (arith, t.thinned.short);
          source = λ i a b. let (j, p, l, x, c) = t.thinned.source i a b in (j, p, omega arith, x, c);
          all = λ j p l x. all j p l x (ℕ_discrete j k);
          ascending = t.thinned.ascending;
        })
      where
        all : (j : ℕ) → Place s v j → j < k + 1 → Stays s marks keep j → Dec (j ≡ k) →
            (i : ℕ) × (start ≤ i) × (i < end) × (get_or ws i 0 ≡ get_or s j 0)
        all j p l x (yes e) = absurd (none (subst (Stays s marks keep) e x))
        all j p l x (no d) = t.thinned.all j p (omega arith) x

    pub thin-more : Stays s marks keep k → Thinning s marks keep v (k + 1) ws₀ start (set ws end (get_or s k 0)) (end + 1)
    thin-more stays =
        step
        (record {
          long = length-set ws end w ∙ t.thinned.long;
          same = λ i a b. old i (omega (arith, t.thinned.rises)) ∙ t.thinned.same i a b;
          rises = omega (arith, t.thinned.rises);
          short = omega (arith, t.thinned.short);
          source = λ i a b. source i a b (ℕ_discrete i end);
          all = λ j p l x. all j p l x (ℕ_discrete j k);
          ascending = λ i a b. ascending i a b (ℕ_discrete (i + 1) end);
        })
      where
        w : ℕ
        w = get_or s k 0

        new : List ℕ
        new = set ws end w

        old : (i : ℕ) → i < end → get_or new i 0 ≡ get_or ws i 0
        old i h = get_or-set_other ws end i w 0 (λ e. omega arith)

        last : get_or new end 0 ≡ w
        last = get_or-set_same ws end w 0 thin-inside

        source : (i : ℕ) → start ≤ i → i < end + 1 → Dec (i ≡ end) →
            (j : ℕ) × Place s v j × (j < k + 1) × Stays s marks keep j × (get_or new i 0 ≡ get_or s j 0)
        source i a b (yes e) = (k, here, omega arith, stays, ap (λ (x : ℕ). get_or new x 0) e ∙ last)
        source i a b (no d) =
            let (j, p, l, x, c) = t.thinned.source i a (omega arith) in
            (j, p, omega arith, x, old i (omega arith) ∙ c)

        all : (j : ℕ) → Place s v j → j < k + 1 → Stays s marks keep j → Dec (j ≡ k) →
            (i : ℕ) × (start ≤ i) × (i < end + 1) × (get_or new i 0 ≡ get_or s j 0)
        all j p l x (yes e) = (end, t.thinned.rises, omega arith, last ∙ ap (λ (i : ℕ). get_or s i 0) (sym e))
        all j p l x (no d) =
            let (i, a, b, c) = t.thinned.all j p (omega arith) x in
            (i, a, omega arith, old i b ∙ c)

        ascending : (i : ℕ) → start ≤ i → i + 1 < end + 1 → Dec (i + 1 ≡ end) → feature_at new i < feature_at new (i + 1)
        ascending i a b (yes e) =
            let (j, p, l, x, c) = t.thinned.source i a (omega arith) in
            rises
            (copied-feature (old i (omega arith) ∙ c))
            (copied-feature (ap (λ (x : ℕ). get_or new x 0) e ∙ last))
            (place-rises t.ready.sound.shaped p here l)
        ascending i a b (no d) =
            rises (copied-feature (old i (omega arith))) (copied-feature (old (i + 1) (omega arith)))
            (t.thinned.ascending i a (omega arith))

  -- `Thinning` holds for equal words and places.
  pub thin-as : {k : ℕ} {ws₀ ws ws' : List ℕ} {start end end' : ℕ} → ws' ≡ ws → end' ≡ end → Thinning s marks keep v k ws₀ start ws end →
      Thinning s marks keep v k ws₀ start ws' end'
  thin-as p e t = rw (p, e) t

  pub thin-done : {k : ℕ} {ws₀ ws : List ℕ} {start end : ℕ} → Thinning s marks keep v k ws₀ start ws end → row_end s v ≤ k →
      Thinned s marks keep v (row_end s v) ws₀ start ws end
  thin-done {k} {ws₀} {ws} {start} {end} t l =
      subst (λ (x : ℕ). Thinned s marks keep v x ws₀ start ws end) (omega (arith, t.high)) t.thinned

-- All rows.

-- What the code asks for at the next row.
pub record RowKnown (s : List ℕ) (v at : ℕ) : Type 0 where
  pub small : v < 255
  pub room : at + header ≤ longest
  pub fits : at + header ≤ length s
  pub before : at + header ≤ links_from s v
  pub ended : row_end s v ≤ longest
  pub inside : row_end s v ≤ length s

module _ {s marks keep labels : List ℕ} where
  pub rows_start : (ws : List ℕ) → Markable s marks keep → length ws ≡ length s →
      Rows s marks keep labels 0 (set (set ws 0 (size s)) 1 (row_from s 0)) (row_from s 0)
  rows_start ws r long =
      record {
        long = length-set (set ws 0 (size s)) 1 (row_from s 0) ∙ first-long;
        sized = get_or-set_other (set ws 0 (size s)) 1 0 (row_from s 0) 0 (λ e. omega arith) ∙ get_or-set_same ws 0 (size s) 0 (omega (arith, room, r.sound.shaped.behind));
        built = built-begin (set ws 0 (size s)) (row_from s 0) (omega (arith, r.sound.shaped.behind)) (omega (arith, first-long, room));
        short = omega arith;
        labelled = λ u h. absurd (omega arith);
        each = λ u i h. absurd (omega arith);
        all = λ u j h. absurd (omega arith);
        ascending = λ u i h. absurd (omega arith);
      }
    where
      first-long : length (set ws 0 (size s)) ≡ length s
      first-long = length-set ws 0 (size s) ∙ long

      room : row_from s 0 ≤ length s
      room =
          let node = r.sound.shaped.node 0 r.sound.shaped.nonempty in
          omega (arith, node.begun, node.ended)

  module _ {v at : ℕ} {ws : List ℕ} (ready : Markable s marks keep) (inside : v < size s) (r : Rows s marks keep labels v ws at) where
    pub row-known : RowKnown s v at
    row-known =
        let node = ready.sound.shaped.node v inside in
        record {
          small = omega (arith, ready.small);
          room = omega (arith, r.short, node.begun, node.ended, ready.short);
          fits = omega (arith, r.short, node.begun, node.ended);
          before = omega (arith, r.short);
          ended = omega (arith, node.ended, ready.short);
          inside = node.ended;
        }

    -- The row gets its label and its links.
    module _ {end : ℕ} {begun ws' : List ℕ} (put : begun ≡ put_label ws at (label_from labels (2 * v)))
        (given : Thinned s marks keep v (row_end s v) begun (at + header) ws' end) where
      t : Thinned s marks keep v (row_end s v) (put_label ws at (label_from labels (2 * v))) (at + header) ws' end
      t = subst (λ (l : List ℕ). Thinned s marks keep v (row_end s v) l (at + header) ws' end) put given

      new : List ℕ
      new = set ws' (v + 2) end

      listed : v + 2 < row_from s 0
      listed = omega (arith, ready.sound.shaped.behind)

      -- The words before the row stay.
      kept : (i : ℕ) → i < at → get_or ws' i 0 ≡ get_or ws i 0
      kept i h =
          t.same i (omega arith) (omega arith) ∙ put-before ws at (label_from labels (2 * v)) 0 at (omega arith) i (omega arith) h

      other : (i : ℕ) → (i ≡ v + 2 → ⊥) → get_or new i 0 ≡ get_or ws' i 0
      unfolding new
      other i d = get_or-set_other ws' (v + 2) i end 0 d

      still : (i : ℕ) → i < at → (i ≡ v + 2 → ⊥) → get_or new i 0 ≡ get_or ws i 0
      still i h d = other i d ∙ kept i h

      starts : (u : ℕ) → u < v + 1 → row_from new u ≡ row_from ws u
      starts u h = still (u + 1) (omega (arith, listed, r.built.low)) (λ e. omega arith)

      ends : (u : ℕ) → u < v → row_end new u ≡ row_end ws u
      ends u h = still (u + 2) (omega (arith, listed, r.built.low)) (λ e. omega arith)

      begins : row_from new v ≡ at
      begins = starts v (omega arith) ∙ r.built.next

      last : row_end new v ≡ end
      unfolding new
      last = get_or-set_same ws' (v + 2) end 0 (omega (arith, t.long, listed, r.built.low, row-known.fits))

      place_kept : (u i : ℕ) → u < v → row_from ws u ≤ i → i < row_end ws u → get_or new i 0 ≡ get_or ws i 0
      place_kept u i h low high =
          still i (omega (arith, r.built.ended u h)) (λ e. omega (arith, listed, r.built.lower u h))

      place-new : (i : ℕ) → at ≤ i → get_or new i 0 ≡ get_or ws' i 0
      place-new i h = other i (λ e. omega (arith, listed, r.built.low))

      opened : Open ws' (row_from s 0) v at end
      opened =
          record {
            built = built-kept r.built ws' (t.long ∙ sym r.long) (λ i low high. kept i (omega (arith, listed, r.built.low)));
            headed = t.rises;
            inside = omega (arith, t.long, t.short, row-known.inside);
          }

      pub rows_next : Rows s marks keep labels (v + 1) (set ws' (v + 2) end) end
      unfolding new
      rows_next =
          record {
            long = length-set ws' (v + 2) end ∙ t.long;
            sized = still 0 (omega (arith, listed, r.built.low)) (λ e. omega arith) ∙ r.sized;
            built = row_closes opened listed;
            short = omega (arith, t.short, next_row s v (v + 1) (omega arith));
            labelled = λ u h. labelled u h (ℕ_discrete u v);
            each = λ u i h low high. each u i h low high (ℕ_discrete u v);
            all = λ u j h p x. all u j h p x (ℕ_discrete u v);
            ascending = λ u i h low high. ascending u i h low high (ℕ_discrete u v);
          }
        where
          labelled : (u : ℕ) → u < v + 1 → Dec (u ≡ v) → label_at new u ≡ label_from labels (2 * u)
          labelled u h (yes e) =
              ap (label_at new) e ∙ ap (label_from new) begins ∙
              label_same (put_label ws at (label_from labels (2 * v))) new at (λ i low high. place-new i low ∙ t.same i (omega arith) high) ∙
              label-put ws at (label_from labels (2 * v)) (omega (arith, r.long, row-known.fits)) (omega arith) ∙
              ap (λ (x : ℕ). label_from labels (2 * x)) (sym e)
          labelled u h (no d) =
              let l : u < v = omega arith in
              ap (label_from new) (starts u h) ∙
              label_same ws new (row_from ws u) (λ i low high. place_kept u i l low (omega (arith, r.built.begun u l))) ∙ r.labelled u l

          each : (u i : ℕ) → u < v + 1 → links_from new u ≤ i → i < row_end new u → Dec (u ≡ v) →
              (j : ℕ) × Place s u j × Stays s marks keep j × (get_or new i 0 ≡ get_or s j 0)
          each u i h low high (yes e) =
              let a : row_from new u ≡ at = ap (row_from new) e ∙ begins in
              let b : row_end new u ≡ end = ap (row_end new) e ∙ last in
              let (j, p, l, x, c) = t.source i (omega (arith, a)) (omega (arith, b)) in
              (j, subst (λ (y : ℕ). Place s y j) (sym e) p, x, place-new i (omega (arith, a)) ∙ c)
          each u i h low high (no d) =
              let l : u < v = omega arith in
              let a = starts u h in
              let b = ends u l in
              let (j, p, x, c) = r.each u i l (omega (arith, a)) (omega (arith, b)) in
              (j, p, x, place_kept u i l (omega (arith, a)) (omega (arith, b)) ∙ c)

          all : (u j : ℕ) → u < v + 1 → Place s u j → Stays s marks keep j → Dec (u ≡ v) →
              (i : ℕ) × (links_from new u ≤ i) × (i < row_end new u) × (get_or new i 0 ≡ get_or s j 0)
          all u j h p x (yes e) =
              let a : row_from new u ≡ at = ap (row_from new) e ∙ begins in
              let b : row_end new u ≡ end = ap (row_end new) e ∙ last in
              let q : Place s v j = subst (λ (y : ℕ). Place s y j) e p in
              let (i, low, high, c) = t.all j q q.high x in
              (i, omega (arith, a), omega (arith, b), place-new i (omega arith) ∙ c)
          all u j h p x (no d) =
              let l : u < v = omega arith in
              let a = starts u h in
              let b = ends u l in
              let (i, low, high, c) = r.all u j l p x in
              (i, omega (arith, a), omega (arith, b), place_kept u i l (omega arith) high ∙ c)

          ascending : (u i : ℕ) → u < v + 1 → links_from new u ≤ i → i + 1 < row_end new u → Dec (u ≡ v) → feature_at new i < feature_at new (i + 1)
          ascending u i h low high (yes e) =
              let a : row_from new u ≡ at = ap (row_from new) e ∙ begins in
              let b : row_end new u ≡ end = ap (row_end new) e ∙ last in
              rises (copied-feature (place-new i (omega (arith, a))))
              (copied-feature (place-new (i + 1) (omega (arith, a))))
              (t.ascending i (omega (arith, a)) (omega (arith, b)))
          ascending u i h low high (no d) =
              let l : u < v = omega arith in
              let a = starts u h in
              let b = ends u l in
              rises (copied-feature (place_kept u i l (omega (arith, a)) (omega (arith, b))))
              (copied-feature (place_kept u (i + 1) l (omega (arith, a)) (omega (arith, b))))
              (r.ascending u i l (omega (arith, a)) (omega (arith, b)))

  pub rows-done : {v at : ℕ} {ws : List ℕ} → Rows s marks keep labels v ws at → v ≤ size s → size s ≤ v → Kept s marks keep labels ws
  rows-done {v} {at} {ws} r h l = (at, subst (λ (x : ℕ). Rows s marks keep labels x ws at) (omega arith) r)

  -- The words hold a graph.
  pub rows-sound : {ws : List ℕ} → Markable s marks keep → ((v : ℕ) → v < size s → Known 128 (label_from labels (2 * v))) → Kept s marks keep labels ws → Sound ws
  rows-sound {ws} ready known (at, r) =
      record {
        shaped =
            record {
              nonempty = omega (arith, r.sized, ready.sound.shaped.nonempty);
              few = omega (arith, r.sized, ready.small);
              behind = omega (arith, r.sized, ready.sound.shaped.behind, r.built.lower 0 ready.sound.shaped.nonempty);
              node = built-node r.built r.sized;
              labelled = λ v h. subst (Known 128) (sym (r.labelled v (in-s h))) (known v (in-s h));
              known = λ v i h a b.
                  let (j, p, x, c) = r.each v i (in-s h) a b in
                  subst (λ (f : ℕ). f < 64) (sym (copied-feature c))
                  (ready.sound.shaped.known v j p.inside p.low p.high);
              ascending = λ v i h a b. r.ascending v i (in-s h) a b;
            };
        targets = λ v i h a b.
            let (j, p, x, c) = r.each v i (in-s h) a b in
            rises (copied-target c) r.sized (ready.sound.targets v j p.inside p.low p.high);
      }
    where
      in-s : {v : ℕ} → v < size ws → v < size s
      in-s h = omega (arith, r.sized)
