-- This file is about marks of links in record order: one row's marks are stored behind another's, and there are as many as links.
use mathlib.Core.Path.{◌≡◌, refl, sym, ◌∙◌, ap, ap₂}
use mathlib.Core.List.{List, [], ◌∷◌, ◌++◌, append-nil, append_assoc}
use Prim.Native.Nat.{ℕ, suc, ◌+◌, ◌-◌, ◌≤◌, ◌<◌}
use native.Mathlib.Omega.{arith}
use native.Mathlib.Numerals.{add-one}
use lib.ListN.{length, get_or, set, take, length-append, length-set}
use lib.Seq.{sets, slice, slice_empty, length-slice, length-sets, take-suc, get_or-take, length-take-le}
use Rattle.layout.specs.Layout.{Sound, size, links_from, row_end, longest}
use Rattle.layout.proofs.Spans.{slice-more}
use Rattle.encoder.specs.NumberedRows.{Visited, degree, degrees, sum_along}
use Rattle.encoder.proofs.WrittenRows.{sum_more, sum-upto}
use Rattle.encode.specs.Marks.{marks_along}
use Rattle.graphs.proofs.Stores.{sets-append, sets_more}

-- The marks of a row are written for the places before k.
pub record MarkTurn (marks : List ℕ) (start end at : ℕ) (old out : List ℕ) (next k : ℕ) : Type 0 where
  pub low : start ≤ k
  pub high : k ≤ end
  pub inside : end ≤ longest
  pub long : length marks ≡ longest
  pub room : at + (end - start) ≤ length old
  pub next-is : next ≡ at + (k - start)
  pub length-is : length out ≡ length old
  pub out-is : out ≡ sets old at (slice start k marks)

module _ {marks : List ℕ} {start end at : ℕ} {old : List ℕ} where
  pub turn-start : start ≤ end → end ≤ longest → length marks ≡ longest → at + (end - start) ≤ length old →
      MarkTurn marks start end at old old at start
  turn-start a b l r =
      record {
        low = omega arith;
        high = a;
        inside = b;
        long = l;
        room = r;
        next-is = omega arith;
        length-is = refl;
        out-is = sym (ap (sets old at) (slice_empty start marks));
      }

  module _ {out : List ℕ} {next k : ℕ} (t : MarkTurn marks start end at old out next k) where
    pub turn_step : k < end → MarkTurn marks start end at old (set out next (get_or marks k 0)) (next + 1) (k + 1)
    turn_step h =
        record {
          low = omega (arith, t.low);
          high = omega arith;
          inside = t.inside;
          long = t.long;
          room = t.room;
          next-is = omega (arith, t.low, t.next-is);
          length-is = length-set out next (get_or marks k 0) ∙ t.length-is;
          out-is =
              ap (λ (l : List ℕ). set l next (get_or marks k 0)) t.out-is
              ∙ sym
              (ap (sets old at) (slice-more start k marks 0 t.low (omega (arith, t.inside, t.long)))
              ∙ sets_more (slice start k marks) old at next (get_or marks k 0)
              (t.next-is ∙ ap (λ (n : ℕ). at + n) (sym (length-slice start k marks (omega (arith, t.inside, t.long))))));
        }

    pub turn-done : end ≤ k → (next ≡ at + (end - start)) × (out ≡ sets old at (slice start end marks))
    turn-done h =
        let e : k ≡ end = omega (arith, t.high) in
        (omega (arith, t.next-is), t.out-is ∙ ap (λ (n : ℕ). sets old at (slice start n marks)) e)

-- All rows.
module _ (ws marks : List ℕ) where
  -- there are as many marks as links
  pub marks-length : Sound ws → length ws ≤ longest → length marks ≡ longest → (vs : List ℕ) →
      ((i : ℕ) → i < length vs → get_or vs i 0 < size ws) → length (marks_along ws marks vs) ≡ degrees ws vs
  unfolding marks_along sum_along
  marks-length sound short long [] h = refl
  marks-length sound short long (v ∷ vs) h =
      length-append (slice (links_from ws v) (row_end ws v) marks) (marks_along ws marks vs)
      ∙ ap₂ (λ (m n : ℕ). m + n)
      (length-slice (links_from ws v) (row_end ws v) marks
      (omega (arith, (sound.shaped.node v (h 0 (omega arith))).ended)))
      (marks-length sound short long vs (λ i l. h (suc i) (omega arith)))

  marks-snoc : (vs : List ℕ) (v : ℕ) →
      marks_along ws marks (vs ++ (v ∷ [])) ≡ marks_along ws marks vs ++ slice (links_from ws v) (row_end ws v) marks
  unfolding marks_along
  marks-snoc [] v = append-nil (slice (links_from ws v) (row_end ws v) marks)
  marks-snoc (u ∷ us) v =
      ap (λ (l : List ℕ). slice (links_from ws u) (row_end ws u) marks ++ l) (marks-snoc us v)
      ∙ sym (append_assoc (slice (links_from ws u) (row_end ws u) marks) (marks_along ws marks us) (slice (links_from ws v) (row_end ws v) marks))

  -- The marks are written for the first i nodes of a list.
  pub record MarkProgress (vs : List ℕ) (count : ℕ) (old out : List ℕ) (at i : ℕ) : Type 0 where
    pub visited : Visited ws vs count
    pub short : length ws ≤ longest
    pub long : length marks ≡ longest
    pub room : degrees ws (take count vs) ≤ length old
    pub high : i ≤ count
    pub at-is : at ≡ degrees ws (take i vs)
    pub length-is : length out ≡ length old
    pub out-is : out ≡ sets old 0 (marks_along ws marks (take i vs))

  pub marks-start : {vs old : List ℕ} {count : ℕ} → Visited ws vs count → length ws ≤ longest → length marks ≡ longest →
      degrees ws (take count vs) ≤ length old → MarkProgress vs count old old 0 0
  unfolding marks_along sum_along
  marks-start v s l r =
      record { visited = v; short = s; long = l; room = r; high = omega arith; at-is = refl; length-is = refl; out-is = refl }

  module _ {vs old out : List ℕ} {count at i : ℕ} (p : MarkProgress vs count old out at i) where
    taken : (n : ℕ) → n ≤ count → length (take n vs) ≡ n
    taken n h = length-take-le n vs (omega (arith, p.visited.few, p.visited.long))

    counted : length (marks_along ws marks (take i vs)) ≡ degrees ws (take i vs)
    counted =
        marks-length p.visited.sound p.short p.long (take i vs) λ j h.
        let low : j < i = omega (arith, taken i p.high) in
        rw (get_or-take i vs j 0 low) (p.visited.nodes j (omega (arith, p.high)))

    module _ (less : i < count) where
      abbrev v : ℕ
      v = get_or vs i 0

      within : i < length vs
      within = omega (arith, p.visited.few, p.visited.long)

      grown : take (i + 1) vs ≡ take i vs ++ (v ∷ [])
      grown = ap (λ (n : ℕ). take n vs) (add-one i) ∙ take-suc vs i 0 within

      next-is : degrees ws (take (i + 1) vs) ≡ degrees ws (take i vs) + degree ws v
      next-is = sum_more (degree ws) vs i within

      pub marks-room : at + degree ws v ≤ length out
      marks-room =
          omega (arith, p.at-is, p.length-is, p.room, next-is, sum-upto (degree ws) vs (i + 1) count (omega arith))

      pub marks-step : {last : List ℕ} {next : ℕ} → (next ≡ at + degree ws v) ×
          (last ≡ sets out at (slice (links_from ws v) (row_end ws v) marks)) → MarkProgress vs count old last next (i + 1)
      marks-step {last} {next} (e, q) =
          let row : List ℕ = slice (links_from ws v) (row_end ws v) marks in
          record {
            visited = p.visited;
            short = p.short;
            long = p.long;
            room = p.room;
            high = omega arith;
            at-is = omega (arith, e, p.at-is, next-is);
            length-is = ap length q ∙ length-sets out at row ∙ p.length-is;
            out-is =
                q
                ∙ ap₂ (λ (o : List ℕ) (n : ℕ). sets o n row) p.out-is (omega (arith, p.at-is, counted))
                ∙ sym (sets-append (marks_along ws marks (take i vs)) old 0 row)
                ∙ ap (sets old 0) (sym (ap (marks_along ws marks) grown ∙ marks-snoc (take i vs) v));
          }

    pub marks-done : count ≤ i → out ≡ sets old 0 (marks_along ws marks (take count vs))
    marks-done h =
        let e : i ≡ count = omega (arith, p.high) in
        p.out-is ∙ ap (λ (n : ℕ). sets old 0 (marks_along ws marks (take n vs))) e
