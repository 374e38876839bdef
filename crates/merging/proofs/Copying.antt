-- The loops that copy: the words and spans of the two graphs, and the rows of classes.
use Rattle.std.proofs.Common.{◌≡◌, ℕ, ◌+◌, ◌-◌, ◌%◌, ◌<◌, ◌≤◌, List, length, get_or, set, sym, refl, ap, ◌∙◌, subst, arith, length-set, take, drop, get_or-take, get_or-drop, length-take-le, length-drop}
use native.Mathlib.Decide.{dec_lt}
use Rattle.layout.specs.Layout.{header, row_from, row_end}
use Rattle.classes.proofs.Roots.{stored, unstored}
use Rattle.merging.specs.Rows.{WordsCopied, SpansCopied, RowCopied, class_word}

-- A stored value is read back at an equal place.
pub stored_at : (l : List ℕ) (i a k : ℕ) → i < length l → k ≡ i → get_or (set l i a) k 0 ≡ a
stored_at l i a k h e = ap (λ (n : ℕ). get_or (set l i a) n 0) e ∙ stored l i a h

-- The words from `start` to `end`, and their number.
pub part-word : (ws : List ℕ) (start end i : ℕ) → i < end - start → get_or (take (end - start) (drop start ws)) i 0 ≡ get_or ws (start + i) 0
part-word ws start end i h = get_or-take (end - start) (drop start ws) i 0 h ∙ get_or-drop start ws i 0

pub part-long : (ws : List ℕ) (start end : ℕ) → end ≤ length ws → length (take (end - start) (drop start ws)) ≡ end - start
part-long ws start end h = length-take-le (end - start) (drop start ws) (omega (arith, length-drop start ws))

pub words_step : {ws : List ℕ} {at shift : ℕ} {pool pool' : List ℕ} {next : ℕ} → (i : ℕ) →
    WordsCopied ws (row_from ws 0 + i) at shift pool pool' next → next < length pool → {w : ℕ} →
    w ≡ (get_or ws (row_from ws 0 + i) 0 + shift) % 65536 →
    WordsCopied ws (row_from ws 0 + (i + 1)) at shift pool (set pool' next w) (next + 1)
words_step {ws} {at} {shift} {pool} {pool'} {next} i s room {w} word =
    record {
      long = length-set pool' next w ∙ s.long;
      kept = λ j h. unstored pool' next w j (λ e. omega (arith, s.counted)) ∙ s.kept j h;
      counted = omega (arith, s.counted);
      words_are = λ j h. words_are j h (dec_lt j i);
    }
  where
    words_are : (j : ℕ) → row_from ws 0 + j < row_from ws 0 + (i + 1) → Dec (j < i) →
        get_or (set pool' next w) (at + j) 0 ≡ (get_or ws (row_from ws 0 + j) 0 + shift) % 65536
    words_are j h (yes l) = unstored pool' next w (at + j) (λ e. omega (arith, s.counted)) ∙ s.words_are j (omega arith)
    words_are j h (no n) =
        let e : i ≡ j = omega arith in
        stored_at pool' next w (at + j) (omega (arith, s.long)) (omega (arith, s.counted)) ∙ word ∙
        ap (λ (k : ℕ). (get_or ws (row_from ws 0 + k) 0 + shift) % 65536) e

pub words-done : {ws : List ℕ} {end at shift : ℕ} {pool pool' : List ℕ} {next : ℕ} → (i : ℕ) →
    WordsCopied ws (row_from ws 0 + i) at shift pool pool' next → row_from ws 0 + i ≡ end →
    WordsCopied ws end at shift pool pool' next
words-done {ws} {end} {at} {shift} {pool} {pool'} {next} i s e =
    subst (λ (n : ℕ). WordsCopied ws n at shift pool pool' next) e s

pub spans-start : (ws : List ℕ) (at shift : ℕ) (start end : List ℕ) → SpansCopied ws 0 at shift start end start end
spans-start ws at shift start end =
    record {
      start-long = refl;
      end-long = refl;
      start-kept = λ x h. refl;
      end_kept = λ x h. refl;
      start_is = λ v h. absurd (omega arith);
      end_is = λ v h. absurd (omega arith);
    }

pub spans_step : {ws : List ℕ} {v at shift : ℕ} {start end start' end' : List ℕ} → SpansCopied ws v at shift start end start' end' →
    shift + v < length start → shift + v < length end →
    SpansCopied ws (v + 1) at shift start end (set start' (shift + v) (((row_from ws v - row_from ws 0) + at) + header))
    (set end' (shift + v) ((row_end ws v - row_from ws 0) + at))
spans_step {ws} {v} {at} {shift} {start} {end} {start'} {end'} s start-room end-room =
    record {
      start-long = length-set start' (shift + v) (start_of v) ∙ s.start-long;
      end-long = length-set end' (shift + v) (end_of v) ∙ s.end-long;
      start-kept = λ x h. unstored start' (shift + v) (start_of v) x (λ e. omega arith) ∙ s.start-kept x h;
      end_kept = λ x h. unstored end' (shift + v) (end_of v) x (λ e. omega arith) ∙ s.end_kept x h;
      start_is = λ u h. start_is u h (dec_lt u v);
      end_is = λ u h. end_is u h (dec_lt u v);
    }
  where
    start_of : ℕ → ℕ
    start_of u = ((row_from ws u - row_from ws 0) + at) + header

    end_of : ℕ → ℕ
    end_of u = (row_end ws u - row_from ws 0) + at

    start_is : (u : ℕ) → u < v + 1 → Dec (u < v) → get_or (set start' (shift + v) (start_of v)) (shift + u) 0 ≡ start_of u
    start_is u h (yes l) = unstored start' (shift + v) (start_of v) (shift + u) (λ e. omega arith) ∙ s.start_is u l
    start_is u h (no n) =
        let e : u ≡ v = omega arith in
        stored_at start' (shift + v) (start_of v) (shift + u) (omega (arith, s.start-long)) (ap (λ (i : ℕ). shift + i) e) ∙
        ap start_of (sym e)

    end_is : (u : ℕ) → u < v + 1 → Dec (u < v) → get_or (set end' (shift + v) (end_of v)) (shift + u) 0 ≡ end_of u
    end_is u h (yes l) = unstored end' (shift + v) (end_of v) (shift + u) (λ e. omega arith) ∙ s.end_is u l
    end_is u h (no n) =
        let e : u ≡ v = omega arith in
        stored_at end' (shift + v) (end_of v) (shift + u) (omega (arith, s.end-long)) (ap (λ (i : ℕ). shift + i) e) ∙
        ap end_of (sym e)

pub spans-done : {ws : List ℕ} {v nodes at shift : ℕ} {start end start' end' : List ℕ} →
    SpansCopied ws v at shift start end start' end' → v ≤ nodes → nodes ≤ v → SpansCopied ws nodes at shift start end start' end'
spans-done {ws} {v} {nodes} {at} {shift} {start} {end} {start'} {end'} s low high =
    let e : v ≡ nodes = omega arith in
    subst (λ (n : ℕ). SpansCopied ws n at shift start end start' end') e s

pub row_step : {class pool : List ℕ} {start at : ℕ} {graph graph' : List ℕ} {next : ℕ} → (i : ℕ) →
    RowCopied class pool start (start + i) at graph graph' next → next < length graph → {w : ℕ} →
    w ≡ class_word class (get_or pool (start + i) 0) →
    RowCopied class pool start (start + (i + 1)) at graph (set graph' next w) (next + 1)
row_step {class} {pool} {start} {at} {graph} {graph'} {next} i s room {w} word =
    record {
      long = length-set graph' next w ∙ s.long;
      kept = λ j h. unstored graph' next w j (λ e. omega (arith, s.counted)) ∙ s.kept j h;
      counted = omega (arith, s.counted);
      words_are = λ j h. words_are j h (dec_lt j i);
    }
  where
    words_are : (j : ℕ) → start + j < start + (i + 1) → Dec (j < i) →
        get_or (set graph' next w) (at + j) 0 ≡ class_word class (get_or pool (start + j) 0)
    words_are j h (yes l) = unstored graph' next w (at + j) (λ e. omega (arith, s.counted)) ∙ s.words_are j (omega arith)
    words_are j h (no n) =
        let e : i ≡ j = omega arith in
        stored_at graph' next w (at + j) (omega (arith, s.long)) (omega (arith, s.counted)) ∙ word ∙
        ap (λ (k : ℕ). class_word class (get_or pool (start + k) 0)) e

pub row_done : {class pool : List ℕ} {start end at : ℕ} {graph graph' : List ℕ} {next : ℕ} → (i : ℕ) →
    RowCopied class pool start (start + i) at graph graph' next → start + i ≡ end → RowCopied class pool start end at graph graph' next
row_done {class} {pool} {start} {end} {at} {graph} {graph'} {next} i s e =
    subst (λ (n : ℕ). RowCopied class pool start n at graph graph' next) e s
