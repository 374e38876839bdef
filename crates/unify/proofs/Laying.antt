-- The links of a graph in the pool. The rows of two graphs side by side are the rows of nodes that merging asks for.
use mathlib.Core.Path.{◌≡◌, refl, sym, ◌∙◌, ap, subst}
use mathlib.Core.Bool.{Bool, cond}
use mathlib.Core.List.{List}
use mathlib.Core.Logic.{inl, inr, ⊎_elim}
use Prim.Native.Nat.{ℕ, zero, suc, ◌+◌, ◌-◌, ◌*◌, ◌%◌, ◌≤◌, ◌<◌}
use native.Mathlib.Decide.{dec_lt}
use native.Mathlib.Omega.{arith}
use borrow.Author.Tests.{eq-eqb}
use lib.ListN.{length, get_or}
use Rattle.graphs.specs.Large.{links_in}
use Rattle.layout.specs.Layout.{Recorded, header, scale, size, row_from, links_from, row_end, feature_at, target_at, rows_from, rows_end}
use Rattle.layout.proofs.Sums.{links-of-more}
use Rattle.classes.specs.Merge.{Span}
use Rattle.classes.specs.Classes.{sum_to, row_length, links_of, Roomy, At, Rows, Closed}
use Rattle.classes.proofs.Merging.{feature-same, target-same}
use Rattle.merging.specs.Rows.{Fillable, WordsCopied, SpansCopied, Placed, links_both, words_in}
use Rattle.layout.proofs.Order.{row_low, row_last}
use Rattle.layout.proofs.Sums.{rows_end_lem, words-few}
use Rattle.merging.proofs.Words.{moved-feature, moved-link, moved-target}

-- Copied words and spans are placed, and stay placed where later writes keep them.
module _ {ws : List ℕ} (r : Recorded ws) {at shift : ℕ} {p₀ p₁ : List ℕ} {next : ℕ} {s₀ e₀ s₁ e₁ : List ℕ}
    (words : WordsCopied ws (rows_end ws) at shift p₀ p₁ next) (spans : SpansCopied ws (size ws) at shift s₀ e₀ s₁ e₁)
    (start end pool : List ℕ) (pool-kept : (k : ℕ) → k < next → get_or pool k 0 ≡ get_or p₁ k 0)
    (start-kept : (x : ℕ) → x < shift + size ws → get_or start x 0 ≡ get_or s₁ x 0)
    (end_kept : (x : ℕ) → x < shift + size ws → get_or end x 0 ≡ get_or e₁ x 0) where
  start_is : (v : ℕ) → v < size ws → get_or start (shift + v) 0 + row_from ws 0 ≡ links_from ws v + at
  start_is v h = omega (arith, start-kept (shift + v) (omega arith), spans.start_is v h, row_low r.sound.shaped v (omega arith))

  end_is : (v : ℕ) → v < size ws → get_or end (shift + v) 0 + row_from ws 0 ≡ row_end ws v + at
  end_is v h =
      let e : (v + 1) + 1 ≡ v + 2 = omega arith in
      omega (
        arith,
        end_kept (shift + v) (omega arith),
        spans.end_is v h,
        row_low r.sound.shaped (v + 1) (omega arith),
        ap (λ (i : ℕ). get_or ws i 0) e,
      )

  pub placed-before : (v : ℕ) → v < size ws → get_or end (shift + v) 0 ≤ next
  placed-before v h = omega (arith, end_is v h, row_last r.sound.shaped v h, words.counted)

  pub placed : shift ≤ 255 → Placed ws shift start end pool
  placed few =
      record {
        spans = λ v h. omega (arith, start_is v h, end_is v h);
        words = word;
      }
    where
      word : (v i : ℕ) → v < size ws → links_from ws v + i < row_end ws v →
          get_or pool (get_or start (shift + v) 0 + i) 0 ≡ get_or ws (links_from ws v + i) 0 + shift
      word v i h inside =
          let low : row_from ws 0 ≤ row_from ws v = row_low r.sound.shaped v (omega arith) in
          let high : links_from ws v + i < rows_end ws = omega (arith, row_last r.sound.shaped v h) in
          let j : row_from ws 0 + ((links_from ws v + i) - row_from ws 0) ≡ links_from ws v + i = omega arith in
          let k : get_or start (shift + v) 0 + i ≡ at + ((links_from ws v + i) - row_from ws 0) = omega (arith, start_is v h) in
          pool-kept (get_or start (shift + v) 0 + i) (omega (arith, start_is v h, words.counted)) ∙
          ap (λ (z : ℕ). get_or p₁ z 0) k ∙
          words.words_are ((links_from ws v + i) - row_from ws 0) (omega arith) ∙
          ap (λ (z : ℕ). (get_or ws z 0 + shift) % 65536) j ∙
          moved-link r v (links_from ws v + i) shift h (omega arith) inside few

module _ {ws : List ℕ} (r : Recorded ws) {shift : ℕ} (few : shift ≤ 255) {start end pool : List ℕ} (p : Placed ws shift start end pool) where
  -- The place in the graph whose link stands at place k of the pool.
  abbrev pub origin : ℕ → ℕ → ℕ
  origin v k = links_from ws v + (k - get_or start (shift + v) 0)

  -- a place of the pool, and its link
  module _ (v k : ℕ) (h : v < size ws) (place : At start end (shift + v) k) where
    pub origin-in : (links_from ws v ≤ links_from ws v + (k - get_or start (shift + v) 0)) ×
        (links_from ws v + (k - get_or start (shift + v) 0) < row_end ws v)
    origin-in = (omega arith, omega (arith, p.spans v h, place.0, place.1))

    origin-word : get_or pool k 0 ≡ get_or ws (origin v k) 0 + shift
    origin-word =
        let e : k ≡ get_or start (shift + v) 0 + (k - get_or start (shift + v) 0) = omega (arith, place.0) in
        ap (λ (i : ℕ). get_or pool i 0) e ∙ p.words v (k - get_or start (shift + v) 0) h origin-in.1

    movable : target_at ws (origin v k) + shift < scale
    movable = omega (arith, r.sound.targets v (origin v k) h origin-in.0 origin-in.1, r.small)

    pub origin-feature : feature_at pool k ≡ feature_at ws (links_from ws v + (k - get_or start (shift + v) 0))
    origin-feature = feature-same origin-word ∙ moved-feature (get_or ws (origin v k) 0) shift movable

    pub origin-target : target_at pool k ≡ target_at ws (links_from ws v + (k - get_or start (shift + v) 0)) + shift
    origin-target = target-same origin-word ∙ moved-target (get_or ws (origin v k) 0) shift movable

  -- a link of the graph, and its place in the pool
  pub placed-link : (v j : ℕ) → v < size ws → links_from ws v ≤ j → j < row_end ws v →
      (k : ℕ) × At start end (shift + v) k × (feature_at pool k ≡ feature_at ws j) × (target_at pool k ≡ target_at ws j + shift)
  placed-link v j h low high =
      let place : At start end (shift + v) (get_or start (shift + v) 0 + (j - links_from ws v)) = (omega arith, omega (arith, p.spans v h)) in
      let e : links_from ws v + ((get_or start (shift + v) 0 + (j - links_from ws v)) - get_or start (shift + v) 0) ≡ j = omega arith in (
        get_or start (shift + v) 0 + (j - links_from ws v),
        place,
        origin-feature v (get_or start (shift + v) 0 + (j - links_from ws v)) h place ∙ ap (feature_at ws) e,
        origin-target v (get_or start (shift + v) 0 + (j - links_from ws v)) h place ∙ ap (λ (i : ℕ). target_at ws i + shift) e,
      )

  pub placed-span : {used : ℕ} (v : ℕ) → v < size ws → get_or end (shift + v) 0 ≤ used →
      Span pool used (get_or start (shift + v) 0) (get_or end (shift + v) 0)
  placed-span v h high =
      record {
        rising = omega (arith, p.spans v h, (r.sound.shaped.node v h).begun);
        before = high;
        known =
            λ k a b.
            let i = origin-in v k h (a, b) in
            subst (λ (f : ℕ). f < 64) (sym (origin-feature v k h (a, b))) (r.sound.shaped.known v (origin v k) h i.0 i.1);
        ascending =
            λ k a b.
            let i = origin-in v k h (a, omega arith) in
            let j = origin-in v (suc k) h (omega arith, b) in
            let e : links_from ws v + (suc k - get_or start (shift + v) 0) ≡ origin v k + 1 = omega arith in
            subst (λ (f : ℕ). f < feature_at pool (suc k)) (sym (origin-feature v k h (a, omega arith)))
            (subst (λ (f : ℕ). feature_at ws (origin v k) < f)
            (sym (origin-feature v (suc k) h (omega arith, b) ∙ ap (feature_at ws) e))
            (r.sound.shaped.ascending v (origin v k) h i.0 (omega (arith, e, j.1))));
      }

  pub placed-within : (v k : ℕ) → v < size ws → At start end (shift + v) k → target_at pool k < shift + size ws
  placed-within v k h place =
      let i = origin-in v k h place in
      omega (arith, origin-target v k h place, r.sound.targets v (origin v k) h i.0 i.1)

  -- The sum of the lengths of the rows.
  pub placed-sum : (k : ℕ) → k ≤ size ws →
      sum_to (shift + k) (row_length (λ y. y) start end) ≡ sum_to shift (row_length (λ y. y) start end) + links_in (rows_from ws 0 k)
  unfolding sum_to rows_from links_in
  placed-sum zero h =
      let e : shift + 0 ≡ shift = omega arith in
      omega (arith, ap (λ (n : ℕ). sum_to n (row_length (λ y. y) start end)) e)
  placed-sum (suc k) h =
      let e : shift + suc k ≡ suc (shift + k) = omega arith in
      let own : row_length (λ y. y) start end (shift + k) ≡ get_or end (shift + k) 0 - get_or start (shift + k) 0 =
      ap (λ (t : Bool). cond t (get_or end (shift + k) 0 - get_or start (shift + k) 0) 0) (eq-eqb (shift + k) (shift + k) refl) in
      omega (
        arith,
        ap (λ (n : ℕ). sum_to n (row_length (λ y. y) start end)) e,
        placed-sum k (omega arith),
        own,
        p.spans k (omega arith),
        links-of-more ws k (r.sound.shaped.node k (omega arith)).ended,
        (r.sound.shaped.node k (omega arith)).begun,
      )

-- Both graphs.
module _ {a b : List ℕ} (ra : Recorded a) (rb : Recorded b) {start end pool : List ℕ} (pa : Placed a 0 start end pool)
    (pb : Placed b (size a) start end pool) where
  none : 0 ≤ 255
  none = omega arith

  pub lay-links : (links_of (size a + size b) start end + header * (size a + size b) ≡ words_in a + words_in b) ×
      (links_of (size a + size b) start end ≤ 4096)
  unfolding sum_to
  lay-links =
      let e : 0 + size a ≡ size a = omega arith in
      let first = ap (λ (n : ℕ). sum_to n (row_length (λ y. y) start end)) e in
      let second = placed-sum ra none pa (size a) (omega arith) in
      let third = placed-sum rb ra.small pb (size b) (omega arith) in (
        omega (
          arith,
          first,
          second,
          third,
          rows_end_lem a ra.sound.shaped (size a) (omega arith),
          rows_end_lem b rb.sound.shaped (size b) (omega arith),
        ),
        omega (arith, first, second, third, ra.short, rb.short),
      )

  pub lay-rows : {used : ℕ} → length start ≡ 510 → length end ≡ 510 → ((v : ℕ) → v < size a → get_or end (0 + v) 0 ≤ used) →
      ((v : ℕ) → v < size b → get_or end (size a + v) 0 ≤ used) → Rows (size a + size b) start end pool used
  lay-rows {used} start-long end-long a-high b-high =
      record {
        some = omega (arith, ra.sound.shaped.nonempty);
        few = omega (arith, ra.small, rb.small);
        start-long = start-long;
        end-long = end-long;
        span = λ x h. span x h (dec_lt x (size a));
        within = λ x k h place. within x k h place (dec_lt x (size a));
      }
    where
      span : (x : ℕ) → x < size a + size b → Dec (x < size a) → Span pool used (get_or start x 0) (get_or end x 0)
      span x h (yes l) =
          let e : 0 + x ≡ x = omega arith in
          subst (λ (y : ℕ). Span pool used (get_or start y 0) (get_or end y 0)) e (placed-span ra none pa x l (a-high x l))
      span x h (no n) =
          let e : size a + (x - size a) ≡ x = omega arith in
          let l : x - size a < size b = omega arith in
          subst (λ (y : ℕ). Span pool used (get_or start y 0) (get_or end y 0)) e
          (placed-span rb ra.small pb (x - size a) l (b-high (x - size a) l))

      within : (x k : ℕ) → x < size a + size b → At start end x k → Dec (x < size a) → target_at pool k < size a + size b
      within x k h place (yes l) =
          let e : x ≡ 0 + x = omega arith in
          omega (arith, placed-within ra none pa x k l (subst (λ (y : ℕ). At start end y k) e place))
      within x k h place (no n) =
          let e : x ≡ size a + (x - size a) = omega arith in
          placed-within rb ra.small pb (x - size a) k (omega arith) (subst (λ (y : ℕ). At start end y k) e place)

-- Two graphs copied side by side.
pub record Laid (a b start end pool : List ℕ) (used : ℕ) : Type 0 where
  pub first : Placed a 0 start end pool
  pub second : Placed b (size a) start end pool
  pub rows : Rows (size a + size b) start end pool used
  pub links-are : links_of (size a + size b) start end ≡ links_both a b
  pub headed : links_of (size a + size b) start end + header * (size a + size b) ≡ words_in a + words_in b
  pub short : links_of (size a + size b) start end ≤ 4096
  pub used-is : used ≡ words_in a + words_in b
  pub few : used ≤ 5116

pub lay : {a b : List ℕ} → Recorded a → Recorded b → {p₀ p₁ pool s₀ e₀ s₁ e₁ start end : List ℕ} {at used : ℕ} →
    WordsCopied a (rows_end a) 0 0 p₀ p₁ at → WordsCopied b (rows_end b) at (size a) p₁ pool used →
    SpansCopied a (size a) 0 0 s₀ e₀ s₁ e₁ → SpansCopied b (size b) at (size a) s₁ e₁ start end →
    length start ≡ 510 → length end ≡ 510 → Laid a b start end pool used
lay {a} {b} ra rb {p₀} {p₁} {pool} {s₀} {e₀} {s₁} {e₁} {start} {end} {at} {used} wa wb sa sb start-long end-long =
    record {
      first = first;
      second = second;
      rows =
          lay-rows ra rb first second start-long end-long
          (λ v h. omega (arith, placed-before ra wa sa start end pool pool-kept start-kept end_kept v h, wb.counted, row_low rb.sound.shaped (size b) (omega arith)))
          (λ v h. placed-before rb wb sb start end pool (λ k h. refl) (λ k h. refl) (λ k h. refl) v h);
      links-are = omega (arith, (lay-links ra rb first second).0);
      headed = (lay-links ra rb first second).0;
      short = (lay-links ra rb first second).1;
      used-is = omega (arith, wa.counted, wb.counted, row_low ra.sound.shaped (size a) (omega arith), row_low rb.sound.shaped (size b) (omega arith));
      few = omega (arith, wa.counted, wb.counted, words-few ra, words-few rb);
    }
  where
    pool-kept : (k : ℕ) → k < at → get_or pool k 0 ≡ get_or p₁ k 0
    pool-kept = wb.kept

    start-kept : (x : ℕ) → x < 0 + size a → get_or start x 0 ≡ get_or s₁ x 0
    start-kept x h = sb.start-kept x (omega arith)

    end_kept : (x : ℕ) → x < 0 + size a → get_or end x 0 ≡ get_or e₁ x 0
    end_kept x h = sb.end_kept x (omega arith)

    first : Placed a 0 start end pool
    first = placed ra wa sa start end pool pool-kept start-kept end_kept (omega arith)

    second : Placed b (size a) start end pool
    second = placed rb wb sb start end pool (λ k h. refl) (λ k h. refl) (λ k h. refl) ra.small

-- There is room for the joins of two graphs that are laid side by side.
pub laid-roomy : {a b start end pool : List ℕ} {used room : ℕ} → Laid a b start end pool used →
    Roomy (size a + size b) (links_both a b) (words_in a + words_in b) room → length pool ≡ room →
    Roomy (size a + size b) (links_of (size a + size b) start end) used (length pool)
laid-roomy {a} {b} {start} {end} {pool} {used} {room} s r same =
    record {
      width = r.width;
      enough = ⊎_elim inl (λ (h : links_both a b ≤ r.width). inr (omega (arith, s.links-are))) r.enough;
      fits = omega (arith, r.fits, s.used-is);
    }

-- a class is a node
pub closed-classed : {nodes second : ℕ} {start end pool class start' end' pool' : List ℕ} {used : ℕ} →
    Closed nodes second start end pool class start' end' pool' used → (x : ℕ) → x < nodes → get_or class x 0 < 510
closed-classed c x h = omega (arith, c.lowest x h, c.rows.few)

-- The classes' rows are such that the graph of the classes can be built.
pub closed-fillable : {nodes second : ℕ} {start end pool class start' end' pool' : List ℕ} {used : ℕ} →
    Closed nodes second start end pool class start' end' pool' used → links_of nodes start end ≤ 4096 → {words : ℕ} →
    (nodes + 2) + nodes * header + links_of nodes start end ≤ words → Fillable nodes class start' end' pool' words
closed-fillable c few fits =
    record {
      few = c.rows.few;
      classed = closed-classed c;
      rising = λ x h. (
        (c.rows.span x h).rising,
        omega (arith, (c.rows.span x h).before, c.bounded),
        omega (arith, (c.rows.span x h).before, c.room),
      );
      within = λ x k h place.
          let t = c.rows.within x k h place in
          (omega (arith, t, c.rows.few), omega (arith, c.lowest _ t, t, c.rows.few));
      short = omega (arith, c.short);
      fits = omega (arith, c.short);
    }
