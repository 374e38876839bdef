-- This file has the laws of the links that are counted for each node, and of the queue of the nodes that no counted link enters.
use mathlib.Core.Path.{◌≡◌, refl, sym, ◌∙◌, ap, subst}
use mathlib.Core.Bool.{Bool, true, false, cond}
use mathlib.Core.List.{List, [], ◌∷◌}
use Prim.Native.Nat.{ℕ, zero, suc, ◌+◌, ◌-◌, ◌≤◌, ◌<◌}
use native.Mathlib.Numerals.{add-one}
use native.Mathlib.Decide.{ℕ_discrete, dec_le}
use native.Mathlib.Omega.{arith}
use borrow.Author.Tests.{eq-eqb, ne_eqb, leb-true, le-leb}
use lib.Dec.{eqb, leb}
use lib.ListN.{length, get_or, set, replicate, length-set, length-replicate, get_or-replicate}
use lib.Seq.{get_or-set_same, get_or-set_other}
use Rattle.graphs.proofs.Search.{true-false}
use Rattle.layout.specs.Layout.{size, row_from, links_from, row_end, label_at, target_at, Shaped}
use Rattle.visits.specs.Colouring.{whites}
use Rattle.visits.proofs.Colouring.{whites-bound}
use Rattle.peeling.specs.Range.{label_in_range}
use Rattle.peeling.specs.Counts.{hit, among, into, entering, Counted, Within, RowCount, Count, Queued, RowDue, RowTaken}

-- A place that counts.

hit_same : (t w : ℕ) → t ≡ w → hit true t w ≡ 1
unfolding hit
hit_same t w e = ap (λ (b : Bool). cond b 1 0) (eq-eqb t w e)

hit_other : (b : Bool) (t w : ℕ) → (t ≡ w → ⊥) → hit b t w ≡ 0
unfolding hit
hit_other true t w d = ap (λ (b : Bool). cond b 1 0) (ne_eqb t w d)
hit_other false t w d = refl

hit-false : (t w : ℕ) → hit false t w ≡ 0
unfolding hit
hit-false t w = refl

hit-small : (b : Bool) (t w : ℕ) → hit b t w ≤ 1
unfolding hit
hit-small false t w = omega arith
hit-small true t w = go (ℕ_discrete t w)
  where
    go : Dec (t ≡ w) → hit true t w ≤ 1
    go (yes e) = omega (arith, hit_same t w e)
    go (no d) = omega (arith, hit_other true t w d)

-- The links between two places.

module _ (ws : List ℕ) (w start : ℕ) where
  among-zero : among ws w start 0 ≡ 0
  unfolding among
  among-zero = refl

  among-suc : (k : ℕ) → among ws w start (suc k) ≡ among ws w start k + hit (leb start k) (target_at ws k) w
  unfolding among
  among-suc k = refl

  among_next : (k : ℕ) → start ≤ k → among ws w start (k + 1) ≡ among ws w start k + hit true (target_at ws k) w
  among_next k h =
      ap (among ws w start) (add-one k) ∙ among-suc k
      ∙ ap (λ (b : Bool). among ws w start k + hit b (target_at ws k) w) (le-leb start k h)

  pub among_none : (k : ℕ) → k ≤ start → among ws w start k ≡ 0
  among_none zero h = among-zero
  among_none (suc k) h = go (leb start k) refl (among_none k (omega arith))
    where
      go : (b : Bool) → leb start k ≡ b → among ws w start k ≡ 0 → among ws w start (suc k) ≡ 0
      go true e before = absurd (omega (arith, leb-true start k e))
      go false e before =
          omega (
            arith,
            among-suc k,
            before,
            ap (λ (b : Bool). hit b (target_at ws k) w) e,
            hit-false (target_at ws k) w,
          )

  among-rises : (n m : ℕ) → n ≤ m → among ws w start n ≤ among ws w start m
  among-rises n zero h = let e : n ≡ 0 = omega arith in omega (arith, ap (among ws w start) e)
  among-rises n (suc m) h = go (dec_le n m) (among-rises n m)
    where
      go : Dec (n ≤ m) → (n ≤ m → among ws w start n ≤ among ws w start m) → among ws w start n ≤ among ws w start (suc m)
      go (yes i) before = omega (arith, before i, among-suc m)
      go (no i) before = let e : n ≡ suc m = omega arith in omega (arith, ap (among ws w start) e)

  -- at most as many links lead to w as there are places
  pub among-bound : (k : ℕ) → start ≤ k → start + among ws w start k ≤ k
  among-bound zero h = omega (arith, among-zero)
  among-bound (suc k) h = go (dec_le start k) (among-bound k)
    where
      go : Dec (start ≤ k) → (start ≤ k → start + among ws w start k ≤ k) → start + among ws w start (suc k) ≤ suc k
      go (yes i) before = omega (arith, before i, among-suc k, hit-small (leb start k) (target_at ws k) w)
      go (no i) before = omega (arith, among_none (suc k) (omega arith))

  -- a link that is counted has a place
  pub among-source : (n : ℕ) → 0 < among ws w start n → (k : ℕ) × (start ≤ k) × (k < n) × (target_at ws k ≡ w)
  among-source zero h = absurd (omega (arith, among-zero))
  among-source (suc n) h = go (ℕ_discrete (target_at ws n) w) (leb start n) refl (among-source n)
    where
      go : Dec (target_at ws n ≡ w) → (b : Bool) → leb start n ≡ b →
          (0 < among ws w start n → (k : ℕ) × (start ≤ k) × (k < n) × (target_at ws k ≡ w)) →
          (k : ℕ) × (start ≤ k) × (k < suc n) × (target_at ws k ≡ w)
      go (yes e) true q before = (n, leb-true start n q, omega arith, e)
      go (yes e) false q before =
          let (k, low, high, is) = before (omega (arith, among-suc n, ap (λ (b : Bool). hit b (target_at ws n) w) q, hit-false (target_at ws n) w)) in
          (k, low, omega arith, is)
      go (no d) b q before =
          let (k, low, high, is) = before (omega (arith, among-suc n, hit_other (leb start n) (target_at ws n) w d)) in
          (k, low, omega arith, is)

  -- a place is counted
  pub among-target : (n k : ℕ) → start ≤ k → k < n → target_at ws k ≡ w → 0 < among ws w start n
  among-target n k low high is =
      omega (
        arith,
        among-rises (suc k) n (omega arith),
        among-suc k,
        hit_same (target_at ws k) w is,
        ap (λ (b : Bool). hit b (target_at ws k) w) (le-leb start k low),
      )

-- The links of the nodes that count.

-- all nodes that count but v
abbrev pub without : ℕ → (ℕ → Bool) → ℕ → Bool
without v counts u = cond (eqb u v) false (counts u)

module _ (v : ℕ) (counts : ℕ → Bool) where
  pub without-same : (u : ℕ) → u ≡ v → without v counts u ≡ false
  without-same u e = ap (λ (b : Bool). cond b false (counts u)) (eq-eqb u v e)

  pub without_other : (u : ℕ) → (u ≡ v → ⊥) → without v counts u ≡ counts u
  without_other u d = ap (λ (b : Bool). cond b false (counts u)) (ne_eqb u v d)

module _ (ws : List ℕ) (w : ℕ) where
  entering-none : (counts : ℕ → Bool) → entering counts ws w 0 ≡ 0
  unfolding entering
  entering-none counts = refl

  entering-suc : (counts : ℕ → Bool) (n : ℕ) → entering counts ws w (suc n) ≡ entering counts ws w n + cond (counts n) (into ws w n) 0
  unfolding entering
  entering-suc counts n = refl

  counts_all : (counts : ℕ → Bool) (n : ℕ) → counts n ≡ true → cond (counts n) (into ws w n) 0 ≡ into ws w n
  counts_all counts n e = ap (λ (b : Bool). cond b (into ws w n) 0) e

  pub entering-source : (counts : ℕ → Bool) (n : ℕ) → 0 < entering counts ws w n →
      (v : ℕ) × (v < n) × (counts v ≡ true) × (0 < into ws w v)
  entering-source counts zero h = absurd (omega (arith, entering-none counts))
  entering-source counts (suc n) h = go (counts n) refl (ℕ_discrete (into ws w n) 0) (entering-source counts n)
    where
      none : into ws w n ≡ 0 → (b : Bool) → cond b (into ws w n) 0 ≡ 0
      none e true = e
      none e false = refl

      go : (b : Bool) → counts n ≡ b → Dec (into ws w n ≡ 0) →
          (0 < entering counts ws w n → (v : ℕ) × (v < n) × (counts v ≡ true) × (0 < into ws w v)) →
          (v : ℕ) × (v < suc n) × (counts v ≡ true) × (0 < into ws w v)
      go true q (no d) before = (n, omega arith, q, omega arith)
      go b q (yes e) before =
          let (v, low, c, is) = before (omega (arith, entering-suc counts n, none e (counts n))) in
          (v, omega arith, c, is)
      go false q (no d) before =
          let (v, low, c, is) = before (omega (arith, entering-suc counts n, ap (λ (b : Bool). cond b (into ws w n) 0) q)) in
          (v, omega arith, c, is)

  -- a node that counts is counted
  pub entering-target : (counts : ℕ → Bool) (n v : ℕ) → v < n → counts v ≡ true → into ws w v ≤ entering counts ws w n
  entering-target counts zero v h c = absurd (omega arith)
  entering-target counts (suc n) v h c = go (ℕ_discrete v n) (entering-target counts n v)
    where
      go : Dec (v ≡ n) → (v < n → counts v ≡ true → into ws w v ≤ entering counts ws w n) → into ws w v ≤ entering counts ws w (suc n)
      go (yes e) before =
          omega (arith, entering-suc counts n, counts_all counts n (subst (λ (u : ℕ). counts u ≡ true) e c), ap (into ws w) e)
      go (no d) before = omega (arith, entering-suc counts n, before (omega arith) c)

  module _ (counts : ℕ → Bool) (v : ℕ) (counted : counts v ≡ true) where
    other-same : (u : ℕ) → (u ≡ v → ⊥) → cond (without v counts u) (into ws w u) 0 ≡ cond (counts u) (into ws w u) 0
    other-same u d = ap (λ (b : Bool). cond b (into ws w u) 0) (without_other v counts u d)

    split-before : (n : ℕ) → n ≤ v → entering (without v counts) ws w n ≡ entering counts ws w n
    split-before zero h = entering-none (without v counts) ∙ sym (entering-none counts)
    split-before (suc n) h =
        omega (
          arith,
          entering-suc (without v counts) n,
          entering-suc counts n,
          split-before n (omega arith),
          other-same n (λ (e : n ≡ v). omega arith),
        )

    -- the links of all nodes that count are those of v and those of the others
    pub entering-split : (n : ℕ) → v < n → entering counts ws w n ≡ entering (without v counts) ws w n + into ws w v
    entering-split zero h = absurd (omega arith)
    entering-split (suc n) h = go (ℕ_discrete n v) (entering-split n)
      where
        go : Dec (n ≡ v) → (v < n → entering counts ws w n ≡ entering (without v counts) ws w n + into ws w v) →
            entering counts ws w (suc n) ≡ entering (without v counts) ws w (suc n) + into ws w v
        go (yes e) before =
            omega (
              arith,
              entering-suc (without v counts) n,
              entering-suc counts n,
              split-before n (omega arith),
              ap (λ (b : Bool). cond b (into ws w n) 0) (without-same v counts n e),
              counts_all counts n (subst (λ (u : ℕ). counts u ≡ true) (sym e) counted),
              ap (into ws w) e,
            )
        go (no d) before =
            omega (arith, entering-suc (without v counts) n, entering-suc counts n, before (omega arith), other-same n d)

-- Counting all links.

-- the links of the nodes before v stand before the row of v
entering-before : {ws : List ℕ} → Shaped ws → (w v : ℕ) → v ≤ size ws → entering (λ _. true) ws w v ≤ row_from ws v
entering-before {ws} shaped w zero h = omega (arith, entering-none ws w (λ _. true))
entering-before {ws} shaped w (suc v) h =
    let e : v + 2 ≡ suc v + 1 = omega arith in
    omega (
      arith,
      entering-suc ws w (λ _. true) v,
      entering-before shaped w v (omega arith),
      (shaped.node v h).begun,
      among-bound ws w (links_from ws v) (row_end ws v) (shaped.node v h).begun,
      ap (λ (k : ℕ). get_or ws k 0) e,
    )

pub counted_start : {ws : List ℕ} → Shaped ws → size ws ≤ 255 → Counted ws 0 (replicate 255 0)
counted_start {ws} shaped small =
    record {
      shaped = shaped;
      small = small;
      long = length-replicate {A = ℕ} 255 0;
      counts = λ w h. get_or-replicate {A = ℕ} 255 w 0 0 h ∙ sym (entering-none ws w (λ _. true));
    }

-- The links of v up to a place lead to nodes and are counted.
pub record Counting (ws : List ℕ) (v : ℕ) (incoming : List ℕ) (k : ℕ) : Type 0 where
  pub shaped : Shaped ws
  pub small : size ws ≤ 255
  pub inside : v < size ws
  pub low : links_from ws v ≤ k
  pub high : k ≤ row_end ws v
  pub within : (i : ℕ) → links_from ws v ≤ i → i < k → target_at ws i < size ws
  pub long : length incoming ≡ 255
  pub counts : (w : ℕ) → w < 255 → get_or incoming w 0 ≡ entering (λ _. true) ws w v + among ws w (links_from ws v) k

module _ {ws incoming : List ℕ} {v : ℕ} (c : Counted ws v incoming) (inside : v < size ws) where
  pub row_listed : v + 2 < length ws
  row_listed = (c.shaped.node v inside).listed

  pub counting-start : Counting ws v incoming (links_from ws v)
  counting-start =
      record {
        shaped = c.shaped;
        small = c.small;
        inside = inside;
        low = omega arith;
        high = (c.shaped.node v inside).begun;
        within = λ i low high. absurd (omega arith);
        long = c.long;
        counts = λ w h. omega (arith, c.counts w h, among_none ws w (links_from ws v) (links_from ws v) (omega arith));
      }

module _ {ws incoming : List ℕ} {v k : ℕ} (c : Counting ws v incoming k) where
  counted-row : k ≡ row_end ws v → Counted ws (v + 1) incoming
  counted-row last =
      record {
        shaped = c.shaped;
        small = c.small;
        long = c.long;
        counts = λ w i.
            omega (
              arith,
              c.counts w i,
              ap (among ws w (links_from ws v)) last,
              entering-suc ws w (λ _. true) v,
              ap (entering (λ _. true) ws w) (add-one v),
            );
      }

  pub counting-done : row_end ws v ≤ k → RowCount ws v true incoming
  counting-done h =
      record {
        yes-stands = λ e. (λ i low high. c.within i low (omega arith), counted-row (omega (arith, c.high)));
        no-stands = λ e. true-false refl e;
      }

  module _ (more : k < row_end ws v) where
    -- the target is no node
    pub counting-out : size ws ≤ target_at ws k → RowCount ws v false incoming
    counting-out out = record { yes-stands = λ e. true-false e refl; no-stands = λ e all. omega (arith, all k c.low more) }

    -- there is room to count one more
    pub counting-room : target_at ws k < size ws → get_or incoming (target_at ws k) 0 < row_end ws v
    counting-room inside =
        omega (
          arith,
          c.counts (target_at ws k) (omega (arith, c.small)),
          entering-before c.shaped (target_at ws k) v (omega (arith, c.inside)),
          among-bound ws (target_at ws k) (links_from ws v) k c.low,
        )

    pub counting-next : target_at ws k < size ws → Counting ws v (set incoming (target_at ws k) (get_or incoming (target_at ws k) 0 + 1)) (k + 1)
    counting-next here =
        record {
          shaped = c.shaped;
          small = c.small;
          inside = c.inside;
          low = omega (arith, c.low);
          high = omega arith;
          within = λ i low high. passed i (ℕ_discrete i k) low high;
          long = length-set incoming (target_at ws k) (get_or incoming (target_at ws k) 0 + 1) ∙ c.long;
          counts = λ w h. go w h (ℕ_discrete w (target_at ws k));
        }
      where
        passed : (i : ℕ) → Dec (i ≡ k) → links_from ws v ≤ i → i < k + 1 → target_at ws i < size ws
        passed i (yes e) low high = subst (λ (j : ℕ). target_at ws j < size ws) (sym e) here
        passed i (no d) low high = c.within i low (omega arith)

        go : (w : ℕ) → w < 255 → Dec (w ≡ target_at ws k) →
            get_or (set incoming (target_at ws k) (get_or incoming (target_at ws k) 0 + 1)) w 0
            ≡ entering (λ _. true) ws w v + among ws w (links_from ws v) (k + 1)
        go w h (yes e) =
            omega (
              arith,
              ap (λ (u : ℕ). get_or (set incoming (target_at ws k) (get_or incoming (target_at ws k) 0 + 1)) u 0) e,
              get_or-set_same incoming (target_at ws k) (get_or incoming (target_at ws k) 0 + 1) 0 (omega (arith, c.long, c.small)),
              ap (λ (u : ℕ). get_or incoming u 0) e,
              c.counts w h,
              among_next ws w (links_from ws v) k c.low,
              hit_same (target_at ws k) w (sym e),
            )
        go w h (no d) =
            omega (
              arith,
              get_or-set_other incoming (target_at ws k) w (get_or incoming (target_at ws k) 0 + 1) 0 d,
              c.counts w h,
              among_next ws w (links_from ws v) k c.low,
              hit_other true (target_at ws k) w (λ q. d (sym q)),
            )

-- The first v rows are in range and their links counted.
pub record Passed (n : ℕ) (ws : List ℕ) (v : ℕ) (incoming : List ℕ) : Type 0 where
  pub labels : (u : ℕ) → u < v → label_in_range n (label_at ws u) ≡ true
  pub targets : (u : ℕ) → u < v → Within ws u
  pub counted : Counted ws v incoming

pub passed_none : (n : ℕ) {ws incoming : List ℕ} → Counted ws 0 incoming → Passed n ws 0 incoming
passed_none n c = record { labels = λ u h. absurd (omega arith); targets = λ u h. absurd (omega arith); counted = c }

module _ {n : ℕ} {ws : List ℕ} {v : ℕ} where
  pub passed-more : {answer : Bool} {before incoming : List ℕ} → Passed n ws v before → label_in_range n (label_at ws v) ≡ true →
      RowCount ws v answer incoming → answer ≡ true → Passed n ws (v + 1) incoming
  passed-more p ranged row yes-row =
      record {
        labels = λ u h. label u (ℕ_discrete u v) h;
        targets = λ u h. target u (ℕ_discrete u v) h;
        counted = (row.yes-stands yes-row).1;
      }
    where
      label : (u : ℕ) → Dec (u ≡ v) → u < v + 1 → label_in_range n (label_at ws u) ≡ true
      label u (yes e) h = subst (λ (w : ℕ). label_in_range n (label_at ws w) ≡ true) (sym e) ranged
      label u (no d) h = p.labels u (omega arith)

      target : (u : ℕ) → Dec (u ≡ v) → u < v + 1 → Within ws u
      target u (yes e) h = subst (Within ws) (sym e) (row.yes-stands yes-row).0
      target u (no d) h = p.targets u (omega arith)

  pub passed-all : {incoming : List ℕ} → Passed n ws v incoming → v ≡ size ws → Count n ws true incoming
  passed-all {incoming} p all =
      record {
        yes-stands = λ e. (
          record { labels = λ u h. p.labels u (omega arith); targets = λ u h. p.targets u (omega arith) },
          subst (λ (k : ℕ). Counted ws k incoming) all p.counted,
        );
        no-stands = λ e. true-false refl e;
      }

  -- a row is out of range
  pub label-out : {incoming : List ℕ} → v < size ws → label_in_range n (label_at ws v) ≡ false → Count n ws false incoming
  label-out h out = record { yes-stands = λ e. true-false e refl; no-stands = λ e r. true-false (r.labels v h) out }

  pub target-out : {answer : Bool} {incoming : List ℕ} → v < size ws → RowCount ws v answer incoming → answer ≡ false → Count n ws false incoming
  target-out h row no_row = record { yes-stands = λ e. true-false e refl; no-stands = λ e r. row.no-stands no_row (r.targets v h) }

-- How many of the first n are 0.

whites-zero : (l : List ℕ) → whites 0 l ≡ 0
unfolding whites
whites-zero l = refl

whites-last : (n : ℕ) (l : List ℕ) → n < length l → get_or l n 0 ≡ 0 → whites (suc n) l ≡ suc (whites n l)
unfolding whites
whites-last n [] h e = absurd (omega arith)
whites-last zero (zero ∷ l) h e = refl
whites-last zero (suc x ∷ l) h e = absurd (omega arith)
whites-last (suc n) (zero ∷ l) h e = ap suc (whites-last n l (omega arith) e)
whites-last (suc n) (suc x ∷ l) h e = whites-last n l (omega arith) e

whites-same : (n : ℕ) (l : List ℕ) → 0 < get_or l n 0 → whites (suc n) l ≡ whites n l
unfolding whites
whites-same n [] e = absurd (omega arith)
whites-same zero (zero ∷ l) e = absurd (omega arith)
whites-same zero (suc x ∷ l) e = refl
whites-same (suc n) (zero ∷ l) e = ap suc (whites-same n l e)
whites-same (suc n) (suc x ∷ l) e = whites-same n l e

whites-join : (n : ℕ) (l : List ℕ) (i : ℕ) → i < n → 0 < get_or l i 0 → whites n (set l i 0) ≡ suc (whites n l)
unfolding whites
whites-join zero l i h e = absurd (omega arith)
whites-join (suc n) [] i h e = absurd (omega arith)
whites-join (suc n) (zero ∷ l) zero h e = absurd (omega arith)
whites-join (suc n) (suc x ∷ l) zero h e = refl
whites-join (suc n) (zero ∷ l) (suc i) h e = ap suc (whites-join n l i (omega arith) e)
whites-join (suc n) (suc x ∷ l) (suc i) h e = whites-join n l i (omega arith) e

whites-stay : (n : ℕ) (l : List ℕ) (i a : ℕ) → 0 < get_or l i 0 → whites n (set l i (suc a)) ≡ whites n l
unfolding whites
whites-stay zero l i a e = refl
whites-stay (suc n) [] i a e = absurd (omega arith)
whites-stay (suc n) (zero ∷ l) zero a e = absurd (omega arith)
whites-stay (suc n) (suc x ∷ l) zero a e = refl
whites-stay (suc n) (zero ∷ l) (suc i) a e = ap suc (whites-stay n l i a e)
whites-stay (suc n) (suc x ∷ l) (suc i) a e = whites-stay n l i a e

-- where not all are 0, one is not
pub whites-short : (n : ℕ) (l : List ℕ) → n ≤ length l → whites n l < n → (w : ℕ) × (w < n) × (0 < get_or l w 0)
unfolding whites
whites-short zero l h s = absurd (omega arith)
whites-short (suc n) [] h s = absurd (omega arith)
whites-short (suc n) (zero ∷ l) h s = let (w, low, p) = whites-short n l (omega arith) (omega arith) in (suc w, omega arith, p)
whites-short (suc n) (suc x ∷ l) h s = (0, omega arith, omega arith)

pub whites-full : (n : ℕ) (l : List ℕ) → n ≤ whites n l → (w : ℕ) → w < n → get_or l w 0 ≡ 0
unfolding whites
whites-full zero l h w i = absurd (omega arith)
whites-full (suc n) [] h w i = refl
whites-full (suc n) (zero ∷ l) h zero i = refl
whites-full (suc n) (zero ∷ l) h (suc w) i = whites-full n l (omega arith) w (omega arith)
whites-full (suc n) (suc x ∷ l) h w i = absurd (omega (arith, whites-bound n l))

-- A node joins the queue.

module _ (queue : List ℕ) (count w : ℕ) (room : count < length queue) where
  join-here : get_or (set queue count w) count 0 ≡ w
  join-here = get_or-set_same queue count w 0 room

  join-before : (i : ℕ) → i < count → get_or (set queue count w) i 0 ≡ get_or queue i 0
  join-before i h = get_or-set_other queue count i w 0 (λ e. omega arith)

  join-each : (P : ℕ → Type 0) → ((i : ℕ) → i < count → P (get_or queue i 0)) → P w →
      (i : ℕ) → i < count + 1 → P (get_or (set queue count w) i 0)
  join-each P before here i h = go (ℕ_discrete i count)
    where
      go : Dec (i ≡ count) → P (get_or (set queue count w) i 0)
      go (yes e) = subst P (sym (ap (λ (j : ℕ). get_or (set queue count w) j 0) e ∙ join-here)) here
      go (no d) = subst P (sym (join-before i (omega arith))) (before i (omega arith))

queued-join : {nodes : ℕ} {incoming : List ℕ} (queue : List ℕ) {count : ℕ} (w : ℕ) → length queue ≡ 255 → count < 255 →
    suc count ≡ whites nodes incoming → w < nodes → get_or incoming w 0 ≡ 0 →
    ((i : ℕ) → i < count → get_or queue i 0 < nodes) → ((i : ℕ) → i < count → get_or incoming (get_or queue i 0) 0 ≡ 0) →
    ((u : ℕ) → u < nodes → (u ≡ w → ⊥) → get_or incoming u 0 ≡ 0 → (i : ℕ) × (i < count) × (get_or queue i 0 ≡ u)) →
    ((i : ℕ) → i < count → get_or queue i 0 ≡ w → ⊥) →
    ((i j : ℕ) → i < j → j < count → get_or queue i 0 ≡ get_or queue j 0 → ⊥) →
    Queued nodes incoming (set queue count w) (count + 1)
queued-join {nodes} {incoming} queue {count} w long room filled inside zeroed listed clear found fresh distinct =
    record {
      roomy = length-set queue count w ∙ long;
      filled = omega arith;
      listed = join-each queue count w roomy (λ u. u < nodes) listed inside;
      clear = join-each queue count w roomy (λ u. get_or incoming u 0 ≡ 0) clear zeroed;
      found = λ u h z. find u h z (ℕ_discrete u w);
      distinct = λ i j less h. apart i j less h (ℕ_discrete j count);
    }
  where
    roomy : count < length queue
    roomy = omega arith

    find : (u : ℕ) → u < nodes → get_or incoming u 0 ≡ 0 → Dec (u ≡ w) → (i : ℕ) × (i < count + 1) × (get_or (set queue count w) i 0 ≡ u)
    find u h z (yes e) = (count, omega arith, join-here queue count w roomy ∙ sym e)
    find u h z (no d) = let (i, low, is) = found u h d z in (i, omega arith, join-before queue count w roomy i low ∙ is)

    apart : (i j : ℕ) → i < j → j < count + 1 → Dec (j ≡ count) → get_or (set queue count w) i 0 ≡ get_or (set queue count w) j 0 → ⊥
    apart i j less h (yes e) q =
        fresh i (omega arith)
        (sym (join-before queue count w roomy i (omega arith)) ∙ q ∙ ap (λ (k : ℕ). get_or (set queue count w) k 0) e ∙ join-here queue count w roomy)
    apart i j less h (no d) q =
        distinct i j less (omega arith)
        (sym (join-before queue count w roomy i (omega arith)) ∙ q ∙ join-before queue count w roomy j (omega arith))

-- Finding the sources.

pub queued-none : (incoming queue : List ℕ) → length queue ≡ 255 → Queued 0 incoming queue 0
queued-none incoming queue long =
    record {
      roomy = long;
      filled = sym (whites-zero incoming);
      listed = λ i h. absurd (omega arith);
      clear = λ i h. absurd (omega arith);
      found = λ w h z. absurd (omega arith);
      distinct = λ i j less h. absurd (omega arith);
    }

module _ {v count : ℕ} {incoming queue : List ℕ} (q : Queued v incoming queue count) (long : length incoming ≡ 255) (low : v < 255) where
  pub queued-source : get_or incoming v 0 ≡ 0 → Queued (v + 1) incoming (set queue count v) (count + 1)
  queued-source z =
      queued-join queue v q.roomy (omega (arith, q.filled, whites-bound v incoming))
      (omega (arith, q.filled, whites-last v incoming (omega arith) z, ap (λ (n : ℕ). whites n incoming) (add-one v)))
      (omega arith) z (λ i h. omega (arith, q.listed i h)) q.clear (λ u h d e. q.found u (omega arith) e)
      (λ i h e. omega (arith, q.listed i h)) q.distinct

  pub queued-over : (get_or incoming v 0 ≡ 0 → ⊥) → Queued (v + 1) incoming queue count
  queued-over z =
      record {
        roomy = q.roomy;
        filled = omega (arith, q.filled, whites-same v incoming (omega arith), ap (λ (n : ℕ). whites n incoming) (add-one v));
        listed = λ i h. omega (arith, q.listed i h);
        clear = q.clear;
        found = λ w h e. find w h e (ℕ_discrete w v);
        distinct = q.distinct;
      }
    where
      find : (w : ℕ) → w < v + 1 → get_or incoming w 0 ≡ 0 → Dec (w ≡ v) → (i : ℕ) × (i < count) × (get_or queue i 0 ≡ w)
      find w h e (yes same) = absurd (z (sym (ap (λ (u : ℕ). get_or incoming u 0) same) ∙ e))
      find w h e (no d) = q.found w (omega arith) e

pub queued-done : {v nodes count : ℕ} {incoming queue : List ℕ} → Queued v incoming queue count → v ≤ nodes → nodes ≤ v → Queued nodes incoming queue count
queued-done {v} {nodes} {count} {incoming} {queue} q low high = subst (λ (n : ℕ). Queued n incoming queue count) (omega arith) q

-- Taking the links of a row away.

-- The links of v before place k are taken away.
pub record Taking (ws : List ℕ) (v : ℕ) (incoming₀ queue₀ : List ℕ) (queued : ℕ) (incoming queue : List ℕ) (count k : ℕ) : Type 0 where
  pub due : RowDue ws v incoming₀ queue₀ queued
  pub low : links_from ws v ≤ k
  pub high : k ≤ row_end ws v
  pub taken : RowTaken ws v k incoming₀ queue₀ queued incoming queue count

module _ {ws incoming queue : List ℕ} {v queued : ℕ} (d : RowDue ws v incoming queue queued) where
  pub row-start : Taking ws v incoming queue queued incoming queue queued (links_from ws v)
  row-start =
      record {
        due = d;
        low = omega arith;
        high = (d.sound.shaped.node v d.inside).begun;
        taken = record {
          long = d.long;
          listing = d.listing;
          taken = λ w h. omega (arith, among_none ws w (links_from ws v) (links_from ws v) (omega arith));
          more = omega arith;
          same = λ i h. refl;
        };
      }

pub row_done : {ws incoming₀ queue₀ incoming queue : List ℕ} {v queued count k : ℕ} → Taking ws v incoming₀ queue₀ queued incoming queue count k →
    row_end ws v ≤ k → RowTaken ws v (row_end ws v) incoming₀ queue₀ queued incoming queue count
row_done {ws} {incoming₀} {queue₀} {incoming} {queue} {v} {queued} {count} {k} p h =
    subst (λ (n : ℕ). RowTaken ws v n incoming₀ queue₀ queued incoming queue count) (omega (arith, p.high)) p.taken

module _ {ws incoming₀ queue₀ incoming queue : List ℕ} {v queued count k : ℕ} (p : Taking ws v incoming₀ queue₀ queued incoming queue count k)
    (more : k < row_end ws v) where
  d : RowDue ws v incoming₀ queue₀ queued
  d = p.due

  t : RowTaken ws v k incoming₀ queue₀ queued incoming queue count
  t = p.taken

  abbrev w : ℕ
  w = target_at ws k

  pub row_inside_lem : w < size ws
  row_inside_lem = d.sound.targets v k d.inside p.low more

  one_more : among ws w (links_from ws v) (k + 1) ≡ among ws w (links_from ws v) k + 1
  one_more = omega (arith, among_next ws w (links_from ws v) k p.low, hit_same w w refl)

  -- the target is still entered
  pub still-entered : 0 < get_or incoming w 0
  still-entered =
      omega (arith, t.taken w row_inside_lem, d.due w row_inside_lem, one_more, among-rises ws w (links_from ws v) (k + 1) (row_end ws v) (omega arith))

  -- the target is not queued
  not-queued : (i : ℕ) → i < count → get_or queue i 0 ≡ w → ⊥
  not-queued i h e = omega (arith, still-entered, t.listing.clear i h, ap (λ (u : ℕ). get_or incoming u 0) e)

  module _ (left : ℕ) (one_less : suc left ≡ get_or incoming w 0) where
    at : get_or (set incoming w left) w 0 ≡ left
    at = get_or-set_same incoming w left 0 (omega (arith, t.long, d.small, row_inside_lem))

    other : (u : ℕ) → (u ≡ w → ⊥) → get_or (set incoming w left) u 0 ≡ get_or incoming u 0
    other u n = get_or-set_other incoming w u left 0 n

    taken_next : (u : ℕ) → u < size ws → get_or (set incoming w left) u 0 + among ws u (links_from ws v) (k + 1) ≡ get_or incoming₀ u 0
    taken_next u h = go (ℕ_discrete u w)
      where
        go : Dec (u ≡ w) → get_or (set incoming w left) u 0 + among ws u (links_from ws v) (k + 1) ≡ get_or incoming₀ u 0
        go (yes e) =
            omega (
              arith,
              ap (λ (x : ℕ). get_or (set incoming w left) x 0) e,
              at,
              one_less,
              one_more,
              ap (λ (x : ℕ). among ws x (links_from ws v) (k + 1)) e,
              t.taken w row_inside_lem,
              ap (λ (x : ℕ). get_or incoming₀ x 0) e,
            )
        go (no n) =
            omega (
              arith,
              other u n,
              among_next ws u (links_from ws v) k p.low,
              hit_other true w u (λ e. n (sym e)),
              t.taken u h,
            )

    clear_next : (i : ℕ) → i < count → get_or (set incoming w left) (get_or queue i 0) 0 ≡ 0
    clear_next i h = other (get_or queue i 0) (not-queued i h) ∙ t.listing.clear i h

    stays : (left ≡ 0 → ⊥) → RowTaken ws v (k + 1) incoming₀ queue₀ queued (set incoming w left) queue count
    stays some =
        record {
          long = length-set incoming w left ∙ t.long;
          listing = record {
            roomy = t.listing.roomy;
            filled = t.listing.filled ∙ sym (ap (λ (a : ℕ). whites (size ws) (set incoming w a)) one ∙ whites-stay (size ws) incoming w (left - 1) still-entered);
            listed = t.listing.listed;
            clear = clear_next;
            found = λ u h z. find u h z (ℕ_discrete u w);
            distinct = t.listing.distinct;
          };
          taken = taken_next;
          more = t.more;
          same = t.same;
        }
      where
        one : left ≡ suc (left - 1)
        one = omega arith

        find : (u : ℕ) → u < size ws → get_or (set incoming w left) u 0 ≡ 0 → Dec (u ≡ w) → (i : ℕ) × (i < count) × (get_or queue i 0 ≡ u)
        find u h z (yes e) = absurd (some (sym at ∙ sym (ap (λ (x : ℕ). get_or (set incoming w left) x 0) e) ∙ z))
        find u h z (no n) = t.listing.found u h (sym (other u n) ∙ z)

    joins : left ≡ 0 → RowTaken ws v (k + 1) incoming₀ queue₀ queued (set incoming w left) (set queue count w) (count + 1)
    joins none =
        record {
          long = length-set incoming w left ∙ t.long;
          listing =
              queued-join queue w t.listing.roomy room full row_inside_lem (at ∙ none) t.listing.listed clear_next
              (λ u h n z. t.listing.found u h (sym (other u n) ∙ z)) not-queued t.listing.distinct;
          taken = taken_next;
          more = omega (arith, t.more);
          same = λ i h. join-before queue count w (omega (arith, t.listing.roomy, room)) i (omega (arith, t.more)) ∙ t.same i h;
        }
      where
        full : suc count ≡ whites (size ws) (set incoming w left)
        full =
            omega (
              arith,
              t.listing.filled,
              ap (λ (a : ℕ). whites (size ws) (set incoming w a)) none,
              whites-join (size ws) incoming w row_inside_lem still-entered,
            )

        room : count < 255
        room = omega (arith, full, whites-bound (size ws) (set incoming w left), d.small)

  less_one : suc (get_or incoming w 0 - 1) ≡ get_or incoming w 0
  less_one = omega (arith, still-entered)

  -- there is room for one more
  pub row_room : get_or incoming w 0 - 1 ≡ 0 → count < 255
  row_room none =
      omega (
        arith,
        t.listing.filled,
        ap (λ (a : ℕ). whites (size ws) (set incoming w a)) none,
        whites-join (size ws) incoming w row_inside_lem still-entered,
        whites-bound (size ws) (set incoming w 0),
        d.small,
      )

  onward : {later line : List ℕ} {after : ℕ} → RowTaken ws v (k + 1) incoming₀ queue₀ queued later line after →
      Taking ws v incoming₀ queue₀ queued later line after (k + 1)
  onward r = record { due = d; low = omega (arith, p.low); high = omega arith; taken = r }

  pub row_stays : (get_or incoming w 0 - 1 ≡ 0 → ⊥) →
      Taking ws v incoming₀ queue₀ queued (set incoming w (get_or incoming w 0 - 1)) queue count (k + 1)
  row_stays some = onward (stays (get_or incoming w 0 - 1) less_one some)

  pub row-joins : get_or incoming w 0 - 1 ≡ 0 →
      Taking ws v incoming₀ queue₀ queued (set incoming w (get_or incoming w 0 - 1)) (set queue count w) (count + 1) (k + 1)
  row-joins none = onward (joins (get_or incoming w 0 - 1) less_one none)
