-- The merge of two rows: the links before i in one and before j in the other are merged, and the features that come next are greater than the
-- merged ones.
use mathlib.Core.Path.{◌≡◌, refl, sym, ◌∙◌, ap, subst}
use mathlib.Core.Bool.{Bool, cond}
use mathlib.Core.List.{List}
use mathlib.Core.Logic.{◌⊎◌, inl, inr, ⊎_elim}
use Prim.Native.Nat.{ℕ, zero, suc, ◌+◌, ◌/◌, ◌%◌, ◌≤◌, ◌<◌}
use native.Mathlib.Decide.{dec_lt}
use native.Mathlib.Numerals.{add-one}
use native.Mathlib.Omega.{arith}
use borrow.Author.Tests.{lt-ltb, le-ltb}
use lib.ListN.{length, get_or, set, length-set}
use Rattle.layout.specs.Layout.{scale, feature_at, target_at}
use Rattle.classes.specs.Merge.{Places, Span, Merged, feature_or, pair_word, left_at, right_at}
use Rattle.classes.proofs.Roots.{stored, unstored}

-- The feature at a place inside a row, and past its end.
pub feature-in : (ws : List ℕ) (k end : ℕ) → k < end → feature_or ws k end ≡ feature_at ws k
feature-in ws k end h = ap (λ (t : Bool). cond t (feature_at ws k) 64) (lt-ltb k end h)

pub feature-out : (ws : List ℕ) (k end : ℕ) → end ≤ k → feature_or ws k end ≡ 64
feature-out ws k end h = ap (λ (t : Bool). cond t (feature_at ws k) 64) (le-ltb k end h)

-- Equal words have equal features and targets.
pub feature-same : {v w : ℕ} → v ≡ w → v / scale ≡ w / scale
feature-same e = ap (λ (n : ℕ). n / scale) e

pub target-same : {v w : ℕ} → v ≡ w → v % scale ≡ w % scale
target-same e = ap (λ (n : ℕ). n % scale) e

-- The two nodes of a pair by the pair's word.
pair_left : (x y : ℕ) → y < scale → pair_word x y / scale ≡ x
pair_left x y h = omega arith

pair-right : (x y : ℕ) → y < scale → pair_word x y % scale ≡ y
pair-right x y h = omega arith

module _ (a₀ a₁ b₀ b₁ : ℕ) (ws ps : List ℕ) (used count : ℕ) where
  -- What a merge asks for.
  pub record Mergeable : Type 0 where
    pub fits : used ≤ length ws
    pub places : Places (length ws) used a₀ a₁ b₀ b₁
    pub a : Span ws used a₀ a₁
    pub b : Span ws used b₀ b₁
    pub room : count + b₁ ≤ length ps + b₀

  pub record Merging (ws' ps' : List ℕ) (i j at top : ℕ) : Type 0 where
    pub asked : Mergeable
    pub merged : Merged a₀ i b₀ j ws ps used count ws' ps' at top
    pub a-low : a₀ ≤ i
    pub a-high : i ≤ a₁
    pub b-low : b₀ ≤ j
    pub b-high : j ≤ b₁
    pub under-a : (k : ℕ) → used ≤ k → k < at → i < a₁ → feature_at ws' k < feature_at ws i
    pub under-b : (k : ℕ) → used ≤ k → k < at → j < b₁ → feature_at ws' k < feature_at ws j
    pub pairs : top + b₀ ≤ count + j

  -- Nothing is merged yet.
  pub merge-start : Mergeable → Merging ws ps a₀ b₀ used count
  merge-start asked =
      record {
        asked = asked;
        merged =
            record {
              pool-long = refl;
              waiting-long = refl;
              pool-kept = λ k h. refl;
              waiting_kept = λ k h. refl;
              rises = omega arith;
              grows = omega arith;
              counted = refl;
              ascending = λ k low high. absurd (omega arith);
              short = λ k low high. absurd (omega arith);
              source = λ k low high. absurd (omega arith);
              pair = λ k low high. absurd (omega arith);
              first = λ k low high. absurd (omega arith);
              second = λ k low high. absurd (omega arith);
            };
        a-low = omega arith;
        a-high = asked.a.rising;
        b-low = omega arith;
        b-high = asked.b.rising;
        under-a = λ k low high. absurd (omega arith);
        under-b = λ k low high. absurd (omega arith);
        pairs = omega arith;
      }

  -- All is merged.
  pub merge-done : {ws' ps' : List ℕ} {i j at top : ℕ} → Merging ws' ps' i j at top → a₁ + b₁ ≤ i + j →
      Merged a₀ a₁ b₀ b₁ ws ps used count ws' ps' at top
  merge-done {ws'} {ps'} {i} {j} {at} {top} s h =
      let e : i ≡ a₁ = omega (arith, s.a-high, s.b-high) in
      let d : j ≡ b₁ = omega (arith, s.a-high, s.b-high) in
      subst (λ (m : ℕ). Merged a₀ m b₀ b₁ ws ps used count ws' ps' at top) e
      (subst (λ (m : ℕ). Merged a₀ i b₀ m ws ps used count ws' ps' at top) d s.merged)

  -- What one more link is: its word w and feature f, the places i' and j' that are merged after it, and the pairs.
  record Link (ws' ps' : List ℕ) (i j at top : ℕ) (w f i' j' : ℕ) (ps'' : List ℕ) (top' : ℕ) : Type 0 where
    feature : w / scale ≡ f
    above : (k : ℕ) → used ≤ k → k < at → feature_at ws' k < f
    a-next : i ≤ i'
    a-most : i' ≤ a₁
    a-above : i' < a₁ → f < feature_at ws i'
    b-next : j ≤ j'
    b-most : j' ≤ b₁
    b-above : j' < b₁ → f < feature_at ws j'
    one : i' + j' + top ≡ suc (i + j) + top'
    paired : top' + j ≤ top + j'
    origin : (p : ℕ) × (((a₀ ≤ p) × (p < i')) ⊎ ((b₀ ≤ p) × (p < j'))) × (w ≡ get_or ws p 0)
    in-a : (p : ℕ) → i ≤ p → p < i' → w ≡ get_or ws p 0
    in_b : (p : ℕ) → j ≤ p → p < j' →
        (f ≡ feature_at ws p) ×
        ((w % scale ≡ target_at ws p) ⊎
        ((q : ℕ) × (top ≤ q) × (q < top') × (left_at ps'' q ≡ w % scale) × (right_at ps'' q ≡ target_at ws p)))
    ps-long : length ps'' ≡ length ps'
    grows : top ≤ top'
    ps-kept : (q : ℕ) → q < top → get_or ps'' q 0 ≡ get_or ps' q 0
    pair : (q : ℕ) → top ≤ q → q < top' →
        (p : ℕ) × (r : ℕ) × (a₀ ≤ p) × (p < i') × (b₀ ≤ r) × (r < j') × (feature_at ws p ≡ feature_at ws r) ×
        (left_at ps'' q ≡ target_at ws p) × (right_at ps'' q ≡ target_at ws r)

  module _ {ws' ps' : List ℕ} {i j at top : ℕ} (s : Merging ws' ps' i j at top) where
    abbrev m : Merged a₀ i b₀ j ws ps used count ws' ps' at top
    m = s.merged

    -- The row takes no more places than the next feature counts.
    room : (f : ℕ) → ((k : ℕ) → used ≤ k → k < at → feature_at ws' k < f) → at ≤ used + f
    room f above = go at refl
      where
        go : (n : ℕ) → n ≡ at → at ≤ used + f
        go zero e = omega arith
        go (suc n) e = last (dec_lt used at)
          where
            last : Dec (used < at) → at ≤ used + f
            last (yes h) = omega (arith, m.short n (omega arith) (omega arith), above n (omega arith) (omega arith))
            last (no h) = omega (arith, m.rises)

    merge-link : {w f i' j' : ℕ} {ps'' : List ℕ} {top' : ℕ} → at < length ws' → Link ws' ps' i j at top w f i' j' ps'' top' →
        Merging (set ws' at w) ps'' i' j' (suc at) top'
    merge-link {w} {f} {i'} {j'} {ps''} {top'} space link =
        record {
          asked = s.asked;
          merged =
              record {
                pool-long = length-set ws' at w ∙ m.pool-long;
                waiting-long = link.ps-long ∙ m.waiting-long;
                pool-kept = λ k h. old k (omega (arith, m.rises)) ∙ m.pool-kept k h;
                waiting_kept = λ q h. link.ps-kept q (omega (arith, m.grows)) ∙ m.waiting_kept q h;
                rises = omega (arith, m.rises);
                grows = omega (arith, m.grows, link.grows);
                counted = omega (arith, m.counted, link.one);
                ascending = λ k low high. ascending k low high (dec_lt (suc k) at);
                short = λ k low high. short k low high (dec_lt k at);
                source = λ k low high. source k low high (dec_lt k at);
                pair = λ q low high. pair q low high (dec_lt q top);
                first = λ p low high. first p low high (dec_lt p i);
                second = λ p low high. second p low high (dec_lt p j);
              };
          a-low = omega (arith, s.a-low, link.a-next);
          a-high = link.a-most;
          b-low = omega (arith, s.b-low, link.b-next);
          b-high = link.b-most;
          under-a = λ k low high h. le_below (most k low high (dec_lt k at)) (link.a-above h);
          under-b = λ k low high h. le_below (most k low high (dec_lt k at)) (link.b-above h);
          pairs = omega (arith, s.pairs, link.paired);
        }
      where
        le_below : {x y z : ℕ} → x ≤ y → y < z → x < z
        le_below a b = omega arith

        old : (k : ℕ) → k < at → get_or (set ws' at w) k 0 ≡ get_or ws' k 0
        old k h = unstored ws' at w k (λ e. omega arith)

        new : (k : ℕ) → k ≡ at → get_or (set ws' at w) k 0 ≡ w
        new k e = ap (λ (n : ℕ). get_or (set ws' at w) n 0) e ∙ stored ws' at w space

        f-old : (k : ℕ) → k < at → feature_at (set ws' at w) k ≡ feature_at ws' k
        f-old k h = feature-same (old k h)

        f-new : (k : ℕ) → k ≡ at → feature_at (set ws' at w) k ≡ f
        f-new k e = feature-same (new k e) ∙ link.feature

        most : (k : ℕ) → used ≤ k → k < suc at → Dec (k < at) → feature_at (set ws' at w) k ≤ f
        most k low high (yes h) = omega (arith, f-old k h, link.above k low h)
        most k low high (no h) = omega (arith, f-new k (omega arith))

        ascending : (k : ℕ) → used ≤ k → suc k < suc at → Dec (suc k < at) →
            feature_at (set ws' at w) k < feature_at (set ws' at w) (suc k)
        ascending k low high (yes h) = omega (arith, f-old k (omega arith), f-old (suc k) h, m.ascending k low h)
        ascending k low high (no h) =
            omega (arith, f-old k (omega arith), f-new (suc k) (omega arith), link.above k low (omega arith))

        short : (k : ℕ) → used ≤ k → k < suc at → Dec (k < at) → k ≤ used + feature_at (set ws' at w) k
        short k low high (yes h) = omega (arith, f-old k h, m.short k low h)
        short k low high (no h) = omega (arith, f-new k (omega arith), room f link.above)

        source : (k : ℕ) → used ≤ k → k < suc at → Dec (k < at) →
            (p : ℕ) × (((a₀ ≤ p) × (p < i')) ⊎ ((b₀ ≤ p) × (p < j'))) × (get_or (set ws' at w) k 0 ≡ get_or ws p 0)
        source k low high (yes h) =
            let (p, side, same) = m.source k low h in (
              p,
              ⊎_elim (λ (z : (a₀ ≤ p) × (p < i)). inl (z.0, omega (arith, z.1, link.a-next)))
                  (λ (z : (b₀ ≤ p) × (p < j)). inr (z.0, omega (arith, z.1, link.b-next))) side,
              old k h ∙ same,
            )
        source k low high (no h) = let (p, side, e) = link.origin in (p, side, new k (omega arith) ∙ e)

        pair : (q : ℕ) → count ≤ q → q < top' → Dec (q < top) →
            (p : ℕ) × (r : ℕ) × (a₀ ≤ p) × (p < i') × (b₀ ≤ r) × (r < j') × (feature_at ws p ≡ feature_at ws r) ×
            (left_at ps'' q ≡ target_at ws p) × (right_at ps'' q ≡ target_at ws r)
        pair q low high (yes h) =
            let (p, r, a, b, c, d, e, x, y) = m.pair q low h in (
              p,
              r,
              a,
              omega (arith, link.a-next),
              c,
              omega (arith, link.b-next),
              e,
              feature-same (link.ps-kept q h) ∙ x,
              target-same (link.ps-kept q h) ∙ y,
            )
        pair q low high (no h) = link.pair q (omega arith) high

        first : (p : ℕ) → a₀ ≤ p → p < i' → Dec (p < i) →
            (k : ℕ) × (used ≤ k) × (k < suc at) × (get_or (set ws' at w) k 0 ≡ get_or ws p 0)
        first p low high (yes h) = let (k, a, b, same) = m.first p low h in (k, a, omega arith, old k b ∙ same)
        first p low high (no h) = (at, m.rises, omega arith, new at refl ∙ link.in-a p (omega arith) high)

        second : (p : ℕ) → b₀ ≤ p → p < j' → Dec (p < j) →
            (k : ℕ) × (used ≤ k) × (k < suc at) × (feature_at (set ws' at w) k ≡ feature_at ws p) ×
            ((target_at (set ws' at w) k ≡ target_at ws p) ⊎
            ((q : ℕ) × (count ≤ q) × (q < top') × (left_at ps'' q ≡ target_at (set ws' at w) k) × (right_at ps'' q ≡ target_at ws p)))
        second p low high (yes h) =
            let (k, a, b, e, d) = m.second p low h in (
              k,
              a,
              omega arith,
              f-old k b ∙ e,
              ⊎_elim (λ (z : target_at ws' k ≡ target_at ws p). inl (target-same (old k b) ∙ z))
                  (λ (z : (q : ℕ) × (count ≤ q) × (q < top) × (left_at ps' q ≡ target_at ws' k) × (right_at ps' q ≡ target_at ws p)).
                  inr (z.0, z.1, omega (arith, z.2, link.grows), feature-same (link.ps-kept z.0 z.2) ∙ z.3 ∙ sym (target-same (old k b)), target-same (link.ps-kept z.0 z.2) ∙ z.4))
                  d,
            )
        second p low high (no h) =
            let (e, d) = link.in_b p (omega arith) high in (
              at,
              m.rises,
              omega arith,
              f-new at refl ∙ e,
              ⊎_elim (λ (z : w % scale ≡ target_at ws p). inl (target-same (new at refl) ∙ z))
                  (λ (z : (q : ℕ) × (top ≤ q) × (q < top') × (left_at ps'' q ≡ w % scale) × (right_at ps'' q ≡ target_at ws p)).
                  inr (z.0, omega (arith, z.1, m.grows), z.2, z.3 ∙ sym (target-same (new at refl)), z.4)) d,
            )

    -- The three ways to go on: f and g are the next features of the two rows, 64 past a row's end.
    module _ {f g : ℕ} (f-is : f ≡ feature_or ws' i a₁) (g-is : g ≡ feature_or ws' j b₁) where
      abbrev a : Span ws used a₀ a₁
      a = s.asked.a

      abbrev b : Span ws used b₀ b₁
      b = s.asked.b

      a_word : i < a₁ → get_or ws' i 0 ≡ get_or ws i 0
      a_word h = m.pool-kept i (omega (arith, a.before))

      b-word : j < b₁ → get_or ws' j 0 ≡ get_or ws j 0
      b-word h = m.pool-kept j (omega (arith, b.before))

      f-in : i < a₁ → f ≡ feature_at ws i
      f-in h = f-is ∙ feature-in ws' i a₁ h ∙ feature-same (a_word h)

      g-in : j < b₁ → g ≡ feature_at ws j
      g-in h = g-is ∙ feature-in ws' j b₁ h ∙ feature-same (b-word h)

      f-most : (f ≤ 64) × (f < 64 → i < a₁)
      f-most = go (dec_lt i a₁)
        where
          go : Dec (i < a₁) → (f ≤ 64) × (f < 64 → i < a₁)
          go (yes h) = (omega (arith, f-in h, a.known i s.a-low h), λ _. h)
          go (no h) = let e : f ≡ 64 = f-is ∙ feature-out ws' i a₁ (omega arith) in (omega arith, λ l. absurd (omega arith))

      g-most : (g ≤ 64) × (g < 64 → j < b₁)
      g-most = go (dec_lt j b₁)
        where
          go : Dec (j < b₁) → (g ≤ 64) × (g < 64 → j < b₁)
          go (yes h) = (omega (arith, g-in h, b.known j s.b-low h), λ _. h)
          go (no h) = let e : g ≡ 64 = g-is ∙ feature-out ws' j b₁ (omega arith) in (omega arith, λ l. absurd (omega arith))

      -- There is a next place.
      space : i + j < a₁ + b₁ → (h : ℕ) → h < 64 → ((k : ℕ) → used ≤ k → k < at → feature_at ws' k < h) → at < length ws'
      space left h small above =
          omega (arith, m.pool-long, s.asked.places at (omega (arith, room h above)) (omega (arith, m.counted, m.grows)))

      over-f : i < a₁ → (k : ℕ) → used ≤ k → k < at → feature_at ws' k < f
      over-f h k low high = omega (arith, f-in h, s.under-a k low high h)

      over-g : j < b₁ → (k : ℕ) → used ≤ k → k < at → feature_at ws' k < g
      over-g h k low high = omega (arith, g-in h, s.under-b k low high h)

      -- The places of either row are inside the pool.
      pub in-a : i < a₁ → i < length ws'
      in-a h = omega (arith, a.before, s.asked.fits, m.pool-long)

      pub in_b : j < b₁ → j < length ws'
      in_b h = omega (arith, b.before, s.asked.fits, m.pool-long)

      pub left_in : f < g → (i < a₁) × (at < length ws')
      left_in h =
          let l : i < a₁ = f-most.1 (omega (arith, g-most.0)) in
          (l, space (omega (arith, s.b-high)) f (omega (arith, g-most.0)) (over-f l))

      pub right-in : g < f → (j < b₁) × (at < length ws')
      right-in h =
          let l : j < b₁ = g-most.1 (omega (arith, f-most.0)) in
          (l, space (omega (arith, s.a-high)) g (omega (arith, f-most.0)) (over-g l))

      pub both-in : i + j < a₁ + b₁ → f ≡ g → (i < a₁) × (j < b₁) × (at < length ws')
      both-in h e = go (dec_lt f 64)
        where
          go : Dec (f < 64) → (i < a₁) × (j < b₁) × (at < length ws')
          go (yes l) = let k : i < a₁ = f-most.1 l in (k, g-most.1 (omega arith), space h f l (over-f k))
          go (no n) = some (dec_lt i a₁) (dec_lt j b₁)
            where
              some : Dec (i < a₁) → Dec (j < b₁) → (i < a₁) × (j < b₁) × (at < length ws')
              some (yes l) d = absurd (omega (arith, f-in l, a.known i s.a-low l))
              some (no k) (yes l) = absurd (omega (arith, g-in l, b.known j s.b-low l))
              some (no k) (no l) = absurd (omega arith)

      pub merge-left : f < g → Merging (set ws' at (get_or ws' i 0)) ps' (i + 1) j (at + 1) top
      merge-left less =
          rw (add-one i, add-one at)
          (merge-link (left_in less).1
          (record {
            feature = feature-same (a_word l) ∙ sym (f-in l);
            above = over-f l;
            a-next = omega arith;
            a-most = l;
            a-above = λ h. omega (arith, f-in l, a.ascending i s.a-low h);
            b-next = omega arith;
            b-most = s.b-high;
            b-above = λ h. omega (arith, g-in h);
            one = omega arith;
            paired = omega arith;
            origin = (i, inl (s.a-low, omega arith), a_word l);
            in-a = λ p low high. let e : i ≡ p = omega arith in a_word l ∙ ap (λ (n : ℕ). get_or ws n 0) e;
            in_b = λ p low high. absurd (omega arith);
            ps-long = refl;
            grows = omega arith;
            ps-kept = λ q h. refl;
            pair = λ q low high. absurd (omega arith);
          }))
        where
          l : i < a₁
          l = (left_in less).0

      pub merge-right : g < f → Merging (set ws' at (get_or ws' j 0)) ps' i (j + 1) (at + 1) top
      merge-right less =
          rw (add-one j, add-one at)
          (merge-link (right-in less).1
          (record {
            feature = feature-same (b-word l) ∙ sym (g-in l);
            above = over-g l;
            a-next = omega arith;
            a-most = s.a-high;
            a-above = λ h. omega (arith, f-in h);
            b-next = omega arith;
            b-most = l;
            b-above = λ h. omega (arith, g-in l, b.ascending j s.b-low h);
            one = omega arith;
            paired = omega arith;
            origin = (j, inr (s.b-low, omega arith), b-word l);
            in-a = λ p low high. absurd (omega arith);
            in_b = λ p low high.
                let e : j ≡ p = omega arith in
                (g-in l ∙ ap (λ (n : ℕ). feature_at ws n) e, inl (target-same (b-word l) ∙ ap (λ (n : ℕ). target_at ws n) e));
            ps-long = refl;
            grows = omega arith;
            ps-kept = λ q h. refl;
            pair = λ q low high. absurd (omega arith);
          }))
        where
          l : j < b₁
          l = (right-in less).0

      pub pair-room : i + j < a₁ + b₁ → f ≡ g → top < length ps'
      pair-room left e = omega (arith, (both-in left e).1, s.pairs, s.asked.room, m.waiting-long)

      pub merge-both : i + j < a₁ + b₁ → f ≡ g → {w : ℕ} → w ≡ pair_word (target_at ws' i) (target_at ws' j) →
          Merging (set ws' at (get_or ws' i 0)) (set ps' top w) (i + 1) (j + 1) (at + 1) (top + 1)
      merge-both left e {w} word =
          rw (add-one i, add-one j, add-one at, add-one top)
          (merge-link (both-in left e).2
          (record {
            feature = feature-same (a_word l) ∙ sym (f-in l);
            above = over-f l;
            a-next = omega arith;
            a-most = l;
            a-above = λ h. omega (arith, f-in l, a.ascending i s.a-low h);
            b-next = omega arith;
            b-most = k;
            b-above = λ h. omega (arith, g-in k, b.ascending j s.b-low h);
            one = omega arith;
            paired = omega arith;
            origin = (i, inl (s.a-low, omega arith), a_word l);
            in-a = λ p low high. let q : i ≡ p = omega arith in a_word l ∙ ap (λ (n : ℕ). get_or ws n 0) q;
            in_b = λ p low high.
                let q : j ≡ p = omega arith in (
                  e ∙ g-in k ∙ ap (λ (n : ℕ). feature_at ws n) q,
                  inr (top, omega arith, omega arith, left-new, right_new ∙ target-same (b-word k) ∙ ap (λ (n : ℕ). target_at ws n) q),
                );
            ps-long = length-set ps' top w;
            grows = omega arith;
            ps-kept = λ q h. unstored ps' top w q (λ z. omega arith);
            pair = λ q low high.
                let z : q ≡ top = omega arith in (
                  i,
                  j,
                  s.a-low,
                  omega arith,
                  s.b-low,
                  omega arith,
                  sym (f-in l) ∙ e ∙ g-in k,
                  ap (λ (n : ℕ). left_at (set ps' top w) n) z ∙ left-new ∙ target-same (a_word l),
                  ap (λ (n : ℕ). right_at (set ps' top w) n) z ∙ right_new ∙ target-same (b-word k),
                );
          }))
        where
          l : i < a₁
          l = (both-in left e).0

          k : j < b₁
          k = (both-in left e).1

          left-new : left_at (set ps' top w) top ≡ target_at ws' i
          left-new = feature-same (stored ps' top w (pair-room left e) ∙ word) ∙ pair_left (target_at ws' i) (target_at ws' j) (omega arith)

          right_new : right_at (set ps' top w) top ≡ target_at ws' j
          right_new = target-same (stored ps' top w (pair-room left e) ∙ word) ∙ pair-right (target_at ws' i) (target_at ws' j) (omega arith)

-- What is merged.
module _ {a₀ a₁ b₀ b₁ : ℕ} {ws ps : List ℕ} {used count : ℕ} {ws' ps' : List ℕ} {at top : ℕ}
    (m : Merged a₀ a₁ b₀ b₁ ws ps used count ws' ps' at top) (a : Span ws used a₀ a₁) (b : Span ws used b₀ b₁) where
  pub merged-known : (k : ℕ) → used ≤ k → k < at → feature_at ws' k < 64
  merged-known k low high =
      let (p, side, same) = m.source k low high in
      omega (
        arith,
        feature-same same,
        ⊎_elim (λ (z : (a₀ ≤ p) × (p < a₁)). a.known p z.0 z.1) (λ (z : (b₀ ≤ p) × (p < b₁)). b.known p z.0 z.1) side,
      )

  -- a row has at most 64 places
  pub merged-short : at ≤ used + 64
  merged-short = go at refl
    where
      go : (n : ℕ) → n ≡ at → at ≤ used + 64
      go zero e = omega arith
      go (suc n) e = last (dec_lt used at)
        where
          last : Dec (used < at) → at ≤ used + 64
          last (yes h) = omega (arith, m.short n (omega arith) (omega arith), merged-known n (omega arith) (omega arith))
          last (no h) = omega arith
