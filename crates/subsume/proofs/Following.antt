-- Following the links of one node. The lemmas say what seeking a feature passes over, what mapping one more node keeps, and what each turn of the
-- loop over a row makes of the map and the queue.
use mathlib.Core.Path.{◌≡◌, refl, sym, ◌∙◌, ap, subst}
use mathlib.Core.Bool.{Bool, true, false, cond}
use mathlib.Core.List.{List, [], ◌∷◌}
use Prim.Native.Nat.{ℕ, zero, suc, ◌+◌, ◌-◌, ◌*◌, ◌/◌, ◌≤◌, ◌<◌}
use native.Mathlib.Decide.{ℕ_discrete, dec_lt}
use native.Mathlib.Nat.{lt_trans}
use native.Mathlib.Omega.{arith}
use borrow.Author.Tests.{eq-eqb, ne_eqb}
use lib.Dec.{eqb}
use lib.ListN.{length, get_or, set, length-set}
use lib.Seq.{get_or-set_same, get_or-set_other}
use Rattle.layout.specs.Layout.{scale, size, links_from, row_end, feature_at, target_at, Node, Recorded}
use Rattle.layout.proofs.Spans.{features-rise}
use Rattle.subsume.specs.Following.{Sought, Queued, Meets, Comes, Clash, Followed, unmapped}
use Rattle.subsume.specs.Following.Comes.{kept, led}
use Rattle.subsume.specs.Following.Clash.{lacks, splits}

-- Seeking.

pub record Seeking (ws : List ℕ) (at end f k : ℕ) : Type 0 where
  pub low : at ≤ k
  pub high : k ≤ end
  pub before : (i : ℕ) → at ≤ i → i < k → feature_at ws i < f

-- A word below the least word of a feature has a lower feature.
pub feature-under : (w f : ℕ) → w < f * scale → w / scale < f
feature-under w f h = omega arith

pub feature-over : (w f : ℕ) → f * scale ≤ w → f ≤ w / scale
feature-over w f h = omega arith

pub seek-on : {ws : List ℕ} {at end f k : ℕ} → Seeking ws at end f k → k < end → get_or ws k 0 < f * scale → Seeking ws at end f (k + 1)
seek-on {ws} {at} {end} {f} {k} s h less =
    record { low = omega (arith, s.low); high = omega arith; before = λ i low high. go i low high (ℕ_discrete i k) }
  where
    go : (i : ℕ) → at ≤ i → i < k + 1 → Dec (i ≡ k) → feature_at ws i < f
    go i low high (yes e) = rw e (feature-under (get_or ws k 0) f less)
    go i low high (no d) = s.before i low (omega arith)

-- Mapping one node more.

-- Mapping a node leaves one unmapped node less.
pub unmapped-fall : (l : List ℕ) (w x : ℕ) → w < length l → get_or l w 0 ≡ 65535 → (x ≡ 65535 → ⊥) →
    suc (unmapped (set l w x)) ≡ unmapped l
unfolding unmapped
unmapped-fall [] w x h e d = absurd (omega arith)
unmapped-fall (y ∷ l) zero x h e d = rw (eq-eqb y 65535 e, ne_eqb x 65535 d) refl
unmapped-fall (y ∷ l) (suc w) x h e d = go (eqb y 65535) (unmapped-fall l w x (omega arith) e d)
  where
    go : (t : Bool) → suc (unmapped (set l w x)) ≡ unmapped l →
        suc (cond t (suc (unmapped (set l w x))) (unmapped (set l w x))) ≡ cond t (suc (unmapped l)) (unmapped l)
    go true q = ap suc q
    go false q = q

unmapped-some : (l : List ℕ) (w : ℕ) → w < length l → get_or l w 0 ≡ 65535 → 0 < unmapped l
unfolding unmapped
unmapped-some [] w h e = absurd (omega arith)
unmapped-some (y ∷ l) zero h e = rw (eq-eqb y 65535 e) (omega arith)
unmapped-some (y ∷ l) (suc w) h e = go (eqb y 65535) (unmapped-some l w (omega arith) e)
  where
    go : (t : Bool) → 0 < unmapped l → 0 < cond t (suc (unmapped l)) (unmapped l)
    go true q = omega arith
    go false q = q

-- The queue has room for a node that is not mapped.
pub room : {map queue : List ℕ} {count w : ℕ} → Queued map queue count → w < 255 → get_or map w 0 ≡ 65535 → count < 255
room {map} {w = w} q h e = omega (arith, q.counted, unmapped-some map w (omega (arith, q.map-long)) e)

module _ {map queue : List ℕ} {count w x : ℕ} (q : Queued map queue count) (inside : w < 255) (fresh : get_or map w 0 ≡ 65535)
    (image : x ≡ 65535 → ⊥) where
  set_here : get_or (set map w x) w 0 ≡ x
  set_here = get_or-set_same map w x 0 (omega (arith, q.map-long))

  set-kept : (u : ℕ) → (get_or map u 0 ≡ 65535 → ⊥) → get_or (set map w x) u 0 ≡ get_or map u 0
  set-kept u d = get_or-set_other map w u x 0 λ e. d (ap (λ (i : ℕ). get_or map i 0) e ∙ fresh)

  queue-kept : (i : ℕ) → i < count → get_or (set queue count w) i 0 ≡ get_or queue i 0
  queue-kept i h = get_or-set_other queue count i w 0 λ e. omega arith

  queue-here : get_or (set queue count w) count 0 ≡ w
  queue-here = get_or-set_same queue count w 0 (omega (arith, q.queue_long, room q inside fresh))

  queue-more : Queued (set map w x) (set queue count w) (count + 1)
  queue-more =
      record {
        map-long = length-set map w x ∙ q.map-long;
        queue_long = length-set queue count w ∙ q.queue_long;
        counted = omega (arith, q.counted, unmapped-fall map w x (omega (arith, q.map-long)) fresh image);
        listed = λ i h. listed i h (ℕ_discrete i count);
        mapped = λ i h. mapped i h (ℕ_discrete i count);
        placed = λ u h d. placed u h d (ℕ_discrete u w);
      }
    where
      listed : (i : ℕ) → i < count + 1 → Dec (i ≡ count) → get_or (set queue count w) i 0 < 255
      listed i h (yes e) = rw (e, queue-here) inside
      listed i h (no d) = rw (queue-kept i (omega arith)) (q.listed i (omega arith))

      mapped : (i : ℕ) → i < count + 1 → Dec (i ≡ count) → get_or (set map w x) (get_or (set queue count w) i 0) 0 ≡ 65535 → ⊥
      mapped i h (yes e) z =
          image (sym set_here ∙ ap (λ (u : ℕ). get_or (set map w x) u 0) (sym (ap (λ (n : ℕ). get_or (set queue count w) n 0) e ∙ queue-here)) ∙ z)
      mapped i h (no d) z =
          q.mapped i (omega arith)
          (sym (set-kept (get_or queue i 0) (q.mapped i (omega arith))) ∙
          ap (λ (u : ℕ). get_or (set map w x) u 0) (sym (queue-kept i (omega arith))) ∙ z)

      placed : (u : ℕ) → u < 255 → (get_or (set map w x) u 0 ≡ 65535 → ⊥) → Dec (u ≡ w) →
          (i : ℕ) × (i < count + 1) × (get_or (set queue count w) i 0 ≡ u)
      placed u h d (yes e) = (count, omega arith, queue-here ∙ sym e)
      placed u h d (no n) =
          let (i, low, e) = q.placed u h (λ z. d (get_or-set_other map w u x 0 n ∙ z)) in
          (i, omega arith, queue-kept i low ∙ e)

-- The loop over a row.

-- Numbers that cannot be.

apart : {a b : ℕ} → a < b → a ≡ b → ⊥
apart h e = omega arith

above : {a b c : ℕ} → a < b → c ≤ a → b ≡ c → ⊥
above h k e = omega arith

missing : {x : ℕ} → x < 255 → x ≡ 65535 → ⊥
missing h e = omega arith

-- The row of a node: places whose features ascend, with targets below 255.
pub record Span (ws : List ℕ) (v : ℕ) : Type 0 where
  pub node : Node ws v
  pub ascending : (k : ℕ) → links_from ws v ≤ k → k + 1 < row_end ws v → feature_at ws k < feature_at ws (k + 1)
  pub within : (k : ℕ) → links_from ws v ≤ k → k < row_end ws v → target_at ws k < 255

pub spans : {ws : List ℕ} → Recorded ws → (v : ℕ) → v < size ws → Span ws v
spans r v h =
    record {
      node = r.sound.shaped.node v h;
      ascending = λ k low high. r.sound.shaped.ascending v k h low high;
      within = λ k low high. omega (arith, r.sound.targets v k h low high, r.small);
    }

-- The places that say where the row of a node lies.
pub record Small (ws : List ℕ) (v : ℕ) : Type 0 where
  pub few : v < 255
  pub listed : v + 2 < length ws

pub nodes : {ws : List ℕ} {v : ℕ} → Recorded ws × (v < size ws) → Small ws v
nodes {ws} {v} r =
    let node = r.0.sound.shaped.node v r.1 in
    record { few = omega (arith, r.1, r.0.small); listed = node.listed }

module _ (s g : List ℕ) (u v : ℕ) where
  -- At place k of v's row in g and place j of u's row in s. The places of u's row before j have lower features than place k has.
  pub record Following (map queue : List ℕ) (count : ℕ) (later longer : List ℕ) (k j more : ℕ) : Type 0 where
    pub s-row : Span s u
    pub g-row : Span g v
    pub low : links_from g v ≤ k
    pub high : k ≤ row_end g v
    pub s-low : links_from s u ≤ j
    pub s-high : j ≤ row_end s u
    pub before : k < row_end g v → (i : ℕ) → links_from s u ≤ i → i < j → feature_at s i < feature_at g k
    pub followed : Followed s g u v map queue count later longer more k

module _ {s g : List ℕ} {u v : ℕ} where
  pub following-start : {map queue : List ℕ} {count : ℕ} → Span s u → Span g v → Queued map queue count →
      Following s g u v map queue count map queue (links_from g v) (links_from s u) count
  following-start a b q =
      record {
        s-row = a;
        g-row = b;
        low = omega arith;
        high = b.node.begun;
        s-low = omega arith;
        s-high = a.node.begun;
        before = λ h i low high. absurd (omega arith);
        followed =
            record {
              queued = q;
              grows = omega arith;
              keeps = λ w h d. refl;
              stays = λ i h. refl;
              comes = λ w h d. kept d refl;
              leads = λ k low high. absurd (omega arith);
            };
      }

  pub following-done : {map queue later longer : List ℕ} {count k j more : ℕ} → Following s g u v map queue count later longer k j more →
      row_end g v ≤ k → Followed s g u v map queue count later longer more (row_end g v)
  following-done {map} {queue} {later} {longer} {count} {k} {j} {more} f h =
      let e : k ≡ row_end g v = omega (arith, f.high) in
      subst (λ (i : ℕ). Followed s g u v map queue count later longer more i) e f.followed

  module _ {map queue later longer : List ℕ} {count k j more : ℕ} (f : Following s g u v map queue count later longer k j more)
      (inside : k < row_end g v) {place : ℕ} (sought : Sought s j (row_end s u) (feature_at g k) place) where
    pub target-in : target_at g k < 255
    target-in = f.g-row.within k f.low inside

    place-low : links_from s u ≤ place
    place-low = omega (arith, f.s-low, sought.low)

    -- no place before has the feature
    passed : (i : ℕ) → links_from s u ≤ i → i < place → feature_at s i < feature_at g k
    passed i low high = go (dec_lt i j)
      where
        go : Dec (i < j) → feature_at s i < feature_at g k
        go (yes h) = f.before inside i low h
        go (no h) = sought.before i (omega arith) high

    -- s has no link by the feature
    pub lacks-end : row_end s u ≤ place → Clash s g u v map
    lacks-end h = lacks k f.low inside λ i low high e. apart (passed i low (omega arith)) e

    pub lacks-feature : (feature_at s place ≡ feature_at g k → ⊥) → place < row_end s u → Clash s g u v map
    lacks-feature d h = lacks k f.low inside λ i low high e. go i low high e (dec_lt i place) (ℕ_discrete i place)
      where
        go : (i : ℕ) → links_from s u ≤ i → i < row_end s u → feature_at s i ≡ feature_at g k → Dec (i < place) → Dec (i ≡ place) → ⊥
        go i low high e (yes b) q = apart (passed i low b) e
        go i low high e (no b) (yes q) = d (ap (feature_at s) (sym q) ∙ e)
        go i low high e (no b) (no q) =
            above
            (features-rise s (row_end s u) f.s-row.node.ended (links_from s u) f.s-row.ascending
            (i - suc place) place i place-low (omega arith) high)
            (sought.found h) e

    module _ (h : place < row_end s u) (e : feature_at s place ≡ feature_at g k) where
      meets : Meets s g u v k place
      meets = record { g-low = f.low; g-high = inside; s-low = place-low; s-high = h; feature = e }

      comes-here : Comes s g u v map (target_at g k) (target_at s place)
      comes-here = led k place meets refl refl

      image : target_at s place ≡ 65535 → ⊥
      image z = missing (f.s-row.within place place-low h) z

      on-before : k + 1 < row_end g v → (i : ℕ) → links_from s u ≤ i → i < place → feature_at s i < feature_at g (k + 1)
      on-before more i low high = lt_trans (passed i low high) (f.g-row.ascending k f.low more)

      -- the target has another image
      pub splits-here : (get_or later (target_at g k) 0 ≡ 65535 → ⊥) → (get_or later (target_at g k) 0 ≡ target_at s place → ⊥) → Clash s g u v map
      splits-here m d =
          splits (target_at g k) (get_or later (target_at g k) 0) (target_at s place) target-in
          (f.followed.comes (target_at g k) target-in m) comes-here d

      -- the target has this image already
      pub following-met : get_or later (target_at g k) 0 ≡ target_at s place →
          Following s g u v map queue count later longer (k + 1) place more
      following-met same =
          record {
            s-row = f.s-row;
            g-row = f.g-row;
            low = omega (arith, f.low);
            high = omega arith;
            s-low = place-low;
            s-high = sought.high;
            before = on-before;
            followed =
                record {
                  queued = f.followed.queued;
                  grows = f.followed.grows;
                  keeps = f.followed.keeps;
                  stays = f.followed.stays;
                  comes = f.followed.comes;
                  leads = λ i low high. go i low high (ℕ_discrete i k);
                };
          }
        where
          go : (i : ℕ) → links_from g v ≤ i → i < k + 1 → Dec (i ≡ k) →
              (p : ℕ) × Meets s g u v i p × (get_or later (target_at g i) 0 ≡ target_at s p)
          go i low high (yes z) = rw z (place, meets, same)
          go i low high (no d) = f.followed.leads i low (omega arith)

      -- the target is given this image
      pub following-new : get_or later (target_at g k) 0 ≡ 65535 →
          Following s g u v map queue count (set later (target_at g k) (target_at s place)) (set longer more (target_at g k)) (k + 1) place (more + 1)
      following-new fresh =
          record {
            s-row = f.s-row;
            g-row = f.g-row;
            low = omega (arith, f.low);
            high = omega arith;
            s-low = place-low;
            s-high = sought.high;
            before = on-before;
            followed =
                record {
                  queued = queue-more old target-in fresh image;
                  grows = omega (arith, f.followed.grows);
                  keeps = λ w b d. still w (λ z. d (sym (f.followed.keeps w b d) ∙ z)) ∙ f.followed.keeps w b d;
                  stays = λ i b. queue-kept old target-in fresh image i (omega (arith, f.followed.grows)) ∙ f.followed.stays i b;
                  comes = λ w b d. comes w b d (ℕ_discrete w (target_at g k));
                  leads = λ i low high. go i low high (ℕ_discrete i k);
                };
          }
        where
          new : List ℕ
          new = set later (target_at g k) (target_at s place)

          old : Queued later longer more
          old = f.followed.queued

          still : (w : ℕ) → (get_or later w 0 ≡ 65535 → ⊥) → get_or new w 0 ≡ get_or later w 0
          still w d = set-kept old target-in fresh image w d

          comes : (w : ℕ) → w < 255 → (get_or new w 0 ≡ 65535 → ⊥) → Dec (w ≡ target_at g k) → Comes s g u v map w (get_or new w 0)
          comes w b d (yes z) = rw (z, set_here old target-in fresh image) comes-here
          comes w b d (no n) =
              let same : get_or new w 0 ≡ get_or later w 0 = get_or-set_other later (target_at g k) w (target_at s place) 0 n in
              rw same (f.followed.comes w b λ z. d (same ∙ z))

          go : (i : ℕ) → links_from g v ≤ i → i < k + 1 → Dec (i ≡ k) →
              (p : ℕ) × Meets s g u v i p × (get_or new (target_at g i) 0 ≡ target_at s p)
          go i low high (yes z) = rw z (place, meets, set_here old target-in fresh image)
          go i low high (no d) =
              let (p, m, same) = f.followed.leads i low (omega arith) in
              (p, m, still (target_at g i) (λ z. missing (f.s-row.within p m.s-low m.s-high) (sym same ∙ z)) ∙ same)

  -- `Following` holds for equal arrays and numbers.
  pub following-as : {map queue later longer later' longer' : List ℕ} {count k j more more' : ℕ} → later' ≡ later → longer' ≡ longer →
      more' ≡ more → Following s g u v map queue count later longer k j more →
      Following s g u v map queue count later' longer' k j more'
  following-as p q e f = rw (p, q, e) f
