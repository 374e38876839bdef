-- This file has the laws of the depth-first walk's colours: what holds where the walk comes to a node, at each of the node's links, and
-- where it leaves the node. The file also says what holds in the sweep over all nodes.
use mathlib.Core.Path.{◌≡◌, refl, ap, sym, ◌∙◌}
use mathlib.Core.Bool.{true, false}
use mathlib.Core.List.{List, [], ◌∷◌}
use Prim.Native.Nat.{ℕ, zero, suc, ◌+◌, ◌-◌, ◌≤◌, ◌<◌}
use native.Mathlib.Omega.{arith}
use native.Mathlib.Decide.{ℕ_discrete}
use borrow.Author.Count.{below_none, below_more}
use lib.ListN.{length, get_or, set, replicate, length-set, length-replicate}
use lib.Seq.{get_or-set_same, get_or-set_other}
use Rattle.std.specs.Prelude.{Some, None}
use Rattle.visits.specs.Colouring.{whites, Placed, Advanced, Entered, Leaves}
use Rattle.layout.specs.Layout.{size, links_from, row_end, target_at, Sound}
use Rattle.visits.specs.Walks.{Leads, Reaches, Sorts}

whites-paint : (n : ℕ) (l : List ℕ) (i a : ℕ) → whites n (set l i (suc a)) ≤ whites n l
unfolding whites
whites-paint zero l i a = omega arith
whites-paint (suc n) [] i a = omega arith
whites-paint (suc n) (zero ∷ l) zero a = omega arith
whites-paint (suc n) (suc x ∷ l) zero a = omega arith
whites-paint (suc n) (zero ∷ l) (suc i) a = omega (arith, whites-paint n l i a)
whites-paint (suc n) (suc x ∷ l) (suc i) a = whites-paint n l i a

-- painting a white node leaves one less
whites-fall : (n : ℕ) (l : List ℕ) (i a : ℕ) → i < n → i < length l → get_or l i 0 ≡ 0 → suc (whites n (set l i (suc a))) ≡ whites n l
unfolding whites
whites-fall zero l i a h k e = omega arith
whites-fall (suc n) [] i a h k e = omega arith
whites-fall (suc n) (zero ∷ l) zero a h k e = refl
whites-fall (suc n) (suc x ∷ l) zero a h k e = omega arith
whites-fall (suc n) (zero ∷ l) (suc i) a h k e = ap suc (whites-fall n l i a (omega arith) (omega arith) e)
whites-fall (suc n) (suc x ∷ l) (suc i) a h k e = whites-fall n l i a (omega arith) (omega arith) e

pub whites-bound : (n : ℕ) (l : List ℕ) → whites n l ≤ n
unfolding whites
whites-bound zero l = omega arith
whites-bound (suc n) [] = omega arith
whites-bound (suc n) (zero ∷ l) = omega (arith, whites-bound n l)
whites-bound (suc n) (suc x ∷ l) = omega (arith, whites-bound n l)

-- nodes of two colours are two
apart : (l : List ℕ) {u v : ℕ} → (get_or l u 0 ≡ get_or l v 0 → ⊥) → u ≡ v → ⊥
apart l h e = h (ap (λ (x : ℕ). get_or l x 0) e)

-- The walk is at place k of the links of v, and the targets before k are finished. `start` is the colouring once v is on the way down.
pub record Passing (ws start : List ℕ) (v done : ℕ) (colour order : List ℕ) (k count : ℕ) : Type 0 where
  pub advanced : Advanced ws start done colour order count
  pub passed : (j : ℕ) → j < k → links_from ws v ≤ j → 2 ≤ get_or colour (target_at ws j) 0
  pub reached : links_from ws v ≤ k
  pub ahead : k ≤ row_end ws v
  pub room : count + whites (size ws) colour < size ws

module _ {ws : List ℕ} where
  -- one link further
  onward : {u v w : ℕ} → Reaches ws u v → Leads ws v w → Reaches ws u w
  onward (Reaches.one l) m = Reaches.more l (Reaches.one m)
  onward (Reaches.more l r) m = Reaches.more l (onward r m)

  -- Advances join.
  advance-none : {colour order : List ℕ} {count : ℕ} → Placed ws colour order count → Advanced ws colour count colour order count
  advance-none p = record {
    placed = p;
    kept = λ u h. refl;
    descending = λ u h. h;
    fewer = omega arith;
    counted = omega arith;
  }

  advance-on : {colour₀ colour₁ colour₂ order₁ order₂ : List ℕ} {n₀ n₁ n₂ : ℕ} → Advanced ws colour₀ n₀ colour₁ order₁ n₁ →
      Advanced ws colour₁ n₁ colour₂ order₂ n₂ → Advanced ws colour₀ n₀ colour₂ order₂ n₂
  advance-on a b = record {
    placed = b.placed;
    kept = λ u h. b.kept u (omega (arith, a.kept u h)) ∙ a.kept u h;
    descending = λ u h. a.descending u (b.descending u h);
    fewer = omega arith;
    counted = omega arith;
  }

  -- what is finished stays so
  still : {colour later order : List ℕ} {n m : ℕ} → Advanced ws colour n later order m → (u : ℕ) → 2 ≤ get_or colour u 0 → 2 ≤ get_or later u 0
  still a u d = omega (arith, a.kept u (omega arith))

  has-colour : {colour order : List ℕ} {v count : ℕ} → Entered ws colour order v count → v < length colour
  has-colour e = omega (arith, e.placed.long, e.inside, e.sound.shaped.few)

  -- a white node that turns to the way down changes nothing of the finished ones
  placed-down : {colour order : List ℕ} {v count : ℕ} → Entered ws colour order v count → Placed ws (set colour v 1) order count
  placed-down {colour} {order} {v} {count} e = record {
    long = length-set colour v 1 ∙ e.placed.long;
    roomy = e.placed.roomy;
    low = λ u h k. omega (arith, old u k, e.placed.low u h (omega (arith, old u k)));
    stands = λ u h k. ap (λ (c : ℕ). get_or order (c - 2) 0) (old u k) ∙ e.placed.stands u h (omega (arith, old u k));
    closed = λ u w l k. omega (arith, same w (low-two u w l k), low-two u w l k);
    earlier = λ u w l k. omega (arith, old u k, same w (low-two u w l k), e.placed.earlier u w l (omega (arith, old u k)));
  } where
    same : (u : ℕ) → 2 ≤ get_or colour u 0 → get_or (set colour v 1) u 0 ≡ get_or colour u 0
    same u k = get_or-set_other colour v u 1 0 (apart colour λ s. omega (arith, e.white))

    old : (u : ℕ) → 2 ≤ get_or (set colour v 1) u 0 → get_or (set colour v 1) u 0 ≡ get_or colour u 0
    old u k = get_or-set_other colour v u 1 0 (apart (set colour v 1) λ s. omega (arith, get_or-set_same colour v 1 0 (has-colour e)))

    low-two : (u w : ℕ) → Leads ws u w → 2 ≤ get_or (set colour v 1) u 0 → 2 ≤ get_or colour w 0
    low-two u w l k = e.placed.closed u w l (omega (arith, old u k))

  -- at the first link
  pub whites-down : {before order : List ℕ} {v done : ℕ} → Entered ws before order v done →
      suc (whites (size ws) (set before v 1)) ≡ whites (size ws) before
  whites-down {before} {order} {v} e =
      whites-fall (size ws) before v 0 e.inside (has-colour e) e.white

  pub passing-start : {before order : List ℕ} {v done : ℕ} → Entered ws before order v done →
      Passing ws (set before v 1) v done (set before v 1) order (links_from ws v) done
  passing-start {before} {order} {v} {done} e = record {
    advanced = advance-none (placed-down e);
    passed = λ j h l. omega arith;
    reached = omega arith;
    ahead = (e.sound.shaped.node v e.inside).begun;
    room = omega (arith, whites-down e);
  }

  -- within the links of v
  module _ {before order₀ : List ℕ} {v done : ℕ} (e : Entered ws before order₀ v done) where
    -- the places that say where the row of v lies, and those of its links
    pub listed : v + 2 < length ws
    listed = (e.sound.shaped.node v e.inside).listed

    pub place-in : {k : ℕ} → k < row_end ws v → k < length ws
    place-in h = omega (arith, (e.sound.shaped.node v e.inside).ended)

    link : (k : ℕ) → links_from ws v ≤ k → k < row_end ws v → Leads ws v (target_at ws k)
    link k l h = record { inside = e.inside; place = k; low = l; high = h; target_is = refl }

    lands : (w : ℕ) → Leads ws v w → w < size ws
    lands w l = rw l.target_is at (e.sound.targets v l.place l.inside l.low l.high)

    -- what is on the way down reaches what v leads to
    above : {colour order : List ℕ} {count w : ℕ} → Advanced ws (set before v 1) done colour order count →
        Leads ws v w → (u : ℕ) → u < size ws → get_or colour u 0 ≡ 1 → Reaches ws u w
    above {colour} {order} {count} {w} a l u h c = go (ℕ_discrete u v) where
      go : Dec (u ≡ v) → Reaches ws u w
      go (yes s) = rw s (Reaches.one l)
      go (no n) = onward (e.above u h (sym (get_or-set_other before v u 1 0 n) ∙ a.descending u c)) l

    module _ {colour order : List ℕ} {k count : ℕ} (p : Passing ws (set before v 1) v done colour order k count) where
      pub target-in : k < row_end ws v → target_at ws k < size ws
      target-in h = e.sound.targets v k e.inside p.reached h

      -- a link to a node on the way down closes a cycle
      pub closes : k < row_end ws v → get_or colour (target_at ws k) 0 ≡ 1 → (u : ℕ) × Reaches ws u u
      closes h c = (target_at ws k, above p.advanced (link k p.reached h) (target_at ws k) (target-in h) c)

      -- at a link to a white node
      pub entered : k < row_end ws v → get_or colour (target_at ws k) 0 ≡ 0 → Entered ws colour order (target_at ws k) count
      entered h c = record {
        sound = e.sound;
        placed = p.advanced.placed;
        inside = target-in h;
        white = c;
        above = above p.advanced (link k p.reached h);
        room = omega (arith, p.room);
      }

      -- past a link to a finished node, and past one whose target was finished from here
      pub passing-over : k < row_end ws v → 2 ≤ get_or colour (target_at ws k) 0 →
          Passing ws (set before v 1) v done colour order (k + 1) count
      passing-over h c = record {
        advanced = p.advanced;
        passed = below_more (λ j. links_from ws v ≤ j → 2 ≤ get_or colour (target_at ws j) 0) k p.passed (λ l. c);
        reached = omega (arith, p.reached);
        ahead = omega arith;
        room = p.room;
      }

      pub passing-down : {later order₁ : List ℕ} {more : ℕ} → k < row_end ws v → Advanced ws colour count later order₁ more →
          2 ≤ get_or later (target_at ws k) 0 → Passing ws (set before v 1) v done later order₁ (k + 1) more
      passing-down {later} {order₁} {more} h a c = record {
        advanced = advance-on p.advanced a;
        passed = below_more (λ j. links_from ws v ≤ j → 2 ≤ get_or later (target_at ws j) 0) k (λ j i l. still a (target_at ws j) (p.passed j i l)) (λ l. c);
        reached = omega (arith, p.reached);
        ahead = omega arith;
        room = omega (arith, p.room, a.counted);
      }

      -- v finished after its last link
      module _ (last : row_end ws v ≤ k) where
        down : get_or colour v 0 ≡ 1
        down = p.advanced.kept v (omega (arith, get_or-set_same before v 1 0 (has-colour e))) ∙ get_or-set_same before v 1 0 (has-colour e)

        at : get_or (set colour v (count + 2)) v 0 ≡ count + 2
        at = get_or-set_same colour v (count + 2) 0 (omega (arith, p.advanced.placed.long, e.inside, e.sound.shaped.few))

        same : (u : ℕ) → (u ≡ v → ⊥) → get_or (set colour v (count + 2)) u 0 ≡ get_or colour u 0
        same u n = get_or-set_other colour v u (count + 2) 0 n

        target-done : (w : ℕ) → Leads ws v w → 2 ≤ get_or colour w 0
        target-done w l = rw l.target_is at (p.passed l.place (omega (arith, l.high)) l.low)

        not-down : (w : ℕ) → 2 ≤ get_or colour w 0 → w ≡ v → ⊥
        not-down w h = apart colour λ s. omega (arith, down)

        finished-later : (w : ℕ) → 2 ≤ get_or colour w 0 → 2 ≤ get_or (set colour v (count + 2)) w 0
        finished-later w h = omega (arith, same w (not-down w h))

        placed-finish : Placed ws (set colour v (count + 2)) (set order count v) (count + 1)
        placed-finish = record {
          long = length-set colour v (count + 2) ∙ p.advanced.placed.long;
          roomy = length-set order count v ∙ p.advanced.placed.roomy;
          low = λ u h c. low u h c (ℕ_discrete u v);
          stands = λ u h c. stands u h c (ℕ_discrete u v);
          closed = λ u w l c. closed u w l c (ℕ_discrete u v);
          earlier = λ u w l c. earlier u w l c (ℕ_discrete u v);
        } where
          low : (u : ℕ) → u < size ws → 2 ≤ get_or (set colour v (count + 2)) u 0 → Dec (u ≡ v) → get_or (set colour v (count + 2)) u 0 < count + 1 + 2
          low u h c (yes s) = rw s (omega (arith, at))
          low u h c (no n) = omega (arith, same u n, p.advanced.placed.low u h (omega (arith, same u n)))

          stands : (u : ℕ) → u < size ws → 2 ≤ get_or (set colour v (count + 2)) u 0 → Dec (u ≡ v) → get_or (set order count v) (get_or (set colour v (count + 2)) u 0 - 2) 0 ≡ u
          stands u h c (yes s) =
              ap (λ (x : ℕ). get_or (set order count v) x 0) (omega (arith, at, ap (λ (x : ℕ). get_or (set colour v (count + 2)) x 0) s))
              ∙ get_or-set_same order count v 0 (omega (arith, p.advanced.placed.roomy, p.room, e.sound.shaped.few))
              ∙ sym s
          stands u h c (no n) =
              ap (λ (x : ℕ). get_or (set order count v) (x - 2) 0) (same u n)
              ∙ get_or-set_other order count (get_or colour u 0 - 2) v 0 (λ z. omega (arith, same u n, p.advanced.placed.low u h (omega (arith, same u n))))
              ∙ p.advanced.placed.stands u h (omega (arith, same u n))

          closed : (u w : ℕ) → Leads ws u w → 2 ≤ get_or (set colour v (count + 2)) u 0 → Dec (u ≡ v) → 2 ≤ get_or (set colour v (count + 2)) w 0
          closed u w l c (yes s) = finished-later w (target-done w (rw s at l))
          closed u w l c (no n) = finished-later w (p.advanced.placed.closed u w l (omega (arith, same u n)))

          earlier : (u w : ℕ) → Leads ws u w → 2 ≤ get_or (set colour v (count + 2)) u 0 → Dec (u ≡ v) →
              get_or (set colour v (count + 2)) w 0 < get_or (set colour v (count + 2)) u 0
          earlier u w l c (yes s) =
              let d : 2 ≤ get_or colour w 0 = target-done w (rw s at l) in
              omega (arith, at, ap (λ (x : ℕ). get_or (set colour v (count + 2)) x 0) s, same w (not-down w d), p.advanced.placed.low w (lands w (rw s at l)) d)
          earlier u w l c (no n) =
              let d : 2 ≤ get_or colour w 0 = p.advanced.placed.closed u w l (omega (arith, same u n)) in
              omega (arith, same u n, same w (not-down w d), p.advanced.placed.earlier u w l (omega (arith, same u n)))

        pub finishes : Leaves ws before v done (set colour v (count + 2)) (set order count v) (Some (count + 1))
        finishes = record {
          long = placed-finish.long;
          roomy = placed-finish.roomy;
          counted = λ more r. let m : count + 1 ≡ more = cc in rw m at advance-finish;
          finished = λ more r. omega (arith, at);
          looped = λ r. let z : ◌≡◌ {A = ℕ} 0 1 = cc in absurd (omega arith);
        } where
          painted : whites (size ws) (set colour v (count + 2)) ≤ whites (size ws) colour
          painted = rw s (whites-paint (size ws) colour v (count + 1)) where
            s : count + 2 ≡ suc (count + 1)
            s = omega arith

          advance-finish : Advanced ws before done (set colour v (count + 2)) (set order count v) (count + 1)
          advance-finish = record {
            placed = placed-finish;
            kept = λ u h. kept u h (apart before λ s. omega (arith, e.white));
            descending = λ u h. descending u h (apart (set colour v (count + 2)) λ s. omega (arith, at));
            fewer = omega (arith, painted, p.advanced.fewer, whites-down e);
            counted = omega (arith, painted, p.advanced.counted, whites-down e);
          } where
            kept : (u : ℕ) → 0 < get_or before u 0 → (u ≡ v → ⊥) → get_or (set colour v (count + 2)) u 0 ≡ get_or before u 0
            kept u h n = same u n ∙ p.advanced.kept u (omega (arith, get_or-set_other before v u 1 0 n)) ∙ get_or-set_other before v u 1 0 n

            descending : (u : ℕ) → get_or (set colour v (count + 2)) u 0 ≡ 1 → (u ≡ v → ⊥) → get_or before u 0 ≡ 1
            descending u h n = sym (get_or-set_other before v u 1 0 n) ∙ p.advanced.descending u (sym (same u n) ∙ h)

-- the walk leaves a node because of a cycle
pub leaves-back : {ws before colour order : List ℕ} {v done : ℕ} → length colour ≡ 510 → length order ≡ 510 →
    (u : ℕ) × Reaches ws u u → Leaves ws before v done colour order None
leaves-back l m c = record {
  long = l;
  roomy = m;
  counted = λ more r. let z : ◌≡◌ {A = ℕ} 0 1 = cc in absurd (omega arith);
  finished = λ more r. let z : ◌≡◌ {A = ℕ} 0 1 = cc in absurd (omega arith);
  looped = λ r. c;
}

-- In the sweep over all nodes, those before v are finished, and none is on the way down.
pub record Sweeping (ws colour order : List ℕ) (v count : ℕ) : Type 0 where
  pub sound : Sound ws
  pub placed : Placed ws colour order count
  pub settled : (u : ℕ) → get_or colour u 0 ≡ 1 → ⊥
  pub swept : (u : ℕ) → u < v → 2 ≤ get_or colour u 0
  pub room : count + whites (size ws) colour ≤ size ws
  pub ahead : v ≤ size ws

blank : (n u : ℕ) → ◌≡◌ {A = ℕ} (get_or (replicate n 0) u 0) 0
blank zero u = refl
blank (suc n) zero = refl
blank (suc n) (suc u) = blank n u

module _ {ws : List ℕ} where
  pub sweeping-start : Sound ws → (order colour : List ℕ) → colour ≡ replicate 510 0 → length order ≡ 510 → Sweeping ws colour order 0 0
  sweeping-start sound order colour s h = record {
    sound = sound;
    placed = record {
      long = ap length s ∙ length-replicate {A = ℕ} 510 0;
      roomy = h;
      low = λ u i c. absurd (white u c);
      stands = λ u i c. absurd (white u c);
      closed = λ u w l c. absurd (white u c);
      earlier = λ u w l c. absurd (white u c);
    };
    settled = λ u c. omega (arith, blank-here u);
    swept = below_none (λ u. 2 ≤ get_or colour u 0);
    room = omega (arith, whites-bound (size ws) colour);
    ahead = omega arith;
  } where
    blank-here : (u : ℕ) → get_or colour u 0 ≡ 0
    blank-here u = ap (λ (l : List ℕ). get_or l u 0) s ∙ blank 510 u

    white : (u : ℕ) → 2 ≤ get_or colour u 0 → ⊥
    white u c = omega (arith, blank-here u)

  module _ {colour order : List ℕ} {v count : ℕ} (s : Sweeping ws colour order v count) where
    pub sweeping-entered : v < size ws → get_or colour v 0 ≡ 0 → Entered ws colour order v count
    sweeping-entered h c = record {
      sound = s.sound;
      placed = s.placed;
      inside = h;
      white = c;
      above = λ u i d. absurd (s.settled u d);
      room = s.room;
    }

    pub sweeping-over : v < size ws → (get_or colour v 0 ≡ 0 → ⊥) → Sweeping ws colour order (v + 1) count
    sweeping-over h c = record {
      sound = s.sound;
      placed = s.placed;
      settled = s.settled;
      swept = below_more (λ u. 2 ≤ get_or colour u 0) v s.swept (two (get_or colour v 0) c (s.settled v));
      room = s.room;
      ahead = omega arith;
    } where
      two : (n : ℕ) → (n ≡ 0 → ⊥) → (n ≡ 1 → ⊥) → 2 ≤ n
      two n a b = omega arith

    pub sweeping-down : {later order₁ : List ℕ} {more : ℕ} → v < size ws → Advanced ws colour count later order₁ more → 2 ≤ get_or later v 0 →
        Sweeping ws later order₁ (v + 1) more
    sweeping-down {later} {order₁} {more} h a c = record {
      sound = s.sound;
      placed = a.placed;
      settled = λ u d. s.settled u (a.descending u d);
      swept = below_more (λ u. 2 ≤ get_or later u 0) v (λ u i. still a u (s.swept u i)) c;
      room = omega (arith, a.counted, s.room);
      ahead = omega arith;
    }

    pub sweeping-sorts : size ws ≤ v → Sorts ws order false
    sweeping-sorts h = record {
      looped = λ r. let z : ◌≡◌ {A = ℕ} 0 1 = cc in absurd (omega arith);
      sorted = λ r. (
        λ u. get_or colour u 0 - 2,
        record {
          inside = λ u i. omega (arith, s.placed.low u i (done u i), s.room);
          stands = λ u i. s.placed.stands u i (done u i);
          earlier = λ u w l. omega (arith, s.placed.earlier u w l (done u l.inside), s.placed.closed u w l (done u l.inside));
        },
      );
    } where
      done : (u : ℕ) → u < size ws → 2 ≤ get_or colour u 0
      done u i = s.swept u (omega arith)

pub looped-sorts : {ws order : List ℕ} → (u : ℕ) × Reaches ws u u → Sorts ws order true
looped-sorts c = record { looped = λ r. c; sorted = λ r. let z : ◌≡◌ {A = ℕ} 0 1 = cc in absurd (omega arith) }
