-- Lemmas about marking the links of s in one pass over their places. Each turn of the loop marks one link, and headers are passed over. A
-- link leads its class if it comes before the link that led the class so far; that link then follows.
use mathlib.Core.Path.{◌≡◌, refl, sym, ◌∙◌, ap, subst}
use mathlib.Core.List.{List}
use mathlib.Core.Logic.{◌⊎◌, inl, inr}
use Prim.Native.Nat.{ℕ, ◌+◌, ◌≤◌, ◌<◌}
use native.Mathlib.Decide.{ℕ_discrete, dec_lt}
use native.Mathlib.Omega.{arith}
use lib.ListN.{length, get_or, set, length-set}
use lib.Seq.{get_or-set_same, get_or-set_other}
use Rattle.layout.specs.Layout.{size, row_from, links_from, row_end, feature_at, Place}
use Rattle.layout.proofs.Order.{next_row, place-from, place-before, no_header}
use Rattle.classes.specs.Forest.{Flat, root_of}
use Rattle.groups.specs.Marks.{
  rank_at,
  Sooner,
  Owned,
  Has,
  class_at,
  Together,
  Mark,
  follows,
  leads,
  bare,
  Marks,
  Standing,
  stands-behind,
  stands-first,
  stands-bare,
  Marking,
}

-- The parent of an owner is the root of its class, and it is a node.
module _ {nodes : ℕ} {parent : List ℕ} (flat : Flat nodes parent) {x : ℕ} (small : x < nodes) where
  pub class_low : get_or parent x 0 < nodes
  class_low = omega (arith, flat.forest.down x small)

  pub class-is : get_or parent x 0 ≡ root_of parent x
  class-is = flat.near x small

-- The order by rank, then by place.

sooner-trans : {x y z a b c : ℕ} → (x < y) ⊎ ((x ≡ y) × (a < b)) → (y < z) ⊎ ((y ≡ z) × (b < c)) → (x < z) ⊎ ((x ≡ z) × (a < c))
sooner-trans (inl p) (inl q) = inl (omega arith)
sooner-trans (inl p) (inr q) = inl (omega arith)
sooner-trans (inr p) (inl q) = inl (omega arith)
sooner-trans (inr p) (inr q) = inr (omega arith, omega arith)

not-sooner : {x a : ℕ} → (x < x) ⊎ ((x ≡ x) × (a < a)) → ⊥
not-sooner (inl p) = omega arith
not-sooner (inr p) = omega arith

-- One place.

module _ {s owner parent : List ℕ} (o : Owned s owner parent) where
  within : {v k : ℕ} → Place s v k → k < length owner
  within {v} p = omega (arith, p.high, (o.shaped.node v p.inside).ended, o.long)

  -- Every place is less than 65535, which stands for no place.
  low-place : {k : ℕ} → k < length owner → k < 65535
  low-place h = omega (arith, o.long, o.short)

  class-small : (k : ℕ) → k < length owner → Has owner k → class_at owner parent k < 255
  class-small k h has =
      let low = o.low k h has in
      omega (arith, class-is o.flat low, class_low o.flat low, o.few)

-- What is known when the link at place k is met.
abbrev pub Turn : (s owner parent rank : List ℕ) (k : ℕ) (lead marks : List ℕ) → Type 0
Turn s owner parent rank k lead marks = (Owned s owner parent × ((v : ℕ) × Place s v k)) × Marking s owner parent rank k lead marks

module _ {s owner parent rank : List ℕ} {k : ℕ} {lead marks : List ℕ} (turn : Turn s owner parent rank k lead marks) where
  abbrev o : Owned s owner parent
  o = turn.0.0

  abbrev v : ℕ
  v = turn.0.1.0

  abbrev p : Place s v k
  p = turn.0.1.1

  abbrev m : Marking s owner parent rank k lead marks
  m = turn.1

  pub here-within : k < length owner
  here-within = within o p

  pub here-inside : k < length s
  here-inside = omega (arith, p.high, (o.shaped.node v p.inside).ended)

  pub here-low : k < 65535
  here-low = low-place o here-within

  pub here-marked : k < length marks
  here-marked = omega (arith, m.long, here-inside)

  pub here-known : feature_at s k < 64
  here-known = o.shaped.known v k p.inside p.low p.high

  -- Place k gets a mark, and no leader changes.
  stays : {x : ℕ} → Standing s owner parent rank lead k x → Marking s owner parent rank (k + 1) lead (set marks k x)
  stays {x} new =
      record {
        long = length-set marks k x ∙ m.long;
        lead-long = m.lead-long;
        met = λ c h d. let (l, has, e) = m.met c h d in (omega arith, has, e);
        each = λ u i q l. go u i q l (ℕ_discrete i k);
      }
    where
      go : (u i : ℕ) → Place s u i → i < k + 1 → Dec (i ≡ k) → Standing s owner parent rank lead i (get_or (set marks k x) i 0)
      go u i q l (yes e) = rw (e, get_or-set_same marks k x 0 (omega (arith, m.long, here-inside))) new
      go u i q l (no d) = rw (get_or-set_other marks k i x 0 d) (m.each u i q (omega arith))

  pub marking-bare : get_or owner k 0 ≡ 65535 → Marking s owner parent rank (k + 1) lead (set marks k 2)
  marking-bare none = stays (stands-bare refl none)

  module _ (has : Has owner k) where
    abbrev c : ℕ
    c = get_or parent (get_or owner k 0) 0

    pub here-class : c < 255
    here-class = omega (arith, class_low o.flat (o.low k here-within has), o.few)

    class : c ≡ class_at owner parent k
    class = class-is o.flat (o.low k here-within has)

    -- Place k becomes the leader of its class. `before` has marks for the places before k that fit the new leader.
    takes : (before : List ℕ) → length before ≡ length s →
        ((u i : ℕ) → Place s u i → i < k → Standing s owner parent rank (set lead c k) i (get_or before i 0)) →
        Marking s owner parent rank (k + 1) (set lead c k) (set before k 1)
    takes before long each =
        record {
          long = length-set before k 1 ∙ long;
          lead-long = length-set lead c k ∙ m.lead-long;
          met = λ x h d. met x h d (ℕ_discrete x c);
          each = λ u i q l. go u i q l (ℕ_discrete i k);
        }
      where
        now : get_or (set lead c k) c 0 ≡ k
        now = get_or-set_same lead c k 0 (omega (arith, m.lead-long, here-class))

        met : (x : ℕ) → x < 255 → (get_or (set lead c k) x 0 ≡ 65535 → ⊥) → Dec (x ≡ c) →
            (get_or (set lead c k) x 0 < k + 1) × Has owner (get_or (set lead c k) x 0) × (class_at owner parent (get_or (set lead c k) x 0) ≡ x)
        met x h d (yes e) = rw (e, now) (omega arith, has, sym class)
        met x h d (no n) =
            let same : get_or (set lead c k) x 0 ≡ get_or lead x 0 = get_or-set_other lead c x k 0 n in
            let (l, b, e) = m.met x h (λ q. d (same ∙ q)) in
            rw same (omega arith, b, e)

        go : (u i : ℕ) → Place s u i → i < k + 1 → Dec (i ≡ k) → Standing s owner parent rank (set lead c k) i (get_or (set before k 1) i 0)
        go u i q l (yes e) =
            rw (e, get_or-set_same before k 1 0 (omega (arith, long, here-inside)))
            (stands-first refl has (ap (λ (x : ℕ). get_or (set lead c k) x 0) (sym class) ∙ now))
        go u i q l (no d) = rw (get_or-set_other before k i 1 0 d) (each u i q (omega arith))

    -- A place of another class keeps its leader.
    other : (i x : ℕ) → (class_at owner parent i ≡ c → ⊥) → Standing s owner parent rank lead i x →
        Standing s owner parent rank (set lead c k) i x
    other i x d st = go st (get_or-set_other lead c (class_at owner parent i) k 0 d)
      where
        go : Standing s owner parent rank lead i x → get_or (set lead c k) (class_at owner parent i) 0 ≡ get_or lead (class_at owner parent i) 0 →
            Standing s owner parent rank (set lead c k) i x
        go (stands-behind e h l q) same =
            stands-behind e h (rw same l) (subst (λ (j : ℕ). Sooner s rank j i) (sym same) q)
        go (stands-first e h q) same = stands-first e h (same ∙ q)
        go (stands-bare e h) same = stands-bare e h

    -- Place k is the first of its class that is met.
    pub marking-first : get_or lead c 0 ≡ 65535 → Marking s owner parent rank (k + 1) (set lead c k) (set marks k 1)
    marking-first free = takes marks m.long (λ u i q l. go u i q l (ℕ_discrete (class_at owner parent i) c) (m.each u i q l))
      where
        go : (u i : ℕ) → Place s u i → i < k → Dec (class_at owner parent i ≡ c) → Standing s owner parent rank lead i (get_or marks i 0) →
            Standing s owner parent rank (set lead c k) i (get_or marks i 0)
        go u i q l (no d) st = other i (get_or marks i 0) d st
        go u i q l (yes e) (stands-behind f h b w) =
            absurd (omega (arith, ap (λ (x : ℕ). get_or lead x 0) e ∙ free, low-place o b))
        go u i q l (yes e) (stands-first f h w) =
            absurd (omega (arith, sym w ∙ ap (λ (x : ℕ). get_or lead x 0) e ∙ free, low-place o (within o q)))
        go u i q l (yes e) (stands-bare f h) = stands-bare f h

    -- Another place of the class is met before place k.
    module _ (led : get_or lead c 0 ≡ 65535 → ⊥) where
      abbrev j : ℕ
      j = get_or lead c 0

      pub met-before : j < k
      met-before = (m.met c here-class led).0

      met_has : Has owner j
      met_has = (m.met c here-class led).1

      met-class : class_at owner parent j ≡ c
      met-class = (m.met c here-class led).2

      met-place : (u : ℕ) × Place s u j
      met-place = o.linked j (omega (arith, met-before, here-within)) met_has

      pub met-inside : j < length s
      met-inside = omega (arith, met-before, here-inside)

      pub met-marked : j < length marks
      met-marked = omega (arith, m.long, met-inside)

      pub met-known : feature_at s j < 64
      met-known =
          let (u, q) = met-place in
          o.shaped.known u j q.inside q.low q.high

      pub marking-follows : rank_at s rank j ≤ rank_at s rank k → Marking s owner parent rank (k + 1) lead (set marks k 0)
      marking-follows h =
          stays
          (stands-behind refl has (rw same (omega (arith, met-before, here-within)))
          (subst (λ (i : ℕ). Sooner s rank i k) (sym same) (go (dec_lt (rank_at s rank j) (rank_at s rank k)))))
        where
          same : get_or lead (class_at owner parent k) 0 ≡ j
          same = ap (λ (x : ℕ). get_or lead x 0) (sym class)

          go : Dec (rank_at s rank j < rank_at s rank k) → Sooner s rank j k
          go (yes l) = inl l
          go (no d) = inr (omega arith, met-before)

      pub marking-overtakes : rank_at s rank k < rank_at s rank j → Marking s owner parent rank (k + 1) (set lead c k) (set (set marks j 0) k 1)
      marking-overtakes less =
          takes (set marks j 0) (length-set marks j 0 ∙ m.long)
          (λ u i q l. go u i q (ℕ_discrete (class_at owner parent i) c) (ℕ_discrete i j) (m.each u i q l))
        where
          now : (i : ℕ) → class_at owner parent i ≡ c → get_or (set lead c k) (class_at owner parent i) 0 ≡ k
          now i e =
              ap (λ (x : ℕ). get_or (set lead c k) x 0) e ∙ get_or-set_same lead c k 0 (omega (arith, m.lead-long, here-class))

          zero-there : get_or (set marks j 0) j 0 ≡ 0
          zero-there = get_or-set_same marks j 0 0 (omega (arith, m.long, met-inside))

          under : (i x : ℕ) → x ≡ 0 → Has owner i → class_at owner parent i ≡ c → Sooner s rank k i →
              Standing s owner parent rank (set lead c k) i x
          under i x z h e w =
              stands-behind z h (rw (now i e) here-within) (subst (λ (y : ℕ). Sooner s rank y i) (sym (now i e)) w)

          go : (u i : ℕ) → Place s u i → Dec (class_at owner parent i ≡ c) → Dec (i ≡ j) → Standing s owner parent rank lead i (get_or marks i 0) →
              Standing s owner parent rank (set lead c k) i (get_or (set marks j 0) i 0)
          go u i q (no d) (yes e) st = absurd (d (ap (class_at owner parent) e ∙ met-class))
          go u i q (no d) (no n) st = rw (get_or-set_other marks j i 0 0 n) (other i (get_or marks i 0) d st)
          go u i q (yes d) (yes e) st =
              under i (get_or (set marks j 0) i 0) (ap (λ (x : ℕ). get_or (set marks j 0) x 0) e ∙ zero-there)
              (subst (Has owner) (sym e) met_has) d (subst (Sooner s rank k) (sym e) (inl less))
          go u i q (yes d) (no n) (stands-behind f h b w) =
              under i (get_or (set marks j 0) i 0) (get_or-set_other marks j i 0 0 n ∙ f) h d
              (sooner-trans (inl less) (subst (λ (y : ℕ). Sooner s rank y i) (ap (λ (x : ℕ). get_or lead x 0) d) w))
          go u i q (yes d) (no n) (stands-first f h w) = absurd (n (sym w ∙ ap (λ (x : ℕ). get_or lead x 0) d))
          go u i q (yes d) (no n) (stands-bare f h) = stands-bare (get_or-set_other marks j i 0 0 n ∙ f) h

-- All places.

module _ {s owner parent rank : List ℕ} (o : Owned s owner parent) where
  -- `Marking` moves from place k to place l where no link stands between them.
  moved : {k l : ℕ} {lead marks : List ℕ} → Marking s owner parent rank k lead marks → k ≤ l →
      ((v j : ℕ) → Place s v j → j < l → j < k) → Marking s owner parent rank l lead marks
  moved m low none =
      record {
        long = m.long;
        lead-long = m.lead-long;
        met = λ c h d. let (b, has, e) = m.met c h d in (omega arith, has, e);
        each = λ v j p h. m.each v j p (none v j p h);
      }

  pub marking-start : {lead marks : List ℕ} → length marks ≡ length s → length lead ≡ 255 →
      ((c : ℕ) → c < 255 → get_or lead c 0 ≡ 65535) → Marking s owner parent rank (row_from s 0) lead marks
  marking-start long room clear =
      record {
        long = long;
        lead-long = room;
        met = λ c h d. absurd (d (clear c h));
        each = λ v j p h. absurd (omega (arith, place-from o.shaped p));
      }

  -- When all links are met, the marks are those by rank, then by place.
  pub marking-all : (v : ℕ) {lead marks : List ℕ} → Marking s owner parent rank (row_from s v) lead marks → v ≤ size s → size s ≤ v →
      Marks (Sooner s rank) s owner parent marks
  marking-all v {lead} {marks} m low high = record { long = m.long; each = λ u k p. go u k p (stands u k p) }
    where
      stands : (u k : ℕ) → Place s u k → Standing s owner parent rank lead k (get_or marks k 0)
      stands u k p =
          m.each u k p
          (subst (λ (i : ℕ). k < row_from s i) (omega arith) (place-before o.shaped p))

      alone : (k : ℕ) → get_or lead (class_at owner parent k) 0 ≡ k → (j : ℕ) → Sooner s rank j k → Together owner parent j k →
          Standing s owner parent rank lead j (get_or marks j 0) → ⊥
      alone k q j w t (stands-behind e h b z) =
          not-sooner (sooner-trans (subst (λ (i : ℕ). Sooner s rank i j) (ap (λ (x : ℕ). get_or lead x 0) t.class ∙ q) z) w)
      alone k q j w t (stands-first e h z) =
          not-sooner (subst (λ (i : ℕ). Sooner s rank i k) (sym z ∙ ap (λ (x : ℕ). get_or lead x 0) t.class ∙ q) w)
      alone k q j w t (stands-bare e h) = t.left h

      go : (u k : ℕ) → Place s u k → Standing s owner parent rank lead k (get_or marks k 0) → Mark owner parent (Sooner s rank) k (get_or marks k 0)
      go u k p (stands-behind e h b w) =
          let (_, has, class) =
          m.met (class_at owner parent k) (class-small o k (within o p) h) (λ z. omega (arith, low-place o b)) in
          follows e (get_or lead (class_at owner parent k) 0) b w (record { left = has; right = h; class = class })
      go u k p (stands-first e h q) =
          leads e h (λ j l w t. let (x, at) = o.linked j l t.left in alone k q j w t (stands x j at))
      go u k p (stands-bare e h) = bare e h

-- The loop stands at place k in the row of node v, and the links before place k are marked.
pub record InRow (s owner parent rank : List ℕ) (v k : ℕ) (lead marks : List ℕ) : Type 0 where
  pub owned : Owned s owner parent
  pub inside : v < size s
  pub low : links_from s v ≤ k
  pub high : k ≤ row_end s v
  pub marking : Marking s owner parent rank k lead marks

module _ {s owner parent rank : List ℕ} where
  pub row-start : (v : ℕ) {lead marks : List ℕ} → Owned s owner parent → Marking s owner parent rank (row_from s v) lead marks → v < size s →
      InRow s owner parent rank v (links_from s v) lead marks
  row-start v o m h =
      record {
        owned = o;
        inside = h;
        low = omega arith;
        high = (o.shaped.node v h).begun;
        marking = moved o m (omega arith) (λ u j p below. no_header o.shaped v h p below);
      }

  module _ {v k : ℕ} {lead marks : List ℕ} (r : InRow s owner parent rank v k lead marks) where
    pub row-place : k < row_end s v → Place s v k
    row-place h = record { inside = r.inside; low = r.low; high = h }

    pub row_within : k < row_end s v → k < length owner
    row_within h = within r.owned (row-place h)

    pub row_next : {lead' marks' : List ℕ} → k < row_end s v → Marking s owner parent rank (k + 1) lead' marks' →
        InRow s owner parent rank v (k + 1) lead' marks'
    row_next h m = record { owned = r.owned; inside = r.inside; low = omega (arith, r.low); high = omega arith; marking = m }

    pub row_done : row_end s v ≤ k → Marking s owner parent rank (row_from s (v + 1)) lead marks
    row_done h =
        subst (λ (i : ℕ). Marking s owner parent rank i lead marks) (omega (arith, r.high) ∙ next_row s v (v + 1) (omega arith)) r.marking
