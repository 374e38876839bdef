-- The search over g's nodes. One path leads to every mapped node and to its image, so each failure refutes that s is below g. Once every node in
-- the queue is passed, the map is a node map.
use mathlib.Core.Path.{◌≡◌, refl, sym, ◌∙◌, ap, ap₂}
use mathlib.Core.Bool.{true, false, true≢false}
use mathlib.Core.List.{List, [], ◌∷◌, ◌++◌}
use mathlib.Core.Option.{some}
use Prim.Native.Nat.{ℕ, suc, ◌+◌, ◌≤◌, ◌<◌}
use native.Mathlib.Decide.{ℕ_discrete}
use native.Mathlib.Omega.{arith}
use borrow.Author.Tests.{eq-eqb}
use lib.ListN.{length, get_or, set, replicate, length-set, length-replicate, get_or-replicate}
use lib.Seq.{get_or-set_same, get_or-set_other}
use Rattle.graphs.specs.Graph.{Graph, Below, walk, follow}
use Rattle.graphs.proofs.Walk.{some-injective, some-unique, snoc-induction, follow-last, walk-snoc}
use Rattle.graphs.proofs.Below.{below-labels}
use Rattle.lattice.specs.Labels.{table_labels, Known}
use Rattle.lattice.specs.Label.{Label}
use Rattle.layout.specs.Layout.{size, links_from, row_end, label_at, feature_at, target_at, rows_of, graph_in, Recorded}
use Rattle.layout.proofs.Places.{label-at, link-at, link-place}
use Rattle.std.specs.Prelude.{None, Some}
use Rattle.subsume.specs.Promise.{Orders}
use Rattle.subsume.specs.Following.{Queued, Meets, Comes, Clash, Followed, unmapped}
use Rattle.subsume.specs.Following.Comes.{kept, led}
use Rattle.subsume.specs.Following.Clash.{lacks, splits}
use Rattle.subsume.proofs.Following.{unmapped-fall}

-- One path leads to w in g and to x in s.
abbrev pub Together : Graph Label ℕ → Graph Label ℕ → ℕ → ℕ → Type 0
Together s g w x = (p : List ℕ) × (walk g p ≡ some w) × (walk s p ≡ some x)

module _ (s g : Graph Label ℕ) where
  together-root : Together s g g.root s.root
  unfolding follow
  together-root = ([], refl, refl)

  together-link : {v u w x : ℕ} (f : ℕ) → Together s g v u → g.link v f ≡ some w → s.link u f ≡ some x → Together s g w x
  together-link f t a b = (t.0 ++ (f ∷ []), walk-snoc g t.0 f t.1 ∙ a, walk-snoc s t.0 f t.2 ∙ b)

  module _ (n : ℕ) (t : List ℕ) (b : Below (table_labels n t) s g) where
    label-refutes : {v u : ℕ} → Together s g v u → (table_labels n t).le (s.label u) (g.label v) ≡ false → ⊥
    label-refutes {v} {u} c e = true≢false (sym (below-labels b c.0 u v c.2 c.1) ∙ e)

    lack-refutes : {v u w : ℕ} (f : ℕ) → Together s g v u → g.link v f ≡ some w → ((x : ℕ) → s.link u f ≡ some x → ⊥) → ⊥
    lack-refutes {v} {u} {w} f c l never =
        let found = b.paths (c.0 ++ (f ∷ [])) w (walk-snoc g c.0 f c.1 ∙ l) in
        never found.0 (sym (walk-snoc s c.0 f c.2) ∙ found.1)

    split-refutes : {w x y : ℕ} → Together s g w x → Together s g w y → (x ≡ y → ⊥) → ⊥
    split-refutes {w} c d never =
        let one = b.corefers c.0 d.0 (w, c.1, d.1) in
        never (some-unique c.2 one.1 ∙ some-unique one.2 d.2)

-- The queue holds the root.

unmapped-all : (l : List ℕ) → ((w : ℕ) → w < length l → get_or l w 0 ≡ 65535) → unmapped l ≡ length l
unfolding unmapped
unmapped-all [] bare = refl
unmapped-all (x ∷ l) bare =
    rw (eq-eqb x 65535 (bare 0 (omega arith))) (ap suc (unmapped-all l λ w h. bare (suc w) (omega arith)))

module _ (map queue : List ℕ) (bare : map ≡ replicate 255 65535) (clear : queue ≡ replicate 255 0) where
  map-long : length map ≡ 255
  map-long = ap length bare ∙ length-replicate {A = ℕ} 255 65535

  none-mapped : (w : ℕ) → w < 255 → get_or map w 0 ≡ 65535
  none-mapped w h = ap (λ (l : List ℕ). get_or l w 0) bare ∙ get_or-replicate {A = ℕ} 255 w 65535 0 h

  queue_long : length queue ≡ 255
  queue_long = ap length clear ∙ length-replicate {A = ℕ} 255 0

  only-root : (w : ℕ) → w < 255 → (get_or (set map 0 0) w 0 ≡ 65535 → ⊥) → w ≡ 0
  only-root w h d = go (ℕ_discrete w 0)
    where
      go : Dec (w ≡ 0) → w ≡ 0
      go (yes e) = e
      go (no e) = absurd (d (get_or-set_other map 0 w 0 0 e ∙ none-mapped w h))

  root-mapped : get_or (set map 0 0) 0 0 ≡ 0
  root-mapped = get_or-set_same map 0 0 0 (omega (arith, map-long))

  root-queued : get_or queue 0 0 ≡ 0
  root-queued = ap (λ (l : List ℕ). get_or l 0 0) clear ∙ get_or-replicate {A = ℕ} 255 0 0 0 (omega arith)

  queue-start : Queued (set map 0 0) queue 1
  queue-start =
      record {
        map-long = length-set map 0 0 ∙ map-long;
        queue_long = queue_long;
        counted = omega (
          arith,
          unmapped-fall map 0 0 (omega (arith, map-long)) (none-mapped 0 (omega arith)) (λ z. omega arith),
          unmapped-all map (λ w h. none-mapped w (omega (arith, map-long))),
          map-long,
        );
        listed = λ i h. let z : i ≡ 0 = omega arith in rw (z, root-queued) (omega arith);
        mapped = λ i h e.
            let z : i ≡ 0 = omega arith in
            let at : get_or queue i 0 ≡ 0 = ap (λ (j : ℕ). get_or queue j 0) z ∙ root-queued in
            omega (arith, sym root-mapped ∙ ap (λ (w : ℕ). get_or (set map 0 0) w 0) (sym at) ∙ e);
        placed = λ w h d. (0, omega arith, root-queued ∙ sym (only-root w h d));
      }

-- s and g are graphs of records, t is the type table.
module _ (t s g : List ℕ) where
  -- Node v is passed: its label is above that of its image, and its image has all its links.
  pub record Passed (map : List ℕ) (v : ℕ) : Type 0 where
    pub ordered : (n : ℕ) → (table_labels n t).le (label_at s (get_or map v 0)) (label_at g v) ≡ true
    pub leads : (k : ℕ) → links_from g v ≤ k → k < row_end g v →
        (j : ℕ) × Meets s g (get_or map v 0) v k j × (get_or map (target_at g k) 0 ≡ target_at s j)

  -- The nodes in the queue before `head` are passed.
  pub record Searched (map queue : List ℕ) (count head : ℕ) : Type 0 where
    pub lower : Recorded s
    pub upper : Recorded g
    pub queued : Queued map queue count
    pub ahead : head ≤ count
    pub inside : (w : ℕ) → w < 255 → (get_or map w 0 ≡ 65535 → ⊥) → w < size g
    pub image : (w : ℕ) → w < 255 → (get_or map w 0 ≡ 65535 → ⊥) → get_or map w 0 < size s
    pub together : (w : ℕ) → w < 255 → (get_or map w 0 ≡ 65535 → ⊥) → Together (graph_in s) (graph_in g) w (get_or map w 0)
    pub rooted : get_or map 0 0 ≡ 0
    pub passed : (i : ℕ) → i < head → Passed map (get_or queue i 0)

-- The next node v of the queue and its image u: what the code asks of them.
pub record Next (s g : List ℕ) (u v : ℕ) : Type 0 where
  pub small : v < 255
  pub image-small : u < 255
  pub inside : v < size g
  pub image : u < size s
  pub typed : Known 64 (label_at g v)
  pub image-typed : Known 64 (label_at s u)

module _ {t s g : List ℕ} where
  -- The search begins at the root.
  pub searched-start : (map queue : List ℕ) → Recorded s → Recorded g → map ≡ replicate 255 65535 → queue ≡ replicate 255 0 →
      Searched t s g (set map 0 0) queue 1 0
  searched-start map queue lower upper bare clear =
      record {
        lower = lower;
        upper = upper;
        queued = queue-start map queue bare clear;
        ahead = omega arith;
        inside = λ w h d. omega (arith, only-root map queue bare clear w h d, upper.sound.shaped.nonempty);
        image = λ w h d. rw (at w h d) lower.sound.shaped.nonempty;
        together = λ w h d.
            let e : w ≡ 0 = only-root map queue bare clear w h d in
            rw (at w h d, e) (together-root (graph_in s) (graph_in g));
        rooted = root-mapped map queue bare clear;
        passed = λ i h. absurd (omega arith);
      }
    where
      at : (w : ℕ) → w < 255 → (get_or (set map 0 0) w 0 ≡ 65535 → ⊥) → get_or (set map 0 0) w 0 ≡ 0
      at w h d = ap (λ (i : ℕ). get_or (set map 0 0) i 0) (only-root map queue bare clear w h d) ∙ root-mapped map queue bare clear

  module _ {map queue : List ℕ} {count head : ℕ} (f : Searched t s g map queue count head) where
    -- Facts that hold once all nodes in the queue are passed.
    module _ (all : count ≤ head) where
      mapped-passed : (v : ℕ) → v < 255 → (get_or map v 0 ≡ 65535 → ⊥) → Passed t s g map v
      mapped-passed v h d =
          let (i, low, e) = f.queued.placed v h d in
          rw e at (f.passed i (omega arith))

      -- A link of g from a mapped node leads to a mapped node, and s has the same link between the images.
      link-mapped : (v w a : ℕ) → v < 255 → (get_or map v 0 ≡ 65535 → ⊥) → (graph_in g).link v a ≡ some w →
          (w < 255) × (get_or map w 0 < 255) × ((graph_in s).link (get_or map v 0) a ≡ some (get_or map w 0))
      link-mapped v w a h d e =
          let (k, low, high, fk, tk) = link-place f.upper.sound v a w (f.inside v h d) e in
          let (j, m, same) = (mapped-passed v h d).leads k low high in
          let at : get_or map w 0 ≡ target_at s j = ap (λ (i : ℕ). get_or map i 0) (sym tk) ∙ same in (
            omega (arith, f.upper.sound.targets v k (f.inside v h d) low high),
            omega (arith, f.lower.sound.targets (get_or map v 0) j (f.image v h d) m.s-low m.s-high),
            ap (λ (i : ℕ). (graph_in s).link (get_or map v 0) i) (sym (m.feature ∙ fk)) ∙
                link-at f.lower.sound (get_or map v 0) j (f.image v h d) m.s-low m.s-high ∙ ap some (sym at),
          )

      -- every node that the root reaches is mapped
      reached-mapped : (p : List ℕ) (v : ℕ) → walk (graph_in g) p ≡ some v → (v < 255) × (get_or map v 0 ≡ 65535 → ⊥)
      unfolding follow
      reached-mapped =
          snoc-induction (λ p. (v : ℕ) → walk (graph_in g) p ≡ some v → (v < 255) × (get_or map v 0 ≡ 65535 → ⊥)) base more
        where
          base : (v : ℕ) → walk (graph_in g) [] ≡ some v → (v < 255) × (get_or map v 0 ≡ 65535 → ⊥)
          base v e =
              let z : v ≡ 0 = sym (some-injective e) in
              (omega arith, λ q. omega (arith, sym f.rooted ∙ ap (λ (i : ℕ). get_or map i 0) (sym z) ∙ q))

          more : (p : List ℕ) (a : ℕ) → ((v : ℕ) → walk (graph_in g) p ≡ some v → (v < 255) × (get_or map v 0 ≡ 65535 → ⊥)) →
              (w : ℕ) → walk (graph_in g) (p ++ (a ∷ [])) ≡ some w → (w < 255) × (get_or map w 0 ≡ 65535 → ⊥)
          more p a ih w e =
              let (v, q, l) = follow-last (graph_in g).link (some (graph_in g).root) p a w e in
              let (h, d) = ih v q in
              let (low, few, x) = link-mapped v w a h d l in
              (low, λ z. omega arith)

      pub node-map : (n : ℕ) → Orders n t (rows_of s) (rows_of g) (Some map)
      node-map n =
          record {
            root = f.rooted;
            links = λ v w a r l. let (h, d) = reached-mapped r.0 v r.1 in (link-mapped v w a h d l).2;
            labels = λ v r.
                let (h, d) = reached-mapped r.0 v r.1 in
                ap₂ (table_labels n t).le (label-at s (get_or map v 0) (f.image v h d)) (label-at g v (f.inside v h d)) ∙
                (mapped-passed v h d).ordered n;
          }

    -- Facts on the next node of the queue.
    module _ (next : head < count) where
      abbrev v : ℕ
      v = get_or queue head 0

      abbrev u : ℕ
      u = get_or map (get_or queue head 0) 0

      node-small : v < 255
      node-small = f.queued.listed head next

      node_in : v < size g
      node_in = f.inside v node-small (f.queued.mapped head next)

      image-in : u < size s
      image-in = f.image v node-small (f.queued.mapped head next)

      both : Together (graph_in s) (graph_in g) v u
      both = f.together v node-small (f.queued.mapped head next)

      pub next-node : Next s g u v
      next-node =
          record {
            small = node-small;
            image-small = omega (arith, image-in, f.lower.small);
            inside = node_in;
            image = image-in;
            typed = f.upper.typed v node_in;
            image-typed = f.lower.typed u image-in;
          }

      -- If the next node's label is not above that of its image, s is not below g.
      pub order-label : (n : ℕ) → (table_labels n t).le (label_at s u) (label_at g v) ≡ false → Orders n t (rows_of s) (rows_of g) None
      order-label n e =
          λ b. label-refutes (graph_in s) (graph_in g) n t b both (ap₂ (table_labels n t).le (label-at s u image-in) (label-at g v node_in) ∙ e)

      come-together : {w x : ℕ} → w < 255 → Comes s g u v map w x →
          Together (graph_in s) (graph_in g) w x
      come-together {w} {x} h (kept d e) = rw e at (f.together w h d)
      come-together {w} {x} h (led k j m a b) =
          together-link (graph_in s) (graph_in g) (feature_at g k) both
          (link-at f.upper.sound v k node_in m.g-low m.g-high ∙ ap some a)
          (ap (λ (i : ℕ). (graph_in s).link u i) (sym m.feature) ∙ link-at f.lower.sound u j image-in m.s-low m.s-high ∙ ap some b)

      -- If the next node's links clash, s is not below g.
      pub order-clash : (n : ℕ) → Clash s g u v map → Orders n t (rows_of s) (rows_of g) None
      order-clash n (lacks k low high never) =
          λ b.
          lack-refutes (graph_in s) (graph_in g) n t b (feature_at g k) both (link-at f.upper.sound v k node_in low high)
          λ x e.
          let (j, a, c, same, to) = link-place f.lower.sound u (feature_at g k) x image-in e in
          never j a c same
      order-clash n (splits w x y h c d never) = λ b. split-refutes (graph_in s) (graph_in g) n t b (come-together h c) (come-together h d) never

      -- If the next node's label is above that of its image and its links are followed, the node is passed.
      pub searched-on : {later longer : List ℕ} {more : ℕ} → ((n : ℕ) → (table_labels n t).le (label_at s u) (label_at g v) ≡ true) →
          Followed s g u v map queue count later longer more
          (row_end g v) →
          Searched t s g later longer more (head + 1)
      searched-on {later} {longer} {more} e d =
          record {
            lower = f.lower;
            upper = f.upper;
            queued = d.queued;
            ahead = omega (arith, d.grows);
            inside = λ w h m. come-inside h (d.comes w h m);
            image = λ w h m. come-image h (d.comes w h m);
            together = λ w h m. come-together h (d.comes w h m);
            rooted = d.keeps 0 (omega arith) (λ z. omega (arith, sym f.rooted ∙ z)) ∙ f.rooted;
            passed = λ i h. passed i h (ℕ_discrete i head);
          }
        where
          come-inside : {w x : ℕ} → w < 255 →
              Comes s g u v map w x → w < size g
          come-inside {w} h (kept a b) = f.inside w h a
          come-inside {w} h (led k j m a b) = rw a at (f.upper.sound.targets v k node_in m.g-low m.g-high)

          come-image : {w x : ℕ} → w < 255 →
              Comes s g u v map w x → x < size s
          come-image {w} h (kept a b) = rw b at (f.image w h a)
          come-image {w} h (led k j m a b) = rw b at (f.lower.sound.targets u j image-in m.s-low m.s-high)

          -- A node that was passed stays passed.
          stays : (w : ℕ) → w < size g → get_or map w 0 < size s → Passed t s g map w →
              get_or later w 0 ≡ get_or map w 0 → Passed t s g later w
          stays w inside image p same =
              record {
                ordered = rw same p.ordered;
                leads = rw same λ k low high.
                    let (j, m, to) = p.leads k low high in (
                      j,
                      m,
                      d.keeps (target_at g k) (omega (arith, f.upper.sound.targets w k inside low high))
                          (λ z. omega (arith, sym to ∙ z, f.lower.sound.targets (get_or map w 0) j image m.s-low m.s-high)) ∙ to,
                    );
              }

          passed : (i : ℕ) → i < head + 1 → Dec (i ≡ head) → Passed t s g later (get_or longer i 0)
          passed i h (no x) =
              rw (d.stays i (omega arith))
              (stays (get_or queue i 0)
              (f.inside (get_or queue i 0) (f.queued.listed i (omega arith)) (f.queued.mapped i (omega arith)))
              (f.image (get_or queue i 0) (f.queued.listed i (omega arith)) (f.queued.mapped i (omega arith)))
              (f.passed i (omega arith))
              (d.keeps (get_or queue i 0) (f.queued.listed i (omega arith)) (f.queued.mapped i (omega arith))))
          passed i h (yes x) =
              rw (x, d.stays head next)
              (record { ordered = rw same e; leads = rw same d.leads })
            where
              same : get_or later v 0 ≡ get_or map v 0
              same = d.keeps v node-small (f.queued.mapped head next)
