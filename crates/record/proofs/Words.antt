-- This file compares words with the rows that they hold, link by link: a link of a row is a place of the words, so the range test, the
-- cycles and the reach of the words are those of the rows. In a graph without a cycle the root reaches every node exactly where a link
-- leads to every node but the root: the sources of the links that lead to a node stand at later places of the order, up to the root, and a
-- walk to a node other than the root ends in a link to it.
use mathlib.Core.Path.{◌≡◌, refl, sym, ◌∙◌, ap, subst}
use mathlib.Core.Bool.{true, false}
use mathlib.Core.List.{List, [], ◌∷◌, Memᴰ}
use mathlib.Core.Option.{Option, none, some}
use Prim.Native.Nat.{ℕ, zero, suc, ◌+◌, ◌-◌, ◌≤◌, ◌<◌}
use native.Mathlib.Decide.{ℕ_discrete}
use native.Mathlib.Omega.{arith}
use lib.ListN.{length}
use Rattle.graphs.specs.Graph.{Reached, walk, follow}
use Rattle.graphs.specs.Rows.{Row}
use Rattle.graphs.proofs.Search.{not-true-false}
use Rattle.graphs.proofs.Walk.{some-injective, none-some, follow-nil, follow-none, follow-last, snoc-induction, reached-root, reached-link}
use Rattle.lattice.specs.Label.{Label}
use Rattle.layout.specs.Layout.{size, links_from, row_end, label_at, feature_at, links_at, rows_of, graph_in, Shaped, Sound}
use Rattle.layout.proofs.Places.{link-at, link-place}
use Rattle.layout.proofs.Rows.{length-rows, rows-member, rows-source}
use Rattle.layout.proofs.Spans.{link_at, links-member, links-at}
use Rattle.visits.specs.Walks.{Leads, Reaches, one, more}
use Rattle.peeling.specs.Range.{label_in_range}
use Rattle.peeling.specs.Counts.{Ranged, Earlier}
use Rattle.peeling.proofs.Range.{label-in-range}
use Rattle.record.specs.Read.{reaches_all}
use Rattle.record.proofs.Readings.{InRange}
use Rattle.record.proofs.Nodes as rows
use Rattle.record.proofs.Reaching.{SelfReach, reaches-exact}

pub held-length : (ws : List ℕ) → length (rows_of ws) ≡ size ws
held-length ws = length-rows ws 0 (size ws)

-- 5: the range test of the words is that of the rows.

module _ {ws : List ℕ} (shaped : Shaped ws) where
  pub ranged-rows : (n : ℕ) → Ranged n ws → InRange n (rows_of ws)
  ranged-rows n ranged r m =
      let (v, below, e) = rows-source ws (size ws) 0 r m in
      let h : v < size ws = omega arith in
      let q : r.0 ≡ label_at ws v = ap (λ (x : Row Label). x.0) e in (
        (label-in-range n r.0).0 (ap (label_in_range n) q ∙ ranged.labels v h),
        λ l i.
            let (k, low, high, _, t) =
            links-member ws (row_end ws v) (shaped.node v h).ended (row_end ws v - links_from ws v) (links_from ws v)
            (omega (arith, (shaped.node v h).begun)) l
            (subst (λ (ls : List (ℕ × ℕ)). Memᴰ l ls) (ap (λ (x : Row Label). x.1) e) i) in
            omega (arith, ranged.targets v h k low high, held-length ws),
      )

  pub rows-ranged : (n : ℕ) → InRange n (rows_of ws) → Ranged n ws
  rows-ranged n all =
      record {
        labels = λ v h. (label-in-range n (label_at ws v)).1 (all (label_at ws v, links_at ws v) (listed v h)).0;
        targets = λ v h k low high.
            omega (
              arith,
              (all (label_at ws v, links_at ws v) (listed v h)).1 (link_at ws k)
                  (links-at ws (row_end ws v) (shaped.node v h).ended (row_end ws v - links_from ws v) (links_from ws v)
                  (omega (arith, (shaped.node v h).begun)) k low high),
              held-length ws,
            );
      }
    where
      listed : (v : ℕ) → v < size ws → Memᴰ {A = Row Label} (label_at ws v, links_at ws v) (rows_of ws)
      listed v h = rows-member ws (size ws) 0 v v (omega arith) h

  -- rows in range are rows of a graph
  pub ranged-linked : (n : ℕ) → Ranged n ws → rows.Linked (rows_of ws)
  ranged-linked n ranged =
      record {
        nonempty = omega (arith, held-length ws, shaped.nonempty);
        features = λ r m l i.
            let (v, below, e) = rows-source ws (size ws) 0 r m in
            let h : v < size ws = omega arith in
            let (k, low, high, f, _) =
            links-member ws (row_end ws v) (shaped.node v h).ended (row_end ws v - links_from ws v) (links_from ws v)
            (omega (arith, (shaped.node v h).begun)) l
            (subst (λ (ls : List (ℕ × ℕ)). Memᴰ l ls) (ap (λ (x : Row Label). x.1) e) i) in
            omega (arith, shaped.known v k h low high, f);
        targets = λ r m. (ranged-rows n ranged r m).1;
      }

-- 6: a link of the words is a link of the rows.

module _ {ws : List ℕ} (sound : Sound ws) where
  leads-link : (v w : ℕ) → Leads ws v w → (f : ℕ) × ((graph_in ws).link v f ≡ some w)
  leads-link v w l =
      (feature_at ws l.place, link-at sound v l.place l.inside l.low l.high ∙ ap some l.target_is)

  link-leads : (v w f : ℕ) → v < size ws → (graph_in ws).link v f ≡ some w → Leads ws v w
  link-leads v w f h e =
      let (k, low, high, _, is) = link-place sound v f w h e in
      record { inside = h; place = k; low = low; high = high; target_is = is }

  leads-inside : (v w : ℕ) → Leads ws v w → w < size ws
  leads-inside v w l = omega (arith, sound.targets v l.place l.inside l.low l.high, l.target_is)

  pub reaches-walk : {v w : ℕ} → Reaches ws v w →
      (f : ℕ) × (p : List ℕ) × (follow (graph_in ws).link (some v) (f ∷ p) ≡ some w)
  unfolding follow
  reaches-walk {v} {w} (one l) = let (f, e) = leads-link v w l in (f, [], e)
  reaches-walk {v} {w} (more {w = u} l r) =
      let (f, e) = leads-link v u l in
      let (g, p, q) = reaches-walk r in
      (f, g ∷ p, ap (λ o. follow (graph_in ws).link o (g ∷ p)) e ∙ q)

  pub reaches-inside : {v w : ℕ} → Reaches ws v w → v < size ws
  reaches-inside (one l) = l.inside
  reaches-inside (more l r) = l.inside

  pub looped-rows : (v : ℕ) → Reaches ws v v → SelfReach (rows_of ws)
  looped-rows v r =
      let (f, p, e) = reaches-walk r in
      (v, omega (arith, reaches-inside r, held-length ws), f, p, e)

  -- a walk goes to earlier places
  module _ {place : ℕ → ℕ} (sorted : Earlier ws place) where
    walk-earlier : (p : List ℕ) (v w : ℕ) → v < size ws → follow (graph_in ws).link (some v) p ≡ some w → place w ≤ place v
    unfolding follow
    walk-earlier [] v w h e = let q : v ≡ w = some-injective e in omega (arith, ap place q)
    walk-earlier (f ∷ p) v w h e = go ((graph_in ws).link v f) refl e (walk-earlier p)
      where
        go : (o : Option ℕ) → (graph_in ws).link v f ≡ o → follow (graph_in ws).link o p ≡ some w →
            ((v w : ℕ) → v < size ws → follow (graph_in ws).link (some v) p ≡ some w → place w ≤ place v) → place w ≤ place v
        go none l q later = none-some (sym (follow-none (graph_in ws).link p) ∙ q)
        go (some u) l q later =
            let d = link-leads v u f h l in
            omega (arith, sorted.earlier v u d, later u w (leads-inside v u d) q)

    pub sorted-rows : SelfReach (rows_of ws) → ⊥
    unfolding follow
    sorted-rows (v, h, f, p, e) = go ((graph_in ws).link v f) refl e
      where
        inside : v < size ws
        inside = omega (arith, held-length ws)

        go : (o : Option ℕ) → (graph_in ws).link v f ≡ o → follow (graph_in ws).link o p ≡ some v → ⊥
        go none l q = none-some (sym (follow-none (graph_in ws).link p) ∙ q)
        go (some u) l q =
            let d = link-leads v u f inside l in
            omega (arith, sorted.earlier v u d, walk-earlier p u v (leads-inside v u d) q)

  -- 7: the root reaches a node by a link to it.
  module _ (linked : rows.Linked (rows_of ws)) where
    -- a walk to a node other than the root ends in a link to it
    reached-entered : (w : ℕ) → 0 < w → ((v : ℕ) → Leads ws v w → ⊥) → Reached (graph_in ws) w → ⊥
    reached-entered w positive apart (p, e) =
        snoc-induction (λ (p : List ℕ). walk (graph_in ws) p ≡ some w → ⊥)
        (λ q. let z : 0 ≡ w = some-injective (sym (follow-nil (graph_in ws).link (some 0)) ∙ q) in omega arith)
        (λ p f _ q.
        let (v, to, l) = follow-last (graph_in ws).link (some 0) p f w q in
        apart v (link-leads v w f (omega (arith, rows.reached-inside (rows_of ws) linked v (p, to), held-length ws)) l))
        p e

    -- 7: where no link leads to a node beside the root
    pub apart-unreached : {w : ℕ} → 0 < w → w < size ws → ((v : ℕ) → Leads ws v w → ⊥) → reaches_all (rows_of ws) ≡ false
    apart-unreached {w} positive inside apart =
        not-true-false (reaches_all (rows_of ws))
        (λ q. reached-entered w positive apart (((reaches-exact (rows_of ws) linked).0 q).1 w (omega (arith, held-length ws))))

    module _ {place : ℕ → ℕ} (sorted : Earlier ws place) where
      -- the source of a link stands at a later place, so there are ever fewer
      entered-reached : ((w : ℕ) → 0 < w → w < size ws → (v : ℕ) × Leads ws v w) → (k w : ℕ) → w < size ws →
          size ws ≤ k + place w → Reached (graph_in ws) w
      entered-reached all zero w inside late = absurd (omega (arith, sorted.inside w inside))
      entered-reached all (suc k) w inside late = go (ℕ_discrete w 0) (entered-reached all k)
        where
          go : Dec (w ≡ 0) → ((v : ℕ) → v < size ws → size ws ≤ k + place v → Reached (graph_in ws) v) →
              Reached (graph_in ws) w
          go (yes root) later = subst (λ (x : ℕ). Reached (graph_in ws) x) (sym root) (reached-root (graph_in ws))
          go (no other) later =
              let (v, l) = all w (omega arith) inside in
              let (f, e) = leads-link v w l in
              reached-link (graph_in ws) f (later v l.inside (omega (arith, sorted.earlier v w l))) e

      -- where a link leads to every other node
      pub entered-reaches : size ws ≤ 255 → ((w : ℕ) → 0 < w → w < size ws → (v : ℕ) × Leads ws v w) → reaches_all (rows_of ws) ≡ true
      entered-reaches few all =
          (reaches-exact (rows_of ws) linked).1 (
            omega (arith, held-length ws),
            λ v h. entered-reached all (size ws) v (omega (arith, held-length ws)) (omega arith),
          )
