-- This file is about the pass that takes the sources away: what holds between two nodes of the queue, and what the pass finds. The nodes
-- before `next` in the queue are those whose links are taken away, so every node that leads to a queued node stands before it. At the end
-- a node that is still entered is entered from another such node, and going backwards long enough comes to a node again.
use mathlib.Core.Path.{◌≡◌, refl, sym, ◌∙◌, ap, subst}
use mathlib.Core.Bool.{Bool, true, false}
use mathlib.Core.List.Memᴰ
use mathlib.Core.List.{List, [], ◌∷◌, Memᴰ}
use mathlib.Core.Logic.{⊎_elim}
use Prim.Native.Nat.{ℕ, zero, suc, ◌+◌, ◌-◌, ◌≤◌, ◌<◌}
use native.Mathlib.Decide.{ℕ_discrete, dec_le}
use native.Mathlib.Omega.{arith}
use lib.Dec.{eqb}
use lib.ListN.{length, get_or}
use Rattle.std.specs.Prelude.{Ok, Err}
use Rattle.graphs.specs.Rows.{from}
use Rattle.graphs.specs.Number.{member}
use Rattle.graphs.specs.Large.{Distinct}
use Rattle.graphs.proofs.Lists.{from_member, length_from, distinct-bound, tells-eqb, member-true, member-false}
use Rattle.graphs.proofs.Search.{true-false}
use Rattle.layout.specs.Layout.{size, links_from, row_end, Sound}
use Rattle.visits.specs.Walks.{Leads, Reaches, one, more}
use Rattle.visits.proofs.Colouring.{whites-bound}
use Rattle.peeling.specs.declared.Unrooted.TheVariants.{Cyclic, Apart}
use Rattle.peeling.specs.Counts.{into, entering, Counted, Queued, RowDue, RowTaken, Earlier, Peels}
use Rattle.peeling.proofs.Counting.{
  among-source,
  among-target,
  entering-source,
  entering-target,
  entering-split,
  without,
  without-same,
  without_other,
  whites-short,
  whites-full,
}

-- Before the links of the node at `next` are taken away.
pub record Peeling (ws : List ℕ) (sources : ℕ) (incoming queue : List ℕ) (next count : ℕ) : Type 0 where
  pub sound : Sound ws
  pub small : size ws ≤ 255
  pub long : length incoming ≡ 255
  pub listing : Queued (size ws) incoming queue count
  pub ahead : next ≤ count
  -- the nodes whose links are still counted
  pub counts : ℕ → Bool
  pub counted : (w : ℕ) → w < size ws → get_or incoming w 0 ≡ entering counts ws w (size ws)
  pub gone : (v : ℕ) → counts v ≡ false → (m : ℕ) × (m < next) × (get_or queue m 0 ≡ v)
  pub taken : (m : ℕ) → m < next → counts (get_or queue m 0) ≡ false
  -- a node that leads to a queued node stands before it in the queue
  pub earlier : (i v : ℕ) → i < count → Leads ws v (get_or queue i 0) → (m : ℕ) × (m < i) × (get_or queue m 0 ≡ v)
  -- the first of the queue are the sources
  pub enough : sources ≤ count
  pub unentered : (i : ℕ) → i < sources → entering (λ _. true) ws (get_or queue i 0) (size ws) ≡ 0
  pub sourced : (w : ℕ) → w < size ws → entering (λ _. true) ws w (size ws) ≡ 0 → (i : ℕ) × (i < sources) × (get_or queue i 0 ≡ w)

module _ {ws : List ℕ} where
  -- a link is counted with its node
  link-counted : {v w : ℕ} → Leads ws v w → (counts : ℕ → Bool) → counts v ≡ true → 0 < entering counts ws w (size ws)
  link-counted {v} {w} l counts c =
      omega (
        arith,
        among-target ws w (links_from ws v) (row_end ws v) l.place l.low l.high l.target_is,
        entering-target ws w counts (size ws) v l.inside c,
      )

  -- where no link is counted, no node leads to w
  no-link : {w : ℕ} → entering (λ _. true) ws w (size ws) ≡ 0 → (v : ℕ) → Leads ws v w → ⊥
  no-link none v l = omega (arith, link-counted l (λ _. true) refl)

  -- where a link is counted, a node that counts leads to w
  link-in : (counts : ℕ → Bool) (w : ℕ) → 0 < entering counts ws w (size ws) → (v : ℕ) × Leads ws v w × (counts v ≡ true)
  link-in counts w h =
      let (v, inside, c, some) = entering-source ws w counts (size ws) h in
      let (k, low, high, is) = among-source ws w (links_from ws v) (row_end ws v) some in
      (v, record { inside = inside; place = k; low = low; high = high; target_is = is }, c)

  pub peeling-start : {sources : ℕ} {incoming queue : List ℕ} → Sound ws → Counted ws (size ws) incoming → Queued (size ws) incoming queue sources →
      Peeling ws sources incoming queue 0 sources
  peeling-start {sources} {incoming} {queue} sound c q =
      record {
        sound = sound;
        small = c.small;
        long = c.long;
        listing = q;
        ahead = omega arith;
        counts = λ _. true;
        counted = counted;
        gone = λ v e. true-false refl e;
        taken = λ m h. absurd (omega arith);
        earlier = λ i v h l. absurd (no-link (none i h) v l);
        enough = omega arith;
        unentered = none;
        sourced = λ w h e. q.found w h (counted w h ∙ e);
      }
    where
      counted : (w : ℕ) → w < size ws → get_or incoming w 0 ≡ entering (λ _. true) ws w (size ws)
      counted w h = c.counts w (omega (arith, c.small))

      none : (i : ℕ) → i < sources → entering (λ _. true) ws (get_or queue i 0) (size ws) ≡ 0
      none i h = sym (counted (get_or queue i 0) (q.listed i h)) ∙ q.clear i h

  module _ {sources : ℕ} {incoming queue : List ℕ} {next count : ℕ} (p : Peeling ws sources incoming queue next count) where
    pub peeling-few : count ≤ size ws
    peeling-few = omega (arith, p.listing.filled, whites-bound (size ws) incoming)

    module _ (less : next < count) where
      abbrev v : ℕ
      v = get_or queue next 0

      pub next-inside : v < size ws
      next-inside = p.listing.listed next less

      -- the links of the next node are counted
      next-counts : p.counts v ≡ true
      next-counts = go (p.counts v) refl
        where
          go : (b : Bool) → p.counts v ≡ b → p.counts v ≡ true
          go true q = q
          go false q = let (m, h, is) = p.gone v q in absurd (p.listing.distinct m next h less is)

      split : (w : ℕ) → entering p.counts ws w (size ws) ≡ entering (without v p.counts) ws w (size ws) + into ws w v
      split w = entering-split ws w p.counts v next-counts (size ws) next-inside

      pub peeling-row : RowDue ws v incoming queue count
      peeling-row =
          record {
            sound = p.sound;
            small = p.small;
            inside = next-inside;
            long = p.long;
            listing = p.listing;
            due = λ w h. omega (arith, split w, p.counted w h);
          }

      module _ {later line : List ℕ} {after : ℕ} (t : RowTaken ws v (row_end ws v) incoming queue count later line after) where
        counted_next : (w : ℕ) → w < size ws → get_or later w 0 ≡ entering (without v p.counts) ws w (size ws)
        counted_next w h = omega (arith, t.taken w h, p.counted w h, split w)

        gone-next : (u : ℕ) → without v p.counts u ≡ false → (m : ℕ) × (m < next + 1) × (get_or line m 0 ≡ u)
        gone-next u q = go (ℕ_discrete u v)
          where
            go : Dec (u ≡ v) → (m : ℕ) × (m < next + 1) × (get_or line m 0 ≡ u)
            go (yes e) = (next, omega arith, t.same next less ∙ sym e)
            go (no d) =
                let (m, low, is) = p.gone u (sym (without_other v p.counts u d) ∙ q) in
                (m, omega arith, t.same m (omega arith) ∙ is)

        taken_next : (m : ℕ) → m < next + 1 → without v p.counts (get_or line m 0) ≡ false
        taken_next m h = ap (without v p.counts) (t.same m (omega arith)) ∙ go (ℕ_discrete (get_or queue m 0) v)
          where
            go : Dec (get_or queue m 0 ≡ v) → without v p.counts (get_or queue m 0) ≡ false
            go (yes e) = without-same v p.counts (get_or queue m 0) e
            go (no d) = without_other v p.counts (get_or queue m 0) d ∙ p.taken m (before (ℕ_discrete m next))
              where
                before : Dec (m ≡ next) → m < next
                before (yes e) = absurd (d (ap (λ (i : ℕ). get_or queue i 0) e))
                before (no n) = omega arith

        earlier-next : (i u : ℕ) → i < after → Leads ws u (get_or line i 0) → (m : ℕ) × (m < i) × (get_or line m 0 ≡ u)
        earlier-next i u h l = go (dec_le (suc i) count)
          where
            away : without v p.counts u ≡ false
            away = at (without v p.counts u) refl
              where
                at : (b : Bool) → without v p.counts u ≡ b → without v p.counts u ≡ false
                at true c =
                    absurd
                    (omega (
                      arith,
                      link-counted l (without v p.counts) c,
                      counted_next (get_or line i 0) (t.listing.listed i h),
                      t.listing.clear i h,
                    ))
                at false c = c

            go : Dec (suc i ≤ count) → (m : ℕ) × (m < i) × (get_or line m 0 ≡ u)
            go (yes low) =
                let (m, less, is) = p.earlier i u low (subst (λ (x : ℕ). Leads ws u x) (t.same i low) l) in
                (m, less, t.same m (omega arith) ∙ is)
            go (no high) =
                let (m, low, is) = gone-next u away in
                (m, omega arith, is)

        pub peeling-next : Peeling ws sources later line (next + 1) after
        peeling-next =
            record {
              sound = p.sound;
              small = p.small;
              long = t.long;
              listing = t.listing;
              ahead = omega (arith, t.more);
              counts = without v p.counts;
              counted = counted_next;
              gone = gone-next;
              taken = taken_next;
              earlier = earlier-next;
              enough = omega (arith, t.more, p.enough);
              unentered = λ i h.
                  ap (λ (u : ℕ). entering (λ _. true) ws u (size ws)) (t.same i (omega (arith, p.enough))) ∙ p.unentered i h;
              sourced = λ w h z. let (i, low, is) = p.sourced w h z in (i, low, t.same i (omega (arith, p.enough)) ∙ is);
            }

    -- The queue is done.
    module _ (done : count ≤ next) where
      -- a node that is still entered is entered from such a node
      backwards : (w : ℕ) → w < size ws → 0 < get_or incoming w 0 → (v : ℕ) × Leads ws v w × (0 < get_or incoming v 0)
      backwards w h positive =
          let (v, l, c) = link-in p.counts w (omega (arith, p.counted w h)) in
          (v, l, entered v l.inside c (ℕ_discrete (get_or incoming v 0) 0))
        where
          entered : (v : ℕ) → v < size ws → p.counts v ≡ true → Dec (get_or incoming v 0 ≡ 0) → 0 < get_or incoming v 0
          entered v inside c (yes z) =
              let (i, low, is) = p.listing.found v inside z in
              true-false c (subst (λ (u : ℕ). p.counts u ≡ false) is (p.taken i (omega arith)))
          entered v inside c (no d) = omega arith

      -- v leads to all nodes of the way
      comes-again : (n : ℕ) (way : List ℕ) (v : ℕ) → n + length way ≡ suc (size ws) → Distinct way → ((u : ℕ) → Memᴰ u way → u < size ws) →
          ((u : ℕ) → Memᴰ u way → Reaches ws v u) → v < size ws → 0 < get_or incoming v 0 →
          (u : ℕ) × Reaches ws u u
      comes-again zero way v long distinct inside reaches h positive =
          absurd
          (omega (
            arith,
            distinct-bound way (from 0 (size ws)) distinct (λ u m. from_member 0 (size ws) u (omega arith) (omega (arith, inside u m))),
            length_from 0 (size ws),
          ))
      comes-again (suc n) way v long distinct inside reaches h positive = go (member eqb v way) refl (comes-again n (v ∷ way))
        where
          go : (b : Bool) → member eqb v way ≡ b →
              ((u : ℕ) → n + suc (length way) ≡ suc (size ws) → Distinct (v ∷ way) → ((x : ℕ) → Memᴰ x (v ∷ way) → x < size ws) →
              ((x : ℕ) → Memᴰ x (v ∷ way) → Reaches ws u x) → u < size ws → 0 < get_or incoming u 0 →
              (x : ℕ) × Reaches ws x x) → (u : ℕ) × Reaches ws u u
          go true q again = (v, reaches v (member-true eqb tells-eqb v way q))
          go false q again =
              let (u, l, back) = backwards v h positive in
              again u (omega arith) (member-false eqb tells-eqb v way q, distinct)
              (λ x m. ⊎_elim (λ (i : x ≡ v). omega arith) (λ n. inside x n) (Memᴰ.cases_cons m))
              (λ x m.
              ⊎_elim (λ (i : x ≡ v). subst (λ (y : ℕ). Reaches ws u y) (sym i) (one l)) (λ n. more l (reaches x n))
              (Memᴰ.cases_cons m)) l.inside back

      pub peels-cyclic : count < size ws → Peels ws (Err Cyclic)
      peels-cyclic short =
          record {
            cyclic-stands = λ _. loop;
            sorted = λ d. absurd (d refl);
            rooted-stands = λ q. let z : ◌≡◌ {A = ℕ} 0 1 = cc in absurd (omega arith);
            apart-stands = λ q. let z : ◌≡◌ {A = ℕ} 0 1 = cc in absurd (omega arith);
          }
        where
          loop : (u : ℕ) × Reaches ws u u
          loop =
              let (w, h, positive) = whites-short (size ws) incoming (omega (arith, p.long, p.small)) (omega (arith, p.listing.filled)) in
              comes-again (suc (size ws)) [] w (omega arith) tt (λ u m. absurd (Memᴰ.not-nil m)) (λ u m. absurd (Memᴰ.not-nil m)) h positive

      -- No node is left.
      module _ (all : size ws ≤ count) where
        queued : (v : ℕ) → v < size ws → (i : ℕ) × (i < count) × (get_or queue i 0 ≡ v)
        queued v h = p.listing.found v h (whites-full (size ws) incoming (omega (arith, p.listing.filled)) v h)

        index : (v : ℕ) → Dec (suc v ≤ size ws) → ℕ
        index v (yes h) = (queued v h).0
        index v (no d) = 0

        index_is : (v : ℕ) → v < size ws → (d : Dec (suc v ≤ size ws)) → (index v d < size ws) × (get_or queue (index v d) 0 ≡ v)
        unfolding index
        index_is v h (yes i) = let (k, low, is) = queued v i in (omega (arith, peeling-few), is)
        index_is v h (no d) = absurd (d h)

        placed : (v : ℕ) → ℕ
        placed v = size ws - suc (index v (dec_le (suc v) (size ws)))

        in_order : Earlier ws placed
        unfolding placed
        in_order =
            record {
              inside = λ v h. omega (arith, p.sound.shaped.nonempty);
              earlier = λ v w l. before v w l (index_is v l.inside (dec_le (suc v) (size ws))) (index_is w (lands v w l) (dec_le (suc w) (size ws)));
            }
          where
            lands : (v w : ℕ) → Leads ws v w → w < size ws
            lands v w l = omega (arith, p.sound.targets v l.place l.inside l.low l.high, l.target_is)

            before : (v w : ℕ) → Leads ws v w →
                (index v (dec_le (suc v) (size ws)) < size ws) × (get_or queue (index v (dec_le (suc v) (size ws))) 0 ≡ v) →
                (index w (dec_le (suc w) (size ws)) < size ws) × (get_or queue (index w (dec_le (suc w) (size ws))) 0 ≡ w) →
                size ws - suc (index w (dec_le (suc w) (size ws))) < size ws - suc (index v (dec_le (suc v) (size ws)))
            before v w l (i, at) (j, to) = go (dec_le (suc (index v (dec_le (suc v) (size ws)))) (index w (dec_le (suc w) (size ws))))
              where
                go : Dec (suc (index v (dec_le (suc v) (size ws))) ≤ index w (dec_le (suc w) (size ws))) →
                    size ws - suc (index w (dec_le (suc w) (size ws))) < size ws - suc (index v (dec_le (suc v) (size ws)))
                go (yes less) = omega arith
                go (no late) =
                    let (m, low, is) =
                    p.earlier (index w (dec_le (suc w) (size ws))) v (omega arith)
                    (subst (λ (x : ℕ). Leads ws v x) (sym to) l) in
                    absurd
                    (p.listing.distinct m (index v (dec_le (suc v) (size ws))) (omega arith) (omega arith) (is ∙ sym at))

        pub peels-rooted : sources ≡ 1 → get_or queue 0 0 ≡ 0 → Peels ws (Ok tt)
        peels-rooted single root =
            record {
              cyclic-stands = λ q. let z : ◌≡◌ {A = ℕ} 0 1 = cc in absurd (omega arith);
              sorted = λ _. (placed, in_order);
              rooted-stands = λ _ w positive h. enters w positive h (ℕ_discrete (entering (λ _. true) ws w (size ws)) 0);
              apart-stands = λ q. let z : ◌≡◌ {A = ℕ} 0 1 = cc in absurd (omega arith);
            }
          where
            enters : (w : ℕ) → 0 < w → w < size ws → Dec (entering (λ _. true) ws w (size ws) ≡ 0) →
                (v : ℕ) × Leads ws v w
            enters w positive h (yes none) =
                let (i, low, is) = p.sourced w h none in
                let first_one : i ≡ 0 = omega arith in
                absurd (omega (arith, ap (λ (x : ℕ). get_or queue x 0) first_one))
            enters w positive h (no some) = let (v, l, _) = link-in (λ _. true) w (omega arith) in (v, l)

        -- the first of the queue is a source
        some-source : 0 < sources
        some-source = go (ℕ_discrete (entering (λ _. true) ws (get_or queue 0 0) (size ws)) 0)
          where
            go : Dec (entering (λ _. true) ws (get_or queue 0 0) (size ws) ≡ 0) → 0 < sources
            go (yes none) =
                let (i, low, is) = p.sourced (get_or queue 0 0) (p.listing.listed 0 (omega (arith, p.sound.shaped.nonempty))) none in
                omega arith
            go (no some) =
                let (v, l, _) = link-in (λ _. true) (get_or queue 0 0) (omega arith) in
                let (m, low, _) = p.earlier 0 v (omega (arith, p.sound.shaped.nonempty)) l in
                absurd (omega arith)

        pub peels-apart : (sources ≡ 1 → get_or queue 0 0 ≡ 0 → ⊥) → Peels ws (Err Apart)
        peels-apart other =
            record {
              cyclic-stands = λ q. let z : ◌≡◌ {A = ℕ} 0 1 = cc in absurd (omega arith);
              sorted = λ _. (placed, in_order);
              rooted-stands = λ q. let z : ◌≡◌ {A = ℕ} 0 1 = cc in absurd (omega arith);
              apart-stands = λ _. go (ℕ_discrete (get_or queue 0 0) 0) (ℕ_discrete sources 1);
            }
          where
            beside : (i : ℕ) → i < sources → (get_or queue i 0 ≡ 0 → ⊥) →
                (w : ℕ) × (0 < w) × (w < size ws) × ((v : ℕ) → Leads ws v w → ⊥)
            beside i h nonzero =
                (get_or queue i 0, omega arith, p.listing.listed i (omega (arith, p.enough)), no-link (p.unentered i h))

            go : Dec (get_or queue 0 0 ≡ 0) → Dec (sources ≡ 1) →
                (w : ℕ) × (0 < w) × (w < size ws) × ((v : ℕ) → Leads ws v w → ⊥)
            go (no nonzero) s = beside 0 some-source nonzero
            go (yes root) (yes single) = absurd (other single root)
            go (yes root) (no several) =
                beside 1 (omega (arith, some-source))
                (λ z. p.listing.distinct 0 1 (omega arith) (omega (arith, some-source, p.enough)) (root ∙ sym z))
