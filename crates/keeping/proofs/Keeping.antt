-- Keeping nodes: what each step adds, and why. The nodes with a cause of their own come first, then those that a kept link leaves. The order has
-- targets first, so one pass finds them all.
use mathlib.Core.Path.{◌≡◌, refl, sym, ◌∙◌, ap, subst}
use mathlib.Core.Bool.{Bool, true, false}
use mathlib.Core.List.{List, [], ◌∷◌, Memᴰ}
use mathlib.Core.Logic.{◌⊎◌, inl, inr, ⊎_elim}
use Prim.Native.Nat.{ℕ, zero, suc, ◌+◌, ◌*◌, ◌≤◌, ◌<◌}
use native.Mathlib.Decide.{ℕ_discrete}
use native.Mathlib.Omega.{arith}
use lib.ListN.{length, get_or, set, length-set}
use lib.Seq.{get_or-set_same, get_or-set_other}
use Rattle.graphs.specs.Rows.{from}
use Rattle.graphs.specs.Large.{Distinct}
use Rattle.graphs.proofs.Lists.{distinct-bound, from_member, length_from}
use Rattle.graphs.proofs.Search.{true-false}
use Rattle.lattice.specs.Labels.{table_labels}
use Rattle.layout.specs.Layout.{longest, label_from, size, row_from, links_from, row_end, target_at, Node, Shaped, Place, rows_end}
use Rattle.layout.proofs.Order.{next_row, place-from, no_header}
use Rattle.visits.specs.Walks.{Leads as Linking, Reaches, TargetsFirst, Sorts}
use Rattle.keeping.specs.Keeping.{Grown, Leads, Cause, several, alone, Entering, Enters, Untop, Stays, Onward, Markable, Sorted, Settled, Why, is_root, caused, untop, onward, Keeps}

-- Growing.

within : (l : List ℕ) {u : ℕ} → u < 255 → length l ≡ 255 → u < length l
within l h e = omega arith

module _ {Q : ℕ → Type 0} where
  pub grown-start : {keep : List ℕ} → length keep ≡ 255 → ((v : ℕ) → Q v → ⊥) → Grown Q keep keep
  grown-start long none =
      record { long = long; kept = λ v h e. e; found = λ v h q. absurd (none v q); why = λ v h e. inl e }

  module _ {R : ℕ → Type 0} {keep₀ keep : List ℕ} (g : Grown Q keep₀ keep) (wider : (v : ℕ) → Q v → R v) where
    pub grown-stay : ((v : ℕ) → R v → Q v) → Grown R keep₀ keep
    grown-stay narrower =
        record {
          long = g.long;
          kept = g.kept;
          found = λ v h r. g.found v h (narrower v r);
          why = λ v h e.
              ⊎_elim (λ (x : get_or keep₀ v 0 ≡ 1). inl x) (λ (q : Q v). inr (wider v q)) (g.why v h e);
        }

    pub grown-more : (u : ℕ) → u < 255 → R u → ((v : ℕ) → R v → Q v ⊎ (v ≡ u)) → Grown R keep₀ (set keep u 1)
    grown-more u small here narrower =
        record {
          long = length-set keep u 1 ∙ g.long;
          kept = λ v h e. still v h (g.kept v h e);
          found = λ v h r. ⊎_elim (λ (q : Q v). still v h (g.found v h q)) (λ (e : v ≡ u). at v e) (narrower v r);
          why = λ v h e. why v h e (ℕ_discrete v u);
        }
      where
        at : (v : ℕ) → v ≡ u → get_or (set keep u 1) v 0 ≡ 1
        at v e = ap (λ (i : ℕ). get_or (set keep u 1) i 0) e ∙ get_or-set_same keep u 1 0 (omega (arith, g.long))

        still : (v : ℕ) → v < 255 → get_or keep v 0 ≡ 1 → get_or (set keep u 1) v 0 ≡ 1
        still v h e = go (ℕ_discrete v u)
          where
            go : Dec (v ≡ u) → get_or (set keep u 1) v 0 ≡ 1
            go (yes d) = at v d
            go (no d) = get_or-set_other keep u v 1 0 d ∙ e

        why : (v : ℕ) → v < 255 → get_or (set keep u 1) v 0 ≡ 1 → Dec (v ≡ u) → (get_or keep₀ v 0 ≡ 1) ⊎ R v
        why v h e (yes d) = inr (subst R (sym d) here)
        why v h e (no d) =
            ⊎_elim (λ (x : get_or keep₀ v 0 ≡ 1). inl x) (λ (q : Q v). inr (wider v q))
            (g.why v h (sym (get_or-set_other keep u v 1 0 d) ∙ e))

-- Causes.

module _ (s marks : List ℕ) where
  leads-wider : {k l v : ℕ} → k ≤ l → Leads s marks k v → Leads s marks l v
  leads-wider h a =
      record { node = a.node; place = a.place; link = a.link; before = omega (arith, a.before); leading = a.leading; enters = a.enters }

  leads-narrower : {k l v : ℕ} → ((u j : ℕ) → Place s u j → j < l → j < k) → Leads s marks l v → Leads s marks k v
  leads-narrower none a =
      record {
        node = a.node;
        place = a.place;
        link = a.link;
        before = none a.node a.place a.link a.before;
        leading = a.leading;
        enters = a.enters;
      }

  cause-wider : {k l v : ℕ} → k ≤ l → Cause s marks k v → Cause s marks l v
  unfolding leads-wider
  cause-wider h (several a b) = several (leads-wider h a) b
  cause-wider h (alone a e) = alone (leads-wider h a) e

  cause-narrower : {k l v : ℕ} → ((u j : ℕ) → Place s u j → j < l → j < k) → Cause s marks l v → Cause s marks k v
  unfolding leads-narrower
  cause-narrower none (several a b) = several (leads-narrower none a) b
  cause-narrower none (alone a e) = alone (leads-narrower none a) e

  -- `Entering` moves from place k to place l where no link stands between them.
  pub entering-moved : {k l : ℕ} {keep₀ keep entered : List ℕ} → k ≤ l → ((u j : ℕ) → Place s u j → j < l → j < k) →
      Entering s marks k keep₀ keep entered → Entering s marks l keep₀ keep entered
  entering-moved h none e =
      record {
        grown = grown-stay e.grown (λ v c. cause-wider h c) (λ v c. cause-narrower none c);
        entered-long = e.entered-long;
        met = λ v l x. leads-wider h (e.met v l x);
        unmet = λ v l x. e.unmet v l (leads-narrower none x);
      }

module _ (s marks : List ℕ) (k : ℕ) where
  -- A leading link before place k + 1 stands at place k or before it.
  leads-split : {v : ℕ} (a : Leads s marks (k + 1) v) → (a.place ≡ k) ⊎ (a.place < k)
  leads-split a = go (ℕ_discrete a.place k)
    where
      go : Dec (a.place ≡ k) → (a.place ≡ k) ⊎ (a.place < k)
      go (yes e) = inl e
      go (no d) = inr (omega (arith, a.before))

  earlier : {v : ℕ} (a : Leads s marks (k + 1) v) → a.place < k → Leads s marks k v
  earlier a h = record { node = a.node; place = a.place; link = a.link; before = h; leading = a.leading; enters = a.enters }

  -- A cause in which the link at place k has a part.
  pub data Newly (v : ℕ) : Type 0 where
    second : (get_or marks k 0 ≡ 0 → ⊥) → Leads s marks k v → Newly v
    barely : get_or marks k 0 ≡ 2 → Newly v

  cause-split : (v : ℕ) → Cause s marks (k + 1) v → Cause s marks k v ⊎ ((v ≡ target_at s k) × Newly v)
  unfolding earlier
  cause-split v (several a b) =
      ⊎_elim
      (λ (e : a.place ≡ k).
      inr (
        sym a.enters ∙ ap (target_at s) e,
        second (λ z. a.leading (ap (λ (x : ℕ). get_or marks x 0) e ∙ z)) (subst (λ (i : ℕ). Leads s marks i v) e b),
      ))
      (λ (h : a.place < k). inl (several (earlier a h) b)) (leads-split a)
  cause-split v (alone a q) =
      ⊎_elim
      (λ (e : a.place ≡ k). inr (sym a.enters ∙ ap (target_at s) e, barely (ap (λ (x : ℕ). get_or marks x 0) (sym e) ∙ q)))
      (λ (h : a.place < k). inl (alone (earlier a h) q)) (leads-split a)

  wider : (v : ℕ) → Cause s marks k v → Cause s marks (k + 1) v
  wider v c = cause-wider s marks (omega arith) c

  module _ {keep₀ keep entered : List ℕ} (e : Entering s marks k keep₀ keep entered) where
    pub entering-follows : get_or marks k 0 ≡ 0 → Entering s marks (k + 1) keep₀ keep entered
    entering-follows z =
        record {
          grown = grown-stay e.grown wider narrower;
          entered-long = e.entered-long;
          met = λ v h x. leads-wider s marks (omega arith) (e.met v h x);
          unmet = λ v h x. e.unmet v h (before v x);
        }
      where
        narrower : (v : ℕ) → Cause s marks (k + 1) v → Cause s marks k v
        narrower v c = ⊎_elim (λ (x : Cause s marks k v). x) (λ (x : (v ≡ target_at s k) × Newly v). none x.1) (cause-split v c)
          where
            none : Newly v → Cause s marks k v
            none (second d x) = absurd (d z)
            none (barely d) = absurd (omega (arith, z, d))

        before : (v : ℕ) → Leads s marks (k + 1) v → Leads s marks k v
        before v a =
            ⊎_elim (λ (d : a.place ≡ k). absurd (a.leading (ap (λ (x : ℕ). get_or marks x 0) d ∙ z)))
            (λ (h : a.place < k). earlier a h) (leads-split a)

    module _ {w : ℕ} (link : Place s w k) (leading : get_or marks k 0 ≡ 0 → ⊥) (small : target_at s k < 255) where
      here : {l : ℕ} → k < l → Leads s marks l (target_at s k)
      here h = record { node = w; place = k; link = link; before = h; leading = leading; enters = refl }

      entering-with : {keep' : List ℕ} → Grown (Cause s marks (k + 1)) keep₀ keep' →
          Entering s marks (k + 1) keep₀ keep' (set entered (target_at s k) 1)
      entering-with g =
          record {
            grown = g;
            entered-long = length-set entered u 1 ∙ e.entered-long;
            met = λ v h x. met v h x (ℕ_discrete v u);
            unmet = λ v h x. unmet v h x (ℕ_discrete v u);
          }
        where
          u : ℕ
          u = target_at s k

          met : (v : ℕ) → v < 255 → get_or (set entered u 1) v 0 ≡ 1 → Dec (v ≡ u) → Leads s marks (k + 1) v
          met v h x (yes d) = subst (λ (i : ℕ). Leads s marks (k + 1) i) (sym d) (here (omega arith))
          met v h x (no d) = leads-wider s marks (omega arith) (e.met v h (sym (get_or-set_other entered u v 1 0 d) ∙ x))

          unmet : (v : ℕ) → v < 255 → Leads s marks (k + 1) v → Dec (v ≡ u) → get_or (set entered u 1) v 0 ≡ 1
          unmet v h x (yes d) =
              ap (λ (i : ℕ). get_or (set entered u 1) i 0) d ∙ get_or-set_same entered u 1 0 (within entered small e.entered-long)
          unmet v h x (no d) =
              get_or-set_other entered u v 1 0 d ∙
              e.unmet v h
              (⊎_elim (λ (q : x.place ≡ k). absurd (d (sym x.enters ∙ ap (target_at s) q)))
              (λ (q : x.place < k). earlier x q) (leads-split x))

      split : (v : ℕ) → Cause s marks (k + 1) v → Cause s marks k v ⊎ (v ≡ target_at s k)
      split v c =
          ⊎_elim (λ (x : Cause s marks k v). inl x) (λ (x : (v ≡ target_at s k) × Newly v). inr x.0) (cause-split v c)

      pub entering-bare : get_or marks k 0 ≡ 2 →
          Entering s marks (k + 1) keep₀ (set keep (target_at s k) 1) (set entered (target_at s k) 1)
      unfolding here
      entering-bare b = entering-with (grown-more e.grown wider (target_at s k) small (alone (here (omega arith)) b) split)

      pub entering-again : get_or entered (target_at s k) 0 ≡ 1 →
          Entering s marks (k + 1) keep₀ (set keep (target_at s k) 1) (set entered (target_at s k) 1)
      unfolding here
      entering-again b =
          entering-with
          (grown-more e.grown wider (target_at s k) small
          (several (here (omega arith)) (e.met (target_at s k) small b)) split)

      pub entering-first : (get_or marks k 0 ≡ 2 → ⊥) → (get_or entered (target_at s k) 0 ≡ 1 → ⊥) →
          Entering s marks (k + 1) keep₀ keep (set entered (target_at s k) 1)
      entering-first b d = entering-with (grown-stay e.grown wider narrower)
        where
          narrower : (v : ℕ) → Cause s marks (k + 1) v → Cause s marks k v
          narrower v c =
              ⊎_elim (λ (x : Cause s marks k v). x) (λ (x : (v ≡ target_at s k) × Newly v). none x.0 x.1) (cause-split v c)
            where
              none : v ≡ target_at s k → Newly v → Cause s marks k v
              none q (second x y) = absurd (d (e.unmet (target_at s k) small (subst (λ (i : ℕ). Leads s marks k i) q y)))
              none q (barely x) = absurd (b x)

-- The loops over the rows.

-- In the row of node v, at place k: if `Entering` held, from some first kept nodes, where the row began, it holds here.
pub record InRow (s marks : List ℕ) (v k : ℕ) (keep₀ entered₀ keep entered : List ℕ) : Type 0 where
  pub ready : Markable s marks keep
  pub entered-long : length entered ≡ 255
  pub inside : v < size s
  pub low : links_from s v ≤ k
  pub high : k ≤ row_end s v
  pub first : List ℕ
  pub begun : Entering s marks (links_from s v) first keep₀ entered₀
  pub entering : (start : List ℕ) → Entering s marks (links_from s v) start keep₀ entered₀ → Entering s marks k start keep entered

-- What the code reads at a place of a row.
pub record PlaceKnown (s : List ℕ) (v k : ℕ) : Type 0 where
  pub link : Place s v k
  pub few : k < longest
  pub within : k < length s
  pub target : target_at s k < 255

pub place-known : {s marks keep : List ℕ} {v k : ℕ} → Markable s marks keep → v < size s → links_from s v ≤ k → k < row_end s v → PlaceKnown s v k
place-known {v = v} {k = k} r h low high =
    record {
      link = record { inside = h; low = low; high = high };
      few = omega (arith, (r.sound.shaped.node v h).ended, r.short);
      within = omega (arith, (r.sound.shaped.node v h).ended);
      target = omega (arith, r.sound.targets v k h low high, r.small);
    }

-- `Markable` holds for other arrays of kept nodes.
pub markable-with : {s marks keep keep' : List ℕ} → Markable s marks keep → length keep' ≡ 255 → Markable s marks keep'
markable-with r long = record { sound = r.sound; small = r.small; short = r.short; marks-long = r.marks-long; keep-long = long }

module _ {s marks : List ℕ} where
  pub entering-start : {keep entered : List ℕ} → Markable s marks keep → length entered ≡ 255 → ((v : ℕ) → v < 255 → get_or entered v 0 ≡ 0) →
      Entering s marks (row_from s 0) keep keep entered
  entering-start {keep} {entered} r room clear =
      record {
        grown = grown-start r.keep-long none;
        entered-long = room;
        met = λ v h e. absurd (omega (arith, e, clear v h));
        unmet = λ v h x. absurd (omega (arith, x.before, place-from r.sound.shaped x.link));
      }
    where
      none : (v : ℕ) → Cause s marks (row_from s 0) v → ⊥
      none v (several a b) = omega (arith, a.before, place-from r.sound.shaped a.link)
      none v (alone a e) = omega (arith, a.before, place-from r.sound.shaped a.link)

  -- `Entering` moves past the header of a row.
  pub row-entering : (v : ℕ) {keep₀ keep entered : List ℕ} → Shaped s → v < size s → Entering s marks (row_from s v) keep₀ keep entered →
      Entering s marks (links_from s v) keep₀ keep entered
  row-entering v shaped h e = entering-moved s marks (omega arith) (λ u j p below. no_header shaped v h p below) e

  pub row-start : (v : ℕ) {keep₀ keep entered : List ℕ} → Markable s marks keep → v < size s → Entering s marks (row_from s v) keep₀ keep entered →
      InRow s marks v (links_from s v) keep entered keep entered
  row-start v {keep₀} r h e =
      record {
        ready = r;
        entered-long = e.entered-long;
        inside = h;
        low = omega arith;
        high = (r.sound.shaped.node v h).begun;
        first = keep₀;
        begun = row-entering v r.sound.shaped h e;
        entering = λ start x. x;
      }

  module _ {v k : ℕ} {keep₀ entered₀ keep entered : List ℕ} (i : InRow s marks v k keep₀ entered₀ keep entered) where
    pub row-place : k < row_end s v → PlaceKnown s v k
    row-place h = place-known i.ready i.inside i.low h

    pub row_next : {keep' entered' : List ℕ} → k < row_end s v → Enters s marks k keep entered keep' entered' →
        InRow s marks v (k + 1) keep₀ entered₀ keep' entered'
    row_next h e =
        let new = e i.first (i.entering i.first i.begun) in
        record {
          ready = markable-with i.ready new.grown.long;
          entered-long = new.entered-long;
          inside = i.inside;
          low = omega (arith, i.low);
          high = omega arith;
          first = i.first;
          begun = i.begun;
          entering = λ start x. e start (i.entering start x);
        }

    pub row_done : {start : List ℕ} → row_end s v ≤ k → Entering s marks (row_from s v) start keep₀ entered₀ →
        Entering s marks (row_from s (v + 1)) start keep entered
    row_done {start} h e =
        subst (λ (j : ℕ). Entering s marks j start keep entered) (ends ∙ next_row s v (v + 1) (omega arith))
        (i.entering start (row-entering v i.ready.sound.shaped i.inside e))
      where
        ends : k ≡ row_end s v
        ends = omega (arith, i.high)

  pub entering-done : (v : ℕ) {keep₀ keep entered : List ℕ} → Entering s marks (row_from s v) keep₀ keep entered → v ≤ size s → size s ≤ v →
      Grown (Cause s marks (rows_end s)) keep₀ keep
  entering-done v {keep₀} {keep} e h l =
      subst (λ (i : ℕ). Grown (Cause s marks (row_from s i)) keep₀ keep) (omega arith) e.grown

-- Labels that are not top.

module _ (n : ℕ) (t labels : List ℕ) (k : ℕ) {keep₀ keep : List ℕ} (g : Grown (Untop n t labels k) keep₀ keep) where
  untop-more : (v : ℕ) → Untop n t labels k v → Untop n t labels (k + 1) v
  untop-more v (h, e) = (omega arith, e)

  pub untop-yes : k < 255 → (table_labels n t).le (table_labels n t).top (label_from labels (2 * k)) ≡ false → Grown (Untop n t labels (k + 1)) keep₀ (set keep k 1)
  untop-yes h e = grown-more g untop-more k h (omega arith, e) (λ v x. go v x (ℕ_discrete v k))
    where
      go : (v : ℕ) → Untop n t labels (k + 1) v → Dec (v ≡ k) → Untop n t labels k v ⊎ (v ≡ k)
      go v x (yes d) = inr d
      go v (l, x) (no d) = inl (omega arith, x)

  pub untop-no : (table_labels n t).le (table_labels n t).top (label_from labels (2 * k)) ≡ true → Grown (Untop n t labels (k + 1)) keep₀ keep
  untop-no e = grown-stay g untop-more (λ v x. go v x (ℕ_discrete v k))
    where
      go : (v : ℕ) → Untop n t labels (k + 1) v → Dec (v ≡ k) → Untop n t labels k v
      go v (l, x) (yes d) = true-false (ap (λ (i : ℕ). (table_labels n t).le (table_labels n t).top (label_from labels (2 * i))) d ∙ e) x
      go v (l, x) (no d) = (omega arith, x)

pub untop-start : (n : ℕ) (t labels : List ℕ) {keep : List ℕ} → length keep ≡ 255 → Grown (Untop n t labels 0) keep keep
untop-start n t labels long = grown-start long (λ v x. omega (arith, x.0))

pub untop-done : (n : ℕ) (t labels : List ℕ) (k nodes : ℕ) {keep₀ keep : List ℕ} → Grown (Untop n t labels k) keep₀ keep → k ≤ nodes → nodes ≤ k →
    Grown (Untop n t labels nodes) keep₀ keep
untop-done n t labels k nodes {keep₀} {keep} g h l =
    let z : k ≡ nodes = omega arith in
    subst (λ (i : ℕ). Grown (Untop n t labels i) keep₀ keep) z g

-- Kept links between two places.

-- No link before place k is kept.
abbrev pub NoneYet : List ℕ → List ℕ → List ℕ → ℕ → ℕ → Type 0
NoneYet s marks keep start k = (i : ℕ) → start ≤ i → i < k → Stays s marks keep i → ⊥

pub none-next : {s marks keep : List ℕ} {start k : ℕ} → NoneYet s marks keep start k → (Stays s marks keep k → ⊥) →
    NoneYet s marks keep start (k + 1)
none-next {s} {marks} {keep} {start} {k} none here i low high stays = go (ℕ_discrete i k)
  where
    go : Dec (i ≡ k) → ⊥
    go (yes e) = here (subst (Stays s marks keep) e stays)
    go (no d) = none i low (omega arith) stays

-- An order with targets first has each node at one place.

places_of : (ℕ → ℕ) → ℕ → List ℕ
places_of place zero = []
places_of place (suc k) = place k ∷ places_of place k

places-length : (place : ℕ → ℕ) (k : ℕ) → length (places_of place k) ≡ k
unfolding places_of
places-length place zero = refl
places-length place (suc k) = ap suc (places-length place k)

places-source : (place : ℕ → ℕ) (k i : ℕ) → Memᴰ i (places_of place k) → (v : ℕ) × (v < k) × (i ≡ place v)
unfolding places_of
places-source place zero i m = absurd (mathlib.Core.List.Memᴰ.not-nil m)
places-source place (suc k) i m =
    ⊎_elim (λ (e : i ≡ place k). (k, omega arith, e))
    (λ (n : Memᴰ i (places_of place k)). let (v, h, e) = places-source place k i n in (v, omega arith, e)) (mathlib.Core.List.Memᴰ.cases_cons m)

module _ {s order : List ℕ} {place : ℕ → ℕ} (f : TargetsFirst s order place) where
  one_place : (v w : ℕ) → v < size s → w < size s → place v ≡ place w → v ≡ w
  one_place v w h l e = sym (f.stands v h) ∙ ap (λ (i : ℕ). get_or order i 0) e ∙ f.stands w l

  places-distinct : (k : ℕ) → k ≤ size s → Distinct (places_of place k)
  unfolding places_of
  places-distinct zero h = tt
  places-distinct (suc k) h = (
    λ m. let (v, l, e) = places-source place k (place k) m in omega (arith, one_place k v (omega arith) (omega arith) e),
    places-distinct k (omega arith),
  )

  search : (i k : ℕ) → ((v : ℕ) × (v < k) × (place v ≡ i)) ⊎ ((v : ℕ) → v < k → place v ≡ i → ⊥)
  search i zero = inr λ v h. absurd (omega arith)
  search i (suc k) = go (ℕ_discrete (place k) i) (search i k)
    where
      go : Dec (place k ≡ i) → ((v : ℕ) × (v < k) × (place v ≡ i)) ⊎ ((v : ℕ) → v < k → place v ≡ i → ⊥) →
          ((v : ℕ) × (v < suc k) × (place v ≡ i)) ⊎ ((v : ℕ) → v < suc k → place v ≡ i → ⊥)
      go (yes e) x = inl (k, omega arith, e)
      go (no d) (inl (v, h, e)) = inl (v, omega arith, e)
      go (no d) (inr none) = inr λ v h e. here v h e (ℕ_discrete v k)
        where
          here : (v : ℕ) → v < suc k → place v ≡ i → Dec (v ≡ k) → ⊥
          here v h e (yes q) = d (ap place (sym q) ∙ e)
          here v h e (no q) = none v (omega arith) e

  onto : (i : ℕ) → i < size s → (v : ℕ) × (v < size s) × (place v ≡ i)
  onto i h = go (search i (size s))
    where
      go : ((v : ℕ) × (v < size s) × (place v ≡ i)) ⊎ ((v : ℕ) → v < size s → place v ≡ i → ⊥) → (v : ℕ) × (v < size s) × (place v ≡ i)
      go (inl x) = x
      go (inr none) =
          absurd (omega (
            arith,
            distinct-bound (i ∷ places_of place (size s)) (from 0 (size s)) (outside, places-distinct (size s) (omega arith)) inside,
            places-length place (size s),
            length_from 0 (size s),
          ))
        where
          outside : Memᴰ i (places_of place (size s)) → ⊥
          outside m = let (v, l, e) = places-source place (size s) i m in none v l (sym e)

          inside : (x : ℕ) → Memᴰ x (i ∷ places_of place (size s)) → Memᴰ x (from 0 (size s))
          inside x m =
              ⊎_elim (λ (e : x ≡ i). from_member 0 (size s) x (omega arith) (omega arith))
              (λ (y : Memᴰ x (places_of place (size s))).
              let (v, l, e) = places-source place (size s) x y in
              from_member 0 (size s) x (omega arith) (omega (arith, e, f.inside v l))) (mathlib.Core.List.Memᴰ.cases_cons m)

pub sorted-from : {s order : List ℕ} {answer : Bool} → Sorts s order answer → ((v : ℕ) → Reaches s v v → ⊥) → Sorted s order
sorted-from {s} {order} {answer} sorts acyclic = go answer refl
  where
    go : (b : Bool) → answer ≡ b → Sorted s order
    go true e = let (v, r) = sorts.looped e in absurd (acyclic v r)
    go false e = let (place, f) = sorts.sorted e in record { place = place; targets-first = f; onto = onto f }

-- One pass over the nodes.

module _ {ws order : List ℕ} (s : Sorted ws order) {i : ℕ} (inside : i < size ws) where
  -- The node at place i of the order.
  pub order-inside : get_or order i 0 < size ws
  order-inside =
      let (v, h, e) = s.onto i inside in
      omega (arith, ap (λ (x : ℕ). get_or order x 0) e, s.targets-first.stands v h)

  order-place : s.place (get_or order i 0) ≡ i
  order-place =
      let (v, h, e) = s.onto i inside in
      ap s.place (ap (λ (x : ℕ). get_or order x 0) (sym e) ∙ s.targets-first.stands v h) ∙ e

  module _ {marks keep₀ keep : List ℕ} (small : size ws ≤ 255) (g : Settled (λ v. s.place v < i) ws marks keep₀ keep) where
    u : ℕ
    u = get_or order i 0

    other : (v : ℕ) → v < size ws → s.place v < i + 1 → (v ≡ u → ⊥) → s.place v < i
    unfolding u
    other v h l d = go (ℕ_discrete (s.place v) i)
      where
        go : Dec (s.place v ≡ i) → s.place v < i
        go (yes e) = absurd (d (sym (s.targets-first.stands v h) ∙ ap (λ (x : ℕ). get_or order x 0) e))
        go (no n) = omega arith

    -- A link of a node that is done does not lead to u.
    elsewhere : (v k : ℕ) → v < size ws → s.place v < i + 1 → links_from ws v ≤ k → k < row_end ws v → target_at ws k ≡ u → ⊥
    unfolding u
    elsewhere v k h l low high e =
        let link : Linking ws v (get_or order i 0) =
        record { inside = h; place = k; low = low; high = high; target_is = e } in
        omega (arith, s.targets-first.earlier v (get_or order i 0) link, order-place)

    pub settled-no : (Onward ws marks keep (links_from ws (get_or order i 0)) (row_end ws (get_or order i 0)) → ⊥) →
        Settled (λ v. s.place v < i + 1) ws marks keep₀ keep
    unfolding u
    settled-no none =
        record {
          long = g.long;
          kept = g.kept;
          found = λ v h l o. found v h l o (ℕ_discrete v u);
          why = g.why;
        }
      where
        found : (v : ℕ) → v < size ws → s.place v < i + 1 → Onward ws marks keep (links_from ws v) (row_end ws v) → Dec (v ≡ u) →
            get_or keep v 0 ≡ 1
        found v h l o (yes e) =
            absurd (none (subst (λ (x : ℕ). Onward ws marks keep (links_from ws x) (row_end ws x)) e o))
        found v h l o (no d) = g.found v h (other v h l d) o

    pub settled-yes : Onward ws marks keep (links_from ws (get_or order i 0)) (row_end ws (get_or order i 0)) →
        Settled (λ v. s.place v < i + 1) ws marks keep₀ (set keep (get_or order i 0) 1)
    unfolding u
    settled-yes o =
        record {
          long = length-set keep u 1 ∙ g.long;
          kept = λ v h e. still v (g.kept v h e);
          found = λ v h l x. found v h l x (ℕ_discrete v u);
          why = λ v h e. why v h e (ℕ_discrete v u);
        }
      where
        new : List ℕ
        new = set keep u 1

        here : get_or new u 0 ≡ 1
        here = get_or-set_same keep u 1 0 (omega (arith, g.long, order-inside))

        still : (v : ℕ) → get_or keep v 0 ≡ 1 → get_or new v 0 ≡ 1
        still v e = go (ℕ_discrete v u)
          where
            go : Dec (v ≡ u) → get_or new v 0 ≡ 1
            go (yes d) = ap (λ (x : ℕ). get_or new x 0) d ∙ here
            go (no d) = get_or-set_other keep u v 1 0 d ∙ e

        along : (a b : ℕ) → Onward ws marks keep a b → Onward ws marks new a b
        along a b (k, low, high, x) = (k, low, high, record { leads = x.leads; enters = still (target_at ws k) x.enters })

        found : (v : ℕ) → v < size ws → s.place v < i + 1 → Onward ws marks new (links_from ws v) (row_end ws v) → Dec (v ≡ u) →
            get_or new v 0 ≡ 1
        found v h l x (yes e) = ap (λ (y : ℕ). get_or new y 0) e ∙ here
        found v h l (k, low, high, x) (no d) =
            still v (g.found v h (other v h l d) (
              k,
              low,
              high,
              record {
                leads = x.leads;
                enters = sym (get_or-set_other keep u (target_at ws k) 1 0 (elsewhere v k h l low high)) ∙ x.enters;
              },
            ))

        why : (v : ℕ) → v < size ws → get_or new v 0 ≡ 1 → Dec (v ≡ u) →
            (get_or keep₀ v 0 ≡ 1) ⊎ Onward ws marks new (links_from ws v) (row_end ws v)
        why v h e (yes d) =
            inr (subst (λ (x : ℕ). Onward ws marks new (links_from ws x) (row_end ws x)) (sym d) (along _ _ o))
        why v h e (no d) =
            ⊎_elim (λ (x : get_or keep₀ v 0 ≡ 1). inl x)
            (λ (x : Onward ws marks keep (links_from ws v) (row_end ws v)). inr (along _ _ x))
            (g.why v h (sym (get_or-set_other keep u v 1 0 d) ∙ e))

-- After a turn of the loop, the invariant holds for an equal array of kept nodes.
pub left : {s order marks before keep₀ keep keep' : List ℕ} (i : ℕ) → keep' ≡ keep → i + 1 ≤ size s → Markable s marks before → (sorted : Sorted s order) →
    Settled (λ v. sorted.place v < i + 1) s marks keep₀ keep →
    (i + 1 ≤ size s) × Markable s marks keep' × ((sorted : Sorted s order) × Settled (λ v. sorted.place v < i + 1) s marks keep₀ keep')
left {s} {order} {marks} {before} {keep₀} {keep} {keep'} i e h r sorted new = (
  h,
  markable-with r (ap length e ∙ new.long),
  (sorted, subst (λ (l : List ℕ). Settled (λ v. sorted.place v < i + 1) s marks keep₀ l) (sym e) new),
)

-- What the code reads of a node's row.
pub record NodeKnown (s : List ℕ) (v : ℕ) : Type 0 where
  pub small : v < 255
  pub node : Node s v
  pub ended : row_end s v ≤ longest
  pub within : (k : ℕ) → links_from s v ≤ k → k < row_end s v → target_at s k < 255

pub node-known : {s marks keep : List ℕ} → Markable s marks keep → (v : ℕ) → v < size s → NodeKnown s v
node-known r v h =
    record {
      small = omega (arith, r.small);
      node = r.sound.shaped.node v h;
      ended = omega (arith, (r.sound.shaped.node v h).ended, r.short);
      within = λ k low high. (place-known r h low high).target;
    }

pub settled-start : {ws order marks keep : List ℕ} (s : Sorted ws order) → length keep ≡ 255 →
    Settled (λ v. s.place v < 0) ws marks keep keep
settled-start s long = record { long = long; kept = λ v h e. e; found = λ v h l. absurd (omega arith); why = λ v h e. inl e }

pub settled-done : {ws order marks keep₀ keep : List ℕ} (s : Sorted ws order) {i : ℕ} → Settled (λ v. s.place v < i) ws marks keep₀ keep →
    size ws ≤ i → Settled (λ _. Unit {0}) ws marks keep₀ keep
settled-done s g h =
    record {
      long = g.long;
      kept = g.kept;
      found = λ v l _. g.found v l (omega (arith, s.targets-first.inside v l));
      why = g.why;
    }

-- All steps together keep exactly the nodes with a reason.
pub keeps-all : (n : ℕ) (t s marks labels start : List ℕ) {caused' labelled' keep : List ℕ} → size s ≤ 255 → length start ≡ 255 → ((v : ℕ) → v < 255 → get_or start v 0 ≡ 0) →
    Grown (Cause s marks (rows_end s)) (set start 0 1) caused' → Grown (Untop n t labels (size s)) caused' labelled' →
    Settled (λ _. Unit {0}) s marks labelled' keep → Keeps n t s marks labels keep
keeps-all n t s marks labels start {caused'} {labelled'} {keep} small long clear a b c =
    record { long = c.long; why = why; found = found }
  where
    Reason : ℕ → Type 0
    Reason v = Why n t s marks labels keep v

    wide : (v : ℕ) → v < size s → v < 255
    wide v h = omega arith

    rooted : (v : ℕ) → v < 255 → get_or (set start 0 1) v 0 ≡ 1 → v ≡ 0
    rooted v h e = go (ℕ_discrete v 0)
      where
        go : Dec (v ≡ 0) → v ≡ 0
        go (yes d) = d
        go (no d) = absurd (omega (arith, sym (get_or-set_other start 0 v 1 0 d) ∙ e, clear v h))

    why : (v : ℕ) → v < size s → get_or keep v 0 ≡ 1 → Reason v
    why v h e =
        ⊎_elim (λ (x : get_or labelled' v 0 ≡ 1).
        ⊎_elim (λ (y : get_or caused' v 0 ≡ 1).
        ⊎_elim (λ (z : get_or (set start 0 1) v 0 ≡ 1). is_root (rooted v (wide v h) z)) caused (a.why v (wide v h) y))
        (λ (y : Untop n t labels (size s) v). untop y.1) (b.why v (wide v h) x)) onward (c.why v h e)

    found : (v : ℕ) → v < size s → Reason v → get_or keep v 0 ≡ 1
    found v h (is_root e) =
        c.kept v (wide v h) (b.kept v (wide v h) (a.kept v (wide v h)
        (ap (λ (i : ℕ). get_or (set start 0 1) i 0) e ∙ get_or-set_same start 0 1 0 (omega arith))))
    found v h (caused x) = c.kept v (wide v h) (b.kept v (wide v h) (a.found v (wide v h) x))
    found v h (untop x) = c.kept v (wide v h) (b.found v (wide v h) (h, x))
    found v h (onward x) = c.found v h tt x
