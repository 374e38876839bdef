-- What the rows are once no pair is left: a graph that is alike with the common part, by the places of the pairs in the queue. If the result is
-- too large, the common part is: the pairs in the queue are different nodes of it, and the links of their rows are different links of it.
use mathlib.Core.Path.{◌≡◌, refl, sym, ◌∙◌, ap, subst}
use mathlib.Core.List.{List, [], ◌∷◌, ◌++◌, map, Memᴰ}
use mathlib.Core.Logic.{◌⊎◌, ⊎_elim}
use mathlib.Core.Option.{Option, none, some}
use Prim.Native.Nat.{ℕ, zero, suc, ◌+◌, ◌-◌, ◌*◌, ◌/◌, ◌%◌, ◌≤◌, ◌<◌}
use native.Mathlib.Omega.{arith}
use lib.Dec.{eqb}
use lib.ListN.{length, get_or, set, length-append, length-map}
use Rattle.std.specs.Prelude.{Err, Some, None}
use Rattle.graphs.specs.Graph.{Reached}
use Rattle.graphs.specs.Rows.{Row}
use Rattle.graphs.specs.Number.{Canonical, canonical, many_nodes, many_links, written}
use Rattle.graphs.specs.Large.{Distinct, Ascending, ManyNodes, ManyLinks}
use Rattle.graphs.specs.OfRows.{same_pair}
use Rattle.graphs.proofs.Form.Bisimilar.{Alike, absent, present, Bisimilar}
use Rattle.graphs.proofs.Form.Invariant.{bisimilar-canonical}
use Rattle.graphs.proofs.Form.Large.{canonical-fits}
use Rattle.graphs.proofs.Lists.{tells-eqb, distinct_append}
use Rattle.graphs.proofs.Walk.{none-some, some-injective}
use Rattle.lattice.specs.Label.{Label, no_label}
use Rattle.lattice.specs.Labels.{Known}
use Rattle.layout.specs.Layout.{Recorded, Sound, header, size, label_at, links_from, row_end, target_at, links_at, rows_from, rows_of, graph_in}
use Rattle.layout.specs.Builder.{Built}
use Rattle.layout.proofs.Spans.{link_at, length-links, links-at, links-member}
use Rattle.layout.proofs.Rows.{row-at, rows-source}
use Rattle.layout.proofs.Places.{label-at, link-at, link-place}
use Rattle.layout.proofs.Builder.{Orderly, Aimed, size-kept, size-rows, size_is, built-shaped, built-sound}
use Rattle.encode.specs.Encode.{Outcome, yielding, written_out, Writing}
use Rattle.encode.specs.declared.Unwritten.TheVariants as unwritten
use Rattle.product.specs.Queue.{clear, code_of, common, Marked, Numbered, Full}
use Rattle.generalize.specs.Product.{product, product_out}
use Rattle.generalize.specs.Found.{room, Found}
use Rattle.generalize.proofs.Sides.{pair_of, product-root, product-link, product-label, common-known, tells-pair}
use Rattle.generalize.proofs.Building.{Building, base, joined-known, pair-numbered, link-reached, pairs-reached}

-- A graph with too many nodes or links is not written.
pub too_large : (joins : ℕ → ℕ → ℕ) {a b : List ℕ} → Recorded a → Recorded b → (old : List ℕ) →
    ManyNodes (product joins a b) ⊎ ManyLinks (product joins a b) →
    product_out joins a b old ≡ yielding (Err unwritten.TooLarge) old
unfolding written_out
too_large joins {a} {b} left right old many = go (canonical same_pair (product joins a b)) refl
  where
    go : (c : Canonical Label) → canonical same_pair (product joins a b) ≡ c →
        product_out joins a b old ≡ yielding (Err unwritten.TooLarge) old
    go many_nodes e = ap (λ (c : Canonical Label). written_out c old) e
    go many_links e = ap (λ (c : Canonical Label). written_out c old) e
    go (written form) e =
        let (few, short) = (canonical-fits same_pair tells-pair (product joins a b)
        (λ v w f r l. (common-known left right v w f (sym (product-link joins a b v f) ∙ l)).0)).1 (form, e) in
        absurd (⊎_elim few short many)

-- the first n pairs of the queue, the last first
pairs : List ℕ → ℕ → List (ℕ × ℕ)
pairs queue zero = []
pairs queue (suc n) = pair_of (get_or queue n 0) ∷ pairs queue n

pairs-length : (queue : List ℕ) (n : ℕ) → length (pairs queue n) ≡ n
unfolding pairs
pairs-length queue zero = refl
pairs-length queue (suc n) = ap suc (pairs-length queue n)

pairs-source : (queue : List ℕ) (n : ℕ) (x : ℕ × ℕ) → Memᴰ x (pairs queue n) → (i : ℕ) × (i < n) × (x ≡ pair_of (get_or queue i 0))
unfolding pairs
pairs-source queue zero x m = absurd (mathlib.Core.List.Memᴰ.not-nil m)
pairs-source queue (suc n) x m =
    ⊎_elim (λ (e : x ≡ pair_of (get_or queue n 0)). (n, omega arith, e))
    (λ (i : Memᴰ x (pairs queue n)). let (k, h, e) = pairs-source queue n x i in (k, omega arith, e))
    (mathlib.Core.List.Memᴰ.cases_cons m)

-- the links of the pair x by the features of a row
leaving : ℕ × ℕ → List (ℕ × ℕ) → List ((ℕ × ℕ) × ℕ)
leaving x links = map (λ l. (x, l.0)) links

leaving-distinct : (x : ℕ × ℕ) (links : List (ℕ × ℕ)) → Ascending links → Distinct (leaving x links)
unfolding leaving
leaving-distinct x [] up = tt
leaving-distinct x (l ∷ ls) up = (
  λ m. let (k, i, e) = mathlib.Core.List.Memᴰ.of_map {B = (ℕ × ℕ) × ℕ} (λ l. (x, l.0)) ls m in omega (arith, up.0 k i, ap (λ (y : (ℕ × ℕ) × ℕ). y.1) e),
  leaving-distinct x ls up.1,
)

-- the links of the first m rows
leaving_all : List ℕ → List ℕ → ℕ → List ((ℕ × ℕ) × ℕ)
leaving_all queue words zero = []
leaving_all queue words (suc m) = leaving (pair_of (get_or queue m 0)) (links_at words m) ++ leaving_all queue words m

all-source : (queue words : List ℕ) (m : ℕ) (l : (ℕ × ℕ) × ℕ) → Memᴰ l (leaving_all queue words m) →
    (i : ℕ) × (k : ℕ × ℕ) × (i < m) × Memᴰ k (links_at words i) × (l ≡ (pair_of (get_or queue i 0), k.0))
unfolding leaving_all leaving
all-source queue words zero l i = absurd (mathlib.Core.List.Memᴰ.not-nil i)
all-source queue words (suc m) l i =
    ⊎_elim
    (λ (j : Memᴰ l (map (λ k. (pair_of (get_or queue m 0), k.0)) (links_at words m))).
    let (k, n, e) = mathlib.Core.List.Memᴰ.of_map {B = (ℕ × ℕ) × ℕ} (λ k. (pair_of (get_or queue m 0), k.0)) (links_at words m) j in
    (m, k, omega arith, n, sym e))
    (λ (j : Memᴰ l (leaving_all queue words m)).
    let (v, k, h, n, e) = all-source queue words m l j in
    (v, k, omega arith, n, e))
    (mathlib.Core.List.Memᴰ.append_cases (map (λ k. (pair_of (get_or queue m 0), k.0)) (links_at words m)) i)

module _ {marks queue : List ℕ} {count : ℕ} (marked : Marked marks queue count) where
  -- pairs at different places are different
  same_place : (i j : ℕ) → i < count → j < count → get_or queue i 0 ≡ get_or queue j 0 → i ≡ j
  same_place i j h k e = sym (marked.placed i h) ∙ ap (λ (n : ℕ). get_or marks n 0) e ∙ marked.placed j k

  same-pair : (i j : ℕ) → i < count → j < count → pair_of (get_or queue i 0) ≡ pair_of (get_or queue j 0) → i ≡ j
  same-pair i j h k e = same_place i j h k (omega (arith, ap (λ (x : ℕ × ℕ). x.0) e, ap (λ (x : ℕ × ℕ). x.1) e))

  pairs-distinct : (n : ℕ) → n ≤ count → Distinct (pairs queue n)
  unfolding pairs
  pairs-distinct zero h = tt
  pairs-distinct (suc n) h = (
    λ m. let (i, l, e) = pairs-source queue n (pair_of (get_or queue n 0)) m in omega (arith, same-pair n i (omega arith) (omega arith) e),
    pairs-distinct n (omega arith),
  )

  -- a pair without a mark is not in the queue
  free-apart : (x : ℕ × ℕ) → get_or marks (code_of x) 0 ≡ clear → Memᴰ x (pairs queue count) → ⊥
  free-apart x free m =
      let (i, l, e) = pairs-source queue count x m in
      let code : code_of x ≡ get_or queue i 0 = omega (arith, ap (λ (y : ℕ × ℕ). y.0) e, ap (λ (y : ℕ × ℕ). y.1) e) in
      omega (arith, marked.placed i l, marked.few, ap (λ (n : ℕ). get_or marks n 0) code)

module _ {joins : ℕ → ℕ → ℕ} {a b : List ℕ} {head count at : ℕ} {marks queue words : List ℕ}
    (s : Building joins a b head count at marks queue words) where
  -- More than 255 pairs: those of a full queue and one that has no mark.

  module _ (next : head < count) {words₁ : List ℕ} {first : ℕ}
      (full : Full (common a b (pair_of (get_or queue head 0))) queue words₁ (record { at = first; count = count })) where
    pub many-pairs : ManyNodes (product joins a b)
    many-pairs = (
      full.pair ∷ pairs full.queue' full.next.count,
      (free-apart full.part.after full.pair full.free, pairs-distinct full.part.after full.next.count (omega arith)),
      λ x m.
          ⊎_elim
          (λ (e : x ≡ full.pair).
          subst (Reached (product joins a b)) (sym e) (link-reached s next full.feature full.pair full.led))
          (λ (n : Memᴰ x (pairs full.queue' full.next.count)).
          let (i, l, e) = pairs-source full.queue' full.next.count x n in
          subst (Reached (product joins a b)) (sym e) (pairs-reached s next full.part i l)) (mathlib.Core.List.Memᴰ.cases_cons m),
      omega (arith, pairs-length full.queue' full.next.count, full.given),
    )

  -- More than 2,048 links.

  all-length : (m : ℕ) → m ≤ head → get_or words (m + 1) 0 ≡ base + m * header + length (leaving_all queue words m)
  unfolding leaving_all leaving
  all-length zero h = s.first ∙ omega arith
  all-length (suc m) h =
      let one : suc m + 1 ≡ m + 2 = omega arith in
      ap (λ (i : ℕ). get_or words i 0) one ∙
      omega (
        arith,
        all-length m (omega arith),
        length-append (map (λ k. (pair_of (get_or queue m 0), k.0)) (links_at words m)) (leaving_all queue words m),
        length-map {B = (ℕ × ℕ) × ℕ} (links_at words m) (λ k. (pair_of (get_or queue m 0), k.0)),
        length-links words (links_from words m) (row_end words m) (omega (arith, s.built.ended m h, s.built.high)),
        s.built.begun m h,
      )

  all-distinct : (m : ℕ) → m ≤ head → Distinct (leaving_all queue words m)
  unfolding leaving_all leaving
  all-distinct zero h = tt
  all-distinct (suc m) h =
      distinct_append (leaving (pair_of (get_or queue m 0)) (links_at words m)) (leaving_all queue words m)
      (leaving-distinct (pair_of (get_or queue m 0)) (links_at words m) (s.rows m h).ascends) (all-distinct m (omega arith)) apart
    where
      apart : (l : (ℕ × ℕ) × ℕ) → Memᴰ l (leaving (pair_of (get_or queue m 0)) (links_at words m)) → Memᴰ l (leaving_all queue words m) → ⊥
      apart l i j =
          let (k, n, e) = mathlib.Core.List.Memᴰ.of_map {B = (ℕ × ℕ) × ℕ} (λ k. (pair_of (get_or queue m 0), k.0)) (links_at words m) i in
          let (v, p, h', n', d) = all-source queue words m l j in
          omega (
            arith,
            same-pair s.marked m v (omega (arith, s.behind)) (omega (arith, s.behind))
                (ap (λ (y : (ℕ × ℕ) × ℕ). y.0) (e ∙ d)),
          )

  pub many-links : base + head * header + 2048 < at → ManyLinks (product joins a b)
  many-links h = (
    leaving_all queue words head,
    all-distinct head (omega arith),
    λ l m.
        let (i, k, below, n, e) = all-source queue words head l m in
        let (x, leads, num) = (s.rows i below).led k n in (
          subst (λ (y : (ℕ × ℕ) × ℕ). Reached (product joins a b) y.0) (sym e) (s.reached i (omega (arith, s.behind))),
          (
            x,
            ap (λ (y : (ℕ × ℕ) × ℕ). (product joins a b).link y.0 y.1) e ∙ product-link joins a b (pair_of (get_or queue i 0)) k.0 ∙ leads,
          ),
        ),
    omega (arith, all-length head (omega arith), s.built.next),
  )

  -- No pair is left: the number of nodes is stated.

  module _ (over : count ≤ head) where
    all-rows : head ≡ count
    all-rows = omega (arith, s.behind)

    abbrev result : List ℕ
    result = set words 0 count

    sized : size result ≡ head
    sized = size_is s.built count ∙ sym all-rows

    built : Built result base head at
    built = size-kept s.built count

    rows_are : rows_of result ≡ rows_from words 0 head
    rows_are = ap (rows_from result 0) sized ∙ size-rows s.built count

    -- a row of the result is that of a pair
    row-of : (r : Row Label) → Memᴰ r (rows_of result) → (i : ℕ) × (i < head) × (r ≡ (label_at words i, links_at words i))
    row-of r m =
        let (i, h, e) = rows-source words head 0 r (subst (λ (rs : List (Row Label)). Memᴰ r rs) rows_are m) in
        (i, omega arith, e)

    orderly : Orderly (rows_of result)
    orderly =
        record {
          labels = λ r m. let (i, h, e) = row-of r m in subst (Known 128) (sym (ap (λ (q : Row Label). q.0) e ∙ s.labels i h)) (joined-known s i (omega (arith, s.behind)));
          ascends = λ r m. let (i, h, e) = row-of r m in subst Ascending (sym (ap (λ (q : Row Label). q.1) e)) (s.rows i h).ascends;
          features = λ r m l n.
              let (i, h, e) = row-of r m in
              (s.rows i h).known l (subst (λ (ls : List (ℕ × ℕ)). Memᴰ l ls) (ap (λ (q : Row Label). q.1) e) n);
        }

    aimed : Aimed head (rows_of result)
    aimed =
        record {
          targets = λ r m l n.
              let (i, h, e) = row-of r m in
              let (x, leads, num) = (s.rows i h).led l (subst (λ (ls : List (ℕ × ℕ)). Memᴰ l ls) (ap (λ (q : Row Label). q.1) e) n) in
              omega (arith, num.below);
        }

    pub build-sound : Sound (set words 0 count)
    build-sound = built-sound built sized (built-shaped built sized (omega (arith, s.begun)) (omega arith) orderly) aimed

    row_is : (i : ℕ) → i < head → ◌≡◌ {A = Row Label} (label_at result i, links_at result i) (label_at words i, links_at words i)
    row_is i h =
        sym (row-at result head 0 i i (no_label, []) (omega arith) h) ∙
        ap (λ (rs : List (Row Label)). get_or rs i (no_label, [])) (size-rows s.built count) ∙
        row-at words head 0 i i (no_label, []) (omega arith) h

    numbered-in : (x : ℕ × ℕ) (i : ℕ) → Numbered queue count x i → (i < head) × (i < size result)
    numbered-in x i n = (omega (arith, n.below), omega (arith, n.below, sized))

    alike-labels : (x : ℕ × ℕ) (i : ℕ) → Numbered queue count x i → (product joins a b).label x ≡ (graph_in result).label i
    alike-labels x i n =
        let (low, high) = numbered-in x i n in
        ap (product joins a b).label (sym (pair-numbered x i n)) ∙
        product-label joins a b (get_or queue i 0 / 255) (get_or queue i 0 % 255) (s.inside i n.below).0 (s.inside i n.below).1 ∙
        sym (s.labels i low) ∙ sym (ap (λ (r : Row Label). r.0) (row_is i low)) ∙ sym (label-at result i high)

    sound : Sound result
    sound = build-sound

    -- A link of the result leads to the number of the pair that the same link of the common part leads to.
    link-led : (i f m : ℕ) → i < head → i < size result → (graph_in result).link i f ≡ some m →
        (x : ℕ × ℕ) × (common a b (pair_of (get_or queue i 0)) f ≡ some x) × Numbered queue count x m
    link-led i f m low high d =
        let (k, from, to, p, q) = link-place sound i f m high d in
        let (x, leads, num) = (s.rows i low).led (link_at result k)
        (subst (λ (ls : List (ℕ × ℕ)). Memᴰ {A = ℕ × ℕ} (link_at result k) ls) (ap (λ (r : Row Label). r.1) (row_is i low))
        (links-at result (row_end result i) (sound.shaped.node i high).ended (row_end result i - links_from result i) (links_from result i)
        (omega (arith, (sound.shaped.node i high).begun)) k from to)) in
        (x, ap (common a b (pair_of (get_or queue i 0))) (sym p) ∙ leads, subst (λ (j : ℕ). Numbered queue count x j) q num)

    -- The result has a link for each link of the common part.
    link-there : (i f : ℕ) (x : ℕ × ℕ) → i < head → i < size result → common a b (pair_of (get_or queue i 0)) f ≡ some x →
        (m : ℕ) × ((graph_in result).link i f ≡ some m)
    link-there i f x low high e =
        let (j, mem) = (s.rows i low).present f (common-known s.left s.right (pair_of (get_or queue i 0)) x f e).0 x e in
        let (k, from, to, p, q) = links-member result (row_end result i) (sound.shaped.node i high).ended (row_end result i - links_from result i)
        (links_from result i) (omega (arith, (sound.shaped.node i high).begun)) (f, j)
        (subst (λ (ls : List (ℕ × ℕ)). Memᴰ {A = ℕ × ℕ} (f, j) ls) (sym (ap (λ (r : Row Label). r.1) (row_is i low))) mem) in
        (target_at result k, ap ((graph_in result).link i) p ∙ link-at sound i k high from to)

    alike-links : (x : ℕ × ℕ) (i f : ℕ) → Numbered queue count x i →
        Alike (Numbered queue count) ((product joins a b).link x f) ((graph_in result).link i f)
    alike-links x i f n = go ((product joins a b).link x f) ((graph_in result).link i f) refl refl
      where
        low : i < head
        low = (numbered-in x i n).0

        high : i < size result
        high = (numbered-in x i n).1

        leads : (product joins a b).link x f ≡ common a b (pair_of (get_or queue i 0)) f
        leads = product-link joins a b x f ∙ ap (λ (y : ℕ × ℕ). common a b y f) (sym (pair-numbered x i n))

        go : (o : Option (ℕ × ℕ)) (r : Option ℕ) → (product joins a b).link x f ≡ o → (graph_in result).link i f ≡ r →
            Alike (Numbered queue count) o r
        go none none e d = absent
        go none (some m) e d =
            let (y, q, num) = link-led i f m low high d in
            none-some (sym e ∙ leads ∙ q)
        go (some y) none e d =
            let (m, q) = link-there i f y low high (sym leads ∙ e) in
            none-some (sym d ∙ q)
        go (some y) (some m) e d =
            let (z, q, num) = link-led i f m low high d in
            present (subst (λ (t : ℕ × ℕ). Numbered queue count t m) (some-injective (sym q ∙ sym leads ∙ e)) num)

    alike : Bisimilar (Numbered queue count) (product joins a b) (graph_in result)
    alike =
        record {
          root = subst (λ (x : ℕ × ℕ). Numbered queue count x 0) (sym (product-root joins a b))
              (record { left = omega arith; right = omega arith; below = s.begun; stands = s.root });
          labels = alike-labels;
          links = alike-links;
          forth = λ x y i j m n e. same_place s.marked i j m.below n.below (m.stands ∙ ap code_of e ∙ sym n.stands);
          back = λ x y i j m n e. sym (pair-numbered x i m) ∙ ap (λ (k : ℕ). pair_of (get_or queue k 0)) e ∙ pair-numbered y j n;
        }

    -- The rows have the written form of the common part.
    pub build-canonical : canonical same_pair (product joins a b) ≡ canonical eqb (graph_in (set words 0 count))
    build-canonical =
        bisimilar-canonical same_pair eqb tells-pair tells-eqb (Numbered queue count) (product joins a b) (graph_in result) alike

-- What building in lent words found.

pub found-written : {w : Writing} {outcome : Outcome} {words : ℕ} {old new : List ℕ} → yielding w new ≡ outcome →
    Found (Some w) outcome words old new
found-written {w} {outcome} {words} {old} {new} h =
    record {
      written = λ v e. let same : w ≡ v = cc in subst (λ (x : Writing). yielding x new ≡ outcome) same h;
      too_few = λ e. absurd (let z : ◌≡◌ {A = ℕ} 0 1 = cc in omega arith);
    }

pub found-too-few : {outcome : Outcome} {words : ℕ} {old : List ℕ} → words < room → Found None outcome words old old
found-too-few h = record { written = λ w e. absurd (let z : ◌≡◌ {A = ℕ} 0 1 = cc in omega arith); too_few = λ e. (refl, h) }
