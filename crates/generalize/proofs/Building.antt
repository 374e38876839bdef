-- The rows of the result as they are built: the pairs before `head` have their rows, and every pair in the queue is reached.
use mathlib.Core.Path.{◌≡◌, refl, sym, ◌∙◌, ap, ap₂, subst}
use mathlib.Core.List.{List, [], ◌∷◌, ◌++◌}
use mathlib.Core.Option.{some}
use Prim.Native.Nat.{ℕ, ◌+◌, ◌*◌, ◌/◌, ◌%◌, ◌≤◌, ◌<◌}
use native.Mathlib.Decide.{dec_lt}
use native.Mathlib.Omega.{arith}
use lib.ListN.{length, get_or, set, length-set, get_or-append}
use lib.Seq.{get_or-set_same, get_or-set_other, get_or_at}
use Rattle.graphs.specs.Graph.{Reached}
use Rattle.graphs.specs.Rows.{Row}
use Rattle.graphs.proofs.Walk.{reached-root, reached-link}
use Rattle.lattice.specs.Label.{Label, no_label}
use Rattle.lattice.specs.Labels.{Known, join_ranged}
use Rattle.layout.specs.Layout.{Recorded, Node, header, size, label_from, label_at, links_between, links_at, rows_from}
use Rattle.layout.specs.Builder.{Built, Open, Same, put_label}
use Rattle.layout.proofs.Rows.{row-at, length-rows}
use Rattle.layout.proofs.Builder.{put-before, label-put, label_same, length-put, built-begin, built-kept, rows-kept, row_closes, closed-rows}
use Rattle.product.specs.declared.Spread.{Spread}
use Rattle.product.specs.Queue.{clear, common, Marked, Matched, Numbered, Adds}
use Rattle.product.proofs.Marking.{mark-root}
use Rattle.product.proofs.Merging.{matched-on}
use Rattle.generalize.specs.Pairs.{Joinable}
use Rattle.generalize.specs.Product.{product}
use Rattle.generalize.proofs.Sides.{pair_of, product-root, product-link, common-known}

-- where the rows begin: behind the number of nodes and 256 places
abbrev pub base : ℕ
base = 257

-- The two nodes of a pair by the pair's number.
code-left : (u v : ℕ) → v < 255 → (u * 255 + v) / 255 ≡ u
code-left u v h = omega arith

code-right : (u v : ℕ) → v < 255 → (u * 255 + v) % 255 ≡ v
code-right u v h = omega arith

pub pair-numbered : {queue : List ℕ} {count : ℕ} (x : ℕ × ℕ) (i : ℕ) → Numbered queue count x i → pair_of (get_or queue i 0) ≡ x
pair-numbered {queue} x i n =
    ap pair_of n.stands ∙
    ap₂ {C = ℕ × ℕ} (λ s t. (s, t)) (code-left x.0 x.1 n.right) (code-right x.0 x.1 n.right)

-- the join of the labels of a pair
abbrev pub joined : (ℕ → ℕ → ℕ) → List ℕ → List ℕ → ℕ × ℕ → Label
joined joins a b x = join_ranged joins (label_at a x.0) (label_at b x.1)

pub record Building (joins : ℕ → ℕ → ℕ) (a b : List ℕ) (head count at : ℕ) (marks queue words : List ℕ) : Type 0 where
  pub left : Recorded a
  pub right : Recorded b
  pub types : ℕ
  pub joinable : Joinable types joins a b
  pub marked : Marked marks queue count
  pub begun : 0 < count
  pub behind : head ≤ count
  pub root : get_or queue 0 0 ≡ 0
  pub inside : (i : ℕ) → i < count → (get_or queue i 0 / 255 < size a) × (get_or queue i 0 % 255 < size b)
  pub reached : (i : ℕ) → i < count → Reached (product joins a b) (pair_of (get_or queue i 0))
  pub long : length words ≤ 65535
  pub built : Built words base head at
  pub first : get_or words 1 0 ≡ base
  pub labels : (i : ℕ) → i < head → label_at words i ≡ joined joins a b (pair_of (get_or queue i 0))
  pub rows : (i : ℕ) → i < head → Matched (common a b (pair_of (get_or queue i 0))) queue count 64 (links_at words i)

-- At the start, the root's pair is known and has no row.
pub build-start : (joins : ℕ → ℕ → ℕ) {a b : List ℕ} → Recorded a → Recorded b → ((n : ℕ) × Joinable n joins a b) → (marks queue words : List ℕ) →
    length marks ≡ 65025 → ((p : ℕ) → p < 65025 → get_or marks p 0 ≡ clear) → length queue ≡ 255 → get_or queue 0 0 ≡ 0 →
    512 ≤ length words → length words ≤ 65535 → Building joins a b 0 1 base (set marks 0 0) queue (set words 1 base)
build-start joins {a} {b} left right (n, able) marks queue words marks-long none queue_long root least long =
    record {
      left = left;
      right = right;
      types = n;
      joinable = able;
      marked = mark-root marks queue marks-long queue_long root none;
      begun = omega arith;
      behind = omega arith;
      root = root;
      inside = λ i h. let e : get_or queue i 0 ≡ 0 = first-pair i h in (
        omega (arith, left.sound.shaped.nonempty),
        omega (arith, right.sound.shaped.nonempty),
      );
      reached = λ i h.
          subst (Reached (product joins a b)) (product-root joins a b ∙ sym (ap pair_of (first-pair i h))) (reached-root (product joins a b));
      long = omega (arith, length-set words 1 base);
      built = built-begin words base (omega arith) (omega arith);
      first = get_or-set_same words 1 base 0 (omega arith);
      labels = λ i h. absurd (omega arith);
      rows = λ i h. absurd (omega arith);
    }
  where
    first-pair : (i : ℕ) → i < 1 → get_or queue i 0 ≡ 0
    first-pair i h = let e : i ≡ 0 = omega arith in ap (λ (n : ℕ). get_or queue n 0) e ∙ root

-- A record can state the label of a pair.
pub joined-known : {joins : ℕ → ℕ → ℕ} {a b : List ℕ} {head count at : ℕ} {marks queue words : List ℕ} →
    (s : Building joins a b head count at marks queue words) (i : ℕ) → i < count → Known 128 (joined joins a b (pair_of (get_or queue i 0)))
joined-known {joins} {a} {b} {queue = queue} s i h =
    let x : Known s.types (label_at a (get_or queue i 0 / 255)) = s.joinable.left (get_or queue i 0 / 255) (s.inside i h).0 in
    let y : Known s.types (label_at b (get_or queue i 0 % 255)) = s.joinable.right (get_or queue i 0 % 255) (s.inside i h).1 in
    record {
      type = omega (arith, s.joinable.joins-below _ _ x.type y.type, s.joinable.few);
      lowest = omega (arith, x.lowest, y.lowest);
      highest = omega (arith, x.highest, y.highest);
    }

module _ {joins : ℕ → ℕ → ℕ} {a b : List ℕ} {head count at : ℕ} {marks queue words : List ℕ}
    (s : Building joins a b head count at marks queue words) (next : head < count) where
  -- the next pair's nodes
  pub left-node : Node a (get_or queue head 0 / 255)
  left-node = s.left.sound.shaped.node (get_or queue head 0 / 255) (s.inside head next).0

  pub right-node : Node b (get_or queue head 0 % 255)
  right-node = s.right.sound.shaped.node (get_or queue head 0 % 255) (s.inside head next).1

module _ {joins : ℕ → ℕ → ℕ} {a b : List ℕ} {head count at : ℕ} {marks queue words : List ℕ}
    (s : Building joins a b head count at marks queue words) (next : head < count) where
  -- Every pair that the next pair leads to is reached.
  pub link-reached : (f : ℕ) (x : ℕ × ℕ) → common a b (pair_of (get_or queue head 0)) f ≡ some x → Reached (product joins a b) x
  link-reached f x e =
      reached-link (product joins a b) f (s.reached head next) (product-link joins a b (pair_of (get_or queue head 0)) f ∙ e)

  -- While the links of the next pair are added, the queue has only reached pairs.
  module _ {words₁ marks' queue' words' : List ℕ} {first bound : ℕ} {now : Spread}
      (added : Adds (common a b (pair_of (get_or queue head 0))) queue words₁ (record { at = first; count = count }) bound marks' queue' words'
      now) where
    pub pairs-reached : (i : ℕ) → i < now.count → Reached (product joins a b) (pair_of (get_or queue' i 0))
    pairs-reached i h = go (dec_lt i count)
      where
        go : Dec (i < count) → Reached (product joins a b) (pair_of (get_or queue' i 0))
        go (yes l) = subst (λ (q : ℕ). Reached (product joins a b) (pair_of q)) (sym (added.queue-kept i l)) (s.reached i l)
        go (no n) =
            let (f, x, e, num) = added.fresh i (omega arith) h in
            subst (Reached (product joins a b)) (sym (pair-numbered x i num)) (link-reached f x e)

module _ {joins : ℕ → ℕ → ℕ} {a b : List ℕ} {head count at : ℕ} {marks queue words : List ℕ}
    (s : Building joins a b head count at marks queue words) (next : head < count)
    (fits : at + (header + 64) ≤ length words) where
  -- The next pair gets its row.
  module _ (label : Label) (is : label ≡ joined joins a b (pair_of (get_or queue head 0))) (opened : List ℕ)
      (opens : opened ≡ put_label words at label) (marks' queue' words' : List ℕ) (now : Spread)
      (added : Adds (common a b (pair_of (get_or queue head 0))) queue opened (record { at = at + header; count = count }) 64
      marks' queue' words' now) where
    low : head + 2 ≤ at
    low = omega (arith, s.built.listed, s.built.low)

    -- what stands before the row is kept
    kept : Same words words' 0 at
    kept k l h =
        added.kept k l (omega arith) ∙ ap (λ (ws : List ℕ). get_or ws k 0) opens ∙ put-before words at label 0 at (omega arith) k l h

    long-now : length words' ≡ length words
    long-now = added.long ∙ ap length opens ∙ length-put words at label

    filled : Open words' base head at now.at
    filled =
        record {
          built = built-kept s.built words' long-now (λ k l h. kept k (omega arith) (omega (arith, low)));
          headed = added.rises;
          inside = omega (arith, added.short, long-now);
        }

    listed : head + 2 < base
    listed = omega (arith, s.marked.few)

    abbrev new : List ℕ
    new = set words' (head + 2) now.at

    label-now : label_from words' at ≡ label
    label-now =
        label_same opened words' at (λ k l h. added.kept k (omega arith) h) ∙ ap (λ (ws : List ℕ). label_from ws at) opens ∙
        label-put words at label (omega arith) (subst (λ (l : Label). l.highest ≤ 255) (sym is) (joined-known s head next).highest)

    rows_are : rows_from new 0 (head + 1) ≡ rows_from words 0 head ++ ((label, links_between words' (at + header) now.at) ∷ [])
    rows_are =
        closed-rows filled listed ∙
        ap₂ (λ (rs : List (Row Label)) (l : Label). rs ++ ((l, links_between words' (at + header) now.at) ∷ []))
        (rows-kept s.built words' long-now (λ k l h. kept k (omega arith) (omega (arith, low))) (λ k l h. kept k (omega arith) h)) label-now

    -- An earlier row stays as it was.
    row_kept : (i : ℕ) → i < head → ◌≡◌ {A = Row Label} (label_at new i, links_at new i) (label_at words i, links_at words i)
    row_kept i h =
        sym (row-at new (head + 1) 0 i i (no_label, []) (omega arith) (omega arith)) ∙
        ap (λ (rs : List (Row Label)). get_or rs i (no_label, [])) rows_are ∙
        get_or-append (rows_from words 0 head) ((label, links_between words' (at + header) now.at) ∷ []) (no_label, []) i
        (omega (arith, length-rows words 0 head)) ∙
        row-at words head 0 i i (no_label, []) (omega arith) h

    -- The last row is the one that was added.
    row_last : (i : ℕ) → i ≡ head → ◌≡◌ {A = Row Label} (label_at new i, links_at new i) (label, links_between words' (at + header) now.at)
    row_last i e =
        sym (row-at new (head + 1) 0 i i (no_label, []) (omega arith) (omega arith)) ∙
        ap (λ (rs : List (Row Label)). get_or rs i (no_label, [])) rows_are ∙
        get_or_at (rows_from words 0 head) (label, links_between words' (at + header) now.at) [] (no_label, []) i (length-rows words 0 head ∙ sym e)

    -- A new pair hangs below the pair whose row is added.
    inside : (i : ℕ) → i < now.count → Dec (i < count) → (get_or queue' i 0 / 255 < size a) × (get_or queue' i 0 % 255 < size b)
    inside i h (yes l) =
        subst (λ (q : ℕ). (q / 255 < size a) × (q % 255 < size b)) (sym (added.queue-kept i l)) (s.inside i l)
    inside i h (no n) =
        let (f, x, e, num) = added.fresh i (omega arith) h in
        let (_, lower, higher) = common-known s.left s.right (pair_of (get_or queue head 0)) x f e in
        let q = pair-numbered x i num in (
          subst (λ (n : ℕ). n < size a) (sym (ap (λ (y : ℕ × ℕ). y.0) q)) lower,
          subst (λ (n : ℕ). n < size b) (sym (ap (λ (y : ℕ × ℕ). y.1) q)) higher,
        )

    -- The pair of a row stays at its place.
    same-pair : (i j : ℕ) → i ≡ j → j < count → pair_of (get_or queue j 0) ≡ pair_of (get_or queue' i 0)
    same-pair i j e h = ap pair_of (sym (added.queue-kept j h) ∙ ap (λ (n : ℕ). get_or queue' n 0) (sym e))

    labels : (i : ℕ) → i < head + 1 → Dec (i < head) → label_at new i ≡ joined joins a b (pair_of (get_or queue' i 0))
    labels i h (yes l) =
        ap (λ (r : Row Label). r.0) (row_kept i l) ∙ s.labels i l ∙ ap (joined joins a b) (same-pair i i refl (omega arith))
    labels i h (no n) =
        let e : i ≡ head = omega arith in
        ap (λ (r : Row Label). r.0) (row_last i e) ∙ is ∙ ap (joined joins a b) (same-pair i head e next)

    rows : (i : ℕ) → i < head + 1 → Dec (i < head) → Matched (common a b (pair_of (get_or queue' i 0))) queue' now.count 64 (links_at new i)
    rows i h (yes l) =
        subst (λ (ls : List (ℕ × ℕ)). Matched (common a b (pair_of (get_or queue' i 0))) queue' now.count 64 ls)
        (sym (ap (λ (r : Row Label). r.1) (row_kept i l)))
        (subst (λ (x : ℕ × ℕ). Matched (common a b x) queue' now.count 64 (links_at words i)) (same-pair i i refl (omega arith))
        (matched-on (s.rows i l) queue' now.count added.grows added.queue-kept))
    rows i h (no n) =
        let e : i ≡ head = omega arith in
        subst (λ (ls : List (ℕ × ℕ)). Matched (common a b (pair_of (get_or queue' i 0))) queue' now.count 64 ls)
        (sym (ap (λ (r : Row Label). r.1) (row_last i e)))
        (subst (λ (x : ℕ × ℕ). Matched (common a b x) queue' now.count 64 (links_between words' (at + header) now.at))
        (same-pair i head e next) added.row)

    pub build-long : length (set words' (head + 2) now.at) ≡ length words
    build-long = length-set words' (head + 2) now.at ∙ long-now

    pub build-step : Building joins a b (head + 1) now.count now.at marks' queue' (set words' (head + 2) now.at)
    build-step =
        record {
          left = s.left;
          right = s.right;
          types = s.types;
          joinable = s.joinable;
          marked = added.after;
          begun = omega (arith, s.begun, added.grows);
          behind = omega (arith, added.grows);
          root = added.queue-kept 0 s.begun ∙ s.root;
          inside = λ i h. inside i h (dec_lt i count);
          reached = pairs-reached s next added;
          long = omega (arith, build-long, s.long);
          built = row_closes filled listed;
          first =
              get_or-set_other words' (head + 2) 1 now.at 0 (λ (e : 1 ≡ head + 2). omega arith) ∙ kept 1 (omega arith) (omega (arith, low)) ∙
              s.first;
          labels = λ i h. labels i h (dec_lt i head);
          rows = λ i h. rows i h (dec_lt i head);
        }
