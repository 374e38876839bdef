-- The merge of two rows: the links by features below a bound are added, and the rests of both rows have the other features.
use mathlib.Core.Path.{◌≡◌, refl, sym, ◌∙◌, ap, ap₂, subst}
use mathlib.Core.List.Memᴰ
use mathlib.Core.List.{
  List,
  [],
  ◌∷◌,
  ◌++◌,
  Memᴰ,
}
use mathlib.Core.Logic.{◌⊎◌, inl, inr, ⊎_elim}
use mathlib.Core.Option.{Option, none, some}
use Prim.Native.Nat.{ℕ, suc, ◌+◌, ◌-◌, ◌*◌, ◌≤◌, ◌<◌}
use native.Mathlib.Decide.{dec_lt, ℕ_discrete}
use native.Mathlib.Omega.{arith}
use lib.ListN.{length, get_or, set, length-set}
use lib.Seq.{get_or-set_other}
use Rattle.graphs.specs.Generalize.{both}
use Rattle.graphs.specs.Large.{Ascending}
use Rattle.graphs.proofs.Walk.{none-some}
use Rattle.layout.specs.Layout.{Recorded, Sound, size, links_from, row_end, feature_at, target_at, link_word, graph_in}
use Rattle.layout.proofs.Spans.{links-none, features-rise}
use Rattle.layout.proofs.Places.{link-at, link-place}
use Rattle.layout.proofs.Builder.{links-put}
use Rattle.product.specs.declared.Spread.{Spread}
use Rattle.std.specs.Prelude.{Some}
use Rattle.product.specs.Queue.{clear, code_of, Marked, Enlisted, common, Numbered, Matched, Adds, Full, Spreads}

-- The links of a pair.

-- Links stay in order when a link with a higher feature is added at the end.
ascending-snoc : (ls : List (ℕ × ℕ)) (l : ℕ × ℕ) → Ascending ls → ((m : ℕ × ℕ) → Memᴰ m ls → m.0 < l.0) → Ascending (ls ++ (l ∷ []))
ascending-snoc [] l up low = (λ m i. absurd (Memᴰ.not-nil i), tt)
ascending-snoc (k ∷ ls) l up low = (
  λ m i.
      ⊎_elim (λ (j : Memᴰ m ls). up.0 m j)
      (λ (j : Memᴰ m (l ∷ [])).
      ⊎_elim (λ (e : m ≡ l). subst (λ (x : ℕ × ℕ). k.0 < x.0) (sym e) (low k (Memᴰ.head refl)))
      (λ n. absurd (Memᴰ.not-nil n)) (Memᴰ.cases_cons j)) (Memᴰ.append_cases ls i),
  ascending-snoc ls l up.1 (λ m i. low m (Memᴰ.tail i)),
)

-- A link of the longer list is the last one, or one before it.
snoc-cases : (ls : List (ℕ × ℕ)) (l m : ℕ × ℕ) → Memᴰ m (ls ++ (l ∷ [])) → Memᴰ m ls ⊎ (m ≡ l)
snoc-cases ls l m i =
    ⊎_elim (λ (j : Memᴰ m ls). inl j)
    (λ (j : Memᴰ m (l ∷ [])).
    ⊎_elim (λ (e : m ≡ l). inr e) (λ n. absurd (Memᴰ.not-nil n)) (Memᴰ.cases_cons j)) (Memᴰ.append_cases ls i)

module _ {leads : ℕ → Option (ℕ × ℕ)} {queue : List ℕ} {count : ℕ} where
  matched-none : Matched leads queue count 0 []
  matched-none =
      record {
        ascends = tt;
        known = λ l m. absurd (Memᴰ.not-nil m);
        led = λ l m. absurd (Memᴰ.not-nil m);
        present = λ f h. absurd (omega arith);
      }

  module _ {bound : ℕ} {links : List (ℕ × ℕ)} (s : Matched leads queue count bound links) where
    -- The bound may rise past features that are not features of both.
    matched-skip : (higher : ℕ) → bound ≤ higher → ((f : ℕ) → bound ≤ f → f < higher → leads f ≡ none) →
        Matched leads queue count higher links
    matched-skip higher up none-there =
        record {
          ascends = s.ascends;
          known = λ l m. omega (arith, s.known l m);
          led = s.led;
          present = λ f h x e. present f h x e (dec_lt f bound);
        }
      where
        present : (f : ℕ) → f < higher → (x : ℕ × ℕ) → leads f ≡ some x → Dec (f < bound) → (i : ℕ) × Memᴰ (f, i) links
        present f h x e (yes l) = s.present f l x e
        present f h x e (no n) = none-some (sym (none-there f (omega arith) h) ∙ e)

    -- The links stay matched when the queue grows.
    pub matched-on : (queue' : List ℕ) (count' : ℕ) → count ≤ count' → ((i : ℕ) → i < count → get_or queue' i 0 ≡ get_or queue i 0) →
        Matched leads queue' count' bound links
    matched-on queue' count' grows kept =
        record {
          ascends = s.ascends;
          known = s.known;
          led = λ l m. let (x, e, n) = s.led l m in (x, e, numbered-on x l.1 n);
          present = s.present;
        }
      where
        numbered-on : (x : ℕ × ℕ) (i : ℕ) → Numbered queue count x i → Numbered queue' count' x i
        numbered-on x i n =
            record {
              left = n.left;
              right = n.right;
              below = omega (arith, n.below);
              stands = kept i n.below ∙ n.stands;
            }

    -- The link by the next feature of both is added.
    matched-link : (f t : ℕ) (x : ℕ × ℕ) → bound ≤ f → ((g : ℕ) → bound ≤ g → g < f → leads g ≡ none) → leads f ≡ some x →
        Numbered queue count x t → Matched leads queue count (suc f) (links ++ ((f, t) ∷ []))
    matched-link f t x up none-there leads-x numbered =
        record {
          ascends = ascending-snoc links (f, t) s.ascends (λ m i. omega (arith, s.known m i));
          known = λ l m.
              ⊎_elim (λ (i : Memᴰ l links). omega (arith, s.known l i)) (λ (e : l ≡ (f, t)). omega (arith, ap (λ (y : ℕ × ℕ). y.0) e))
              (snoc-cases links (f, t) l m);
          led = λ l m.
              ⊎_elim (λ (i : Memᴰ l links). s.led l i)
              (λ (e : l ≡ (f, t)).
              subst (λ (y : ℕ × ℕ). (z : ℕ × ℕ) × (leads y.0 ≡ some z) × Numbered queue count z y.1) (sym e) (x, leads-x, numbered))
              (snoc-cases links (f, t) l m);
          present = λ g h y e. present g h y e (dec_lt g bound) (ℕ_discrete g f);
        }
      where
        present : (g : ℕ) → g < suc f → (y : ℕ × ℕ) → leads g ≡ some y → Dec (g < bound) → Dec (g ≡ f) →
            (i : ℕ) × Memᴰ (g, i) (links ++ ((f, t) ∷ []))
        present g h y e (yes l) d = let (i, m) = s.present g l y e in (i, Memᴰ.append_left ((f, t) ∷ []) m)
        present g h y e (no n) (no d) = none-some (sym (none-there g (omega arith) (omega arith)) ∙ e)
        present g h y e (no n) (yes d) = (t, Memᴰ.append_right links (Memᴰ.head (ap (λ (k : ℕ). (k, t)) d)))

-- What is added.

module _ {leads : ℕ → Option (ℕ × ℕ)} {queue₀ words₀ : List ℕ} {known : Spread} where
  adds_none : {marks₀ : List ℕ} → Marked marks₀ queue₀ known.count → Adds leads queue₀ words₀ known 0 marks₀ queue₀ words₀ known
  adds_none m =
      record {
        after = m;
        row = subst (Matched leads queue₀ known.count 0) (sym (links-none words₀ known.at)) matched-none;
        rises = omega arith;
        short = omega arith;
        long = refl;
        kept = λ k low high. refl;
        grows = omega arith;
        queue-kept = λ i h. refl;
        fresh = λ i low high. absurd (omega arith);
      }

  module _ {bound : ℕ} {marks queue words : List ℕ} {now : Spread} (s : Adds leads queue₀ words₀ known bound marks queue words now) where
    adds-skip : (higher : ℕ) → bound ≤ higher → ((f : ℕ) → bound ≤ f → f < higher → leads f ≡ none) →
        Adds leads queue₀ words₀ known higher marks queue words now
    adds-skip higher up none-there =
        record {
          after = s.after;
          row = matched-skip s.row higher up none-there;
          rises = s.rises;
          short = omega (arith, s.short);
          long = s.long;
          kept = s.kept;
          grows = s.grows;
          queue-kept = s.queue-kept;
          fresh = s.fresh;
        }

    -- The link by the next feature of both is added, with the pair that the feature leads to.
    adds-link : (f : ℕ) (x : ℕ × ℕ) (marks' queue' : List ℕ) (next : ℕ) → bound ≤ f →
        ((g : ℕ) → bound ≤ g → g < f → leads g ≡ none) → leads f ≡ some x → x.0 < 255 → x.1 < 255 → now.at < length words →
        Enlisted queue (code_of x) now.count marks' queue' next →
        Adds leads queue₀ words₀ known (suc f) marks' queue' (set words now.at (link_word (f, get_or marks' (code_of x) 0)))
        (record { at = now.at + 1; count = next })
    adds-link f x marks' queue' next up none-there leads-x x-left x-right room listed =
        record {
          after = listed.after;
          row =
              subst (Matched leads queue' next (suc f)) (sym (links-put words known.at now.at (f, t) s.rises room (omega (arith, listed.numbered, listed.after.few))))
              (matched-link (matched-on s.row queue' next listed.least listed.kept) f t x up none-there leads-x
              (record { left = x-left; right = x-right; below = listed.numbered; stands = listed.found }));
          rises = omega (arith, s.rises);
          short = omega (arith, s.short);
          long = length-set words now.at (link_word (f, t)) ∙ s.long;
          kept = λ k low high.
              get_or-set_other words now.at k (link_word (f, t)) 0 (λ (e : k ≡ now.at). omega (arith, s.rises)) ∙ s.kept k low high;
          grows = omega (arith, s.grows, listed.least);
          queue-kept = λ i h. listed.kept i (omega (arith, s.grows)) ∙ s.queue-kept i h;
          fresh = λ i low high. fresh i low high (dec_lt i now.count);
        }
      where
        t : ℕ
        t = get_or marks' (code_of x) 0

        fresh : (i : ℕ) → known.count ≤ i → i < next → Dec (i < now.count) →
            (g : ℕ) × (y : ℕ × ℕ) × (leads g ≡ some y) × Numbered queue' next y i
        fresh i low high (yes l) =
            let (g, y, e, n) = s.fresh i low l in (
              g,
              y,
              e,
              record {
                left = n.left;
                right = n.right;
                below = high;
                stands = listed.kept i l ∙ n.stands;
              },
            )
        fresh i low high (no n) = (
          f,
          x,
          leads-x,
          record { left = x-left; right = x-right; below = high; stands = listed.fresh i (omega arith) high },
        )

-- The rest of a row from a place on.

-- Row u of g is read up to place i, and the features of its rest are from `bound` on.
pub record Read (g : List ℕ) (u i bound : ℕ) : Type 0 where
  pub low : links_from g u ≤ i
  pub high : i ≤ row_end g u
  pub past : (k : ℕ) → links_from g u ≤ k → k < i → feature_at g k < bound
  pub from : i < row_end g u → bound ≤ feature_at g i

module _ {g : List ℕ} (sound : Sound g) {u : ℕ} (node : u < size g) where
  read_none : Read g u (links_from g u) 0
  read_none =
      record {
        low = omega arith;
        high = (sound.shaped.node u node).begun;
        past = λ k low high. absurd (omega arith);
        from = λ h. omega arith;
      }

  module _ {i bound : ℕ} (r : Read g u i bound) where
    -- A feature from the bound on stands at a place that is not read.
    read-place : (f w : ℕ) → bound ≤ f → (graph_in g).link u f ≡ some w → (i < row_end g u) × (feature_at g i ≤ f)
    read-place f w up e =
        let (k, low, high, a, b) = link-place sound u f w node e in
        go k low high a (dec_lt k i) (ℕ_discrete k i)
      where
        go : (k : ℕ) → links_from g u ≤ k → k < row_end g u → feature_at g k ≡ f → Dec (k < i) → Dec (k ≡ i) →
            (i < row_end g u) × (feature_at g i ≤ f)
        go k low high a (yes h) d = absurd (omega (arith, r.past k low h))
        go k low high a (no h) (yes d) = (omega arith, omega (arith, ap (λ (n : ℕ). feature_at g n) d))
        go k low high a (no h) (no d) = (
          omega arith,
          omega (
            arith,
            features-rise g (row_end g u) (sound.shaped.node u node).ended (links_from g u) (λ n. sound.shaped.ascending u n node) (k - suc i) i k
                r.low (omega arith) high,
          ),
        )

    -- A feature from the bound on that is below the next one is missing.
    read_below : (f : ℕ) → bound ≤ f → (i < row_end g u → f < feature_at g i) → (graph_in g).link u f ≡ none
    read_below f up h = go ((graph_in g).link u f) refl
      where
        go : (o : Option ℕ) → (graph_in g).link u f ≡ o → o ≡ none
        go none e = refl
        go (some w) e = let (inside, least) = read-place f w up e in absurd (omega (arith, h inside))

    -- The next place is read.
    read_next : i < row_end g u → Read g u (i + 1) (suc (feature_at g i))
    read_next h =
        record {
          low = omega (arith, r.low);
          high = omega arith;
          past = λ k low high. past k low high (ℕ_discrete k i);
          from = λ n. sound.shaped.ascending u i node r.low n;
        }
      where
        past : (k : ℕ) → links_from g u ≤ k → k < i + 1 → Dec (k ≡ i) → feature_at g k < suc (feature_at g i)
        past k low high (yes d) = omega (arith, ap (λ (n : ℕ). feature_at g n) d)
        past k low high (no d) = omega (arith, r.past k low (omega arith), r.from h)

    -- The bound rises up to the next feature.
    read-on : (higher : ℕ) → bound ≤ higher → (i < row_end g u → higher ≤ feature_at g i) → Read g u i higher
    read-on higher up from =
        record {
          low = r.low;
          high = r.high;
          past = λ k low high. omega (arith, r.past k low high);
          from = from;
        }

-- The merge.

-- What the merge begins with: a pair of nodes, and room for its links.
pub record Begun (a b : List ℕ) (u v : ℕ) (words : List ℕ) (known : Spread) : Type 0 where
  pub left : Recorded a
  pub right : Recorded b
  pub left-node : u < size a
  pub right-node : v < size b
  pub long : length words ≤ 65535
  pub low : known.at + 64 ≤ length words
  pub left_end : row_end a u < 65536
  pub right_end : row_end b v < 65536

module _ (a b : List ℕ) (u v : ℕ) (queue₀ words₀ : List ℕ) (known : Spread) where
  -- The links by features below `bound` are added, and both rows go on at the places i and j.
  pub record Merging (i j : ℕ) (marks queue words : List ℕ) (now : Spread) : Type 0 where
    pub begun : Begun a b u v words₀ known
    pub bound : ℕ
    pub small : bound ≤ 64
    pub left : Read a u i bound
    pub right : Read b v j bound
    pub added : Adds (common a b (u, v)) queue₀ words₀ known bound marks queue words now

both_right : (o : Option ℕ) → both {B = ℕ} o none ≡ none
both_right none = refl
both_right (some x) = refl

pub merge-start : {a b : List ℕ} {u v : ℕ} {marks₀ queue₀ words₀ : List ℕ} {known : Spread} → Begun a b u v words₀ known →
    Marked marks₀ queue₀ known.count →
    Merging a b u v queue₀ words₀ known (links_from a u) (links_from b v) marks₀ queue₀ words₀ known
merge-start begun m =
    record {
      begun = begun;
      bound = 0;
      small = omega arith;
      left = read_none begun.left.sound begun.left-node;
      right = read_none begun.right.sound begun.right-node;
      added = adds_none m;
    }

module _ {a b : List ℕ} {u v : ℕ} {queue₀ words₀ : List ℕ} {known : Spread} {i j : ℕ} {marks queue words : List ℕ} {now : Spread}
    (s : Merging a b u v queue₀ words₀ known i j marks queue words now) where
  abbrev left-sound : Sound a
  left-sound = s.begun.left.sound

  abbrev right-sound : Sound b
  right-sound = s.begun.right.sound

  -- both rows end inside
  pub merge-ended : (row_end a u ≤ length a) × (row_end b v ≤ length b)
  merge-ended =
      ((left-sound.shaped.node u s.begun.left-node).ended, (right-sound.shaped.node v s.begun.right-node).ended)

  left-none : (f : ℕ) → s.bound ≤ f → (i < row_end a u → f < feature_at a i) → common a b (u, v) f ≡ none
  left-none f low h =
      ap (λ (o : Option ℕ). both o ((graph_in b).link v f)) (read_below left-sound s.begun.left-node s.left f low h)

  right-none : (f : ℕ) → s.bound ≤ f → (j < row_end b v → f < feature_at b j) → common a b (u, v) f ≡ none
  right-none f low h =
      ap (both ((graph_in a).link u f)) (read_below right-sound s.begun.right-node s.right f low h) ∙ both_right ((graph_in a).link u f)

  -- If one of the rows is at its end, all links are added.
  pub merge-done : (row_end a u ≤ i) ⊎ (row_end b v ≤ j) → Adds (common a b (u, v)) queue₀ words₀ known 64 marks queue words now
  merge-done over = adds-skip s.added 64 s.small (λ f low high. gone f low over)
    where
      gone : (f : ℕ) → s.bound ≤ f → (row_end a u ≤ i) ⊎ (row_end b v ≤ j) → common a b (u, v) f ≡ none
      gone f low (inl e) = left-none f low (λ h. absurd (omega arith))
      gone f low (inr e) = right-none f low (λ h. absurd (omega arith))

  pub merge-spreads : (row_end a u ≤ i) ⊎ (row_end b v ≤ j) → Spreads (common a b (u, v)) queue₀ words₀ known marks queue words (Some now)
  merge-spreads over = merge-done over

  module _ (left_in : i < row_end a u) (right-in : j < row_end b v) where
    left-known : feature_at a i < 64
    left-known = left-sound.shaped.known u i s.begun.left-node s.left.low left_in

    right-known : feature_at b j < 64
    right-known = right-sound.shaped.known v j s.begun.right-node s.right.low right-in

    -- The first row's feature is the lower one.
    pub merge-left : feature_at a i < feature_at b j → Merging a b u v queue₀ words₀ known (i + 1) j marks queue words now
    merge-left less =
        record {
          begun = s.begun;
          bound = suc (feature_at a i);
          small = omega (arith, left-known);
          left = read_next left-sound s.begun.left-node s.left left_in;
          right = read-on right-sound s.begun.right-node s.right (suc (feature_at a i)) (omega (arith, s.left.from left_in)) (λ h. less);
          added = adds-skip s.added (suc (feature_at a i)) (omega (arith, s.left.from left_in))
              (λ f low high. right-none f low (λ h. omega arith));
        }

    -- The second row's feature is the lower one.
    pub merge-right : feature_at b j < feature_at a i → Merging a b u v queue₀ words₀ known i (j + 1) marks queue words now
    merge-right less =
        record {
          begun = s.begun;
          bound = suc (feature_at b j);
          small = omega (arith, right-known);
          left = read-on left-sound s.begun.left-node s.left (suc (feature_at b j)) (omega (arith, s.right.from right-in)) (λ h. less);
          right = read_next right-sound s.begun.right-node s.right right-in;
          added = adds-skip s.added (suc (feature_at b j)) (omega (arith, s.right.from right-in))
              (λ f low high. left-none f low (λ h. omega arith));
        }

    -- there is room for one more link
    pub merge-room : now.at < length words₀
    merge-room = let k = s.left.from left_in in omega (arith, s.added.short, left-known, s.begun.low)

    -- the targets are nodes, and there is a mark for their pair
    pub merge-nodes : (target_at a i < 255) × (target_at b j < 255)
    merge-nodes = (
      omega (arith, left-sound.targets u i s.begun.left-node s.left.low left_in, s.begun.left.small),
      omega (arith, right-sound.targets v j s.begun.right-node s.right.low right-in, s.begun.right.small),
    )

    -- A feature of both leads to the pair of the targets.
    leads-both : feature_at a i ≡ feature_at b j → common a b (u, v) (feature_at a i) ≡ some (target_at a i, target_at b j)
    leads-both same =
        ap₂ both (link-at left-sound u i s.begun.left-node s.left.low left_in)
        (ap ((graph_in b).link v) same ∙ link-at right-sound v j s.begun.right-node s.right.low right-in)

    -- No number is left for the pair of the targets.
    pub merge-full : feature_at a i ≡ feature_at b j → now.count ≡ 255 → get_or marks (target_at a i * 255 + target_at b j) 0 ≡ clear →
        Full (common a b (u, v)) queue₀ words₀ known
    merge-full same given free =
        record {
          bound = s.bound;
          marks' = marks;
          queue' = queue;
          words' = words;
          next = now;
          part = s.added;
          given = given;
          feature = feature_at a i;
          pair = (target_at a i, target_at b j);
          led = leads-both same;
          left = merge-nodes.0;
          right = merge-nodes.1;
          free = free;
        }

    -- The pair of the targets has a number.
    pub merge-both : feature_at a i ≡ feature_at b j → (marks' queue' : List ℕ) (next : ℕ) →
        Enlisted queue (target_at a i * 255 + target_at b j) now.count marks' queue' next →
        (w : ℕ) → w ≡ link_word (feature_at a i, get_or marks' (target_at a i * 255 + target_at b j) 0) →
        Merging a b u v queue₀ words₀ known (i + 1) (j + 1) marks' queue' (set words now.at w)
        (record { at = now.at + 1; count = next })
    merge-both same marks' queue' next listed w word =
        subst
        (λ (n : ℕ). Merging a b u v queue₀ words₀ known (i + 1) (j + 1) marks' queue' (set words now.at n)
        (record { at = now.at + 1; count = next }))
        (sym word)
        record {
          begun = s.begun;
          bound = suc (feature_at a i);
          small = omega (arith, left-known);
          left = read_next left-sound s.begun.left-node s.left left_in;
          right =
              subst (λ (f : ℕ). Read b v (j + 1) (suc f)) (sym same) (read_next right-sound s.begun.right-node s.right right-in);
          added = adds-link s.added (feature_at a i) (target_at a i, target_at b j) marks' queue' next (s.left.from left_in)
              (λ f low high. left-none f low (λ h. high)) (leads-both same) merge-nodes.0 merge-nodes.1
              (omega (arith, merge-room, s.added.long)) listed;
        }
