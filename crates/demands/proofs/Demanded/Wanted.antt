-- The wanted labels of the nodes of s, for rows that keep the rules of accepted records, with s below g: the labels that are computed over the
-- lists of nodes are the wanted labels over the graphs' paths.
use mathlib.Core.Path.{◌≡◌, refl, sym, ◌∙◌, ap, ap₂, subst}
use mathlib.Core.Bool.{Bool, true, false, cond, ◌&&◌}
use mathlib.Core.List.{List, [], ◌∷◌, Memᴰ}
use mathlib.Core.Logic.{◌↔◌}
use mathlib.Core.Option.{Option, none, some, map}
use Prim.Native.Nat.{ℕ, zero, suc, ◌-◌, ◌≤◌, ◌<◌, min, max}
use native.Mathlib.Decide.{dec_lt, ℕ_discrete}
use native.Mathlib.Omega.{arith}
use borrow.Author.Tests.{ne_eqb}
use lib.Dec.{eqb}
use lib.ListN.{length, get_or-eq_default}
use Rattle.graphs.specs.Graph.{Graph, walk, Reached, Below, SameMeaning}
use Rattle.graphs.specs.Label.{Labels}
use Rattle.graphs.specs.Rows.{Row, from}
use Rattle.graphs.specs.Difference.{meet_over, meet_where}
use Rattle.graphs.proofs.Walk.{some-unique}
use Rattle.graphs.proofs.Lists.{tells-eqb, from-range}
use Rattle.graphs.proofs.Search.{true-false, not-true-false}
use Rattle.graphs.proofs.Below.{walk-map, same-sym}
use Rattle.graphs.proofs.Unification.Beside.{Operands}
use Rattle.graphs.proofs.Difference.Wanted.{meet_over-under, label-under}
use Rattle.lattice.specs.Label.{Label, plain, no_label}
use Rattle.lattice.specs.Table as table
use Rattle.lattice.specs.Labels.{table_labels, Known, wanted_label, wanted_range, OfAnySize, BelowOver, MeetOver, WantedAt}
use Rattle.lattice.proofs.Every.{every-at, every-fails, found_some}
use Rattle.lattice.proofs.Laws.{zero-type, below-antisymmetric, wanted-sound, wanted-unique}
use Rattle.lattice.proofs.WantedLabels.{wanted-at, wanted-label-by-top}
use Rattle.lattice.proofs.Lawful.{Inside, inside, inside-le, KnownLabel, known-label, plain_known, lawful, lawful-lattice}
use Rattle.lattice.proofs.Transfer.{lift, map-lift, meet_over-label}
use Rattle.record.specs.Read.{graph_of_rows}
use Rattle.record.proofs.Accepted.{Rules, rules-of-any-size, rules-nodes}
use Rattle.difference.specs.Promise.{wanted_along, all_wanted_along}
use Rattle.difference.specs.Difference.{over, wanted_at, all_wanted}
use Rattle.engine.proofs.Tables.{label-known}
use Rattle.difference.proofs.Over.{over-map}
use Rattle.demands.specs.Wanted.{TypeBelowOver, TypeOver, WantedType, SomeUnwanted, WantedRange}

-- Where the test picks no label, the meet is top.
meet_where-none : (𝓛 : Labels) {B : Type 0} (test : B → Bool) (label : B → 𝓛.L) (ys : List B) → ((y : B) → Memᴰ y ys → test y ≡ false) →
    meet_where 𝓛 test label ys ≡ 𝓛.top
unfolding meet_where
meet_where-none 𝓛 test label [] h = refl
meet_where-none 𝓛 test label (y ∷ ys) h =
    ap (λ (b : Bool). cond b (𝓛.meet (label y) (meet_where 𝓛 test label ys)) (meet_where 𝓛 test label ys)) (h y (Memᴰ.head refl)) ∙
    meet_where-none 𝓛 test label ys (λ z m. h z (Memᴰ.tail m))

-- A test that does not hold for every number below n fails at some number.
every-missed : (p : ℕ → Bool) (n : ℕ) → table.every n p ≡ false → (k : ℕ) × (k < n) × (p k ≡ false)
unfolding table.every
every-missed p zero e = true-false refl e
every-missed p (suc n) e = go (p n) refl (every-missed p n)
  where
    first : (b c : Bool) → c ≡ true → (b && c) ≡ false → b ≡ false
    first true c q h = true-false q h
    first false c q h = refl

    go : (b : Bool) → p n ≡ b → (table.every n p ≡ false → (k : ℕ) × (k < n) × (p k ≡ false)) →
        (k : ℕ) × (k < suc n) × (p k ≡ false)
    go false q before = (n, omega arith, q)
    go true q before = let (k, l, r) = before (first (table.every n p) (p n) q e) in (k, omega arith, r)

-- Graphs of one meaning have the same wanted labels and types, whatever lies over them.
module _ (n : ℕ) (t : List ℕ) {A C B : Type 0} {s : Graph Label A} {r : Graph Label C} (g : Graph Label B) (same : SameMeaning (table_labels n t) s r) where
  -- If a path p leads to v in s and to w in r, then every path that leads to w in r leads to v in s.
  same-path : {v : A} {w : C} (p q : List ℕ) → walk s p ≡ some v → walk r p ≡ some w → walk r q ≡ some w → walk s q ≡ some v
  same-path {v} {w} p q d e f =
      let (x, i, j) = (same.corefers p q).1 (w, e, f) in
      subst (λ y. walk s q ≡ some y) (some-unique i d) j

  same_over : {v : A} {w : C} (p : List ℕ) → walk s p ≡ some v → walk r p ≡ some w → (a : ℕ) → TypeBelowOver n t s g v a → TypeBelowOver n t r g w a
  same_over p d e a under q y f i = under q y (same-path p q d e f) i

  same-over-label : {v : A} {w : C} (p : List ℕ) → walk s p ≡ some v → walk r p ≡ some w → (a : Label) → BelowOver n t s g v a → BelowOver n t r g w a
  same-over-label p d e a under q y f i = under q y (same-path p q d e f) i

pub same-wanted : (n : ℕ) (t : List ℕ) {A C B : Type 0} (s : Graph Label A) (r : Graph Label C) (g : Graph Label B) → SameMeaning (table_labels n t) s r →
    (p : List ℕ) (v : A) (w : C) → walk s p ≡ some v → walk r p ≡ some w → (c : Label) → WantedAt n t r g w c → WantedAt n t s g v c
same-wanted n t s r g same p v w d e c is =
    let (x, i, labels) = same.there p v d in
    let label : s.label v ≡ r.label w = labels ∙ ap r.label (some-unique i e) in
    record {
      over = is.over;
      is-over =
          record {
            known = is.is-over.known;
            under = same-over-label n t g (same-sym same) p e d is.over is.is-over.under;
            greatest = λ b l under. is.is-over.greatest b l (same-over-label n t g same p d e b under);
          };
      known = is.known;
      restores = is.restores ∙ sym label;
      greatest = λ b l f. is.greatest b l (f ∙ label);
    }

same-type : (n : ℕ) (t : List ℕ) {A C B : Type 0} (s : Graph Label A) (r : Graph Label C) (g : Graph Label B) → SameMeaning (table_labels n t) s r →
    (p : List ℕ) (v : A) (w : C) → walk s p ≡ some v → walk r p ≡ some w → (c : ℕ) → WantedType n t r g w c → WantedType n t s g v c
same-type n t s r g same p v w d e c is =
    let (x, i, labels) = same.there p v d in
    let type : (s.label v).type ≡ (r.label w).type = ap (λ (l : Label). l.type) (labels ∙ ap r.label (some-unique i e)) in
    record {
      over = is.over;
      is-over =
          record {
            known = is.is-over.known;
            under = same_over n t g (same-sym same) p e d is.over is.is-over.under;
            greatest = λ b l under. is.is-over.greatest b l (same_over n t g same p d e b under);
          };
      known = is.known;
      restores = is.restores ∙ ap some (sym type);
      greatest = λ b l f. is.greatest b l (f ∙ ap some type);
    }

pub same-unwanted : (n : ℕ) (t : List ℕ) {A C B : Type 0} (s : Graph Label A) (r : Graph Label C) (g : Graph Label B) → SameMeaning (table_labels n t) s r →
    SomeUnwanted n t s g → SomeUnwanted n t r g
same-unwanted n t s r g same (v, (p, d), nothing) =
    let (w, e, _) = same.there p v d in
    (w, (p, e), λ c is. nothing c (same-type n t s r g same p v w d e c is))

module _ (n : ℕ) (t : List ℕ) (ok : table.accepted n t ≡ true) (g s : List (Row Label)) (general : Rules n g) (specific : Rules n s)
    (below : Below (table_labels n t) (graph_of_rows s) (graph_of_rows g)) where
  pub general-size : OfAnySize n t (graph_of_rows g)
  general-size = rules-of-any-size n g general t

  pub specific-size : OfAnySize n t (graph_of_rows s)
  specific-size = rules-of-any-size n s specific t

  pub operands : Operands eqb eqb (lift n t ok (graph_of_rows s)) (from 0 (length s)) (lift n t ok (graph_of_rows g)) (from 0 (length g))
  unfolding specific-size general-size
  operands =
      record {
        tells-left = tells-eqb;
        tells-right = tells-eqb;
        lists-left = record {
          listed = subst (λ (nodes : List ℕ). (v : ℕ) → Reached (graph_of_rows s) v ↔ Memᴰ v nodes) (rules-nodes n s specific t)
              specific-size.any-size.listed;
          features = specific-size.any-size.features;
        };
        lists-right = record {
          listed = subst (λ (nodes : List ℕ). (v : ℕ) → Reached (graph_of_rows g) v ↔ Memᴰ v nodes) (rules-nodes n g general t)
              general-size.any-size.listed;
          features = general-size.any-size.features;
        };
      }

  node-inside : (v : ℕ) → Reached (graph_of_rows s) v → v < length s
  node-inside v r = omega (arith, from-range 0 (length s) v ((operands.lists-left.listed v).0 r))

  -- the meet of the labels of g over v, as it is computed, and the same among the labels of the lattice
  abbrev meet_at : ℕ → Label
  meet_at v = meet_over (table_labels n t) eqb (graph_of_rows g) (from 0 (length g)) (over s g) v

  abbrev pub label_over : ℕ → KnownLabel n
  label_over v = meet_over (lawful n t ok) eqb (lift n t ok (graph_of_rows g)) (from 0 (length g)) (over s g) v

  pub meet-label : (v : ℕ) → meet_at v ≡ (label_over v).0
  meet-label v =
      meet_over-label n t ok eqb (graph_of_rows g) (from 0 (length g)) (over s g) (λ w _. label-known (zero-type n t ok) general w) v

  pub meet-known : (v : ℕ) → Known n (meet_at v)
  meet-known v = subst (Known n) (sym (meet-label v)) (label_over v).1

  -- a label of g, and of s
  g-label : (y : ℕ) → ((lift n t ok (graph_of_rows g)).label y).0 ≡ (graph_of_rows g).label y
  g-label y = known-label n t ok ((graph_of_rows g).label y) (label-known (zero-type n t ok) general y)

  pub s-label : (v : ℕ) → ((lift n t ok (graph_of_rows s)).label v).0 ≡ (graph_of_rows s).label v
  s-label v = known-label n t ok ((graph_of_rows s).label v) (label-known (zero-type n t ok) specific v)

  -- `meet_at v` is the meet of all labels of g over v.
  meet-over : (v : ℕ) → MeetOver n t (graph_of_rows s) (graph_of_rows g) v (meet_at v)
  meet-over v =
      record {
        known = meet-known v;
        under = λ p y d e.
            ap₂ (table_labels n t).le (meet-label v) (sym (g-label y)) ∙
            (meet_over-under (lawful-lattice n t ok) operands (over s g) v (label_over v)).0
            ((lawful-lattice n t ok).le_refl (label_over v)) y (p, e)
            (some-unique (walk-map (over-map n t g s general below) p y e) d);
        greatest = λ b l under.
            ap ((table_labels n t).le b) (meet-label v) ∙
            (meet_over-under (lawful-lattice n t ok) operands (over s g) v (b, l)).1
            (λ y (p, e) o.
            ap ((table_labels n t).le b) (g-label y) ∙
            under p y (walk-map (over-map n t g s general below) p y e ∙ ap some o) e);
      }

  -- The label of a node in s is below the meet of the labels of g over it.
  pub label-below : (v : ℕ) → (table_labels n t).le ((graph_of_rows s).label v) (meet_at v) ≡ true
  label-below v =
      ap₂ (table_labels n t).le (sym (s-label v)) (meet-label v) ∙
      label-under (lawful-lattice n t ok) operands (over s g)
      ((map-lift n t ok (graph_of_rows s) (graph_of_rows g) specific-size.typed general-size.typed (over s g)).0
      (over-map n t g s general below)) v

  -- The wanted label that is computed is the wanted label of the node.
  pub wanted-exact : (v : ℕ) (c : Label) → (wanted_at n t s g v ≡ some c) ↔ WantedAt n t (graph_of_rows s) (graph_of_rows g) v c
  unfolding wanted_along
  wanted-exact v c =
      wanted-at n t ok (graph_of_rows s) (graph_of_rows g) v (meet_at v) (meet-over v) (label-known (zero-type n t ok) specific v) (label-below v) c

  -- The same facts for types alone.

  type-over : (v : ℕ) → TypeOver n t (graph_of_rows s) (graph_of_rows g) v (meet_at v).type
  type-over v =
      let is : MeetOver n t (graph_of_rows s) (graph_of_rows g) v (meet_at v) = meet-over v in
      record {
        known = is.known.type;
        under = λ p y d e. (inside n t (meet_at v) ((graph_of_rows g).label y) (is.under p y d e)).type;
        greatest = λ b l under.
            let a : Label = record { type = b; lowest = (meet_at v).lowest; highest = (meet_at v).highest } in
            (inside n t a (meet_at v)
            (is.greatest a (record { type = l; lowest = is.known.lowest; highest = is.known.highest })
            (λ p y d e.
            let i = inside n t (meet_at v) ((graph_of_rows g).label y) (is.under p y d e) in
            inside-le n t a ((graph_of_rows g).label y) (record { type = under p y d e; lowest = i.lowest; highest = i.highest })))).type;
      }

  type-over-unique : (v q : ℕ) → TypeOver n t (graph_of_rows s) (graph_of_rows g) v q → q ≡ (meet_at v).type
  type-over-unique v q a =
      let b = type-over v in
      below-antisymmetric n t ok q (meet_at v).type a.known b.known (b.greatest q a.known a.under) (a.greatest (meet_at v).type b.known b.under)

  -- the wanted type, as it is computed
  abbrev type_wanted : ℕ → Option ℕ
  type_wanted v = table.wanted n t ((graph_of_rows s).label v).type (meet_at v).type

  pub type-exact : (v c : ℕ) → (type_wanted v ≡ some c) ↔ WantedType n t (graph_of_rows s) (graph_of_rows g) v c
  type-exact v c = (
    λ e.
        let w = wanted-sound n t ok ((graph_of_rows s).label v).type (meet_at v).type c (type-over v).known e in
        record { over = (meet_at v).type; is-over = type-over v; known = w.type; restores = w.exact; greatest = w.greatest },
    λ w.
        let same = type-over-unique v w.over w.is-over in
        wanted-unique n t ok ((graph_of_rows s).label v).type (meet_at v).type c (type-over v).known w.known
        (subst (λ (q : ℕ). table.meet n t c q ≡ some ((graph_of_rows s).label v).type) same w.restores)
        (λ d l e. w.greatest d l (subst (λ (q : ℕ). table.meet n t d q ≡ some ((graph_of_rows s).label v).type) (sym same) e)),
  )

  -- A node has a wanted label exactly where it has a wanted type.
  label-found : (v : ℕ) → table.found (wanted_at n t s g v) ≡ table.found (type_wanted v)
  unfolding wanted_along wanted_label
  label-found v = go (type_wanted v)
    where
      go : (o : Option ℕ) → table.found (map (wanted_range ((graph_of_rows s).label v) (meet_at v)) o) ≡ table.found o
      go none = refl
      go (some c) = refl

  -- Some node has no wanted type exactly where the test of all nodes fails.
  pub unwanted-types : (all_wanted n t s g ≡ false) ↔ SomeUnwanted n t (graph_of_rows s) (graph_of_rows g)
  unfolding all_wanted_along
  unwanted-types = (
    λ e.
        let (v, l, missed) = every-missed (λ v. table.found (wanted_at n t s g v)) (length s) e in
        (v, specific.reached v l, λ c is. true-false (label-found v ∙ ap table.found ((type-exact v c).1 is)) missed),
    λ (v, r, nothing).
        every-fails (λ v. table.found (wanted_at n t s g v)) (length s) v (node-inside v r)
        (not-true-false (table.found (wanted_at n t s g v))
        (λ q. let (c, e) = found_some (type_wanted v) (sym (label-found v) ∙ q) in nothing c ((type-exact v c).0 e))),
  )

  -- the lowest and the highest level of the meet over a node
  lowest-least : (v l : ℕ) → ((p : List ℕ) (y : ℕ) → walk (graph_of_rows s) p ≡ some v → walk (graph_of_rows g) p ≡ some y → ((graph_of_rows g).label y).lowest ≤ l) →
      (meet_at v).lowest ≤ l
  lowest-least v l within = go (dec_lt 255 l)
    where
      go : Dec (255 < l) → (meet_at v).lowest ≤ l
      go (yes large) = omega (arith, (meet-known v).lowest)
      go (no small) =
          let a : Label = record { type = (meet_at v).type; lowest = l; highest = (meet_at v).highest } in
          (inside n t a (meet_at v)
          ((meet-over v).greatest a (record { type = (meet-known v).type; lowest = omega arith; highest = (meet-known v).highest })
          (λ p y d e.
          let i = inside n t (meet_at v) ((graph_of_rows g).label y) ((meet-over v).under p y d e) in
          inside-le n t a ((graph_of_rows g).label y) (record { type = i.type; lowest = within p y d e; highest = i.highest })))).lowest

  highest-most : (v h : ℕ) → h ≤ 255 →
      ((p : List ℕ) (y : ℕ) → walk (graph_of_rows s) p ≡ some v → walk (graph_of_rows g) p ≡ some y → h ≤ ((graph_of_rows g).label y).highest) → h ≤ (meet_at v).highest
  highest-most v h small within =
      let a : Label = record { type = (meet_at v).type; lowest = (meet_at v).lowest; highest = h } in
      (inside n t a (meet_at v)
      ((meet-over v).greatest a (record { type = (meet-known v).type; lowest = (meet-known v).lowest; highest = small })
      (λ p y d e.
      let i = inside n t (meet_at v) ((graph_of_rows g).label y) ((meet-over v).under p y d e) in
      inside-le n t a ((graph_of_rows g).label y) (record { type = i.type; lowest = i.lowest; highest = within p y d e })))).highest

  -- Every node has a wanted range.
  pub range-wanted : (v : ℕ) → Reached (graph_of_rows s) v → (lowest highest : ℕ) × WantedRange (graph_of_rows s) (graph_of_rows g) v lowest highest
  range-wanted v r =
      let is : MeetOver n t (graph_of_rows s) (graph_of_rows g) v (meet_at v) = meet-over v in
      let p : Label = (graph_of_rows s).label v in
      let i : Inside t p (meet_at v) = inside n t p (meet_at v) (label-below v) in
      let (lowest, low-over, low-widest) = low-wanted p.lowest (meet_at v).lowest i.lowest in
      let (highest, high-over, high-widest) = high-wanted p.highest (meet_at v).highest i.highest in (
        lowest,
        highest,
        record {
          low = (meet_at v).lowest;
          high = (meet_at v).highest;
          inside = λ p y d e.
              let i = inside n t (meet_at v) ((graph_of_rows g).label y) (is.under p y d e) in
              (i.lowest, i.highest);
          widest-inside = λ l h small within. (lowest-least v l (λ p y d e. (within p y d e).0), highest-most v h small (λ p y d e. (within p y d e).1));
          overlap = (low-over, high-over);
          widest = λ l h small (e, f). (low-widest l e, high-widest h small f);
        },
      )
    where
      low-wanted : (p q : ℕ) → q ≤ p → (a : ℕ) × (max a q ≡ p) × ((l : ℕ) → max l q ≡ p → a ≤ l)
      low-wanted p q le = go (ℕ_discrete p q)
        where
          go : Dec (p ≡ q) → (a : ℕ) × (max a q ≡ p) × ((l : ℕ) → max l q ≡ p → a ≤ l)
          go (yes e) = (0, omega arith, λ l f. omega arith)
          go (no e) = (p, omega arith, λ l f. omega arith)

      high-wanted : (p q : ℕ) → p ≤ q → (a : ℕ) × (min a q ≡ p) × ((h : ℕ) → h ≤ 255 → min h q ≡ p → h ≤ a)
      high-wanted p q le = go (ℕ_discrete p q)
        where
          go : Dec (p ≡ q) → (a : ℕ) × (min a q ≡ p) × ((h : ℕ) → h ≤ 255 → min h q ≡ p → h ≤ a)
          go (yes e) = (max q 255, omega arith, λ h small f. omega arith)
          go (no e) = (p, omega arith, λ h small f. omega arith)

  -- Past the nodes of s there is no label and nothing of g lies over, so the wanted label there is `no_label`.
  wanted-past : (v : ℕ) → length s ≤ v → wanted_at n t s g v ≡ some no_label
  unfolding wanted_along meet_over
  wanted-past v past =
      let label : (graph_of_rows s).label v ≡ no_label = ap (λ (r : Row Label). r.0) (get_or-eq_default s (no_label, []) past) in
      let top : meet_at v ≡ plain (n - 1) =
      meet_where-none (table_labels n t) (λ y. eqb (over s g y) v) (graph_of_rows g).label (from 0 (length g)) (λ y m. ne_eqb (over s g y) v (λ e.
      let (p, d) = (operands.lists-right.listed y).1 m in
      let inside : over s g y < length s = node-inside (over s g y) (p, walk-map (over-map n t g s general below) p y d) in
      omega arith)) in
      ap₂ (wanted_label n t) label top ∙ wanted-label-by-top n t ok no_label (plain_known n 0 (zero-type n t ok))

  -- Where the test of all nodes passes, every number has a wanted label.
  pub wanted-found : all_wanted n t s g ≡ true → (v : ℕ) → (c : Label) × (wanted_at n t s g v ≡ some c)
  unfolding all_wanted_along
  wanted-found all v = go (dec_lt v (length s))
    where
      go : Dec (v < length s) → (c : Label) × (wanted_at n t s g v ≡ some c)
      go (yes h) = found_some (wanted_at n t s g v) (every-at (λ v. table.found (wanted_at n t s g v)) (length s) v all h)
      go (no h) = (no_label, wanted-past v (omega arith))
