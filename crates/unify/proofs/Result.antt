-- The graph of the classes in words is alike with the graph that the definition of the combination gives. So it has the same cycles, labels and
-- written form, and the answer is the one that the definition gives.
use mathlib.Core.Path.{◌≡◌, refl, sym, ◌∙◌, ap, ap₂}
use mathlib.Core.Bool.{Bool, true, false, cond, ◌||◌}
use mathlib.Core.List.{List, [], ◌∷◌, ◌++◌, map, foldr, Memᴰ}
use mathlib.Core.Logic.{◌⊎◌, inl, inr}
use mathlib.Core.Option.{Option, none, some}
use Prim.Native.Nat.{ℕ, zero, suc, ◌+◌, ◌-◌, ◌≤◌, ◌<◌}
use native.Mathlib.Omega.{arith}
use borrow.Author.Tests.{eq-eqb, eqb-true}
use lib.Dec.{eqb}
use lib.ListN.{length, get_or}
use Rattle.std.specs.Prelude.{Err}
use Rattle.graphs.specs.Graph.{Graph, TellsApart, follow, walk}
use Rattle.graphs.specs.Rows.{from, features}
use Rattle.graphs.specs.Number.{Canonical, canonical}
use Rattle.graphs.specs.Unify.{
  any_of,
  holds,
  deep,
  label_beside,
  nodes_beside,
  class_label,
  class_name,
  class_graph,
  has_cycle,
  has_clash,
  Unified,
  cycle,
  clash,
  unified,
  unification_by,
}
use Rattle.graphs.specs.OfRows.{same_either}
use Rattle.graphs.proofs.Walk.{none-some, some-injective, snoc-induction, follow-start, follow-last, walk-snoc}
use Rattle.graphs.proofs.Lists.{from_member, from-range, tells-eqb, length_from}
use Rattle.graphs.proofs.Search.{not-true-false, any_of-true, any_of-finds, same_test}
use Rattle.graphs.proofs.Form.Bisimilar.{Alike, absent, present, Bisimilar}
use Rattle.graphs.proofs.Form.Invariant.{bisimilar-canonical}
use Rattle.graphs.proofs.Unification.Beside.{
  link_beside,
  Leads,
  Operands,
  leads-nil,
  leads-last,
  tells-beside,
  reached-listed,
  listed-reached,
}
use Rattle.graphs.proofs.Unification.ClassGraph.{class_link-source, class_link-of, name-classes, name-related}
use Rattle.graphs.proofs.Unification.Deep.{deep-walk, walk-deep, loop-walk}
use Rattle.lattice.specs.Label.{Label, plain}
use Rattle.lattice.specs.Labels.{meet_ranged}
use Rattle.layout.specs.Layout.{size, feature_at, label_at, graph_in}
use Rattle.layout.proofs.Rows.{length-rows}
use Rattle.layout.proofs.Places.{label-at, link-at, link-place, link-known}
use Rattle.visits.specs.Walks.{Reaches, one, more, TargetsFirst}
use Rattle.encode.specs.Encode.{yielding, written_out, Writing}
use Rattle.unify.specs.declared.NoCombination.TheVariants as uncombined
use Rattle.merging.specs.Lowered.{label_of_class, lower_by}
use Rattle.merging.specs.Clash.{contradicts}
use Rattle.unify.specs.Outcome.{combining, combined_of, unified_out, unifying_out}
use Rattle.merging.specs.Rows.{Operand, Merges}
use Rattle.unify.proofs.Sides.{operands, number, Inside, inside-reached, reached-in, number_in, node_of, link-in}
use Rattle.unify.proofs.Sharing.{class_of, one-related, related-one, class-sound, class-link, class-source, leads-own}

-- Lists.

fold_same : {X : Type 0} (s t : X → Label → Label) (d : Label) (vs : List X) → ((v : X) (i : Label) → Memᴰ v vs → s v i ≡ t v i) →
    foldr s d vs ≡ foldr t d vs
fold_same s t d [] e = refl
fold_same s t d (v ∷ vs) e =
    ap (s v) (fold_same s t d vs (λ w i m. e w i (Memᴰ.tail m))) ∙ e v (foldr t d vs) (Memᴰ.head refl)

-- a fold over the nodes of both graphs
fold-right : (s : ℕ ⊎ ℕ → Label → Label) (d : Label) (vs : List ℕ) → foldr s d (map inr vs) ≡ foldr (λ v. s (inr v)) d vs
fold-right s d [] = refl
fold-right s d (v ∷ vs) = ap (s (inr v)) (fold-right s d vs)

fold-left : (s : ℕ ⊎ ℕ → Label → Label) (d : Label) (vs ws : List ℕ) →
    foldr s d (map inl vs ++ map inr ws) ≡ foldr (λ v. s (inl v)) (foldr (λ v. s (inr v)) d ws) vs
fold-left s d [] ws = fold-right s d ws
fold-left s d (v ∷ vs) ws = ap (s (inl v)) (fold-left s d vs ws)

any_same : {X : Type 0} (s t : X → Bool) (xs : List X) → ((x : X) → s x ≡ t x) → any_of xs s ≡ any_of xs t
unfolding any_of
any_same s t [] e = refl
any_same s t (x ∷ xs) e = ap₂ ◌||◌ (e x) (any_same s t xs e)

-- Graphs that are alike have walks of the same lengths.
module _ {L A B : Type 0} (R : A → B → Type 0) (g : Graph L A) (h : Graph L B)
    (links : (v : A) (w : B) (f : ℕ) → R v w → Alike R (g.link v f) (h.link w f)) where
  holds-alike : (s : A → Bool) (t : B → Bool) → ((v : A) (w : B) → R v w → s v ≡ t w) → (o : Option A) (p : Option B) → Alike R o p →
      holds s o ≡ holds t p
  holds-alike s t e none (some w) x'' = elim x'' [ ]
  holds-alike s t e (some v) none x3 = elim x3 [ ]
  holds-alike s t e none none absent = refl
  holds-alike s t e (some v) (some w) (present r) = e v w r

  deep-alike : (k : ℕ) (v : A) (w : B) → R v w → deep g.link k v ≡ deep h.link k w
  unfolding deep
  deep-alike zero v w r = refl
  deep-alike (suc k) v w r =
      any_same (λ f. holds (deep g.link k) (g.link v f)) (λ f. holds (deep h.link k) (h.link w f)) features
      (λ f.
      holds-alike (deep g.link k) (deep h.link k) (deep-alike k) (g.link v f) (h.link w f) (links v w f r))

module _ (n : ℕ) (meets : ℕ → ℕ → ℕ) {a b graph : List ℕ} (left : Operand n a) (right : Operand n b) (m : Merges n meets a b graph) where
  abbrev class : List ℕ
  class = m.class

  abbrev rows : Graph Label ℕ
  rows = graph_in graph

  given : Operands eqb eqb (graph_in a) (from 0 (size a)) (graph_in b) (from 0 (size b))
  given = operands left right

  abbrev name : ℕ ⊎ ℕ → ℕ ⊎ ℕ
  name = class_name eqb eqb (graph_in a) (from 0 (size a)) (graph_in b) (from 0 (size b))

  abbrev u : Graph Label (ℕ ⊎ ℕ)
  u = class_graph (meet_ranged meets) (plain (n - 1)) eqb eqb (graph_in a) (from 0 (size a)) (graph_in b) (from 0 (size b))

  abbrev clashes : Bool
  clashes = has_clash (meet_ranged meets) (plain (n - 1)) contradicts eqb eqb (graph_in a) (from 0 (size a)) (graph_in b) (from 0 (size b))

  -- The combination, with the nodes as numbers.
  abbrev joint : ℕ → ℕ → Unified Label (ℕ ⊎ ℕ)
  joint k l = unification_by (meet_ranged meets) (plain (n - 1)) contradicts eqb eqb (graph_in a) (from 0 k) (graph_in b) (from 0 l)

  abbrev cls : ℕ ⊎ ℕ → ℕ
  cls = class_of left right m

  tells : TellsApart same_either
  tells = tells-beside given

  listed : (x : ℕ ⊎ ℕ) → Inside left right x → Memᴰ x (nodes_beside (from 0 (size a)) (from 0 (size b)))
  listed x i = reached-listed given x (inside-reached left right x i)

  unlisted : (x : ℕ ⊎ ℕ) → Memᴰ x (nodes_beside (from 0 (size a)) (from 0 (size b))) → Inside left right x
  unlisted x i = reached-in left right x (listed-reached given x i)

  -- Two nodes have one name exactly where they have one class.
  name-class : (x y : ℕ ⊎ ℕ) → Inside left right x → Inside left right y → name x ≡ name y → cls x ≡ cls y
  name-class x y p q e =
      related-one left right m ((name-related given x y (inside-reached left right x p) (inside-reached left right y q)).0 e)

  class-name : (x y : ℕ ⊎ ℕ) → Inside left right x → Inside left right y → cls x ≡ cls y → name x ≡ name y
  class-name x y p q e =
      (name-related given x y (inside-reached left right x p) (inside-reached left right y q)).1 (one-related left right m x y p q e)

  named-link : (x y : ℕ ⊎ ℕ) (f : ℕ) → Inside left right x → link_beside (graph_in a) (graph_in b) x f ≡ some y →
      u.link (name x) f ≡ some (name y)
  unfolding class_graph
  named-link x y f i e =
      class_link-of tells (link_beside (graph_in a) (graph_in b)) (nodes_beside (from 0 (size a)) (from 0 (size b))) name
      (name-classes given) x y f (listed x i) e

  named-source : (c d : ℕ ⊎ ℕ) (f : ℕ) → u.link c f ≡ some d →
      (x : ℕ ⊎ ℕ) × (y : ℕ ⊎ ℕ) × Inside left right x × (name x ≡ c) × (link_beside (graph_in a) (graph_in b) x f ≡ some y) × (name y ≡ d)
  unfolding class_graph
  named-source c d f e =
      let (x, y, i, p, l, q) = class_link-source tells (link_beside (graph_in a) (graph_in b))
      (nodes_beside (from 0 (size a)) (from 0 (size b))) name c d f e in
      (x, y, unlisted x i, p, l, q)

  -- Some node has the name c and the class i.
  abbrev Both : ℕ ⊎ ℕ → ℕ → Type 0
  Both c i = (x : ℕ ⊎ ℕ) × Inside left right x × (name x ≡ c) × (cls x ≡ i)

  root_in : Inside left right (inl 0)
  root_in = left.recorded.sound.shaped.nonempty

  class-zero : get_or class 0 0 ≡ 0
  class-zero = omega (arith, m.closed.lowest 0 m.closed.rows.some)

  both-root : Both u.root 0
  unfolding class_graph
  both-root = (inl 0, root_in, refl, class-zero)

  both-in : (c : ℕ ⊎ ℕ) (i : ℕ) → Both c i → i < size a + size b
  both-in c i (x, x-in, _, e) =
      omega (arith, e, m.closed.lowest (number (size a) x) (number_in left right x x-in), number_in left right x x-in)

  within : {i : ℕ} → i < size a + size b → i < size graph
  within h = omega (arith, h, m.built.sized)

  without : {i : ℕ} → i < size graph → i < size a + size b
  without h = omega (arith, h, m.built.sized)

  -- The links, and with them the cycles, whatever the labels are.

  both-links : (c : ℕ ⊎ ℕ) (i f : ℕ) → Both c i → Alike Both (u.link c f) (rows.link i f)
  both-links c i f (x, x-in, x-name, x-class) = go (u.link c f) (rows.link i f) refl refl
    where
      i-in : i < size a + size b
      i-in = both-in c i (x, x-in, x-name, x-class)

      go : (o : Option (ℕ ⊎ ℕ)) (p : Option ℕ) → u.link c f ≡ o → rows.link i f ≡ p → Alike Both o p
      go none none e d = absent
      go none (some j) e d =
          let (v, w, v-in, w-in, v-class, l, w-class) = class-source left right m i j f i-in d in
          let v-name = class-name v x v-in x-in (v-class ∙ sym x-class) ∙ x-name in
          none-some (sym e ∙ ap (λ z. u.link z f) (sym v-name) ∙ named-link v w f v-in l)
      go (some d) none e q =
          let (v, w, v-in, v-name, l, w-name) = named-source c d f e in
          let v-class = name-class v x v-in x-in (v-name ∙ sym x-name) ∙ x-class in
          none-some (sym q ∙ ap (λ (z : ℕ). rows.link z f) (sym v-class) ∙ class-link left right m v w f v-in l)
      go (some d) (some j) e q =
          let (v, w, v-in, v-name, l, w-name) = named-source c d f e in
          let v-class = name-class v x v-in x-in (v-name ∙ sym x-name) ∙ x-class in
          let w-in = (link-in left right m.first m.second v w f v-in l).0 in
          present (
            w,
            w-in,
            w-name,
            some-injective
                (sym (class-link left right m v w f v-in l) ∙ ap (λ (z : ℕ). rows.link z f) v-class ∙ q),
          )

  -- "A loop is a class that reaches itself."

  cycle-is : has_cycle eqb eqb (graph_in a) (from 0 (size a)) (graph_in b) (from 0 (size b)) ≡
      deep rows.link (size a + size b) 0
  unfolding has_cycle class_graph
  cycle-is =
      deep-alike Both u rows both-links (length (from 0 (size a)) + length (from 0 (size b))) u.root 0 both-root ∙
      ap₂ (λ (i j : ℕ). deep rows.link (i + j) 0) (length_from 0 (size a)) (length_from 0 (size b))

  -- A path of either graph is a path of the graph of the classes.
  class-walk : (p : List ℕ) (x : ℕ ⊎ ℕ) → Leads (graph_in a) (graph_in b) p x → walk rows p ≡ some (cls x)
  unfolding follow
  class-walk =
      snoc-induction (λ p. (x : ℕ ⊎ ℕ) → Leads (graph_in a) (graph_in b) p x → walk rows p ≡ some (cls x))
      (λ x e. start x (leads-nil (graph_in a) (graph_in b) x e))
      (λ p f later y e.
      let (x, l, d) = leads-last (graph_in a) (graph_in b) p f y e in
      walk-snoc rows p f (later x l) ∙ class-link left right m x y f (reached-in left right x (p, l)) d)
    where
      start : (x : ℕ ⊎ ℕ) → (x ≡ inl 0) ⊎ (x ≡ inr 0) → walk rows [] ≡ some (cls x)
      start x (inl e) = ap some (sym (ap cls e ∙ class-zero))
      start x (inr e) =
          let q : size a + 0 ≡ size a = omega arith in
          ap some (sym (ap cls e ∙ ap (λ (i : ℕ). get_or class i 0) q ∙ sym m.closed.together ∙ class-zero))

  reach-walk : {v w : ℕ} → Reaches graph v w →
      (f : ℕ) × (p : List ℕ) × (follow rows.link (some v) (f ∷ p) ≡ some w)
  unfolding follow
  reach-walk {v} (one l) = (
    feature_at graph l.place,
    [],
    link-at (class-sound left right m) v l.place l.inside l.low l.high ∙ ap some l.target_is,
  )
  reach-walk {v} (more l r) =
      let (f, p, e) = reach-walk r in (
        feature_at graph l.place,
        f ∷ p,
        ap (λ o. follow rows.link o (f ∷ p))
            (link-at (class-sound left right m) v l.place l.inside l.low l.high ∙
            ap some l.target_is) ∙
            e,
      )

  reach-own : {v w : ℕ} → Reaches graph v w → (v < size a + size b) × (get_or class v 0 ≡ v)
  reach-own {v} (one {w = w} l) = (without l.inside, leads-own left right m v w l)
  reach-own {v} (more {w = w} l r) = (without l.inside, leads-own left right m v w l)

  inside-follow : (q : List ℕ) (y : ℕ) → walk rows q ≡ some y → y < size a + size b
  unfolding follow
  inside-follow =
      snoc-induction (λ q. (y : ℕ) → walk rows q ≡ some y → y < size a + size b)
      (λ y e. omega (arith, some-injective e, m.closed.rows.some))
      (λ q f later y e.
      let (x, l, d) = follow-last rows.link (some 0) q f y e in
      without (link-known (class-sound left right m) x f y (within (later x l)) d).1)

  pub cycle-found : (v : ℕ) → Reaches graph v v →
      has_cycle eqb eqb (graph_in a) (from 0 (size a)) (graph_in b) (from 0 (size b)) ≡ true
  cycle-found v r =
      let (v-in, own) = reach-own r in
      let (x, x-in, x-is) = node_of left right v v-in in
      let (q, l) = inside-reached left right x x-in in
      let (f, p, loop) = reach-walk r in
      let (path, y, e, far) = loop-walk rows.link (some 0)
      (v, f, p, (q, class-walk q x l ∙ ap some (ap (λ (i : ℕ). get_or class i 0) x-is ∙ own)), loop) (size a + size b) in
      cycle-is ∙
      walk-deep rows.link (size a + size b) 0 path y
      (λ q y z f d l. (link-known (class-sound left right m) y f z (within (inside-follow q y d)) l).0) e far

  -- Along links, the places in an order with targets first fall.
  module _ {order : List ℕ} {place : ℕ → ℕ} (sorted : TargetsFirst graph order place) where
    falls : (p : List ℕ) (v x : ℕ) → v < size a + size b → follow rows.link (some v) p ≡ some x → length p ≤ place v
    unfolding follow
    falls [] v x i e = omega arith
    falls (f ∷ p) v x i e =
        let (w, d) = follow-start rows.link (rows.link v f) p x e in
        let (k, low, high, feature, target) = link-place (class-sound left right m) v f w (within i) d in
        let less = sorted.earlier v w (record { inside = within i; place = k; low = low; high = high; target_is = target }) in
        omega (
          arith,
          less,
          falls p w x (without (link-known (class-sound left right m) v f w (within i) d).1) (ap (λ o. follow rows.link o p) (sym d) ∙ e),
        )

    pub cycle-none : has_cycle eqb eqb (graph_in a) (from 0 (size a)) (graph_in b) (from 0 (size b)) ≡ false
    cycle-none =
        not-true-false (has_cycle eqb eqb (graph_in a) (from 0 (size a)) (graph_in b) (from 0 (size b)))
        (λ e.
        let (p, x, k, w) = deep-walk rows.link (size a + size b) 0 (sym cycle-is ∙ e) in
        omega (arith, k, falls p 0 x m.closed.rows.some w, sorted.inside 0 (within m.closed.rows.some), m.built.sized))

  -- The labels.

  node-label : (x : ℕ) → x < size a + size b → label_at graph x ≡ label_of_class m.labels (get_or class x 0)
  node-label x h = m.built.rows.labels-are x h

  own-label : (i : ℕ) → i < size a + size b → get_or class i 0 ≡ i → rows.label i ≡ label_of_class m.labels i
  own-label i h own = label-at graph i (within h) ∙ node-label i h ∙ ap (label_of_class m.labels) own

  both-labels : (c : ℕ ⊎ ℕ) (i : ℕ) → Both c i → u.label c ≡ rows.label i
  unfolding class_graph class_label
  both-labels c i (x, x-in, x-name, x-class) =
      fold-left step (plain (n - 1)) (from 0 (size a)) (from 0 (size b)) ∙
      fold_same (λ v. step (inl v)) (lower_by meets a class 0 i) (foldr (λ v. step (inr v)) (plain (n - 1)) (from 0 (size b)))
      (from 0 (size a)) in_left ∙
      ap (λ (d : Label). foldr (lower_by meets a class 0 i) d (from 0 (size a)))
      (fold_same (λ v. step (inr v)) (lower_by meets b class (size a) i) (plain (n - 1)) (from 0 (size b)) in_right) ∙
      sym (m.lowers i i-in) ∙ sym (own-label i i-in own)
    where
      i-in : i < size a + size b
      i-in = both-in c i (x, x-in, x-name, x-class)

      own : get_or class i 0 ≡ i
      own =
          ap (λ (c : ℕ). get_or class c 0) (sym x-class) ∙ m.closed.itself (number (size a) x) (number_in left right x x-in) ∙ x-class

      step : ℕ ⊎ ℕ → Label → Label
      step y d =
          cond (same_either (name y) c) (meet_ranged meets (label_beside (graph_in a).label (graph_in b).label y) d) d

      -- Both accounts agree on which nodes are in the class.
      test : (y : ℕ ⊎ ℕ) → Inside left right y → same_either (name y) c ≡ eqb (cls y) i
      test y y-in =
          same_test (same_either (name y) c) (eqb (cls y) i)
          (λ e. eq-eqb (cls y) i (name-class y x y-in x-in ((tells (name y) c).0 e ∙ sym x-name) ∙ x-class))
          (λ e. (tells (name y) c).1 (class-name y x y-in x-in (eqb-true (cls y) i e ∙ sym x-class) ∙ x-name))

      in_left : (v : ℕ) (d : Label) → Memᴰ v (from 0 (size a)) → step (inl v) d ≡ lower_by meets a class 0 i v d
      in_left v d k =
          let v-in : v < size a = omega (arith, from-range 0 (size a) v k) in
          let e : v ≡ 0 + v = omega arith in
          ap₂ (λ (t : Bool) (l : Label). cond t (meet_ranged meets l d) d)
          (test (inl v) v-in ∙ ap (λ (w : ℕ). eqb (get_or class w 0) i) e) (label-at a v v-in)

      in_right : (v : ℕ) (d : Label) → Memᴰ v (from 0 (size b)) → step (inr v) d ≡ lower_by meets b class (size a) i v d
      in_right v d k =
          let v-in : v < size b = omega (arith, from-range 0 (size b) v k) in
          ap₂ (λ (t : Bool) (l : Label). cond t (meet_ranged meets l d) d) (test (inr v) v-in) (label-at b v v-in)

  alike : Bisimilar Both u rows
  unfolding class_graph
  alike =
      record {
        root = both-root;
        labels = both-labels;
        links = both-links;
        forth = λ c c' i i' (x, x-in, x-name, x-class) (y, y-in, y-name, y-class) e.
            sym x-class ∙ name-class x y x-in y-in (x-name ∙ e ∙ sym y-name) ∙ y-class;
        back = λ c c' i i' (x, x-in, x-name, x-class) (y, y-in, y-name, y-class) e.
            sym x-name ∙ class-name x y x-in y-in (x-class ∙ e ∙ sym y-class) ∙ y-name;
      }

  same-form : canonical same_either u ≡ canonical eqb (graph_in graph)
  same-form = bisimilar-canonical same_either eqb tells tells-eqb Both u rows alike

  -- "A clash is a class whose meet is type 0", "and an empty overlap is a clash".

  label_is : (x : ℕ ⊎ ℕ) → Inside left right x → u.label (name x) ≡ label_at graph (number (size a) x)
  label_is x i =
      let h = number_in left right x i in
      both-labels (name x) (cls x) (x, i, refl, refl) ∙
      own-label (cls x) (both-in (name x) (cls x) (x, i, refl, refl)) (m.closed.itself (number (size a) x) h) ∙
      sym (node-label (number (size a) x) h)

  pub clash-is : clashes ≡ any_of (from 0 (size graph)) (λ x. contradicts (label_at graph x))
  unfolding has_clash
  clash-is =
      same_test (any_of (nodes_beside (from 0 (size a)) (from 0 (size b))) here)
      (any_of (from 0 (size graph)) there) forth back
    where
      here : ℕ ⊎ ℕ → Bool
      here x = contradicts (u.label (name x))

      there : ℕ → Bool
      there x = contradicts (label_at graph x)

      forth : any_of (nodes_beside (from 0 (size a)) (from 0 (size b))) here ≡ true → any_of (from 0 (size graph)) there ≡ true
      forth e =
          let (x, i, d) = any_of-true here (nodes_beside (from 0 (size a)) (from 0 (size b))) e in
          let x-in = unlisted x i in
          any_of-finds there (from 0 (size graph)) (number (size a) x)
          (from_member 0 (size graph) (number (size a) x) (omega arith) (omega (arith, within (number_in left right x x-in))))
          (ap contradicts (sym (label_is x x-in)) ∙ d)

      back : any_of (from 0 (size graph)) there ≡ true → any_of (nodes_beside (from 0 (size a)) (from 0 (size b))) here ≡ true
      back e =
          let (i, k, d) = any_of-true there (from 0 (size graph)) e in
          let (x, x-in, x-is) = node_of left right i (without (omega (arith, from-range 0 (size graph) i k))) in
          any_of-finds here (nodes_beside (from 0 (size a)) (from 0 (size b))) x (listed x x-in)
          (ap contradicts (label_is x x-in ∙ ap (label_at graph) x-is) ∙ d)

  -- What is answered.

  abbrev answered : Bool → Bool → Unified Label (ℕ ⊎ ℕ)
  answered s t = cond s cycle (cond t clash (unified u))

  -- There are as many nodes as rows.
  out-is : (old : List ℕ) → unified_out (joint (size a) (size b)) old ≡ unifying_out n meets a b old
  out-is old = sym (ap₂ (λ (k l : ℕ). unified_out (joint k l) old) (length-rows a 0 (size a)) (length-rows b 0 (size b)))

  pub answers-cycle : (v : ℕ) → Reaches graph v v → (old : List ℕ) → yielding (Err uncombined.Cycle) old ≡ unifying_out n meets a b old
  unfolding unification_by unified_out
  answers-cycle v r old = sym (ap (λ (s : Bool). unified_out (answered s clashes) old) (cycle-found v r)) ∙ out-is old

  module _ {order : List ℕ} {place : ℕ → ℕ} (sorted : TargetsFirst graph order place) where
    answered-none : (t : Bool) → clashes ≡ t → joint (size a) (size b) ≡ answered false t
    unfolding unification_by
    answered-none t e = ap₂ answered (cycle-none sorted) e

    pub answers-clash : any_of (from 0 (size graph)) (λ x. contradicts (label_at graph x)) ≡ true → (old : List ℕ) →
        yielding (Err uncombined.Clash) old ≡ unifying_out n meets a b old
    unfolding unified_out
    answers-clash found old = sym (ap (λ z. unified_out z old) (answered-none true (clash-is ∙ found))) ∙ out-is old

    pub answers-written : any_of (from 0 (size graph)) (λ x. contradicts (label_at graph x)) ≡ false → (old : List ℕ) {w : Writing} {new : List ℕ} →
        yielding w new ≡ written_out (canonical eqb (graph_in graph)) old → yielding (combining w) new ≡ unifying_out n meets a b old
    unfolding unified_out
    answers-written clear old yields =
        ap combined_of (yields ∙ ap (λ (k : Canonical Label). written_out k old) (sym same-form)) ∙
        sym (ap (λ z. unified_out z old) (answered-none false (clash-is ∙ clear))) ∙ out-is old
