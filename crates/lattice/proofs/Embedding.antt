-- This file is about labels that stand for others, by a map that keeps order, meets, joins, the greatest label and the contradiction, and
-- that tells labels apart. Graphs with the one labels or the other have the same order, equal meaning and size, and their generalization,
-- unification and difference differ in the labels alone.
use mathlib.Core.Path.{◌≡◌, refl, sym, ap, ap₂, subst, ◌∙◌, fun_ext}
use mathlib.Core.Bool.{Bool, true, false, cond, ◌&&◌}
use mathlib.Core.List.Memᴰ
use mathlib.Core.List.{List, [], ◌∷◌, map, foldr, Memᴰ}
use mathlib.Core.Logic.{◌↔◌, ◌⊎◌, inl, inr, ⊎_elim}
use Prim.Native.Nat.{ℕ}
use Rattle.graphs.specs.Label.{Labels}
use Rattle.graphs.specs.Graph.{Graph, Below, SameMeaning, AnySize}
use Rattle.graphs.specs.Rows.{features}
use Rattle.graphs.specs.Order.{all_of, there, meetings, fits_at, shares_at, subsumes}
use Rattle.graphs.specs.Generalize.{generalization_by, generalization}
use Rattle.graphs.specs.Unify.{
  cycle,
  clash,
  unified,
  label_beside,
  same_beside,
  nodes_beside,
  class_label,
  class_name,
  class_graph,
  has_cycle,
  has_clash,
  unification_by,
  unification,
  any_of,
}
use Rattle.graphs.specs.Difference.{
  Link,
  difference,
  kept_link,
  keeps,
  kept_itself,
  leaders,
  lead,
  group_of,
  spread,
  touch,
  bare,
  covers,
  incoming,
  differ,
  meet_where,
  meet_over,
}
use Rattle.lattice.proofs.Relabel.{relabel, relabel_unified}

-- what unification asks for
pub record MeetEmbedding (𝓚 𝓛 : Labels) (f : 𝓚.L → 𝓛.L) : Type 0 where
  pub meet : (x y : 𝓚.L) → 𝓛.meet (f x) (f y) ≡ f (𝓚.meet x y)
  pub top : 𝓛.top ≡ f 𝓚.top
  pub contradiction : (x : 𝓚.L) → 𝓛.contradiction (f x) ≡ 𝓚.contradiction x

pub record Embedding (𝓚 𝓛 : Labels) (f : 𝓚.L → 𝓛.L) : Type 0 where
  pub meets : MeetEmbedding 𝓚 𝓛 f
  pub le : (x y : 𝓚.L) → 𝓛.le (f x) (f y) ≡ 𝓚.le x y
  pub join : (x y : 𝓚.L) → 𝓛.join (f x) (f y) ≡ f (𝓚.join x y)
  pub injective : (x y : 𝓚.L) → f x ≡ f y → x ≡ y

-- a graph with given labels
abbrev pub labelled : {K L A : Type 0} → Graph L A → (A → K) → Graph K A
labelled g label = record { root = g.root; label = label; link = g.link }

-- labels that a test picks, met along a list
meets-folded : (𝓛 : Labels) {B : Type 0} (test : B → Bool) (label : B → 𝓛.L) (ys : List B) →
    meet_where 𝓛 test label ys ≡ foldr (λ y a. cond (test y) (𝓛.meet (label y) a) a) 𝓛.top ys
unfolding meet_where
meets-folded 𝓛 test label [] = refl
meets-folded 𝓛 test label (y ∷ ys) =
    ap (λ (a : 𝓛.L). cond (test y) (𝓛.meet (label y) a) a) (meets-folded 𝓛 test label ys)

module _ {𝓚 𝓛 : Labels} {f : 𝓚.L → 𝓛.L} (embeds : MeetEmbedding 𝓚 𝓛 f) where
  -- Unification.

  -- the meet of picked labels stands for that of the labels that they stand for
  meets-embedded : {N : Type 0} (pick : N → Bool) (image : N → 𝓛.L) (label : N → 𝓚.L) (xs : List N) →
      ((x : N) → Memᴰ x xs → f (label x) ≡ image x) →
      foldr (λ x a. cond (pick x) (𝓛.meet (image x) a) a) 𝓛.top xs ≡
      f (foldr (λ x a. cond (pick x) (𝓚.meet (label x) a) a) 𝓚.top xs)
  meets-embedded pick image label [] are = embeds.top
  meets-embedded pick image label (x ∷ xs) are =
      go (pick x)
      (foldr (λ x a. cond (pick x) (𝓛.meet (image x) a) a) 𝓛.top xs)
      (foldr (λ x a. cond (pick x) (𝓚.meet (label x) a) a) 𝓚.top xs)
      (meets-embedded pick image label xs (λ y m. are y (Memᴰ.tail m)))
    where
      go : (b : Bool) (a : 𝓛.L) (c : 𝓚.L) → a ≡ f c → cond b (𝓛.meet (image x) a) a ≡ f (cond b (𝓚.meet (label x) c) c)
      go true a c e = ap₂ 𝓛.meet (sym (are x (Memᴰ.head refl))) e ∙ embeds.meet (label x) c
      go false a c e = e

  -- g and h with labels `first` and `second` that stand for theirs, on the nodes listed
  module _ {A B : Type 0} (sameA : A → A → Bool) (sameB : B → B → Bool) (g : Graph 𝓛.L A) (gs : List A) (h : Graph 𝓛.L B) (hs : List B)
      (first : A → 𝓚.L) (second : B → 𝓚.L)
      (left : (v : A) → Memᴰ v gs → f (first v) ≡ g.label v) (right : (w : B) → Memᴰ w hs → f (second w) ≡ h.label w) where
    abbrev classes : Graph 𝓛.L (A ⊎ B)
    classes = class_graph 𝓛.meet 𝓛.top sameA sameB g gs h hs

    -- the same with the other labels
    abbrev others : Graph 𝓚.L (A ⊎ B)
    others = class_graph 𝓚.meet 𝓚.top sameA sameB (labelled g first) gs (labelled h second) hs

    class-label : (c : A ⊎ B) → classes.label c ≡ f (others.label c)
    unfolding class_graph class_label class_name
    class-label c =
        meets-embedded (λ x. same_beside sameA sameB (class_name sameA sameB g gs h hs x) c) (label_beside g.label h.label)
        (label_beside first second) (nodes_beside gs hs) listed
      where
        listed : (x : A ⊎ B) → Memᴰ x (nodes_beside gs hs) → f (label_beside first second x) ≡ label_beside g.label h.label x
        listed x m =
            ⊎_elim
            (λ i.
            let (v, k, e) = Memᴰ.of_map inl gs i in
            subst (λ (x : A ⊎ B). f (label_beside first second x) ≡ label_beside g.label h.label x) e (left v k))
            (λ i.
            let (w, k, e) = Memᴰ.of_map inr hs i in
            subst (λ (x : A ⊎ B). f (label_beside first second x) ≡ label_beside g.label h.label x) e (right w k))
            (Memᴰ.append_cases (map inl gs) m)

    class-graph : classes ≡ relabel f others
    unfolding class_graph class_name
    class-graph = ap (labelled classes) (fun_ext class-label)

    same-cycle : has_cycle sameA sameB g gs h hs ≡ has_cycle sameA sameB (labelled g first) gs (labelled h second) hs
    unfolding has_cycle class_graph class_name
    same-cycle = refl

    same-clash : has_clash 𝓛.meet 𝓛.top 𝓛.contradiction sameA sameB g gs h hs ≡
        has_clash 𝓚.meet 𝓚.top 𝓚.contradiction sameA sameB (labelled g first) gs (labelled h second) hs
    unfolding has_clash class_name
    same-clash =
        ap (any_of (nodes_beside gs hs)) (fun_ext λ (x : A ⊎ B).
        let c = class_name sameA sameB g gs h hs x in
        ap 𝓛.contradiction (class-label c) ∙
        embeds.contradiction (others.label c))

    pub unification-embedded : unification 𝓛 sameA sameB g gs h hs ≡
        relabel_unified f (unification 𝓚 sameA sameB (labelled g first) gs (labelled h second) hs)
    unfolding unification_by
    unification-embedded =
        ap₂ (λ (b c : Bool). cond b cycle (cond c clash (unified classes))) same-cycle same-clash ∙
        go (has_cycle sameA sameB (labelled g first) gs (labelled h second) hs)
        (has_clash 𝓚.meet 𝓚.top 𝓚.contradiction sameA sameB (labelled g first) gs (labelled h second) hs)
      where
        go : (b c : Bool) →
            cond b cycle (cond c clash (unified classes)) ≡
            relabel_unified f
            (cond b cycle (cond c clash (unified others)))
        go true c = refl
        go false true = refl
        go false false = ap unified class-graph

  -- the meet of all labels over a node
  pub meet_over-embedded : {A B : Type 0} (sameA : A → A → Bool) (g : Graph 𝓛.L B) (gs : List B) (over : B → A) (label : B → 𝓚.L) →
      ((w : B) → Memᴰ w gs → f (label w) ≡ g.label w) → (v : A) →
      meet_over 𝓛 sameA g gs over v ≡ f (meet_over 𝓚 sameA (labelled g label) gs over v)
  unfolding meet_over
  meet_over-embedded sameA g gs over label are v =
      meets-folded 𝓛 (λ y. sameA (over y) v) g.label gs ∙
      meets-embedded (λ y. sameA (over y) v) g.label label gs are ∙
      sym (ap f (meets-folded 𝓚 (λ y. sameA (over y) v) label gs))

module _ {𝓚 𝓛 : Labels} {f : 𝓚.L → 𝓛.L} (embeds : Embedding 𝓚 𝓛 f) where
  module _ {A B : Type 0} {s : Graph 𝓚.L A} {g : Graph 𝓚.L B} where
    pub below-embedded : Below 𝓚 s g ↔ Below 𝓛 (relabel f s) (relabel f g)
    below-embedded = (
      λ b.
          record {
            paths = λ p v e. let (w, d, l) = b.paths p v e in (w, d, embeds.le (s.label w) (g.label v) ∙ l);
            corefers = b.corefers;
          },
      λ b.
          record {
            paths = λ p v e. let (w, d, l) = b.paths p v e in (w, d, sym (embeds.le (s.label w) (g.label v)) ∙ l);
            corefers = b.corefers;
          },
    )

    pub meaning-embedded : SameMeaning 𝓚 s g ↔ SameMeaning 𝓛 (relabel f s) (relabel f g)
    meaning-embedded = (
      λ m.
          record {
            there = λ p v e. let (w, d, q) = m.there p v e in (w, d, ap f q);
            back = λ p w e. let (v, d, q) = m.back p w e in (v, d, ap f q);
            corefers = m.corefers;
          },
      λ m.
          record {
            there = λ p v e. let (w, d, q) = m.there p v e in (w, d, embeds.injective (s.label v) (g.label w) q);
            back = λ p w e. let (v, d, q) = m.back p w e in (v, d, embeds.injective (s.label v) (g.label w) q);
            corefers = m.corefers;
          },
    )

  -- with the same list of nodes
  unfoldable pub any-size-embedded : {A : Type 0} {g : Graph 𝓚.L A} → AnySize 𝓚 g ↔ AnySize 𝓛 (relabel f g)
  any-size-embedded {g = g} = (
    λ a.
        record {
          nodes = a.nodes;
          listed = a.listed;
          features = a.features;
          consistent = λ v r. embeds.meets.contradiction (g.label v) ∙ a.consistent v r;
          acyclic = a.acyclic;
        },
    λ a.
        record {
          nodes = a.nodes;
          listed = a.listed;
          features = a.features;
          consistent = λ v r. sym (embeds.meets.contradiction (g.label v)) ∙ a.consistent v r;
          acyclic = a.acyclic;
        },
  )

  -- The order, computed.

  pub subsumes-embedded : {A B : Type 0} (sameA : A → A → Bool) (sameB : B → B → Bool) (s : Graph 𝓚.L A) (g : Graph 𝓚.L B) (k : ℕ) →
      subsumes 𝓛 sameA sameB (relabel f s) (relabel f g) k ≡ subsumes 𝓚 sameA sameB s g k
  unfolding subsumes fits_at
  subsumes-embedded {A} {B} sameA sameB s g k =
      let xs = meetings s g k in
      ap (λ (fits : A × B → Bool). all_of xs fits && all_of xs λ x. all_of xs (shares_at 𝓚 sameA sameB s g x))
      (fun_ext λ (x : A × B).
      ap (λ (le : Bool). le && all_of features λ i. there (g.link x.1 i) (s.link x.0 i)) (embeds.le (s.label x.0) (g.label x.1)))

  -- Generalization.

  pub generalization-embedded : {A B : Type 0} (g : Graph 𝓚.L A) (h : Graph 𝓚.L B) →
      generalization 𝓛 (relabel f g) (relabel f h) ≡ relabel f (generalization 𝓚 g h)
  unfolding generalization_by
  generalization-embedded {A} {B} g h =
      ap (labelled (generalization 𝓚 g h)) (fun_ext (λ (x : A × B). embeds.join (g.label x.0) (h.label x.1)))

  -- Difference.

  -- the difference, which asks for the wanted labels and for no label of s or g
  pub difference-embedded : {A B : Type 0} (sameA : A → A → Bool) (sameB : B → B → Bool) (earlier : Link A → Link A → Bool)
      (s : Graph 𝓛.L A) (ss : List A) (g : Graph 𝓛.L B) (gs : List B) (over : B → A) (first wanted : A → 𝓚.L) (second : B → 𝓚.L) →
      difference 𝓛 sameA sameB earlier s ss g gs over (λ v. f (wanted v)) ≡
      relabel f (difference 𝓚 sameA sameB earlier (labelled s first) ss (labelled g second) gs over wanted)
  unfolding difference kept_link keeps kept_itself leaders lead group_of spread touch bare covers incoming differ
  difference-embedded {A} sameA sameB earlier s ss g gs over first wanted second =
      ap (λ (is_top : A → Bool). record {
        root = s.root;
        label = λ v. f (wanted v);
        link = kept_link sameA sameB s ss g gs over earlier is_top;
      }) (fun_ext λ (v : A). ap (λ (x : 𝓛.L). 𝓛.le x (f (wanted v))) embeds.meets.top ∙ embeds.le 𝓚.top (wanted v))
