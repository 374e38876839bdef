-- The graph of the computed classes is a quotient (`class-quotient`), so it is the unification (`class-unification`). This holds
-- of any two graphs with their nodes listed, also where there is a cycle or a clash.
use mathlib.Core.Path.{◌≡◌, refl, sym, ◌∙◌, ap}
use mathlib.Core.Bool.{Bool, true, false, cond}
use mathlib.Core.List.Memᴰ
use mathlib.Core.List.{
  List,
  [],
  ◌∷◌,
  Memᴰ,
  foldr,
}
use mathlib.Core.Logic.{◌↔◌, ◌⊎◌, inl, inr}
use mathlib.Core.Option.{Option, none, some, map, map-eq-some_iff}
use Prim.Native.Nat.{ℕ, ◌<◌}
use Rattle.graphs.specs.Label.{Labels, Lattice}
use Rattle.graphs.specs.Graph.{Graph, TellsApart, Reached}
use Rattle.graphs.specs.Unify.{
  IsUnification,
  label_beside,
  same_beside,
  nodes_beside,
  class_link,
  class_label,
  class_name,
  class_graph,
}
use Rattle.graphs.proofs.Search.{true-false, cond-some, first_of-some, first_of-finds}
use Rattle.graphs.proofs.Unification.Related.{feat, Classes, related-listed, named}
use Rattle.graphs.proofs.Unification.Classes.{close-classes}
use Rattle.graphs.proofs.Unification.Beside.{
  link_beside,
  ReachedBeside,
  RelatedBeside,
  Operands,
  tells-beside,
  reached-listed,
  listed-reached,
  feature-beside,
  beside-listing,
}
use Rattle.graphs.proofs.Unification.Quotient.{Quotient, quotient-reached, quotient-unification}

-- The meet of the labels along a list where a test holds.
module _ {𝓛 : Labels} (lattice : Lattice 𝓛) {N : Type 0} (test : N → Bool) (label : N → 𝓛.L) where
  abbrev meet_of : List N → 𝓛.L
  meet_of = foldr (λ x a. cond (test x) (𝓛.meet (label x) a) a) 𝓛.top

  meet_of-below : (xs : List N) (x : N) → Memᴰ x xs → test x ≡ true → 𝓛.le (meet_of xs) (label x) ≡ true
  meet_of-below [] x m e = absurd (Memᴰ.not-nil m)
  meet_of-below (z ∷ xs) x m e = go (test z) refl (λ m. meet_of-below xs x m e) (Memᴰ.cases_cons m)
    where
      go : (b : Bool) → test z ≡ b → (Memᴰ x xs → 𝓛.le (meet_of xs) (label x) ≡ true) → (x ≡ z) ⊎ Memᴰ x xs →
          𝓛.le (cond b (𝓛.meet (label z) (meet_of xs)) (meet_of xs)) (label x) ≡ true
      go true d later (inl q) =
          ap (λ y. 𝓛.le (𝓛.meet (label z) (meet_of xs)) (label y)) q ∙ lattice.meet_left (label z) (meet_of xs)
      go true d later (inr n) = lattice.le_trans _ (meet_of xs) _ (lattice.meet_right (label z) (meet_of xs)) (later n)
      go false d later (inl q) = true-false e (ap test q ∙ d)
      go false d later (inr n) = later n

  meet_of-greatest : (xs : List N) (b : 𝓛.L) → ((x : N) → Memᴰ x xs → test x ≡ true → 𝓛.le b (label x) ≡ true) →
      𝓛.le b (meet_of xs) ≡ true
  meet_of-greatest [] b h = lattice.top-greatest b
  meet_of-greatest (z ∷ xs) b h = go (test z) refl (meet_of-greatest xs b (λ x m. h x (Memᴰ.tail m)))
    where
      go : (t : Bool) → test z ≡ t → 𝓛.le b (meet_of xs) ≡ true →
          𝓛.le b (cond t (𝓛.meet (label z) (meet_of xs)) (meet_of xs)) ≡ true
      go true d later = lattice.meet-greatest (label z) (meet_of xs) b (h z (Memᴰ.head refl) d) later
      go false d later = later

-- The links of classes that are named.
module _ {N : Type 0} {same : N → N → Bool} (tells : TellsApart same) (link : N → ℕ → Option N) (nodes : List N) (name : N → N) where
  -- a link of a class is a link of one of its nodes
  pub class_link-source : (c d : N) (f : ℕ) → class_link same link nodes name c f ≡ some d →
      (x : N) × (y : N) × Memᴰ x nodes × (name x ≡ c) × (link x f ≡ some y) × (name y ≡ d)
  unfolding class_link
  class_link-source c d f e =
      let (x, m, e1) = first_of-some (λ x. cond (same (name x) c) (map name (link x f)) none) nodes d e in
      let (q, e2) = cond-some (same (name x) c) (map name (link x f)) d e1 in
      let (y, a, b) = (map-eq-some_iff name (link x f)).0 e2 in
      (x, y, m, (tells (name x) c).0 q, a, b)

  -- a link of a node is a link of its class
  pub class_link-of : {r s : N} → Classes link r s nodes name → (x y : N) (f : ℕ) → Memᴰ x nodes → link x f ≡ some y →
      class_link same link nodes name (name x) f ≡ some (name y)
  unfolding class_link
  class_link-of classes x y f m e =
      let (d, a) = first_of-finds (λ z. cond (same (name z) (name x)) (map name (link z f)) none) nodes x (name y) m found in
      let (v, w, n, q, b, p) = class_link-source (name x) d f a in
      a ∙ ap some (sym p ∙ classes.one (feat f ((named classes v x n m).0 q) b e))
    where
      found : cond (same (name x) (name x)) (map name (link x f)) none ≡ some (name y)
      found = ap (λ b. cond b (map name (link x f)) none) ((tells (name x) (name x)).1 refl) ∙ ap (map name) e

module _ {L A B : Type 0} {sameA : A → A → Bool} {sameB : B → B → Bool} {g : Graph L A} {gs : List A} {h : Graph L B} {hs : List B}
    (given : Operands sameA sameB g gs h hs) where
  pub name-classes : Classes (link_beside g h) (inl g.root) (inr h.root) (nodes_beside gs hs) (class_name sameA sameB g gs h hs)
  unfolding class_name
  name-classes = close-classes (tells-beside given) (beside-listing given)

  -- Two nodes have one name exactly when they are related.
  pub name-related : (x y : A ⊎ B) → ReachedBeside g h x → ReachedBeside g h y →
      (class_name sameA sameB g gs h hs x ≡ class_name sameA sameB g gs h hs y) ↔ RelatedBeside g h x y
  name-related x y a b = named name-classes x y (reached-listed given x a) (reached-listed given y b)

module _ {𝓛 : Labels} (lattice : Lattice 𝓛) {A B : Type 0} {sameA : A → A → Bool} {sameB : B → B → Bool} {g : Graph 𝓛.L A}
    {gs : List A} {h : Graph 𝓛.L B} {hs : List B} (given : Operands sameA sameB g gs h hs) where
  abbrev name : A ⊎ B → A ⊎ B
  name = class_name sameA sameB g gs h hs

  abbrev u : Graph 𝓛.L (A ⊎ B)
  u = class_graph 𝓛.meet 𝓛.top sameA sameB g gs h hs

  pub class-quotient : Quotient 𝓛 g h name u
  unfolding class_graph class_label
  class-quotient =
      record {
        root = refl;
        one = (name-classes given).one;
        related = λ x y a b e. (name-related given x y a b).0 e;
        links = λ x y f a e. class_link-of tells link nodes name (name-classes given) x y f (reached-listed given x a) e;
        sources = λ x d f a e.
            let (y, z, m, i, l, j) = class_link-source tells link nodes name (name x) d f e in
            (y, z, listed-reached given y m, i, l, j);
        below = λ x a.
            meet_of-below lattice (test (name x)) label nodes x (reached-listed given x a) ((tells (name x) (name x)).1 refl);
        greatest = λ x b a low.
            meet_of-greatest lattice (test (name x)) label nodes b λ y m e.
            low y (listed-reached given y m) ((tells (name y) (name x)).0 e);
      }
    where
      nodes : List (A ⊎ B)
      nodes = nodes_beside gs hs

      link : A ⊎ B → ℕ → Option (A ⊎ B)
      link = link_beside g h

      tells : TellsApart (same_beside sameA sameB)
      tells = tells-beside given

      test : A ⊎ B → A ⊎ B → Bool
      test c x = same_beside sameA sameB (name x) c

      label : A ⊎ B → 𝓛.L
      label = label_beside g.label h.label

  -- The graph of the classes is the unification.
  pub class-unification : IsUnification 𝓛 g h u
  class-unification = quotient-unification class-quotient

  -- Its nodes are the nodes that name a class.
  pub class-reached : (c : A ⊎ B) → Reached u c ↔ (Memᴰ c (nodes_beside gs hs) × (name c ≡ c))
  class-reached c = (there, λ (m, e). (quotient-reached class-quotient c).1 (c, listed-reached given c m, e))
    where
      there : Reached u c → Memᴰ c (nodes_beside gs hs) × (name c ≡ c)
      there r =
          let (x, a, e) = (quotient-reached class-quotient c).0 r in
          let d = (name-classes given).related x (reached-listed given x a) in
          (Memᴰ.cast (sym e) (related-listed (beside-listing given) d).1, ap name (sym e) ∙ sym ((name-classes given).one d) ∙ e)

  pub class-features : (c d : A ⊎ B) (f : ℕ) → Reached u c → u.link c f ≡ some d → f < 64
  class-features c d f r e =
      let (x, a, q) = (quotient-reached class-quotient c).0 r in
      let (y, z, b, _, l, _) = class-quotient.sources x d f a (ap (λ c. u.link c f) q ∙ e) in
      feature-beside given y z f b l
