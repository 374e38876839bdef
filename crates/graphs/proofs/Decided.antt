-- This file is about graphs whose nodes have no test of equality. It cannot be refuted that the finitely many nodes of a graph of any
-- size are told apart; if they are, the graph means the same as one on numbers. So whatever is refuted for graphs on numbers is refuted
-- for graphs on any nodes.
use mathlib.Core.Path.{◌≡◌, refl, sym, ◌∙◌, ap}
use mathlib.Core.List.Memᴰ
use mathlib.Core.List.{List, [], ◌∷◌, Memᴰ}
use mathlib.Core.Logic.{⊎_elim}
use mathlib.Core.Option.{Option, none, some, map}
use Prim.Native.Nat.{ℕ, zero, suc}
use Rattle.graphs.specs.Label.{Labels}
use Rattle.graphs.specs.Graph.{Graph, AnySize, SameMeaning, Reached, walk}
use Rattle.graphs.specs.Map.{Exact}
use Rattle.graphs.proofs.Walk.{some-injective, none-some, follow-last, follow-nil, snoc-induction, reached-root, reached-link}
use Rattle.graphs.proofs.Below.{exact_same, same-sym}

-- v is told apart from all elements of the list
abbrev Apart : {A : Type 0} → A → List A → Type 0
Apart {A} v l = (w : A) → Memᴰ w l → Dec (v ≡ w)

apart_more : {A : Type 0} {v x : A} {l : List A} → Dec (v ≡ x) → Apart v l → Apart v (x ∷ l)
apart_more {A} {v} {x} {l} (yes e) d w m = ⊎_elim (λ (q : w ≡ x). yes (e ∙ sym q)) (d w) (Memᴰ.cases_cons m)
apart_more {A} {v} {x} {l} (no e) d w m = ⊎_elim (λ (q : w ≡ x). no (λ p. e (p ∙ q))) (d w) (Memᴰ.cases_cons m)

-- That v is told apart from all elements of a list cannot be refuted.
one_apart : {A : Type 0} (v : A) (l : List A) → (Apart v l → ⊥) → ⊥
one_apart v [] refuted = refuted (λ w m. absurd (Memᴰ.not-nil m))
one_apart v (x ∷ l) refuted = one_apart v l (λ d. refuted (apart_more (no (λ e. refuted (apart_more (yes e) d))) d))

all_apart : {A : Type 0} (vs l : List A) → (((v : A) → Memᴰ v vs → Apart v l) → ⊥) → ⊥
all_apart [] l refuted = refuted (λ v m. absurd (Memᴰ.not-nil m))
all_apart {A} (x ∷ vs) l refuted =
    one_apart x l λ d.
    all_apart vs l λ e.
    refuted λ v m w i.
    ⊎_elim (λ (q : v ≡ x). moved q (d w i)) (λ j. e v j w i) (Memᴰ.cases_cons m)
  where
    moved : {v w : A} → v ≡ x → Dec (x ≡ w) → Dec (v ≡ w)
    moved q (yes p) = yes (q ∙ p)
    moved q (no p) = no (λ r. p (sym q ∙ r))

-- the place of v along a list
placed : {P : Type 0} → Dec P → ℕ → ℕ
placed (yes p) k = 0
placed (no p) k = suc k

place : {A : Type 0} (v : A) (l : List A) → Apart v l → ℕ
place v [] d = 0
place v (x ∷ l) d = placed (d x (Memᴰ.head refl)) (place v l (λ w m. d w (Memᴰ.tail m)))

-- the element at a place, or the element given past the end
at : {A : Type 0} → List A → A → ℕ → A
at [] r i = r
at (x ∷ l) r zero = x
at (x ∷ l) r (suc i) = at l r i

at_place : {A : Type 0} (v r : A) (l : List A) (d : Apart v l) → Memᴰ v l → at l r (place v l d) ≡ v
unfolding place placed at
at_place v r [] d m = absurd (Memᴰ.not-nil m)
at_place {A} v r (x ∷ l) d m = go (d x (Memᴰ.head refl)) (at_place v r l (λ w m. d w (Memᴰ.tail m)))
  where
    go : (o : Dec (v ≡ x)) → (Memᴰ v l → at l r (place v l (λ w m. d w (Memᴰ.tail m))) ≡ v) →
        at (x ∷ l) r (placed o (place v l (λ w m. d w (Memᴰ.tail m)))) ≡ v
    go (yes e) later = sym e
    go (no e) later = ⊎_elim (λ (q : v ≡ x). absurd (e q)) later (Memᴰ.cases_cons m)

place_same : {A : Type 0} (v w : A) (l : List A) (d : Apart v l) (c : Apart w l) → v ≡ w → place v l d ≡ place w l c
unfolding place placed
place_same v w [] d c e = refl
place_same {A} v w (x ∷ l) d c e =
    go (d x (Memᴰ.head refl)) (c x (Memᴰ.head refl))
    (place_same v w l (λ y m. d y (Memᴰ.tail m)) (λ y m. c y (Memᴰ.tail m)) e)
  where
    go : {i j : ℕ} (o : Dec (v ≡ x)) (u : Dec (w ≡ x)) → i ≡ j → placed o i ≡ placed u j
    go (yes p) (yes q) h = refl
    go (no p) (no q) h = ap suc h
    go (yes p) (no q) h = absurd (q (sym e ∙ p))
    go (no p) (yes q) h = absurd (p (e ∙ q))

module _ {𝓛 : Labels} {E : Type 0} (e : Graph 𝓛.L E) (sound : AnySize 𝓛 e) where
  reached-at : (l : List E) → ((v : E) → Memᴰ v l → Reached e v) → (i : ℕ) → Reached e (at l e.root i)
  unfolding at
  reached-at [] all i = reached-root e
  reached-at (x ∷ l) all zero = all x (Memᴰ.head refl)
  reached-at (x ∷ l) all (suc i) = reached-at l (λ v m. all v (Memᴰ.tail m)) i

  module _ (apart : (v : E) → Memᴰ v sound.nodes → Apart v sound.nodes) where
    number : (v : E) → Reached e v → ℕ
    number v r = place v sound.nodes (apart v ((sound.listed v).0 r))

    node : ℕ → E
    node i = at sound.nodes e.root i

    node-number : (v : E) (r : Reached e v) → node (number v r) ≡ v
    unfolding node number
    node-number v r = at_place v e.root sound.nodes (apart v ((sound.listed v).0 r)) ((sound.listed v).0 r)

    node-reached : (i : ℕ) → Reached e (node i)
    unfolding node
    node-reached i = reached-at sound.nodes (λ v m. (sound.listed v).1 m) i

    -- the number of the node that a feature leads to
    number_on : (v : E) → Reached e v → (f : ℕ) (o : Option E) → e.link v f ≡ o → Option ℕ
    number_on v r f none q = none
    number_on v r f (some w) q = some (number w (reached-link e f r q))

    on-numbers : Graph 𝓛.L ℕ
    on-numbers =
        record {
          root = number e.root (reached-root e);
          label = λ i. e.label (node i);
          link = λ i f. number_on (node i) (node-reached i) f (e.link (node i) f) refl;
        }

    number-link : (v : E) (r : Reached e v) (f : ℕ) (o : Option E) (q : e.link v f ≡ o) → o ≡ map node (number_on v r f o q)
    unfolding number_on
    number-link v r f none q = refl
    number-link v r f (some w) q = ap some (sym (node-number w (reached-link e f r q)))

    number_source : (v : E) (r : Reached e v) (f : ℕ) (o : Option E) (q : e.link v f ≡ o) {i : ℕ} → number_on v r f o q ≡ some i →
        (w : E) × (p : Reached e w) × (i ≡ number w p)
    unfolding number_on
    number_source v r f none q h = none-some h
    number_source v r f (some w) q h = (w, reached-link e f r q, sym (some-injective h))

    -- what is reached is the number of a node
    reached-number : (p : List ℕ) (i : ℕ) → walk on-numbers p ≡ some i → (w : E) × (r : Reached e w) × (i ≡ number w r)
    unfolding on-numbers
    reached-number =
        snoc-induction (λ p. (i : ℕ) → walk on-numbers p ≡ some i → (w : E) × (r : Reached e w) × (i ≡ number w r))
        (λ i h. (e.root, reached-root e, sym (some-injective (sym (follow-nil on-numbers.link (some on-numbers.root)) ∙ h))))
        (λ p f _ i h.
        let (v, _, l) = follow-last on-numbers.link (some on-numbers.root) p f i h in
        number_source (node v) (node-reached v) f (e.link (node v) f) refl l)

    exact : Exact node on-numbers e
    unfolding on-numbers number
    exact =
        record {
          root = node-number e.root (reached-root e);
          links = λ i f _. number-link (node i) (node-reached i) f (e.link (node i) f) refl;
          labels = λ i _. refl;
          injective = λ i j r q h.
              let (v, a, c) = reached-number r.0 i r.1 in
              let (w, b, d) = reached-number q.0 j q.1 in
              c ∙
              place_same v w sound.nodes (apart v ((sound.listed v).0 a)) (apart w ((sound.listed w).0 b))
              (sym (ap node c ∙ node-number v a) ∙ h ∙ ap node d ∙ node-number w b) ∙
              sym d;
        }

  -- What is refuted for every graph on numbers that means the same is refuted.
  pub refute-on-numbers : ((k : Graph 𝓛.L ℕ) → SameMeaning 𝓛 e k → ⊥) → ⊥
  refute-on-numbers refuted =
      all_apart sound.nodes sound.nodes (λ apart. refuted (on-numbers apart) (same-sym (exact_same (exact apart))))
