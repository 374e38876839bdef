-- This file shows that the computed order is the order over paths. The pairs of nodes that one path leads to are listed. All pairs fit
-- exactly where the paths of g are paths of s with labels below, and no node of g meets two nodes of s exactly where paths that share
-- in g share in s.
use mathlib.Core.Path.{◌≡◌, refl, sym, ◌∙◌, ap}
use mathlib.Core.Bool.{Bool, true, false, not, ◌||◌}
use mathlib.Core.List.Memᴰ
use mathlib.Core.List.{List, [], ◌∷◌, ◌++◌, Memᴰ}
use mathlib.Core.Logic.{◌↔◌}
use mathlib.Core.Option.{Option, none, some}
use Prim.Native.Nat.{ℕ, ◌<◌}
use native.Mathlib.Omega.{arith}
use lib.ListN.{length}
use Rattle.graphs.specs.Label.{Labels}
use Rattle.graphs.specs.Graph.{Graph, TellsApart, follow, walk, Reached, Below}
use Rattle.graphs.specs.Relations.{LiesOver}
use Rattle.graphs.specs.Rows.{features}
use Rattle.graphs.specs.Generalize.{both, generalization_by, generalization}
use Rattle.graphs.specs.Order.{all_of, meetings, there, fits_at, shares_at, subsumes}
use Rattle.graphs.proofs.Walk.{none-some, some-unique, snoc-induction, follow-nil, follow-last, walk-snoc}
use Rattle.graphs.proofs.Lists.{mem-features}
use Rattle.graphs.proofs.Finite.{within-reached, reached-within}
use Rattle.graphs.proofs.Product.{both_some, product-walk}
use Rattle.graphs.proofs.Search.{both_true, true-both}

pub all_of-true : {X : Type 0} (xs : List X) (test : X → Bool) → all_of xs test ≡ true → (x : X) → Memᴰ x xs → test x ≡ true
unfolding all_of
all_of-true [] test e x m = absurd (Memᴰ.not-nil m)
all_of-true (y ∷ ys) test e x (Memᴰ.head q) = ap test q ∙ (both_true (test y) (all_of ys test) e).0
all_of-true (y ∷ ys) test e x (Memᴰ.tail m) = all_of-true ys test (both_true (test y) (all_of ys test) e).1 x m

pub true-all_of : {X : Type 0} (xs : List X) (test : X → Bool) → ((x : X) → Memᴰ x xs → test x ≡ true) → all_of xs test ≡ true
unfolding all_of
true-all_of [] test h = refl
true-all_of (y ∷ ys) test h =
    true-both (test y) (all_of ys test) (h y (Memᴰ.head refl)) (true-all_of ys test (λ x m. h x (Memᴰ.tail m)))

there-some : {X Y : Type 0} (o : Option X) (i : Option Y) {x : X} → there o i ≡ true → o ≡ some x → (y : Y) × (i ≡ some y)
there-some none i e q = none-some q
there-some (some z) none e q = let k : ◌≡◌ {A = ℕ} 0 1 = cc in absurd (omega arith)
there-some (some z) (some y) e q = (y, refl)

some-there : {X Y : Type 0} (o : Option X) (i : Option Y) → ((x : X) → o ≡ some x → (y : Y) × (i ≡ some y)) → there o i ≡ true
some-there none i h = refl
some-there (some x) none h = none-some (h x refl).1
some-there (some x) (some y) h = refl

module _ (𝓛 : Labels) {A B : Type 0} (sameA : A → A → Bool) (sameB : B → B → Bool) (tells_a : TellsApart sameA) (tells_b : TellsApart sameB)
    (s : Graph 𝓛.L A) (g : Graph 𝓛.L B) (narrow : (v w : B) (f : ℕ) → Reached g v → g.link v f ≡ some w → f < 64) (k : ℕ)
    (short : (p : List ℕ) (v : B) → walk g p ≡ some v → length p < k) where
  -- one path leads to both nodes of the pair
  abbrev pub Together : A × B → Type 0
  Together x = LiesOver g s x.0 x.1

  pub listed-together : (x : A × B) → Memᴰ x (meetings s g k) → Together x
  unfolding generalization_by
  listed-together x m =
      let (p, e) = within-reached (generalization 𝓛 s g).link k (some (s.root, g.root)) x m in
      let (a, b) = both_some (walk s p) (walk g p) (sym (product-walk 𝓛 s g p) ∙ e) in
      (p, a, b)

  pub together-listed : (x : A × B) → Together x → Memᴰ x (meetings s g k)
  unfolding generalization_by
  together-listed x (p, a, b) =
      reached-within (generalization 𝓛 s g).link k (some (s.root, g.root)) p x small (short p x.1 b) (product-walk 𝓛 s g p ∙ joined)
    where
      joined : both (walk s p) (walk g p) ≡ some x
      joined = ap (λ o. both o (walk g p)) a ∙ ap (both (some x.0)) b

      small : (q : List ℕ) (v w : A × B) (f : ℕ) → follow (generalization 𝓛 s g).link (some (s.root, g.root)) q ≡ some v →
          (generalization 𝓛 s g).link v f ≡ some w → f < 64
      small q v w f e l =
          narrow v.1 w.1 f (q, (both_some (walk s q) (walk g q) (sym (product-walk 𝓛 s g q) ∙ e)).1)
          (both_some (s.link v.0 f) (g.link v.1 f) l).1

  -- From the tests to the order.

  module _ (e : subsumes 𝓛 sameA sameB s g k ≡ true) where
    fits : (x : A × B) → Together x → fits_at 𝓛 sameA sameB s g x ≡ true
    unfolding subsumes
    fits x t =
        let xs = meetings s g k in
        all_of-true xs (fits_at 𝓛 sameA sameB s g)
        (both_true (all_of xs (fits_at 𝓛 sameA sameB s g)) (all_of xs λ x. all_of xs (shares_at 𝓛 sameA sameB s g x)) e).0 x (together-listed x t)

    shares : (x y : A × B) → Together x → Together y → x.1 ≡ y.1 → x.0 ≡ y.0
    unfolding subsumes
    shares x y t u q =
        let xs = meetings s g k in
        let all = (both_true (all_of xs (fits_at 𝓛 sameA sameB s g)) (all_of xs λ x. all_of xs (shares_at 𝓛 sameA sameB s g x)) e).1 in
        let one = all_of-true xs (λ x. all_of xs (shares_at 𝓛 sameA sameB s g x)) all x (together-listed x t) in
        either (sameB x.1 y.1) ((tells_b x.1 y.1).1 q) (all_of-true xs (shares_at 𝓛 sameA sameB s g x) one y (together-listed y u))
      where
        either : (b : Bool) → b ≡ true → (not b || sameA x.0 y.0) ≡ true → x.0 ≡ y.0
        either true h o = (tells_a x.0 y.0).0 o
        either false h o = let z : ◌≡◌ {A = ℕ} 0 1 = cc in absurd (omega arith)

    label-fits : (x : A × B) → Together x → 𝓛.le (s.label x.0) (g.label x.1) ≡ true
    unfolding fits_at
    label-fits x t =
        (both_true (𝓛.le (s.label x.0) (g.label x.1)) (all_of features λ f. there (g.link x.1 f) (s.link x.0 f)) (fits x t)).0

    link_fits : (x : A × B) → Together x → (f : ℕ) (w : B) → g.link x.1 f ≡ some w → (v : A) × (s.link x.0 f ≡ some v)
    unfolding fits_at
    link_fits x t f w l =
        there-some (g.link x.1 f) (s.link x.0 f)
        (all_of-true features (λ f. there (g.link x.1 f) (s.link x.0 f))
        (both_true (𝓛.le (s.label x.0) (g.label x.1)) (all_of features λ f. there (g.link x.1 f) (s.link x.0 f)) (fits x t)).1
        f (mem-features f (narrow x.1 w f (t.0, t.2) l))) l

    both-walk : (p : List ℕ) (w : B) → walk g p ≡ some w → (v : A) × (walk s p ≡ some v)
    both-walk p =
        snoc-induction (λ q. (w : B) → walk g q ≡ some w → (v : A) × (walk s q ≡ some v))
        (λ w h. (s.root, follow-nil s.link (some s.root)))
        (λ q f ih w h.
        let (u, hu, l) = follow-last g.link (some g.root) q f w h in
        let (t, ht) = ih u hu in
        let (v, m) = link_fits (t, u) (q, ht, hu) f w l in
        (v, walk-snoc s q f ht ∙ m))
        p

    subsumes-below : Below 𝓛 s g
    subsumes-below =
        record {
          paths = λ p w h. let (v, m) = both-walk p w h in (v, m, label-fits (v, w) (p, m, h));
          corefers = λ p q (w, hp, hq).
              let (v, mp) = both-walk p w hp in
              let (u, mq) = both-walk q w hq in
              (v, mp, mq ∙ ap some (sym (shares (v, w) (u, w) (p, mp, hp) (q, mq, hq) refl)));
        }

  -- From the order to the tests.

  module _ (b : Below 𝓛 s g) where
    below-fits : (x : A × B) → Together x → fits_at 𝓛 sameA sameB s g x ≡ true
    unfolding fits_at
    below-fits x (p, hs, hg) =
        true-both (𝓛.le (s.label x.0) (g.label x.1)) (all_of features λ f. there (g.link x.1 f) (s.link x.0 f))
        (let (v, h, l) = b.paths p x.1 hg in
        ap (λ (u : A). 𝓛.le (s.label u) (g.label x.1)) (some-unique hs h) ∙ l)
        (true-all_of features (λ f. there (g.link x.1 f) (s.link x.0 f))
        (λ f _. some-there (g.link x.1 f) (s.link x.0 f)
        (λ w l. let (v, h, _) = b.paths (p ++ (f ∷ [])) w (walk-snoc g p f hg ∙ l) in (v, sym (walk-snoc s p f hs) ∙ h))))

    below-shares : (x y : A × B) → Together x → Together y → shares_at 𝓛 sameA sameB s g x y ≡ true
    below-shares x y (p, hs, hg) (q, is, ig) = go (sameB x.1 y.1) refl
      where
        go : (t : Bool) → sameB x.1 y.1 ≡ t → (not t || sameA x.0 y.0) ≡ true
        go false e = refl
        go true e =
            let (v, hp, hq) = b.corefers p q (x.1, hg, ig ∙ ap some (sym ((tells_b x.1 y.1).0 e))) in
            (tells_a x.0 y.0).1 (some-unique hs hp ∙ some-unique hq is)

    below-subsumes : subsumes 𝓛 sameA sameB s g k ≡ true
    unfolding subsumes
    below-subsumes =
        let xs = meetings s g k in
        true-both (all_of xs (fits_at 𝓛 sameA sameB s g)) (all_of xs λ x. all_of xs (shares_at 𝓛 sameA sameB s g x))
        (true-all_of xs (fits_at 𝓛 sameA sameB s g) (λ x m. below-fits x (listed-together x m)))
        (true-all_of xs (λ x. all_of xs (shares_at 𝓛 sameA sameB s g x))
        (λ x m. true-all_of xs (shares_at 𝓛 sameA sameB s g x) (λ y n. below-shares x y (listed-together x m) (listed-together y n))))

  -- The computed order is the order over paths.
  pub subsumes-exact : (subsumes 𝓛 sameA sameB s g k ≡ true) ↔ Below 𝓛 s g
  subsumes-exact = (subsumes-below, below-subsumes)
