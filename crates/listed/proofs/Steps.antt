-- How seven numbers are raised, place by place from the last.
use mathlib.Core.Path.{◌≡◌, refl, ◌∙◌, ap, ap₂}
use mathlib.Core.Bool.{Bool, true, false, cond, ◌&&◌}
use mathlib.Core.List.{List, [], ◌∷◌}
use mathlib.Core.Option.{Option, none, some, map, or_else}
use Prim.Native.Nat.{ℕ, suc, ◌+◌, ◌-◌, ◌≤◌, ◌<◌}
use native.Mathlib.Omega.{arith}
use borrow.Author.Tests.{lt-ltb, le-ltb}
use lib.Dec.{eqb, leb, ltb}
use lib.ListN.{length}
use Rattle.listed.specs.Listing.{type_span, root_span, middle_span, last_span, span, raised, least_run}
use Rattle.listed.specs.Numbers.{least_behind1, least_links1, least_type1, least_links0}

module _ (bounds : List ℕ → ℕ × ℕ) (p : List ℕ) (x : ℕ) (xs : List ℕ) where
  later : (zs : List ℕ) → raised bounds (x ∷ p) xs ≡ some zs → raised bounds p (x ∷ xs) ≡ some (x ∷ zs)
  unfolding raised or_else
  later zs e =
      ap (λ (o : Option (List ℕ)). or_else (map (λ ys. x ∷ ys) o) (cond (ltb x (bounds p).1) (some (suc x ∷ least_run bounds (length xs) (suc x ∷ p))) none)) e

  here : raised bounds (x ∷ p) xs ≡ none → x < (bounds p).1 → raised bounds p (x ∷ xs) ≡ some ((x + 1) ∷ least_run bounds (length xs) ((x + 1) ∷ p))
  unfolding raised or_else
  here e h =
      let one : suc x ≡ x + 1 = omega arith in
      ap (λ (o : Option (List ℕ)). or_else (map (λ ys. x ∷ ys) o) (cond (ltb x (bounds p).1) (some (suc x ∷ least_run bounds (length xs) (suc x ∷ p))) none)) e
      ∙ ap (λ (b : Bool). cond {A = Option (List ℕ)} b (some (suc x ∷ least_run bounds (length xs) (suc x ∷ p))) none) (lt-ltb x (bounds p).1 h)
      ∙ ap (λ (y : ℕ). some (y ∷ least_run bounds (length xs) (y ∷ p))) one

  neither : raised bounds (x ∷ p) xs ≡ none → (bounds p).1 ≤ x → raised bounds p (x ∷ xs) ≡ none
  unfolding raised or_else
  neither e h =
      ap (λ (o : Option (List ℕ)). or_else (map (λ ys. x ∷ ys) o) (cond (ltb x (bounds p).1) (some (suc x ∷ least_run bounds (length xs) (suc x ∷ p))) none)) e
      ∙ ap (λ (b : Bool). cond {A = Option (List ℕ)} b (some (suc x ∷ least_run bounds (length xs) (suc x ∷ p))) none) (le-ltb x (bounds p).1 h)

type-low : (n : ℕ) (b : Bool) → (type_span n b).0 ≡ cond b 1 0
type-low n true = refl
type-low n false = refl

last-low : (N c₀ c₁ : ℕ) → (last_span N c₀ c₁).0 ≡ 0
last-low N c₀ c₁ = go (eqb N 3 && eqb c₀ 4 && eqb c₁ 0)
  where
    go : (b : Bool) → (cond {A = ℕ × ℕ} b (0, 3) (0, 0)).0 ≡ 0
    go true = refl
    go false = refl

module _ (n F N t₀ c₀ : ℕ) where
  least-behind : (t₁ c₁ : ℕ) → least_run (span n F) 2 (c₁ ∷ t₁ ∷ c₀ ∷ t₀ ∷ N ∷ []) ≡ least_behind1 N
  unfolding least_run span
  least-behind t₁ c₁ = ap₂ {C = List ℕ} (λ (a b : ℕ). a ∷ b ∷ []) (type-low n (eqb N 3)) (last-low N c₀ c₁)

  least-links : (t₁ : ℕ) → least_run (span n F) 3 (t₁ ∷ c₀ ∷ t₀ ∷ N ∷ []) ≡ least_links1 F N c₀
  unfolding least_run span
  least-links t₁ = ap {B = List ℕ} (λ (l : List ℕ). (middle_span F N c₀).0 ∷ l) (least-behind t₁ (middle_span F N c₀).0)

  least_type : least_run (span n F) 4 (c₀ ∷ t₀ ∷ N ∷ []) ≡ least_type1 F N c₀
  unfolding least_run span
  least_type = ap₂ {C = List ℕ} (λ (a : ℕ) (l : List ℕ). a ∷ l) (type-low n (leb 2 N)) (least-links (type_span n (leb 2 N)).0)

pub least-root : (n F N t₀ : ℕ) → least_run (span n F) 5 (t₀ ∷ N ∷ []) ≡ least_links0 F N
unfolding least_run span
least-root n F N t₀ = ap {B = List ℕ} (λ (l : List ℕ). (root_span F N).0 ∷ l) (least_type n F N t₀ (root_span F N).0)

module _ (n F N t₀ c₀ t₁ c₁ t₂ c₂ : ℕ) where
  abbrev whole : Option (List ℕ)
  whole = raised (span n F) [] (N ∷ t₀ ∷ c₀ ∷ t₁ ∷ c₁ ∷ t₂ ∷ c₂ ∷ [])

  -- Raising a later place leaves the places before it.
  front₁ : (zs : List ℕ) → raised (span n F) (t₁ ∷ c₀ ∷ t₀ ∷ N ∷ []) (c₁ ∷ t₂ ∷ c₂ ∷ []) ≡ some zs → whole ≡ some (N ∷ t₀ ∷ c₀ ∷ t₁ ∷ zs)
  front₁ zs e =
      later (span n F) [] N (t₀ ∷ c₀ ∷ t₁ ∷ c₁ ∷ t₂ ∷ c₂ ∷ []) (t₀ ∷ c₀ ∷ t₁ ∷ zs)
      (later (span n F) (N ∷ []) t₀ (c₀ ∷ t₁ ∷ c₁ ∷ t₂ ∷ c₂ ∷ []) (c₀ ∷ t₁ ∷ zs)
      (later (span n F) (t₀ ∷ N ∷ []) c₀ (t₁ ∷ c₁ ∷ t₂ ∷ c₂ ∷ []) (t₁ ∷ zs)
      (later (span n F) (c₀ ∷ t₀ ∷ N ∷ []) t₁ (c₁ ∷ t₂ ∷ c₂ ∷ []) zs e)))

  none₂ : (last_span N c₀ c₁).1 ≤ c₂ → raised (span n F) (t₂ ∷ c₁ ∷ t₁ ∷ c₀ ∷ t₀ ∷ N ∷ []) (c₂ ∷ []) ≡ none
  unfolding raised span
  none₂ h = neither (span n F) (t₂ ∷ c₁ ∷ t₁ ∷ c₀ ∷ t₀ ∷ N ∷ []) c₂ [] refl h

  none₁ : (last_span N c₀ c₁).1 ≤ c₂ → (type_span n (eqb N 3)).1 ≤ t₂ → raised (span n F) (c₁ ∷ t₁ ∷ c₀ ∷ t₀ ∷ N ∷ []) (t₂ ∷ c₂ ∷ []) ≡ none
  unfolding span
  none₁ h k = neither (span n F) (c₁ ∷ t₁ ∷ c₀ ∷ t₀ ∷ N ∷ []) t₂ (c₂ ∷ []) (none₂ h) k

  pub up-links2 : c₂ < (last_span N c₀ c₁).1 → whole ≡ some (N ∷ t₀ ∷ c₀ ∷ t₁ ∷ c₁ ∷ t₂ ∷ (c₂ + 1) ∷ [])
  unfolding raised span least_run
  up-links2 h =
      front₁ (c₁ ∷ t₂ ∷ (c₂ + 1) ∷ [])
      (later (span n F) (t₁ ∷ c₀ ∷ t₀ ∷ N ∷ []) c₁ (t₂ ∷ c₂ ∷ []) (t₂ ∷ (c₂ + 1) ∷ [])
      (later (span n F) (c₁ ∷ t₁ ∷ c₀ ∷ t₀ ∷ N ∷ []) t₂ (c₂ ∷ []) ((c₂ + 1) ∷ []) (here (span n F) (t₂ ∷ c₁ ∷ t₁ ∷ c₀ ∷ t₀ ∷ N ∷ []) c₂ [] refl h)))

  pub up-type2 : (last_span N c₀ c₁).1 ≤ c₂ → t₂ < (type_span n (eqb N 3)).1 → whole ≡ some (N ∷ t₀ ∷ c₀ ∷ t₁ ∷ c₁ ∷ (t₂ + 1) ∷ 0 ∷ [])
  unfolding raised span least_run
  up-type2 h k =
      front₁ (c₁ ∷ (t₂ + 1) ∷ 0 ∷ [])
      (later (span n F) (t₁ ∷ c₀ ∷ t₀ ∷ N ∷ []) c₁ (t₂ ∷ c₂ ∷ []) ((t₂ + 1) ∷ 0 ∷ [])
      (here (span n F) (c₁ ∷ t₁ ∷ c₀ ∷ t₀ ∷ N ∷ []) t₂ (c₂ ∷ []) (none₂ h) k ∙ ap (λ (l : ℕ). some ((t₂ + 1) ∷ l ∷ [])) (last-low N c₀ c₁)))

  pub up-links1 : (last_span N c₀ c₁).1 ≤ c₂ → (type_span n (eqb N 3)).1 ≤ t₂ → c₁ < (middle_span F N c₀).1 →
      whole ≡ some (N ∷ t₀ ∷ c₀ ∷ t₁ ∷ (c₁ + 1) ∷ least_behind1 N)
  unfolding span
  up-links1 h k l =
      front₁ ((c₁ + 1) ∷ least_behind1 N)
      (here (span n F) (t₁ ∷ c₀ ∷ t₀ ∷ N ∷ []) c₁ (t₂ ∷ c₂ ∷ []) (none₁ h k) l ∙ ap (λ (ls : List ℕ). some ((c₁ + 1) ∷ ls)) (least-behind n F N t₀ c₀ t₁ (c₁ + 1)))

  -- Nothing behind the type of node 1 can be raised.
  abbrev pub Stuck : Type 0
  Stuck = raised (span n F) (t₁ ∷ c₀ ∷ t₀ ∷ N ∷ []) (c₁ ∷ t₂ ∷ c₂ ∷ []) ≡ none

  pub stuck : (last_span N c₀ c₁).1 ≤ c₂ → (type_span n (eqb N 3)).1 ≤ t₂ → (middle_span F N c₀).1 ≤ c₁ → Stuck
  unfolding span
  stuck h k l = neither (span n F) (t₁ ∷ c₀ ∷ t₀ ∷ N ∷ []) c₁ (t₂ ∷ c₂ ∷ []) (none₁ h k) l

  pub up-type1 : Stuck → t₁ < (type_span n (leb 2 N)).1 → whole ≡ some (N ∷ t₀ ∷ c₀ ∷ (t₁ + 1) ∷ least_links1 F N c₀)
  unfolding span
  up-type1 s h =
      later (span n F) [] N (t₀ ∷ c₀ ∷ t₁ ∷ c₁ ∷ t₂ ∷ c₂ ∷ []) (t₀ ∷ c₀ ∷ (t₁ + 1) ∷ least_links1 F N c₀)
      (later (span n F) (N ∷ []) t₀ (c₀ ∷ t₁ ∷ c₁ ∷ t₂ ∷ c₂ ∷ []) (c₀ ∷ (t₁ + 1) ∷ least_links1 F N c₀)
      (later (span n F) (t₀ ∷ N ∷ []) c₀ (t₁ ∷ c₁ ∷ t₂ ∷ c₂ ∷ []) ((t₁ + 1) ∷ least_links1 F N c₀)
      (here (span n F) (c₀ ∷ t₀ ∷ N ∷ []) t₁ (c₁ ∷ t₂ ∷ c₂ ∷ []) s h ∙ ap (λ (ls : List ℕ). some ((t₁ + 1) ∷ ls)) (least-links n F N t₀ c₀ (t₁ + 1)))))

  stuck₁ : Stuck → (type_span n (leb 2 N)).1 ≤ t₁ → raised (span n F) (c₀ ∷ t₀ ∷ N ∷ []) (t₁ ∷ c₁ ∷ t₂ ∷ c₂ ∷ []) ≡ none
  unfolding span
  stuck₁ s h = neither (span n F) (c₀ ∷ t₀ ∷ N ∷ []) t₁ (c₁ ∷ t₂ ∷ c₂ ∷ []) s h

  pub up-links0 : Stuck → (type_span n (leb 2 N)).1 ≤ t₁ → c₀ < (root_span F N).1 → whole ≡ some (N ∷ t₀ ∷ (c₀ + 1) ∷ least_type1 F N (c₀ + 1))
  unfolding span
  up-links0 s h k =
      later (span n F) [] N (t₀ ∷ c₀ ∷ t₁ ∷ c₁ ∷ t₂ ∷ c₂ ∷ []) (t₀ ∷ (c₀ + 1) ∷ least_type1 F N (c₀ + 1))
      (later (span n F) (N ∷ []) t₀ (c₀ ∷ t₁ ∷ c₁ ∷ t₂ ∷ c₂ ∷ []) ((c₀ + 1) ∷ least_type1 F N (c₀ + 1))
      (here (span n F) (t₀ ∷ N ∷ []) c₀ (t₁ ∷ c₁ ∷ t₂ ∷ c₂ ∷ []) (stuck₁ s h) k ∙ ap (λ (ls : List ℕ). some ((c₀ + 1) ∷ ls)) (least_type n F N t₀ (c₀ + 1))))

  stuck₀ : Stuck → (type_span n (leb 2 N)).1 ≤ t₁ → (root_span F N).1 ≤ c₀ → raised (span n F) (t₀ ∷ N ∷ []) (c₀ ∷ t₁ ∷ c₁ ∷ t₂ ∷ c₂ ∷ []) ≡ none
  unfolding span
  stuck₀ s h k = neither (span n F) (t₀ ∷ N ∷ []) c₀ (t₁ ∷ c₁ ∷ t₂ ∷ c₂ ∷ []) (stuck₁ s h) k

  pub up-type0 : Stuck → (type_span n (leb 2 N)).1 ≤ t₁ → (root_span F N).1 ≤ c₀ → t₀ < n - 1 → whole ≡ some (N ∷ (t₀ + 1) ∷ least_links0 F N)
  unfolding span
  up-type0 s h k l =
      later (span n F) [] N (t₀ ∷ c₀ ∷ t₁ ∷ c₁ ∷ t₂ ∷ c₂ ∷ []) ((t₀ + 1) ∷ least_links0 F N)
      (here (span n F) (N ∷ []) t₀ (c₀ ∷ t₁ ∷ c₁ ∷ t₂ ∷ c₂ ∷ []) (stuck₀ s h k) l ∙ ap (λ (ls : List ℕ). some ((t₀ + 1) ∷ ls)) (least-root n F N (t₀ + 1)))

  pub up-nodes : Stuck → (type_span n (leb 2 N)).1 ≤ t₁ → (root_span F N).1 ≤ c₀ → n - 1 ≤ t₀ → N < 3 → whole ≡ some ((N + 1) ∷ 1 ∷ least_links0 F (N + 1))
  unfolding span least_run
  up-nodes s h k l m =
      here (span n F) [] N (t₀ ∷ c₀ ∷ t₁ ∷ c₁ ∷ t₂ ∷ c₂ ∷ []) (neither (span n F) (N ∷ []) t₀ (c₀ ∷ t₁ ∷ c₁ ∷ t₂ ∷ c₂ ∷ []) (stuck₀ s h k) l) m
      ∙ ap (λ (ls : List ℕ). some ((N + 1) ∷ 1 ∷ ls)) (least-root n F (N + 1) 1)

  pub at-end : Stuck → (type_span n (leb 2 N)).1 ≤ t₁ → (root_span F N).1 ≤ c₀ → n - 1 ≤ t₀ → 3 ≤ N → whole ≡ none
  unfolding span
  at-end s h k l m =
      neither (span n F) [] N (t₀ ∷ c₀ ∷ t₁ ∷ c₁ ∷ t₂ ∷ c₂ ∷ []) (neither (span n F) (N ∷ []) t₀ (c₀ ∷ t₁ ∷ c₁ ∷ t₂ ∷ c₂ ∷ []) (stuck₀ s h k) l) m
