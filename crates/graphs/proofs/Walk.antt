-- This file has the laws of walks: along two paths in turn, with one feature more at the end, and to the nodes that are reached.
use mathlib.Core.Path.{◌≡◌, refl, sym, ◌∙◌, ap}
use mathlib.Core.List.{List, [], ◌∷◌, ◌++◌, append-nil, append_assoc}
use mathlib.Core.Option.{Option, none, some, map, map-id}
use Prim.Native.Nat.{ℕ}
use native.Mathlib.Omega.{arith}
use Rattle.graphs.specs.Graph.{Graph, step, follow, walk, Reached}

pub some-injective : {A : Type 0} {v w : A} → ◌≡◌ {A = Option A} (some v) (some w) → v ≡ w
some-injective e = cc

pub none-some : {A : Type 0} {v : A} {C : Type 0} → ◌≡◌ {A = Option A} none (some v) → C
none-some e = let z : ◌≡◌ {A = ℕ} 0 1 = cc in absurd (omega arith)

-- an option holds at most one value
pub some-unique : {A : Type 0} {o : Option A} {v w : A} → o ≡ some v → o ≡ some w → v ≡ w
some-unique d e = some-injective (sym d ∙ e)

-- naming a value by itself changes nothing
pub option-same : {A : Type 0} (o : Option A) → o ≡ map (λ x. x) o
option-same o = ap (λ h. h o) (sym map-id)

-- Induction over a list from its end.
pub snoc-induction :
    (P : List ℕ → Type 0) → P [] → ((p : List ℕ) (f : ℕ) → P p → P (p ++ (f ∷ []))) → (p : List ℕ) → P p
snoc-induction P base more p = go [] p base
  where
    go : (q p : List ℕ) → P q → P (q ++ p)
    go q [] h = rw append-nil h
    go q (f ∷ p) h = rw append_assoc at (go (q ++ (f ∷ [])) p (more q f h))

module _ {A : Type 0} (link : A → ℕ → Option A) where
  pub follow-none : (p : List ℕ) → follow link none p ≡ none
  unfolding follow
  follow-none [] = refl
  follow-none (f ∷ p) = follow-none p

  -- a walk that ends somewhere begins somewhere
  pub follow-start : (o : Option A) (p : List ℕ) (x : A) → follow link o p ≡ some x → (v : A) × (o ≡ some v)
  follow-start none p x e = none-some (sym (follow-none p) ∙ e)
  follow-start (some v) p x e = (v, refl)

  pub follow-append : (o : Option A) (p q : List ℕ) → follow link o (p ++ q) ≡ follow link (follow link o p) q
  unfolding follow
  follow-append o [] q = refl
  follow-append o (f ∷ p) q = follow-append (step link o f) p q

  pub follow-nil : (o : Option A) → follow link o [] ≡ o
  unfolding follow
  follow-nil o = refl

  pub follow-snoc : (o : Option A) (p : List ℕ) (f : ℕ) → follow link o (p ++ (f ∷ [])) ≡ step link (follow link o p) f
  unfolding follow
  follow-snoc o p f = follow-append o p (f ∷ [])

  -- a walk with one feature more passes a node before its end, and the link by that feature leads on
  pub follow-last : (o : Option A) (p : List ℕ) (f : ℕ) (w : A) → follow link o (p ++ (f ∷ [])) ≡ some w →
      (v : A) × (follow link o p ≡ some v) × (link v f ≡ some w)
  follow-last o p f w e = go (follow link o p) refl (sym (follow-snoc o p f) ∙ e)
    where
      go : (x : Option A) → follow link o p ≡ x → step link (follow link o p) f ≡ some w →
          (v : A) × (follow link o p ≡ some v) × (link v f ≡ some w)
      go none h e = none-some (sym (ap (λ x. step link x f) h) ∙ e)
      go (some v) h e = (v, h, sym (ap (λ x. step link x f) h) ∙ e)

pub reached-root : {L A : Type 0} (g : Graph L A) → Reached g g.root
unfolding follow
reached-root g = ([], refl)

-- a walk goes on from where it stands
pub walk-append : {L A : Type 0} (g : Graph L A) {v : A} (p q : List ℕ) → walk g p ≡ some v →
    walk g (p ++ q) ≡ follow g.link (some v) q
walk-append g p q e = follow-append g.link (some g.root) p q ∙ ap (λ x. follow g.link x q) e

pub walk-snoc : {L A : Type 0} (g : Graph L A) {v : A} (p : List ℕ) (f : ℕ) → walk g p ≡ some v →
    walk g (p ++ (f ∷ [])) ≡ g.link v f
unfolding follow
walk-snoc g p f e = walk-append g p (f ∷ []) e

pub reached-link : {L A : Type 0} (g : Graph L A) {v w : A} (f : ℕ) → Reached g v → g.link v f ≡ some w → Reached g w
reached-link g f r l = (r.0 ++ (f ∷ []), walk-snoc g r.0 f r.1 ∙ l)
