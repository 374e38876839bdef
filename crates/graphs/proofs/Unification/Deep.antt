-- This file is about long walks. `deep` answers whether a walk of a given length starts at a node (`deep-walk`, `walk-deep`). A walk that
-- has as many links as a list of all nodes that its start reaches is long comes back to one of them (`long-loop`), and a loop can be
-- walked for ever (`loop-walk`). The loop itself is found, so a test that tells nodes apart is asked for.
use mathlib.Core.Path.{◌≡◌, refl, sym, ◌∙◌, ap}
use mathlib.Core.Bool.{Bool, true}
use mathlib.Core.List.Memᴰ
use mathlib.Core.List.{
  List,
  [],
  ◌∷◌,
  ◌++◌,
  Memᴰ,
}
use mathlib.Core.Logic.{◌⊎◌, inl, inr, ⊎_elim}
use mathlib.Core.Option.{Option, none, some}
use Prim.Native.Nat.{ℕ, zero, suc, ◌<◌, ◌≤◌}
use native.Mathlib.Omega.{arith}
use lib.ListN.{length, length-append}
use Rattle.graphs.specs.Graph.{TellsApart, follow}
use Rattle.graphs.specs.Rows.{features}
use Rattle.graphs.specs.Unify.{holds, deep}
use Rattle.graphs.proofs.Walk.{none-some, follow-none, follow-append, follow-start}
use Rattle.graphs.proofs.Below.{member-decided}
use Rattle.graphs.proofs.Lists.{remove, mem-features}
use Rattle.graphs.proofs.Search.{true-false, listed-length, any_of-true, any_of-finds}

module _ {N : Type 0} (link : N → ℕ → Option N) where
  -- a node that a walk leads to and that reaches itself
  abbrev pub Loop : Option N → Type 0
  Loop o =
      (x : N) × (f : ℕ) × (p : List ℕ) × ((q : List ℕ) × (follow link o q ≡ some x)) × (follow link (some x) (f ∷ p) ≡ some x)

  pub deep-walk : (k : ℕ) (v : N) → deep link k v ≡ true →
      (p : List ℕ) × (x : N) × (length p ≡ k) × (follow link (some v) p ≡ some x)
  unfolding deep follow
  deep-walk zero v e = ([], v, refl, refl)
  deep-walk (suc k) v e =
      let (f, _, d) = any_of-true (λ f. holds (deep link k) (link v f)) features e in
      go f (link v f) refl d (deep-walk k)
    where
      go : (f : ℕ) (o : Option N) → link v f ≡ o → holds (deep link k) o ≡ true →
          ((w : N) → deep link k w ≡ true → (p : List ℕ) × (x : N) × (length p ≡ k) × (follow link (some w) p ≡ some x)) →
          (p : List ℕ) × (x : N) × (length p ≡ suc k) × (follow link (some v) p ≡ some x)
      go f none d e later = true-false e refl
      go f (some w) d e later =
          let (p, x, n, a) = later w e in (f ∷ p, x, ap suc n, ap (λ o. follow link o p) d ∙ a)

  pub walk-deep : (k : ℕ) (v : N) (p : List ℕ) (x : N) →
      ((q : List ℕ) (y z : N) (f : ℕ) → follow link (some v) q ≡ some y → link y f ≡ some z → f < 64) →
      follow link (some v) p ≡ some x → k ≤ length p → deep link k v ≡ true
  unfolding deep follow
  walk-deep zero v p x small e h = refl
  walk-deep (suc k) v [] x small e h = absurd (omega arith)
  walk-deep (suc k) v (f ∷ p) x small e h =
      let (w, d) = follow-start link (link v f) p x e in
      any_of-finds (λ f. holds (deep link k) (link v f)) features f (mem-features f (small [] v w f refl d))
      (ap (holds (deep link k)) d ∙ walk-deep k w p x
      (λ q y z i a b. small (f ∷ q) y z i (ap (λ o. follow link o q) d ∙ a) b)
      (ap (λ o. follow link o p) (sym d) ∙ e) (omega arith))

  -- the nodes on a walk
  stops : List ℕ → Option N → List N
  stops [] none = []
  stops [] (some v) = v ∷ []
  stops (f ∷ p) none = []
  stops (f ∷ p) (some v) = v ∷ stops p (link v f)

  stops-length : (p : List ℕ) (o : Option N) (x : N) → follow link o p ≡ some x → length (stops p o) ≡ suc (length p)
  unfolding stops follow
  stops-length [] none x e = none-some e
  stops-length [] (some v) x e = refl
  stops-length (f ∷ p) none x e = none-some (sym (follow-none link p) ∙ e)
  stops-length (f ∷ p) (some v) x e = ap suc (stops-length p (link v f) x e)

  stops-walk : (p : List ℕ) (o : Option N) (y : N) → Memᴰ y (stops p o) → (q : List ℕ) × (follow link o q ≡ some y)
  unfolding stops follow
  stops-walk [] none y m = absurd (Memᴰ.not-nil m)
  stops-walk [] (some v) y m = ([], ap some (sym (Memᴰ.eq_of_singleton m)))
  stops-walk (f ∷ p) none y m = absurd (Memᴰ.not-nil m)
  stops-walk (f ∷ p) (some v) y m = go (Memᴰ.cases_cons m) (stops-walk p (link v f) y)
    where
      go : (y ≡ v) ⊎ Memᴰ y (stops p (link v f)) →
          (Memᴰ y (stops p (link v f)) → (q : List ℕ) × (follow link (link v f) q ≡ some y)) →
          (q : List ℕ) × (follow link (some v) q ≡ some y)
      go (inl e) later = ([], ap some (sym e))
      go (inr n) later = let (q, e) = later n in (f ∷ q, e)

  module _ (same : N → N → Bool) (tells : TellsApart same) where
    -- Take the start from the list: either the walk comes back to it, or the rest of the walk lies in the rest of the list.
    loop-found : (p : List ℕ) (o : Option N) (l : List N) → ((y : N) → Memᴰ y (stops p o) → Memᴰ y l) →
        length l < length (stops p o) → Loop o
    unfolding stops follow
    loop-found [] none l all h = absurd (omega arith)
    loop-found [] (some v) l all h = let n = listed-length (all v (Memᴰ.head refl)) in absurd (omega arith)
    loop-found (f ∷ p) none l all h = absurd (omega arith)
    loop-found (f ∷ p) (some v) l all h = go (member-decided same tells v (stops p (link v f))) (loop-found p (link v f))
      where
        rest : {r : List N} → ((y : N) → Memᴰ y l → (y ≡ v) ⊎ Memᴰ y r) → (Memᴰ v (stops p (link v f)) → ⊥) →
            (y : N) → Memᴰ y (stops p (link v f)) → Memᴰ y r
        rest other d y m = ⊎_elim (λ e. absurd (d (Memᴰ.cast (sym e) m))) (λ m. m) (other y (all y (Memᴰ.tail m)))

        go : Dec (Memᴰ v (stops p (link v f))) →
            ((l : List N) → ((y : N) → Memᴰ y (stops p (link v f)) → Memᴰ y l) →
            length l < length (stops p (link v f)) → Loop (link v f)) → Loop (some v)
        go (yes m) later = let (q, e) = stops-walk p (link v f) v m in (v, f, q, ([], refl), e)
        go (no d) later =
            let (r, n, other) = remove (all v (Memᴰ.head refl)) in
            let (x, i, q, (b, e), t) = later r (rest other d) (omega arith) in
            (x, i, q, (f ∷ b, e), t)

    -- a walk with as many links as a list has nodes comes back to one of them
    pub long-loop : (p : List ℕ) (v x : N) (l : List N) →
        ((q : List ℕ) (y : N) → follow link (some v) q ≡ some y → Memᴰ y l) →
        follow link (some v) p ≡ some x → length l ≤ length p → Loop (some v)
    long-loop p v x l all e h =
        loop-found p (some v) l (λ y m. let (q, d) = stops-walk p (some v) y m in all q y d)
        (omega (arith, stops-length p (some v) x e))

-- a list k times
again : ℕ → List ℕ → List ℕ
again zero p = []
again (suc k) p = p ++ again k p

again-length : (k f : ℕ) (r : List ℕ) → k ≤ length (again k (f ∷ r))
unfolding again
again-length zero f r = omega arith
again-length (suc k) f r = omega (arith, again-length k f r, length-append (f ∷ r) (again k (f ∷ r)))

-- a path that comes back to its start can be walked k times
again-follow : {N : Type 0} (link : N → ℕ → Option N) (k : ℕ) (p : List ℕ) (x : N) → follow link (some x) p ≡ some x →
    follow link (some x) (again k p) ≡ some x
unfolding again follow
again-follow link zero p x e = refl
again-follow link (suc k) p x e =
    follow-append link (some x) p (again k p) ∙ ap (λ o. follow link o (again k p)) e ∙ again-follow link k p x e

-- where there is a loop, walks of every length start
pub loop-walk : {N : Type 0} (link : N → ℕ → Option N) (o : Option N) → Loop link o → (k : ℕ) →
    (p : List ℕ) × (x : N) × (follow link o p ≡ some x) × (k ≤ length p)
loop-walk link o (x, f, p, (q, e), t) k = (
  q ++ again k (f ∷ p),
  x,
  follow-append link o q (again k (f ∷ p)) ∙ ap (λ o. follow link o (again k (f ∷ p))) e ∙ again-follow link k (f ∷ p) x t,
  omega (arith, again-length k f p, length-append q (again k (f ∷ p))),
)
