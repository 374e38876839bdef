-- This file is about the links between two places of words: which they are, and how many. The features of the links ascend along the
-- places exactly where they ascend along the list.
use mathlib.Core.Path.{◌≡◌, sym, ◌∙◌, ap, ap₂, subst}
use mathlib.Core.List.Memᴰ
use mathlib.Core.List.{List, [], ◌∷◌, ◌++◌, map, Memᴰ, map-append}
use mathlib.Core.Logic.{⊎_elim}
use Prim.Native.Nat.{ℕ, zero, suc, ◌+◌, ◌-◌, ◌≤◌, ◌<◌}
use native.Mathlib.Decide.{ℕ_discrete}
use native.Mathlib.Nat.{lt_trans}
use native.Mathlib.Omega.{arith}
use lib.ListN.{length, get_or, take, drop, length-map}
use lib.Seq.{slice, slice-cons, slice_empty, take-suc, drop-append-le, length-take-le, length-slice}
use Rattle.graphs.specs.Large.{Ascending}
use Rattle.layout.specs.Layout.{link_of, feature_at, target_at, links_between}
use Rattle.layout.specs.Builder.{Same}

-- the link at a place
abbrev pub link_at : List ℕ → ℕ → ℕ × ℕ
link_at ws k = (feature_at ws k, target_at ws k)

-- a part grows by the element behind it
pub slice-more : {A : Type 0} (a b : ℕ) (l : List A) (d : A) → a ≤ b → b < length l → slice a (b + 1) l ≡ slice a b l ++ (get_or l b d ∷ [])
slice-more {A} a b l d low high =
    let e : b + 1 ≡ suc b = omega arith in
    ap (λ (n : ℕ). drop a (take n l)) e
    ∙ ap (drop a) (take-suc l b d high)
    ∙ drop-append-le a (take b l) (get_or l b d ∷ []) (omega (arith, length-take-le b l (omega arith)))

-- a part depends on its places alone
pub slice-same : (ws ws' : List ℕ) (n a b : ℕ) → a + n ≡ b → b ≤ length ws → b ≤ length ws' → Same ws ws' a b →
    slice a b ws' ≡ slice a b ws
slice-same ws ws' zero a b e h h' same =
    let q : a ≡ b = omega arith in
    ap (λ (i : ℕ). slice i b ws') q ∙ slice_empty b ws' ∙ sym (ap (λ (i : ℕ). slice i b ws) q ∙ slice_empty b ws)
slice-same ws ws' (suc n) a b e h h' same =
    slice-cons a b ws' 0 (omega arith) h'
    ∙ ap₂ (λ (x : ℕ) (xs : List ℕ). x ∷ xs) (same a (omega arith) (omega arith))
    (slice-same ws ws' n (suc a) b (omega arith) h h' (λ k low high. same k (omega arith) high))
    ∙ sym (slice-cons a b ws 0 (omega arith) h)

module _ (ws : List ℕ) where
  pub links-none : (a : ℕ) → links_between ws a a ≡ []
  unfolding links_between
  links-none a = ap (map link_of) (slice_empty a ws)

  pub links-more : (a b : ℕ) → a ≤ b → b < length ws → links_between ws a (b + 1) ≡ links_between ws a b ++ (link_at ws b ∷ [])
  unfolding links_between
  links-more a b low high =
      ap (map link_of) (slice-more a b ws 0 low high) ∙ map-append link_of (slice a b ws) (get_or ws b 0 ∷ [])

  pub length-links : (a b : ℕ) → b ≤ length ws → length (links_between ws a b) ≡ b - a
  unfolding links_between
  length-links a b h = length-map (slice a b ws) link_of ∙ length-slice a b ws h

  module _ (b : ℕ) (inside : b ≤ length ws) where
    pub links-cons : (a : ℕ) → a < b → links_between ws a b ≡ link_at ws a ∷ links_between ws (suc a) b
    unfolding links_between
    links-cons a h = ap (map link_of) (slice-cons a b ws 0 h inside)

    -- a link stands at one of the places
    pub links-member : (n a : ℕ) → a + n ≡ b → (l : ℕ × ℕ) → Memᴰ l (links_between ws a b) →
        (k : ℕ) × (a ≤ k) × (k < b) × (l.0 ≡ feature_at ws k) × (l.1 ≡ target_at ws k)
    links-member zero a e l m =
        let same : a ≡ b = omega arith in
        absurd
        (Memᴰ.not-nil
        (subst (λ (x : List (ℕ × ℕ)). Memᴰ l x) (ap (λ (i : ℕ). links_between ws i b) same ∙ links-none b) m))
    links-member (suc n) a e l m =
        ⊎_elim
        (λ (q : ◌≡◌ {A = ℕ × ℕ} l (link_at ws a)).
        (a, omega arith, omega arith, ap (λ (x : ℕ × ℕ). x.0) q, ap (λ (x : ℕ × ℕ). x.1) q))
        (λ i. let (k, low, high, p, q) = links-member n (suc a) (omega arith) l i in (k, omega arith, high, p, q))
        (Memᴰ.cases_cons (subst (λ (x : List (ℕ × ℕ)). Memᴰ l x) (links-cons a (omega arith)) m))

    -- a link stands at each of the places
    pub links-at : (n a : ℕ) → a + n ≡ b → (k : ℕ) → a ≤ k → k < b → Memᴰ {A = ℕ × ℕ} (link_at ws k) (links_between ws a b)
    links-at zero a e k low high = absurd (omega arith)
    links-at (suc n) a e k low high =
        subst (λ (x : List (ℕ × ℕ)). Memᴰ {A = ℕ × ℕ} (link_at ws k) x) (sym (links-cons a (omega arith)))
        (go (ℕ_discrete k a) (λ below. links-at n (suc a) (omega arith) k below high))
      where
        go : Dec (k ≡ a) → (suc a ≤ k → Memᴰ {A = ℕ × ℕ} (link_at ws k) (links_between ws (suc a) b)) →
            Memᴰ {A = ℕ × ℕ} (link_at ws k) (link_at ws a ∷ links_between ws (suc a) b)
        go (yes q) rest = Memᴰ.head (ap {B = ℕ × ℕ} (link_at ws) q)
        go (no d) rest = Memᴰ.tail (rest (omega arith))

    module _ (start : ℕ) (up : (k : ℕ) → start ≤ k → k + 1 < b → feature_at ws k < feature_at ws (k + 1)) where
      -- features rise along the places
      pub features-rise : (n a k : ℕ) → start ≤ a → suc a + n ≡ k → k < b → feature_at ws a < feature_at ws k
      features-rise zero a k low e h =
          let same : a + 1 ≡ k = omega arith in
          subst (λ (j : ℕ). feature_at ws a < feature_at ws j) same (up a low (omega arith))
      features-rise (suc n) a k low e h =
          let same : a + 1 ≡ suc a = omega arith in
          let next : feature_at ws a < feature_at ws (suc a) = subst (λ (j : ℕ). feature_at ws a < feature_at ws j) same (up a low (omega arith)) in
          let later : feature_at ws (suc a) < feature_at ws k = features-rise n (suc a) k (omega arith) (omega arith) h in
          lt_trans next later

      pub links-ascending : (n a : ℕ) → start ≤ a → a + n ≡ b → Ascending (links_between ws a b)
      links-ascending zero a low e =
          let same : a ≡ b = omega arith in
          subst Ascending (sym (ap (λ (i : ℕ). links_between ws i b) same ∙ links-none b)) tt
      links-ascending (suc n) a low e =
          subst Ascending (sym (links-cons a (omega arith))) (
            λ m i.
                let (k, after, high, p, _) = links-member n (suc a) (omega arith) m i in
                subst (λ (f : ℕ). feature_at ws a < f) (sym p) (features-rise (k - suc a) a k low (omega arith) high),
            links-ascending n (suc a) (omega arith) (omega arith),
          )

    -- links that ascend along the list ascend along the places
    pub places-ascending : (n a : ℕ) → a + n ≡ b → Ascending (links_between ws a b) →
        (k : ℕ) → a ≤ k → k + 1 < b → feature_at ws k < feature_at ws (k + 1)
    places-ascending zero a e up k low high = absurd (omega arith)
    places-ascending (suc n) a e up k low high = go (ℕ_discrete k a) (places-ascending n (suc a) (omega arith) split.1 k)
      where
        split : Ascending (link_at ws a ∷ links_between ws (suc a) b)
        split = subst Ascending (links-cons a (omega arith)) up

        go : Dec (k ≡ a) → (suc a ≤ k → k + 1 < b → feature_at ws k < feature_at ws (k + 1)) → feature_at ws k < feature_at ws (k + 1)
        go (yes q) rest =
            subst (λ (i : ℕ). feature_at ws i < feature_at ws (k + 1)) (sym q)
            (split.0 (link_at ws (k + 1)) (links-at n (suc a) (omega arith) (k + 1) (omega arith) high))
        go (no d) rest = rest (omega arith) high
