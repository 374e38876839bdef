-- This file is about ranges as sets of levels (document 02, Paper 7): the order, joins and meets of `with_ranges`, which compare and combine
-- the lowest and the highest level, are those of the sets of levels inside. A range is non-empty when its lowest level is at most its
-- highest; every range of an accepted record is.
use Prim.Native.Nat.{ℕ, suc, ◌<◌, ◌≤◌}
use mathlib.Core.Path.{◌≡◌, refl}
use mathlib.Core.Bool.{Bool, true, false, ◌&&◌, ◌||◌}
use mathlib.Core.Logic.{◌↔◌, ◌⊎◌, inl, inr, ⊎_elim}
use native.Mathlib.Omega.{arith}
use lib.Dec.{leb}
use borrow.Author.Tests.{le-leb, leb-true}
use Rattle.graphs.specs.Label.{Labels}
use Rattle.graphs.proofs.Search.{true-both}
use Rattle.lattice.specs.Label.{Ranged}
use Rattle.lattice.specs.Labels.{with_ranges, LevelIn, NonEmpty, RangeInside}
use Rattle.lattice.proofs.Every.{below_or_not, and_left, and_right}

module _ {T : Type 0} (x y : Ranged T) where
  ends-inside : NonEmpty x → RangeInside x y → (y.lowest ≤ x.lowest) × (x.highest ≤ y.highest)
  ends-inside some_level inside = (
    (inside x.lowest (omega arith, some_level)).0,
    (inside x.highest (some_level, omega arith)).1,
  )

  inside-ends : y.lowest ≤ x.lowest → x.highest ≤ y.highest → RangeInside x y
  inside-ends low high l (a, b) = (omega arith, omega arith)

module _ (𝓣 : Labels) (x y : Ranged 𝓣.L) where
  -- "Below now also asks that the range lies inside"
  pub below-range : NonEmpty x → ((with_ranges 𝓣).le x y ≡ true) ↔ ((𝓣.le x.type y.type ≡ true) × RangeInside x y)
  below-range some_level = (
    λ e. (
      and_left b l (and_left (b && l) h e),
      inside-ends x y (leb-true y.lowest x.lowest (and_right b l (and_left (b && l) h e)))
          (leb-true x.highest y.highest (and_right (b && l) h e)),
    ),
    λ (type, inside).
        let (low, high) = ends-inside x y some_level inside in
        true-both (b && l) h (true-both b l type (le-leb y.lowest x.lowest low)) (le-leb x.highest y.highest high),
  )
    where
      b : Bool
      b = 𝓣.le x.type y.type

      l : Bool
      l = leb y.lowest x.lowest

      h : Bool
      h = leb x.highest y.highest

  -- "the common part takes the smallest range holding both": the range holds both.
  pub join-range-holds : RangeInside x ((with_ranges 𝓣).join x y) × RangeInside y ((with_ranges 𝓣).join x y)
  join-range-holds = (λ l (a, b). (omega arith, omega arith), λ l (a, b). (omega arith, omega arith))

  -- The range lies inside every range that holds both.
  pub join-range-smallest : NonEmpty x → NonEmpty y → (z : Ranged 𝓣.L) → RangeInside x z → RangeInside y z →
      RangeInside ((with_ranges 𝓣).join x y) z
  join-range-smallest some-x some-y z in-x in-y =
      let (a, b) = ends-inside x z some-x in-x in
      let (c, d) = ends-inside y z some-y in-y in
      inside-ends ((with_ranges 𝓣).join x y) z (omega arith) (omega arith)

  -- "the combination the overlap"
  pub meet-range : (l : ℕ) → LevelIn ((with_ranges 𝓣).meet x y) l ↔ (LevelIn x l × LevelIn y l)
  meet-range l = (λ (a, b). ((omega arith, omega arith), (omega arith, omega arith)), λ ((a, b), (c, d)). (omega arith, omega arith))

  -- "and an empty overlap is a clash": the meet is a contradiction exactly where that of the types is or no level is inside both
  pub meet-range-clash : ((with_ranges 𝓣).contradiction ((with_ranges 𝓣).meet x y) ≡ true) ↔
      ((𝓣.contradiction (𝓣.meet x.type y.type) ≡ true) ⊎ ((l : ℕ) → LevelIn x l → LevelIn y l → ⊥))
  meet-range-clash = (λ e. parts (𝓣.contradiction (𝓣.meet x.type y.type)) e, from (𝓣.contradiction (𝓣.meet x.type y.type)))
    where
      m : Ranged 𝓣.L
      m = (with_ranges 𝓣).meet x y

      Disjoint : Type 0
      Disjoint = (l : ℕ) → LevelIn x l → LevelIn y l → ⊥

      none_inside : m.highest < m.lowest → Disjoint
      none_inside low l (a, b) (c, d) = omega arith

      empty : Disjoint → m.highest < m.lowest
      empty none =
          ⊎_elim (λ low. low)
          (λ high. absurd (none m.lowest (omega arith, omega arith) (omega arith, omega arith))) (below_or_not m.highest m.lowest)

      parts : (b : Bool) → (b || leb (suc m.highest) m.lowest) ≡ true → (b ≡ true) ⊎ Disjoint
      parts true e = inl refl
      parts false e = inr (none_inside (leb-true (suc m.highest) m.lowest e))

      from : (b : Bool) → (b ≡ true) ⊎ Disjoint → (b || leb (suc m.highest) m.lowest) ≡ true
      from true e = refl
      from false (inl e) = let z : ◌≡◌ {A = ℕ} 0 1 = cc in absurd (omega arith)
      from false (inr none) = le-leb (suc m.highest) m.lowest (empty none)
