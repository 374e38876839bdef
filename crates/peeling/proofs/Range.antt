-- This file shows what the range test says about a label.
use mathlib.Core.Path.{◌≡◌, sym, ap}
use mathlib.Core.Bool.{Bool, true, false, not, ◌&&◌}
use mathlib.Core.Logic.{◌↔◌}
use Prim.Native.Nat.{ℕ, suc, ◌≤◌, ◌<◌}
use native.Mathlib.Omega.{arith}
use borrow.Author.Tests.{leb-true, le-leb, eqb-false, ne_eqb, not-true}
use lib.Dec.{eqb, leb}
use Rattle.graphs.proofs.Search.{both_true, true-both, same_test, not-true-false}
use Rattle.lattice.specs.Label.{Label}
use Rattle.lattice.specs.Labels.{Known}
use Rattle.peeling.specs.Range.{label_in_range}

-- The type is not "0 or at least n", the levels are "0 to 255", and the lowest is not "above the highest".
abbrev pub LabelInRange : ℕ → Label → Type 0
LabelInRange n l = (0 < l.type) × Known n l × (l.lowest ≤ l.highest)

module _ (n : ℕ) (l : Label) where
  pub label-in-range : (label_in_range n l ≡ true) ↔ LabelInRange n l
  unfolding label_in_range
  label-in-range = (
    λ e.
        let (typed, small) = both_true (some-type && below && ordered) (leb l.highest 255) e in
        let (named, rising) = both_true (some-type && below) ordered typed in
        let (positive, known) = both_true some-type below named in
        let nonzero : (l.type ≡ 0) → ⊥ = eqb-false l.type 0 (not-true (eqb l.type 0) positive) in
        let up : l.lowest ≤ l.highest = leb-true l.lowest l.highest rising in
        let top : l.highest ≤ 255 = leb-true l.highest 255 small in
        (omega arith, record { type = leb-true (suc l.type) n known; lowest = omega arith; highest = top }, up),
    λ (positive, known, up).
        true-both (some-type && below && ordered) (leb l.highest 255)
        (true-both (some-type && below) ordered
        (true-both some-type below (ap not (ne_eqb l.type 0 (λ e. omega arith))) (le-leb (suc l.type) n known.type))
        (le-leb l.lowest l.highest up))
        (le-leb l.highest 255 known.highest),
  )
    where
      some-type : Bool
      some-type = not (eqb l.type 0)

      below : Bool
      below = leb (suc l.type) n

      ordered : Bool
      ordered = leb l.lowest l.highest

  -- The test, step by step.

  pub zero-out : l.type ≡ 0 → false ≡ label_in_range n l
  zero-out e = sym (not-true-false (label_in_range n l) (λ h. omega (arith, (label-in-range.0 h).0)))

  pub over-out : n ≤ l.type → false ≡ label_in_range n l
  over-out h = sym (not-true-false (label_in_range n l) (λ q. omega (arith, (label-in-range.0 q).1.type)))

  pub levels-decide : (l.type ≡ 0 → ⊥) → l.type < n → l.highest ≤ 255 → leb l.lowest l.highest ≡ label_in_range n l
  levels-decide nonzero below top =
      same_test (leb l.lowest l.highest) (label_in_range n l)
      (λ e.
      let up : l.lowest ≤ l.highest = leb-true l.lowest l.highest e in
      label-in-range.1 (omega arith, record { type = below; lowest = omega arith; highest = top }, up))
      (λ e. le-leb l.lowest l.highest (label-in-range.0 e).2)
