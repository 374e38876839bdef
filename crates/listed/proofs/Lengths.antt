-- 32 bytes are room for every listed record.
use mathlib.Core.Path.{◌≡◌, refl, sym, subst}
use mathlib.Core.Bool.{Bool, true, false, cond, ◌&&◌}
use mathlib.Core.List.{List, [], ◌∷◌}
use Prim.Native.Nat.{ℕ, zero, suc, ◌+◌, ◌≤◌}
use native.Mathlib.Omega.{arith}
use borrow.Author.Tests.{eqb-true}
use lib.Dec.{eqb}
use lib.ListN.{length}
use Rattle.listed.specs.Listing.{Listed, Run, span, record_of}
use Rattle.listed.specs.Numbers.{width}
use Rattle.listed.proofs.Stated.{Counts, listed-told}
use Rattle.listed.proofs.Within.{Within, run-within}
use Rattle.listed.proofs.Places.{numbered, no-width, width_small, length-one, length_two, length_three}

-- where node 1 has links, node 2 has none
last-width : (c₀ c₁ c₂ : ℕ) → c₂ ≤ (cond {A = ℕ × ℕ} (eqb c₀ 4 && eqb c₁ 0) (0, 3) (0, 0)).1 → width c₁ + width c₂ ≤ 2
last-width c₀ c₁ c₂ h = go (eqb c₀ 4) (eqb c₁ 0) refl h
  where
    none_last : c₂ ≤ 0 → width c₁ + width c₂ ≤ 2
    none_last q = let e : c₂ ≡ 0 = omega arith in omega (arith, width_small c₁, no-width c₂ e)

    go : (a b : Bool) → eqb c₁ 0 ≡ b → c₂ ≤ (cond {A = ℕ × ℕ} (a && b) (0, 3) (0, 0)).1 → width c₁ + width c₂ ≤ 2
    go true true e q = omega (arith, no-width c₁ (eqb-true c₁ 0 e), width_small c₂)
    go true false e q = none_last q
    go false b e q = none_last q

short-at : (n F N t₀ c₀ t₁ c₁ t₂ c₂ : ℕ) → Within n F N t₀ c₀ t₁ c₁ t₂ c₂ → length (record_of (numbered t₀ c₀ t₁ c₁ t₂ c₂ N)) ≤ 32
short-at n F zero t₀ c₀ t₁ c₁ t₂ c₂ w = absurd (omega (arith, w.nodes.0))
short-at n F (suc zero) t₀ c₀ t₁ c₁ t₂ c₂ w = omega (arith, length-one t₀ c₀ t₁ c₁ t₂ c₂, width_small c₀)
short-at n F (suc (suc zero)) t₀ c₀ t₁ c₁ t₂ c₂ w = omega (arith, length_two t₀ c₀ t₁ c₁ t₂ c₂, width_small c₀, width_small c₁)
short-at n F (suc (suc (suc zero))) t₀ c₀ t₁ c₁ t₂ c₂ w =
    omega (arith, length_three t₀ c₀ t₁ c₁ t₂ c₂, width_small c₀, last-width c₀ c₁ c₂ w.links2.1)
short-at n F (suc (suc (suc (suc N)))) t₀ c₀ t₁ c₁ t₂ c₂ w = absurd (omega (arith, w.nodes.1))

short-run : (n F : ℕ) (d : List ℕ) → length d ≡ 7 → Run (span n F) [] d → length (record_of d) ≤ 32
short-run n F [] e r = absurd (omega arith)
short-run n F (a ∷ []) e r = absurd (omega arith)
short-run n F (a ∷ b ∷ []) e r = absurd (omega arith)
short-run n F (a ∷ b ∷ c ∷ []) e r = absurd (omega arith)
short-run n F (a ∷ b ∷ c ∷ d ∷ []) e r = absurd (omega arith)
short-run n F (a ∷ b ∷ c ∷ d ∷ x ∷ []) e r = absurd (omega arith)
short-run n F (a ∷ b ∷ c ∷ d ∷ x ∷ y ∷ []) e r = absurd (omega arith)
short-run n F (a ∷ b ∷ c ∷ d ∷ x ∷ y ∷ z ∷ []) e r = short-at n F a b c d x y z (run-within r)
short-run n F (a ∷ b ∷ c ∷ d ∷ x ∷ y ∷ z ∷ w ∷ more) e r = absurd (omega arith)

pub listed-short : (n F : ℕ) → Counts F → (bytes : List ℕ) → Listed n F bytes → length bytes ≤ 32
listed-short n F f bytes l =
    let (d, long, r, e) = listed-told n F f bytes l in subst (λ (b : List ℕ). length b ≤ 32) (sym e) (short-run n F d long r)
