-- When seven numbers are within their bounds, place by place.
use mathlib.Core.List.{[], ◌∷◌}
use mathlib.Core.Bool.{true}
use Prim.Native.Nat.{ℕ, ◌≤◌}
use lib.Dec.{eqb, leb}
use Rattle.listed.specs.Listing.{type_span, root_span, middle_span, last_span, span, Run}

abbrev pub Between : ℕ × ℕ → ℕ → Type 0
Between s x = (s.0 ≤ x) × (x ≤ s.1)

pub record Within (n F N t₀ c₀ t₁ c₁ t₂ c₂ : ℕ) : Type 0 where
  pub nodes : Between (1, 3) N
  pub type0 : Between (type_span n true) t₀
  pub links0 : Between (root_span F N) c₀
  pub type1 : Between (type_span n (leb 2 N)) t₁
  pub links1 : Between (middle_span F N c₀) c₁
  pub type2 : Between (type_span n (eqb N 3)) t₂
  pub links2 : Between (last_span N c₀ c₁) c₂

module _ {n F N t₀ c₀ t₁ c₁ t₂ c₂ : ℕ} where
  pub run-within : Run (span n F) [] (N ∷ t₀ ∷ c₀ ∷ t₁ ∷ c₁ ∷ t₂ ∷ c₂ ∷ []) → Within n F N t₀ c₀ t₁ c₁ t₂ c₂
  unfolding span
  run-within (a, b, (lt₀, ht₀, (lc₀, hc₀, (lt₁, ht₁, (lc₁, hc₁, (lt₂, ht₂, (lc₂, hc₂, _))))))) =
      record {
        nodes = (a, b);
        type0 = (lt₀, ht₀);
        links0 = (lc₀, hc₀);
        type1 = (lt₁, ht₁);
        links1 = (lc₁, hc₁);
        type2 = (lt₂, ht₂);
        links2 = (lc₂, hc₂);
      }

  pub within-run : Within n F N t₀ c₀ t₁ c₁ t₂ c₂ → Run (span n F) [] (N ∷ t₀ ∷ c₀ ∷ t₁ ∷ c₁ ∷ t₂ ∷ c₂ ∷ [])
  unfolding span
  within-run w = (
    w.nodes.0,
    w.nodes.1,
    (
      w.type0.0,
      w.type0.1,
      (
        w.links0.0,
        w.links0.1,
        (
          w.type1.0,
          w.type1.1,
          (w.links1.0, w.links1.1, (w.type2.0, w.type2.1, (w.links2.0, w.links2.1, tt))),
        ),
      ),
    ),
  )
