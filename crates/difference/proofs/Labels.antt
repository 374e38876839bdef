-- Lemmas about the wanted labels that the difference needs.
use mathlib.Core.Path.{◌≡◌, refl, ap₂}
use mathlib.Core.Bool.{Bool, true, false, cond}
use mathlib.Core.List.{List, [], ◌∷◌, Memᴰ}
use Prim.Native.Nat.{ℕ, ◌*◌}
use Rattle.graphs.specs.Label.{Labels}
use Rattle.graphs.specs.Difference.{meet_where}
use Rattle.layout.specs.Layout.{label_from, size, label_at}
use Rattle.keeping.specs.Keeping.{NodeLabels}
use Rattle.wanting.specs.Asked.{Asked}
use Rattle.wanting.specs.Wanted.{Wants, met_from}
use Rattle.wanting.proofs.Wanting.{wanted-known}

-- wanted labels are labels of the table
pub wants-known : {n : ℕ} {t s g map labels : List ℕ} → Asked n t g s map → Wants n t s g map (size s) labels → NodeLabels n (size s) labels
wants-known {n} {t} {s} {g} {map} {labels} asked w =
    record {
      long = w.long;
      known = λ v h.
          wanted-known n t (label_at s v) (met_from n t g map 0 (size g) v) (label_from labels (2 * v)) (asked.lower-typed v h) (w.each v h);
    }

-- The meet depends on the labels of the listed nodes alone.
pub meet_where-same : (𝓛 : Labels) {B : Type 0} (test : B → Bool) (label label' : B → 𝓛.L) (ys : List B) →
    ((y : B) → Memᴰ y ys → label y ≡ label' y) → meet_where 𝓛 test label ys ≡ meet_where 𝓛 test label' ys
unfolding meet_where
meet_where-same 𝓛 test label label' [] same = refl
meet_where-same 𝓛 test label label' (y ∷ ys) same =
    go (test y) (meet_where-same 𝓛 test label label' ys (λ z m. same z (Memᴰ.tail m)))
  where
    go : (b : Bool) → meet_where 𝓛 test label ys ≡ meet_where 𝓛 test label' ys →
        cond b (𝓛.meet (label y) (meet_where 𝓛 test label ys)) (meet_where 𝓛 test label ys) ≡
        cond b (𝓛.meet (label' y) (meet_where 𝓛 test label' ys)) (meet_where 𝓛 test label' ys)
    go true e = ap₂ 𝓛.meet (same y (Memᴰ.head refl)) e
    go false e = e
