-- The library's test whether bytes begin with others is that of the buffer's state.
use mathlib.Core.Path.{◌≡◌, refl, ap}
use mathlib.Core.Bool.{Bool, ◌&&◌}
use mathlib.Core.List.{List, [], ◌∷◌}
use Prim.Native.Nat.{ℕ}
use lib.Dec.{eqb}
use Rattle.std.specs.List.{starts_with as begins_with}
use Rattle.versions.specs.State.{starts_with}

pub starts_same : (start bytes : List ℕ) → begins_with eqb bytes start ≡ starts_with start bytes
unfolding starts_with
starts_same [] bytes = refl
starts_same (x ∷ xs) [] = refl
starts_same (x ∷ xs) (b ∷ bs) = ap (λ (rest : Bool). eqb x b && rest) (starts_same xs bs)
