-- This file has induction over the nodes of a graph of any size, parents first or children first. Both rest on one fact: every walk
-- from a reached node is shorter than the list of nodes. So no rank of nodes has to be computed.
use mathlib.Core.Path.{◌≡◌, refl, ◌∙◌, ap}
use mathlib.Core.List.{List, [], ◌∷◌, ◌++◌, Memᴰ}
use mathlib.Core.Option.{some}
use Prim.Native.Nat.{ℕ, zero, suc, ◌+◌, ◌≤◌, ◌<◌}
use native.Mathlib.Omega.{arith}
use lib.ListN.{length, length-append}
use Rattle.graphs.specs.Label.{Labels}
use Rattle.graphs.specs.Graph.{Graph, AnySize, follow, walk, Reached}
use Rattle.graphs.proofs.Walk.{walk-append, walk-snoc, reached-root}
use Rattle.graphs.proofs.Finite.{short-paths}

-- In a graph without cycles every walk from a reached node has fewer links than there are nodes.
pub short-walks : {L A : Type 0} (s : Graph L A) (nodes : List A) → ((v : A) → Reached s v → Memᴰ v nodes) →
    ((v : A) (f : ℕ) (p : List ℕ) → Reached s v → follow s.link (some v) (f ∷ p) ≡ some v → ⊥) →
    (v : A) (p : List ℕ) (w : A) → Reached s v → follow s.link (some v) p ≡ some w → length p < length nodes
short-walks s nodes all acyclic v p w (q, d) e =
    let h = short-paths s nodes all acyclic (q ++ p) w (walk-append s q p d ∙ e) in
    omega (arith, simp length-append at h)

module _ {𝓛 : Labels} {A : Type 0} {s : Graph 𝓛.L A} (sound : AnySize 𝓛 s) (P : A → Type 0) where
  short : (v : A) (p : List ℕ) (w : A) → Reached s v → follow s.link (some v) p ≡ some w → length p < length sound.nodes
  short = short-walks s sound.nodes (λ v. (sound.listed v).0) sound.acyclic

  pub parents-first : ((v : A) → Reached s v → ((u : A) (f : ℕ) → Reached s u → s.link u f ≡ some v → P u) → P v) →
      (v : A) → Reached s v → P v
  unfolding follow
  parents-first next v r = go (length sound.nodes) [] v v r refl (omega arith)
    where
      go : (k : ℕ) (p : List ℕ) (v w : A) → Reached s v → follow s.link (some v) p ≡ some w →
          length sound.nodes ≤ length p + k → P v
      go zero p v w r e h = let q = short v p w r e in absurd (omega arith)
      go (suc k) p v w r e h =
          next v r λ u f ru l. go k (f ∷ p) u w ru (ap (λ o. follow s.link o p) l ∙ e) (omega arith)

  pub children-first : ((v : A) → Reached s v → ((f : ℕ) (w : A) → s.link v f ≡ some w → P w) → P v) →
      (v : A) → Reached s v → P v
  children-first next v r = go (length sound.nodes) r.0 v r.1 (omega arith)
    where
      go : (k : ℕ) (p : List ℕ) (v : A) → walk s p ≡ some v → length sound.nodes ≤ length p + k → P v
      go zero p v e h = let q = short s.root p v (reached-root s) e in absurd (omega arith)
      go (suc k) p v e h =
          next v (p, e) λ f w l. go k (p ++ (f ∷ [])) w (walk-snoc s p f e ∙ l) (simp length-append (omega arith))
