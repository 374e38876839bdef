-- The root of a graph in words reaches only nodes of the graph. If it reaches all of them, their numbers list what is reached.
use mathlib.Core.Path.{◌≡◌}
use mathlib.Core.List.{List}
use mathlib.Core.Option.{some}
use Prim.Native.Nat.{ℕ, ◌<◌}
use native.Mathlib.Omega.{arith}
use Rattle.graphs.specs.Graph.{Reached, follow, walk}
use Rattle.graphs.specs.Rows.{from}
use Rattle.graphs.proofs.Lists.{from_member, from-range}
use Rattle.graphs.proofs.Unification.Beside.{Lists}
use Rattle.graphs.proofs.Walk.{some-injective, snoc-induction, follow-last}
use Rattle.layout.specs.Layout.{Sound, size, graph_in}
use Rattle.layout.proofs.Places.{link-known}

module _ {ws : List ℕ} (sound : Sound ws) where
  pub reached-inside : (v : ℕ) → Reached (graph_in ws) v → v < size ws
  unfolding follow
  reached-inside v r = go r.0 v r.1
    where
      go : (p : List ℕ) (v : ℕ) → walk (graph_in ws) p ≡ some v → v < size ws
      go =
          snoc-induction (λ p. (v : ℕ) → walk (graph_in ws) p ≡ some v → v < size ws)
          (λ v e. omega (arith, some-injective e, sound.shaped.nonempty))
          (λ p f later v e.
          let l = follow-last (graph_in ws).link (some 0) p f v e in
          (link-known sound l.0 f v (later l.0 l.1) l.2).1)

  pub nodes-listed : ((v : ℕ) → v < size ws → Reached (graph_in ws) v) → Lists (graph_in ws) (from 0 (size ws))
  nodes-listed all =
      record {
        listed = λ v. (
          λ r. from_member 0 (size ws) v (omega arith) (omega (arith, reached-inside v r)),
          λ m. all v (omega (arith, from-range 0 (size ws) v m)),
        );
        features = λ v w f r e. (link-known sound v f w (reached-inside v r) e).0;
      }
