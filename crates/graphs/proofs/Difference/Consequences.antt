-- This file shows what follows from the laws of a difference: it restores s, nothing more general does, and it is a graph of any size, no
-- larger than s.
use mathlib.Core.Path.{◌≡◌}
use mathlib.Core.Bool.{Bool, true}
use mathlib.Core.List.{List}
use mathlib.Core.Option.{Option, some}
use Prim.Native.Nat.{ℕ, ◌≤◌}
use lib.ListN.{length}
use Rattle.graphs.specs.Label.{Labels, Lattice}
use Rattle.graphs.specs.Graph.{Graph, AnySize, Below, SameMeaning, TellsApart, walk, Reached}
use Rattle.graphs.specs.Map.{NodeMap}
use Rattle.graphs.specs.Unify.{UnderClass, IsUnification}
use Rattle.graphs.specs.Difference.{Link, select}
use Rattle.graphs.proofs.Below.{map_below, below-trans, below-antisym}
use Rattle.graphs.proofs.Finite.{features-up, acyclic-up, consistent-up}
use Rattle.graphs.proofs.Unification.Unifier.{unification-left, unification-right, unification-greatest}
use Rattle.graphs.proofs.Search.{select-listed, select-length}
use Rattle.graphs.proofs.Difference.Laws.{DifferenceLaws, with_links}
use Rattle.graphs.proofs.Difference.Kept.{kept-walk, kept-reached, reached-kept, below-difference}
use Rattle.graphs.proofs.Difference.Restores.{restores-greatest}
use Rattle.graphs.proofs.Difference.MostGeneral.{most-general}

module _ {𝓛 : Labels} {A B : Type 0} {s : Graph 𝓛.L A} {g : Graph 𝓛.L B} {over : B → A}
    {lead : A → Link A → Link A} {keep : A → Bool} {wanted : A → 𝓛.L} {kept : A → ℕ → Option A}
    (laws : DifferenceLaws 𝓛 s g over lead keep wanted kept)
    (lattice : Lattice 𝓛) (sound : AnySize 𝓛 s) (map : NodeMap 𝓛 s g over) where
  -- The unification of the difference and g means what s means.
  pub laws-restore : {C : Type 0} {u : Graph 𝓛.L C} → IsUnification 𝓛 (with_links s wanted kept) g u → SameMeaning 𝓛 u s
  laws-restore {u = u} is =
      below-antisym lattice
      (restores-greatest laws lattice sound map u (unification-left is) (unification-right is))
      (unification-greatest (below-difference laws) (map_below map) is)

  -- A graph above the difference whose unification with g lies below s lies below the difference.
  pub laws-most-general : (same : A → A → Bool) → TellsApart same → {E C : Type 0} (e : Graph 𝓛.L E) (u : Graph 𝓛.L C) →
      Below 𝓛 (with_links s wanted kept) e → IsUnification 𝓛 e g u → Below 𝓛 u s → Below 𝓛 e (with_links s wanted kept)
  laws-most-general same tells e u above is below =
      most-general laws lattice sound map e above (λ p q c. (is.corefers p q).0 (below.corefers p q c)) labels same tells
    where
      labels : (p : List ℕ) (v : A) (a : 𝓛.L) → walk s p ≡ some v → UnderClass 𝓛 e g p a → 𝓛.le a (s.label v) ≡ true
      labels p v a w under =
          let (x, b, l) = below.paths p v w in
          lattice.le_trans _ _ _ ((is.labels p x b).greatest a under) l

  -- So what lies strictly above the difference restores strictly less than s.
  pub laws-nothing-more-general : (same : A → A → Bool) → TellsApart same → {E C : Type 0} (e : Graph 𝓛.L E) (u : Graph 𝓛.L C) →
      Below 𝓛 (with_links s wanted kept) e → (Below 𝓛 e (with_links s wanted kept) → ⊥) → IsUnification 𝓛 e g u →
      Below 𝓛 s u × (Below 𝓛 u s → ⊥)
  laws-nothing-more-general same tells e u above strict is = (
    unification-greatest (below-trans lattice (below-difference laws) above) (map_below map) is,
    λ below. strict (laws-most-general same tells e u above is below),
  )

  -- The difference is a graph of any size, on the kept nodes of s.
  unfoldable pub laws-any-size : AnySize 𝓛 (with_links s wanted kept)
  laws-any-size =
      record {
        nodes = select keep sound.nodes;
        listed = λ v. (
          λ r.
              (select-listed keep sound.nodes v).1
              ((sound.listed v).0 (kept-reached laws v r), (kept-walk laws r.0 v r.1).1),
          λ i.
              let (j, k) = (select-listed keep sound.nodes v).0 i in
              reached-kept laws sound v ((sound.listed v).1 j) k,
        );
        features = features-up (below-difference laws) sound;
        consistent = consistent-up lattice (below-difference laws) sound;
        acyclic = acyclic-up (below-difference laws) sound;
      }

  -- The difference is no larger than s: it has no more nodes, and each of its links is a link of s.
  pub laws-fewer-nodes : length laws-any-size.nodes ≤ length sound.nodes
  unfolding laws-any-size
  laws-fewer-nodes = select-length keep sound.nodes

  pub laws-links : (u v : A) (f : ℕ) → Reached (with_links s wanted kept) u → kept u f ≡ some v →
      Reached s u × (s.link u f ≡ some v)
  laws-links u v f r e = let q = kept-reached laws u r in (q, ((laws.links u f v q).0 e).0.0.1)
