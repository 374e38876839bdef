-- The difference as it is computed keeps the laws of a difference; so it restores s, nothing more general does, and it is a
-- graph of any size, no larger than s.
use mathlib.Core.Path.{◌≡◌}
use mathlib.Core.Bool.{Bool}
use mathlib.Core.Option.{some}
use mathlib.Core.List.{List}
use Prim.Native.Nat.{ℕ, ◌≤◌}
use lib.ListN.{length}
use Rattle.graphs.specs.Label.{Labels, Lattice}
use Rattle.graphs.specs.Graph.{Graph, AnySize, Below, SameMeaning, Reached}
use Rattle.graphs.specs.Map.{NodeMap}
use Rattle.graphs.specs.Unify.{IsUnification}
use Rattle.graphs.specs.Difference.{Link, StrictOrder, IsWanted, meet_over, lead, keeps, kept_link, difference}
use Rattle.graphs.proofs.Unification.Beside.{Operands}
use Rattle.graphs.proofs.Difference.Laws.{DifferenceLaws}
use Rattle.graphs.proofs.Difference.Kept.{below-difference}
use Rattle.graphs.proofs.Difference.Restores.{restores-greatest}
use Rattle.graphs.proofs.Difference.Lead.{lead-one, lead-grouped, lead-leads}
use Rattle.graphs.proofs.Difference.Keeps.{root_kept, keep-reason, keep-idle, kept-links}
use Rattle.graphs.proofs.Difference.Wanted.{wanted-above, wanted-restores, wanted-greatest}
use Rattle.graphs.proofs.Difference.Consequences.{
  laws-restore,
  laws-most-general,
  laws-nothing-more-general,
  laws-any-size,
  laws-fewer-nodes,
  laws-links,
}

module _ (𝓛 : Labels) {A B : Type 0} (sameA : A → A → Bool) (sameB : B → B → Bool) (earlier : Link A → Link A → Bool)
    (s : Graph 𝓛.L A) (ss : List A) (g : Graph 𝓛.L B) (gs : List B) (over : B → A) (wanted : A → 𝓛.L) where
  -- A difference asks for a lattice of labels, both graphs with their nodes listed and told apart, an order of links, a graph s of any
  -- size, a map that shows s below g, and the wanted labels.
  pub record Setting : Type 0 where
    pub lattice : Lattice 𝓛
    pub operands : Operands sameA sameB s ss g gs
    pub order : StrictOrder earlier
    pub sound : AnySize 𝓛 s
    pub map : NodeMap 𝓛 s g over
    pub wants : (v : A) → Reached s v → IsWanted 𝓛 (meet_over 𝓛 sameA g gs over v) (s.label v) (wanted v)

  module _ (set : Setting) where
    -- s with its nodes in the list given
    listed-size : AnySize 𝓛 s
    listed-size =
        record {
          nodes = ss;
          listed = set.operands.lists-left.listed;
          features = set.sound.features;
          consistent = set.sound.consistent;
          acyclic = set.sound.acyclic;
        }

    -- The computed difference keeps the laws.
    pub difference-laws : DifferenceLaws 𝓛 s g over (lead sameA sameB s ss g gs over earlier)
        (keeps sameA sameB s ss g gs over earlier (λ v. 𝓛.le 𝓛.top (wanted v)) (length ss)) wanted
        (kept_link sameA sameB s ss g gs over earlier λ v. 𝓛.le 𝓛.top (wanted v))
    difference-laws =
        record {
          one-lead = lead-one set.operands set.map earlier set.order;
          grouped = lead-grouped set.operands set.map earlier set.order;
          leads = lead-leads set.operands set.map earlier set.order;
          root_kept = root_kept set.operands over set.sound earlier wanted;
          reason = keep-reason set.operands over set.sound earlier wanted;
          idle = keep-idle set.operands over set.sound earlier wanted;
          links = kept-links set.operands over set.sound earlier wanted;
          above = λ v r. wanted-above set.lattice set.operands over v (wanted v) (set.wants v r);
          restores = λ v r. wanted-restores set.lattice set.operands over v (wanted v) (set.wants v r);
          greatest = λ v r. wanted-greatest set.lattice set.operands over v (wanted v) (set.wants v r) set.map;
        }

    -- s lies below its difference.
    pub difference-above : Below 𝓛 s (difference 𝓛 sameA sameB earlier s ss g gs over wanted)
    unfolding difference
    difference-above = below-difference difference-laws

    -- Whatever lies below the difference and g lies below s: s is their greatest lower bound.
    pub difference-greatest : {C : Type 0} (h : Graph 𝓛.L C) →
        Below 𝓛 h (difference 𝓛 sameA sameB earlier s ss g gs over wanted) →
        Below 𝓛 h g → Below 𝓛 h s
    unfolding difference
    difference-greatest h d e = restores-greatest difference-laws set.lattice set.sound set.map h d e

    -- The unification of the difference and g means what s means.
    pub difference-restores : {C : Type 0} {u : Graph 𝓛.L C} →
        IsUnification 𝓛 (difference 𝓛 sameA sameB earlier s ss g gs over wanted) g u → SameMeaning 𝓛 u s
    unfolding difference
    difference-restores is = laws-restore difference-laws set.lattice set.sound set.map is

    -- A graph above the difference whose unification with g lies below s lies below the difference.
    pub difference-most-general : {E C : Type 0} (e : Graph 𝓛.L E) (u : Graph 𝓛.L C) →
        Below 𝓛 (difference 𝓛 sameA sameB earlier s ss g gs over wanted) e → IsUnification 𝓛 e g u → Below 𝓛 u s →
        Below 𝓛 e (difference 𝓛 sameA sameB earlier s ss g gs over wanted)
    unfolding difference
    difference-most-general e u =
        laws-most-general difference-laws set.lattice set.sound set.map sameA set.operands.tells-left e u

    -- What lies strictly above the difference restores strictly less than s.
    pub difference-nothing-more-general : {E C : Type 0} (e : Graph 𝓛.L E) (u : Graph 𝓛.L C) →
        Below 𝓛 (difference 𝓛 sameA sameB earlier s ss g gs over wanted) e →
        (Below 𝓛 e (difference 𝓛 sameA sameB earlier s ss g gs over wanted) → ⊥) → IsUnification 𝓛 e g u →
        Below 𝓛 s u × (Below 𝓛 u s → ⊥)
    unfolding difference
    difference-nothing-more-general e u =
        laws-nothing-more-general difference-laws set.lattice set.sound set.map sameA set.operands.tells-left e u

    -- The difference is a graph of any size, and its nodes are the kept nodes of s.
    pub difference-any-size : AnySize 𝓛 (difference 𝓛 sameA sameB earlier s ss g gs over wanted)
    unfolding difference
    difference-any-size = laws-any-size difference-laws set.lattice listed-size set.map

    pub difference-nodes : length difference-any-size.nodes ≤ length ss
    unfolding difference-any-size listed-size
    difference-nodes = laws-fewer-nodes difference-laws set.lattice listed-size set.map

    -- The links of the difference are links of s.
    pub difference-links : (u v : A) (f : ℕ) → Reached (difference 𝓛 sameA sameB earlier s ss g gs over wanted) u →
        (difference 𝓛 sameA sameB earlier s ss g gs over wanted).link u f ≡ some v → Reached s u × (s.link u f ≡ some v)
    unfolding difference
    difference-links = laws-links difference-laws set.lattice set.sound set.map
