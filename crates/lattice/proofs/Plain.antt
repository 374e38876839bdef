-- This file is about labels without ranges: types with the full range have the order, meets, joins, greatest label, contradiction and wanted
-- labels of the types alone, and graphs with such labels have the results of the graphs of types. "Records without ranges must give the bytes
-- they gave before" (document 02, Paper 7) rests on this. For the types of a table, `with_ranges` gives `table_labels`.
use Prim.Native.Nat.{ℕ}
use mathlib.Core.Path.{◌≡◌, refl, ap, fun_ext}
use mathlib.Core.Bool.{Bool, true, false, ◌&&◌, ◌||◌}
use mathlib.Core.List.{List, [], map}
use mathlib.Core.Logic.{◌↔◌}
use mathlib.Core.Option
use lib.ListN.{get_or-map}
use Rattle.graphs.specs.Label.{Labels}
use Rattle.graphs.specs.Graph.{Graph, Below, AnySize}
use Rattle.graphs.specs.Rows.{Row, target, graph_of}
use Rattle.graphs.specs.Number.{canonical}
use Rattle.graphs.specs.Order.{subsumes}
use Rattle.graphs.specs.Generalize.{generalization}
use Rattle.graphs.specs.Unify.{unification}
use Rattle.graphs.specs.Difference.{Link, difference, meet_over}
use Rattle.lattice.specs.Label.{Ranged, Label, plain, graph_of_rows}
use Rattle.lattice.specs.Table.{wanted}
use Rattle.lattice.specs.Labels.{with_ranges, wanted_label}
use Rattle.lattice.proofs.Relabel.{relabel, relabel_row, relabel_form, relabel_unified, canonical-relabel}
use Rattle.lattice.proofs.Embedding.{Embedding, below-embedded, subsumes-embedded, any-size-embedded, generalization-embedded, unification-embedded, meet_over-embedded, difference-embedded}

-- the full range lies inside the full range, and is not empty
and-true : (b : Bool) → b && true && true ≡ b
and-true true = refl
and-true false = refl

or-false : (b : Bool) → b || false ≡ b
or-false true = refl
or-false false = refl

module _ (𝓣 : Labels) where
  pub le-plain : (a b : 𝓣.L) → (with_ranges 𝓣).le (plain a) (plain b) ≡ 𝓣.le a b
  le-plain a b = and-true (𝓣.le a b)

  pub meet-plain : (a b : 𝓣.L) → (with_ranges 𝓣).meet (plain a) (plain b) ≡ plain (𝓣.meet a b)
  meet-plain a b = refl

  pub join-plain : (a b : 𝓣.L) → (with_ranges 𝓣).join (plain a) (plain b) ≡ plain (𝓣.join a b)
  join-plain a b = refl

  pub top-plain : (with_ranges 𝓣).top ≡ plain 𝓣.top
  top-plain = refl

  pub contradiction-plain : (a : 𝓣.L) → (with_ranges 𝓣).contradiction (plain a) ≡ 𝓣.contradiction a
  contradiction-plain a = or-false (𝓣.contradiction a)

  pub plain-embedding : Embedding 𝓣 (with_ranges 𝓣) plain
  plain-embedding =
      record {
        meets = record { meet = meet-plain; top = top-plain; contradiction = contradiction-plain };
        le = le-plain;
        join = join-plain;
        injective = λ x y e. ap (λ (a : Ranged 𝓣.L). a.type) e;
      }

  -- Graphs without ranges.

  module _ {A B : Type 0} (s : Graph 𝓣.L A) (g : Graph 𝓣.L B) where
    pub below_plain : Below 𝓣 s g ↔ Below (with_ranges 𝓣) (relabel plain s) (relabel plain g)
    below_plain = below-embedded plain-embedding

    pub generalization-plain : generalization (with_ranges 𝓣) (relabel plain s) (relabel plain g) ≡ relabel plain (generalization 𝓣 s g)
    generalization-plain = generalization-embedded plain-embedding s g

    pub subsumes-plain : (sameA : A → A → Bool) (sameB : B → B → Bool) (k : ℕ) →
        subsumes (with_ranges 𝓣) sameA sameB (relabel plain s) (relabel plain g) k ≡ subsumes 𝓣 sameA sameB s g k
    subsumes-plain sameA sameB k = subsumes-embedded plain-embedding sameA sameB s g k

    module _ (sameA : A → A → Bool) (sameB : B → B → Bool) (ss : List A) (gs : List B) where
      pub unification-plain : unification (with_ranges 𝓣) sameA sameB (relabel plain s) ss (relabel plain g) gs ≡
          relabel_unified plain (unification 𝓣 sameA sameB s ss g gs)
      unification-plain =
          unification-embedded plain-embedding.meets sameA sameB (relabel plain s) ss (relabel plain g) gs s.label g.label
          (λ v m. refl) (λ w m. refl)

      module _ (over : B → A) where
        pub meet_over-plain : (v : A) → meet_over (with_ranges 𝓣) sameA (relabel plain g) gs over v ≡ plain (meet_over 𝓣 sameA g gs over v)
        meet_over-plain = meet_over-embedded plain-embedding.meets sameA (relabel plain g) gs over g.label (λ w m. refl)

        pub difference-plain : (earlier : Link A → Link A → Bool) (wants : A → 𝓣.L) →
            difference (with_ranges 𝓣) sameA sameB earlier (relabel plain s) ss (relabel plain g) gs over (λ v. plain (wants v)) ≡
            relabel plain (difference 𝓣 sameA sameB earlier s ss g gs over wants)
        difference-plain earlier wants =
            difference-embedded plain-embedding sameA sameB earlier (relabel plain s) ss (relabel plain g) gs over s.label wants g.label

  -- with the same list of nodes
  unfoldable pub any-size-plain : {A : Type 0} (g : Graph 𝓣.L A) → AnySize 𝓣 g ↔ AnySize (with_ranges 𝓣) (relabel plain g)
  any-size-plain g = any-size-embedded plain-embedding

-- written forms
pub canonical-plain : {T A : Type 0} (same : A → A → Bool) (g : Graph T A) →
    canonical same (relabel plain g) ≡ relabel_form plain (canonical same g)
canonical-plain same g = canonical-relabel plain same g

-- rows without ranges state a graph without ranges
pub rows-plain : (rows : List (Row ℕ)) → graph_of_rows (map (relabel_row plain) rows) ≡ relabel plain (graph_of 0 rows)
rows-plain rows =
    ap (λ (row : ℕ → Row Label). record { root = 0; label = λ v. (row v).0; link = λ v f. target (row v).1 f })
    (fun_ext λ (v : ℕ). get_or-map (relabel_row plain) rows v (0, []))

-- Over a table.

module _ (n : ℕ) (t : List ℕ) where
  -- the wanted label of types is the wanted type
  pub wanted-plain : (p q : ℕ) → wanted_label n t (plain p) (plain q) ≡ Option.map plain (wanted n t p q)
  unfolding wanted_label
  wanted-plain p q = refl
