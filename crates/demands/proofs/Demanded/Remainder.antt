-- The difference of rows that keep the rules of accepted records, with s below g, where every node of s has a wanted label: it is the difference
-- of the theory of graphs, over the table's lattice of labels.
use mathlib.Core.Path.{◌≡◌, refl, sym, ◌∙◌, ap, ap₂, subst}
use mathlib.Core.Bool.{Bool, true}
use mathlib.Core.List.{List}
use mathlib.Core.Logic.{inl, inr, ⊎_elim}
use mathlib.Core.Option.{Option, some, get_or}
use Prim.Native.Nat.{ℕ}
use lib.Dec.{eqb}
use lib.ListN.{length}
use Rattle.graphs.specs.Graph.{Graph, walk, Reached, Below}
use Rattle.graphs.specs.Rows.{Row, from}
use Rattle.graphs.specs.Difference.{Link, StrictOrder, IsWanted, difference}
use Rattle.graphs.proofs.Walk.{some-injective, snoc-induction, follow-nil, follow-last, reached-root, reached-link}
use Rattle.graphs.proofs.Below.{same_refl}
use Rattle.graphs.proofs.Lists.{tells-eqb}
use Rattle.graphs.proofs.Difference.Computed.{Setting}
use Rattle.lattice.specs.Label.{Label, no_label}
use Rattle.lattice.specs.Table as table
use Rattle.lattice.specs.Labels.{table_labels, Known, wanted_label, OfAnySize, GreatestOfAnySize}
use Rattle.lattice.proofs.WantedLabels.{lawful-wanted}
use Rattle.lattice.proofs.Lawful.{KnownLabel, lawful, lawful-lattice}
use Rattle.lattice.proofs.Transfer.{lift, map-lift, lift-any-size}
use Rattle.lattice.proofs.AnySize.{
  difference-of-any-size,
  difference-links,
  difference-restores,
  difference-most-general,
  unification-exists,
  unification-combination,
  combination-greatest,
  combines-not-refuted,
  below_both,
  below-transitive,
}
use Rattle.record.specs.Read.{graph_of_rows}
use Rattle.record.proofs.Nodes.{few-nodes, few-links}
use Rattle.record.proofs.Accepted.{Rules, rules-linked}
use Rattle.difference.specs.Promise.{wanted_along, difference_along}
use Rattle.difference.specs.Difference.{over, wanted_at, all_wanted, difference_rows}
use Rattle.demands.specs.Demand.{Large, Restores}
use Rattle.difference.proofs.Over.{over-map}
use Rattle.demands.proofs.Demanded.Wanted.{general-size, specific-size, operands, label_over, meet-label, s-label, label-below, wanted-exact, wanted-found}

-- A graph that has the root of another graph, and only links of it, reaches only nodes that the other graph reaches.
fewer-reached : {L A : Type 0} (d s : Graph L A) → d.root ≡ s.root →
    ((u v : A) (f : ℕ) → Reached d u → d.link u f ≡ some v → Reached s u × (s.link u f ≡ some v)) →
    (v : A) → Reached d v → Reached s v
fewer-reached {A = A} d s same links v (p, e) =
    snoc-induction (λ p. (v : A) → walk d p ≡ some v → Reached s v)
    (λ v e. subst (Reached s) (sym same ∙ some-injective (sym (follow-nil d.link (some d.root)) ∙ e)) (reached-root s))
    (λ p f _ v e.
    let (u, at, l) = follow-last d.link (some d.root) p f v e in
    let (r, m) = links u v f (p, at) l in
    reached-link s f r m)
    p v e

-- A graph that has the root of another graph, and only links of it, is too large only where the other graph is.
fewer-large : {A : Type 0} (d s : Graph Label A) → d.root ≡ s.root →
    ((u v : A) (f : ℕ) → Reached d u → d.link u f ≡ some v → Reached s u × (s.link u f ≡ some v)) → Large d → Large s
fewer-large d s same links (inl (xs, distinct, all, many)) =
    inl (xs, distinct, λ x m. fewer-reached d s same links x (all x m), many)
fewer-large d s same links (inr (ls, distinct, all, many)) =
    inr (
      ls,
      distinct,
      λ l m.
          let (r, (w, e)) = all l m in
          let (q, k) = links l.0 w l.1 r e in
          (q, (w, k)),
      many,
    )

module _ (n : ℕ) (t : List ℕ) (ok : table.accepted n t ≡ true) (g s : List (Row Label)) (general : Rules n g) (specific : Rules n s)
    (below : Below (table_labels n t) (graph_of_rows s) (graph_of_rows g)) where
  abbrev g-size : OfAnySize n t (graph_of_rows g)
  g-size = general-size n t ok g s general specific below

  abbrev s-size : OfAnySize n t (graph_of_rows s)
  s-size = specific-size n t ok g s general specific below

  module _ (all : all_wanted n t s g ≡ true) where
    found : (v : ℕ) → (c : Label) × (wanted_at n t s g v ≡ some c)
    found = wanted-found n t ok g s general specific below all

    abbrev or_none : Option Label → Label
    or_none o = get_or o no_label

    -- the wanted labels, as those of the lattice
    wanted-known : (v : ℕ) → Known n (or_none (wanted_at n t s g v))
    wanted-known v =
        let (c, e) = found v in
        subst (Known n) (sym (ap or_none e)) ((wanted-exact n t ok g s general specific below v c).0 e).known

    abbrev wanted_of : ℕ → KnownLabel n
    wanted_of v = (or_none (wanted_at n t s g v), wanted-known v)

    wanted-is : (v : ℕ) →
        IsWanted (lawful n t ok) (label_over n t ok g s general specific below v) ((lift n t ok (graph_of_rows s)).label v) (wanted_of v)
    unfolding wanted_along
    wanted-is v =
        let (c, e) = found v in
        lawful-wanted n t ok (label_over n t ok g s general specific below v) ((lift n t ok (graph_of_rows s)).label v) (wanted_of v)
        (ap₂ (table_labels n t).le (s-label n t ok g s general specific below v) (sym (meet-label n t ok g s general specific below v)) ∙
        label-below n t ok g s general specific below v)
        (ap₂ (wanted_label n t) (s-label n t ok g s general specific below v) (sym (meet-label n t ok g s general specific below v)) ∙ e ∙
        ap some (sym (ap or_none e)))

    module _ {earlier : Link ℕ → Link ℕ → Bool} (strict : StrictOrder earlier) where
      -- the difference by those labels
      abbrev by_labels : Graph Label ℕ
      by_labels =
          difference (table_labels n t) eqb eqb earlier (graph_of_rows s) (from 0 (length s)) (graph_of_rows g) (from 0 (length g)) (over s g)
          (λ v. (wanted_of v).0)

      rows-difference : difference_rows earlier n t g s ≡ by_labels
      unfolding difference_along
      rows-difference = refl

      setting : Setting (lawful n t ok) eqb eqb earlier (lift n t ok (graph_of_rows s)) (from 0 (length s)) (lift n t ok (graph_of_rows g))
          (from 0 (length g)) (over s g) wanted_of
      setting =
          record {
            lattice = lawful-lattice n t ok;
            operands = operands n t ok g s general specific below;
            order = strict;
            sound = lift-any-size n t ok (graph_of_rows s) s-size;
            map = (map-lift n t ok (graph_of_rows s) (graph_of_rows g) s-size.typed g-size.typed (over s g)).0 (over-map n t g s general below);
            wants = λ v _. wanted-is v;
          }

      -- The difference is no larger than s, so it always can be written.
      pub rows-small : Large (difference_rows earlier n t g s) → ⊥
      unfolding difference
      rows-small large =
          ⊎_elim (few-nodes s (rules-linked specific) specific.short) (few-links s specific.links)
          (fewer-large by_labels (graph_of_rows s) refl
          (difference-links n t ok eqb eqb earlier (graph_of_rows s) (from 0 (length s)) (graph_of_rows g) (from 0 (length g)) (over s g) wanted_of
          s-size g-size setting)
          (subst (λ (k : Graph Label ℕ). Large k) rows-difference large))

      -- The difference restores s with g, and nothing more general does.
      pub rows-restore : Restores n t (difference_rows earlier n t g s) (graph_of_rows g) (graph_of_rows s)
      rows-restore =
          subst (λ (k : Graph Label ℕ). Restores n t k (graph_of_rows g) (graph_of_rows s)) (sym rows-difference)
          (record {
            of-any-size = size;
            restores = best;
            most-general = λ e c (above, strict) u is.
                difference-most-general n t ok eqb eqb earlier (graph_of_rows s) (from 0 (length s)) (graph_of_rows g) (from 0 (length g)) (over s g)
                wanted_of s-size g-size setting e c above strict u is;
            combines = λ same tells e c (above, _).
                let (u, q) =
                unification-exists n t ok same eqb tells tells-eqb e (graph_of_rows g) c g-size (graph_of_rows s) s-size
                (below-transitive n t ok (graph_of_rows s) by_labels e s-size size c best.left above) below in
                let (bounded, is) = unification-combination n t ok same eqb tells tells-eqb e (graph_of_rows g) c g-size u q in
                (u, is, combination-greatest n t ok e (graph_of_rows g) c g-size u bounded is);
            not_none = λ e c (above, _).
                combines-not-refuted n t ok by_labels e (graph_of_rows g) (graph_of_rows g) size c g-size g-size above
                ((below_both n t ok (graph_of_rows g) (graph_of_rows g) g-size g-size).0 (same_refl (graph_of_rows g))).0 (graph_of_rows s) best;
          })
        where
          size : OfAnySize n t by_labels
          size =
              difference-of-any-size n t ok eqb eqb earlier (graph_of_rows s) (from 0 (length s)) (graph_of_rows g) (from 0 (length g)) (over s g)
              wanted_of s-size g-size setting

          best : GreatestOfAnySize n t by_labels (graph_of_rows g) (graph_of_rows s)
          best =
              difference-restores n t ok eqb eqb earlier (graph_of_rows s) (from 0 (length s)) (graph_of_rows g) (from 0 (length g)) (over s g)
              wanted_of s-size g-size setting
