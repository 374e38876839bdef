-- The difference of two accepted records is the one that the relations over paths and links state, with s numbered as written. The relations say
-- which nodes lie over which, which links are in one group, which links are kept, and which labels their nodes carry.
use mathlib.Core.Path.{◌≡◌, refl, sym, ◌∙◌, ap, subst}
use mathlib.Core.Bool.{Bool, true, false}
use mathlib.Core.List.{List, Memᴰ}
use mathlib.Core.Logic.{◌↔◌}
use mathlib.Core.Option.{Option, some, get_or}
use Prim.Native.Nat.{ℕ}
use lib.Dec.{eqb}
use lib.ListN.{length}
use Rattle.graphs.specs.Graph.{Graph, AnySize, Reached, Below, walk}
use Rattle.graphs.specs.Map.{Exact}
use Rattle.graphs.specs.Rows.{Row, from}
use Rattle.graphs.specs.Difference.{Link, StrictOrder, group_of, difference}
use Rattle.graphs.specs.Relations.{Into, LiesOver, Grouped, KeptLink}
use Rattle.graphs.proofs.Walk.{snoc-induction, follow-nil, follow-last, reached-link, walk-snoc}
use Rattle.graphs.proofs.Lists.{tells-eqb}
use Rattle.graphs.proofs.Form.Canonical.{form-exact}
use Rattle.graphs.proofs.Unification.Beside.{Operands}
use Rattle.graphs.proofs.Difference.Relations as Relations
use Rattle.lattice.specs.Label.{Label, no_label}
use Rattle.lattice.specs.Table as table
use Rattle.lattice.specs.Labels.{table_labels, WantedAt}
use Rattle.record.specs.Read.{graph_of_rows}
use Rattle.record.proofs.Accepted.{Rules, rules-of-any-size, rules-nodes}
use Rattle.record.proofs.Theorems.{accepted-of-any-size}
use Rattle.difference.specs.Promise.{difference_along}
use Rattle.difference.specs.Difference.{over, wanted_at, all_wanted, numbered, difference_rows}
use Rattle.difference.proofs.Over.{over-map}
use Rattle.demands.specs.Demand.{Given, as_written, remainder, WantedNotTop}
use Rattle.demands.specs.Explained.{written_number}
use Rattle.demands.proofs.Demanded.Wanted.{wanted-exact, wanted-found}
use Rattle.demands.proofs.Demanded.Difference.{accepts, general-rules, form, form-is, form-below, form-rules}

-- If d has the root of s, and its links from nodes of s are links of s, then every walk of d is a walk of s.
pub walk-within : {L A : Type 0} (d s : Graph L A) → d.root ≡ s.root →
    ((u v : A) (f : ℕ) → Reached s u → d.link u f ≡ some v → s.link u f ≡ some v) →
    (p : List ℕ) (v : A) → walk d p ≡ some v → walk s p ≡ some v
walk-within {A = A} d s same links =
    snoc-induction (λ p. (v : A) → walk d p ≡ some v → walk s p ≡ some v)
    (λ v e.
    follow-nil s.link (some s.root) ∙ ap some (sym same) ∙ sym (follow-nil d.link (some d.root)) ∙ e)
    (λ p f before v e.
    let (u, at, l) = follow-last d.link (some d.root) p f v e in
    let here = before u at in
    walk-snoc s p f here ∙ links u v f (p, here) l)

-- The relations for the rows of two graphs.
module _ (n : ℕ) (t : List ℕ) (g s : List (Row Label)) (general : Rules n g) (specific : Rules n s)
    (below : Below (table_labels n t) (graph_of_rows s) (graph_of_rows g)) where
  pub specific-size : AnySize (table_labels n t) (graph_of_rows s)
  specific-size = (rules-of-any-size n s specific t).any-size

  pub operands : Operands eqb eqb (graph_of_rows s) (from 0 (length s)) (graph_of_rows g) (from 0 (length g))
  unfolding specific-size
  operands =
      record {
        tells-left = tells-eqb;
        tells-right = tells-eqb;
        lists-left = record {
          listed = subst (λ (nodes : List ℕ). (v : ℕ) → Reached (graph_of_rows s) v ↔ Memᴰ v nodes) (rules-nodes n s specific t)
              specific-size.listed;
          features = specific-size.features;
        };
        lists-right = record {
          listed = subst (λ (nodes : List ℕ). (v : ℕ) → Reached (graph_of_rows g) v ↔ Memᴰ v nodes) (rules-nodes n g general t)
              (rules-of-any-size n g general t).any-size.listed;
          features = (rules-of-any-size n g general t).any-size.features;
        };
      }

  rows-over : (y v : ℕ) → LiesOver (graph_of_rows s) (graph_of_rows g) y v ↔ (Reached (graph_of_rows g) y × (over s g y ≡ v))
  rows-over = Relations.over-exact (over-map n t g s general below)

  rows-group : (v : ℕ) (l m : Link ℕ) → Into (graph_of_rows s) v l →
      Memᴰ m (group_of eqb eqb (graph_of_rows s) (from 0 (length s)) (graph_of_rows g) (from 0 (length g)) (over s g) v l) ↔
      Grouped (graph_of_rows s) (graph_of_rows g) v l m
  rows-group = Relations.group-exact operands (over-map n t g s general below)

  module _ (ok : table.accepted n t ≡ true) (all : all_wanted n t s g ≡ true) where
    -- the label that is wanted of v, as it is computed
    abbrev wanted_of : ℕ → Label
    wanted_of v = get_or (wanted_at n t s g v) no_label

    pub rows-label : (v : ℕ) → WantedAt n t (graph_of_rows s) (graph_of_rows g) v (wanted_of v)
    rows-label v =
        let (c, e) = wanted-found n t ok g s general specific below all v in
        subst (WantedAt n t (graph_of_rows s) (graph_of_rows g) v) (sym (ap (λ (o : Option Label). get_or o no_label) e))
        ((wanted-exact n t ok g s general specific below v c).0 e)

    label-not-top : (v : ℕ) → ((table_labels n t).le (table_labels n t).top (wanted_of v) ≡ false) ↔
        WantedNotTop n t (graph_of_rows s) (graph_of_rows g) v
    label-not-top v = (
      λ e. (wanted_of v, rows-label v, e),
      λ (c, is, e).
          ap (λ (o : Option Label). (table_labels n t).le (table_labels n t).top (get_or o no_label))
          ((wanted-exact n t ok g s general specific below v c).1 is) ∙ e,
    )

    module _ {earlier : Link ℕ → Link ℕ → Bool} (strict : StrictOrder earlier) where
      pub rows-kept : (u f v : ℕ) → Reached (graph_of_rows s) u →
          ((difference_rows earlier n t g s).link u f ≡ some v) ↔
          KeptLink (graph_of_rows s) (graph_of_rows g) earlier (WantedNotTop n t (graph_of_rows s) (graph_of_rows g)) u f v
      unfolding difference_along
      rows-kept u f v r =
          let (there, back) = Relations.keep-exact operands (over-map n t g s general below) earlier strict specific-size wanted_of u f v r in (
            λ e.
                let (least, k) = there e in
                (least, Relations.kept-wants (λ w _. (label-not-top w).0) v (reached-link (graph_of_rows s) f r least.0.1) k),
            λ (least, k).
                back (least, Relations.kept-wants (λ w _. (label-not-top w).1) v (reached-link (graph_of_rows s) f r least.0.1) k),
          )

      -- paths of the difference are paths of s
      pub rows-walk : (p : List ℕ) (v : ℕ) → walk (difference_rows earlier n t g s) p ≡ some v → walk (graph_of_rows s) p ≡ some v
      unfolding difference_along difference
      rows-walk =
          walk-within (difference_rows earlier n t g s) (graph_of_rows s) refl (λ u v f r e. ((rows-kept u f v r).0 e).0.0.1)

-- The relations for two accepted records.
module _ (n : ℕ) (t a b : List ℕ) (g s : List (Row Label)) (given : Given n t a b g s) where
  written_is : form n t a b g s given ≡ as_written s
  written_is = sym (ap numbered (form-is n t a b g s given))

  -- s with its nodes renamed to their numbers is s as it is written
  pub written-exact : Exact (written_number s) (graph_of_rows s) (graph_of_rows (as_written s))
  written-exact =
      subst (λ (rows : List (Row Label)). Exact (written_number s) (graph_of_rows s) (graph_of_rows rows)) written_is
      (form-exact eqb tells-eqb (graph_of_rows s) (accepted-of-any-size n b s given.second t).any-size.features no_label
      (form n t a b g s given) (form-is n t a b g s given))

module _ (n : ℕ) (t a b : List ℕ) (g s : List (Row Label)) (given : Given n t a b g s)
    (below : Below (table_labels n t) (graph_of_rows s) (graph_of_rows g)) where
  abbrev general : Rules n g
  general = general-rules n t a b g s given

  pub written-rules : Rules n (as_written s)
  written-rules = subst (Rules n) (written_is n t a b g s given) (form-rules n t a b g s given below)

  pub written_below : Below (table_labels n t) (graph_of_rows (as_written s)) (graph_of_rows g)
  written_below =
      subst (λ (rows : List (Row Label)). Below (table_labels n t) (graph_of_rows rows) (graph_of_rows g)) (written_is n t a b g s given) (form-below n t a b g s given below)

  pub over-exact : (y v : ℕ) →
      LiesOver (graph_of_rows (as_written s)) (graph_of_rows g) y v ↔ (Reached (graph_of_rows g) y × (over (as_written s) g y ≡ v))
  over-exact = rows-over n t g (as_written s) general written-rules written_below

  pub group-exact : (v : ℕ) (l m : Link ℕ) → Into (graph_of_rows (as_written s)) v l →
      Memᴰ m
      (group_of eqb eqb (graph_of_rows (as_written s)) (from 0 (length (as_written s))) (graph_of_rows g) (from 0 (length g)) (over (as_written s) g) v l) ↔
      Grouped (graph_of_rows (as_written s)) (graph_of_rows g) v l m
  group-exact = rows-group n t g (as_written s) general written-rules written_below

  module _ (all : all_wanted n t (as_written s) g ≡ true) {earlier : Link ℕ → Link ℕ → Bool} (strict : StrictOrder earlier) where
    pub keep-exact : (u f v : ℕ) → Reached (graph_of_rows (as_written s)) u → ((remainder earlier n t g s).link u f ≡ some v) ↔
        KeptLink (graph_of_rows (as_written s)) (graph_of_rows g) earlier (WantedNotTop n t (graph_of_rows (as_written s)) (graph_of_rows g)) u f v
    keep-exact = rows-kept n t g (as_written s) general written-rules written_below (accepts n t a b g s given) all strict

    pub label-exact : (v : ℕ) → WantedAt n t (graph_of_rows (as_written s)) (graph_of_rows g) v ((remainder earlier n t g s).label v)
    unfolding difference_along difference
    label-exact = rows-label n t g (as_written s) general written-rules written_below (accepts n t a b g s given) all
