-- Ranges in written records, and in the meet of two labels (document 02, Paper 7).
use mathlib.Core.Path.{◌≡◌, sym, ◌∙◌, ap, subst}
use mathlib.Core.Bool.{Bool, true, not}
use mathlib.Core.List.{List}
use mathlib.Core.Logic.{◌↔◌, ◌⊎◌, inl, inr, ⊎_elim}
use Prim.Native.Nat.{ℕ, ◌<◌}
use borrow.Author.Tests.{eqb-true, eq-eqb}
use lib.ListN.{length}
use Rattle.graphs.specs.Rows.{Row}
use Rattle.lattice.specs.Label.{Label, is_full}
use Rattle.lattice.specs.Labels.{LevelIn, type_labels, table_labels}
use Rattle.lattice.proofs.Ranges.{meet-range-clash}
use Rattle.record.specs.Read.{graph_of_rows}
use Rattle.record.specs.Spelled.{Statable, Spells}
use Rattle.record.proofs.Accepted.{accepted-rules}
use Rattle.record.proofs.Theorems as records
use Rattle.demands.specs.Demand.{WrittenRecord}

-- A written record writes the ranges that are not full, and no others.
module _ (n : ℕ) (bytes : List ℕ) (one : WrittenRecord n bytes) where
  pub written-spells : Spells bytes one.form (λ v. not (is_full ((graph_of_rows one.form).label v)))
  written-spells =
      let rules = accepted-rules n bytes one.form one.reads in
      let can : Statable one.form =
      record {
        some-node = rules.nonempty;
        few-links = rules.links;
        types = rules.types;
        ascending = λ r m. (rules.ordered r m).0;
        features = λ r m. (rules.ordered r m).1;
      } in
      subst (λ (l : List ℕ). Spells l one.form (λ v. not (is_full ((graph_of_rows one.form).label v)))) (sym one.bytes-are)
      (records.encoded-spells one.form can)

  pub full-range-unwritten : (rows : List (Row Label)) (writes : ℕ → Bool) → Spells bytes rows writes →
      (v : ℕ) → v < length rows → writes v ≡ not (is_full ((graph_of_rows rows).label v))
  full-range-unwritten rows writes spells v h =
      let (same, ranges) =
      records.spelled-once bytes rows one.form writes (λ v. not (is_full ((graph_of_rows one.form).label v))) spells written-spells in
      ranges v h ∙ ap (λ (l : List (Row Label)). not (is_full ((graph_of_rows l).label v))) (sym same)

-- The meet of two labels is a contradiction exactly where its type is 0 or no level is inside both ranges.
pub range-clash : (n : ℕ) (t : List ℕ) (x y : Label) → ((table_labels n t).contradiction ((table_labels n t).meet x y) ≡ true) ↔
    ((((table_labels n t).meet x y).type ≡ 0) ⊎ ((l : ℕ) → LevelIn x l → LevelIn y l → ⊥))
range-clash n t x y =
    let (there, back) = meet-range-clash (type_labels n t) x y in
    let type : ℕ = ((table_labels n t).meet x y).type in (
      λ e. ⊎_elim (λ z. inl (eqb-true type 0 z)) (λ none. inr none) (there e),
      λ e. back (⊎_elim (λ z. inl (eq-eqb type 0 z)) (λ none. inr none) e),
    )
