-- The code makes the common part by the joins that the words and cells hold. These are the joins of the accepted table, so the result is the one
-- that is defined.
use mathlib.Core.Path.{◌≡◌, refl, ◌∙◌, ap}
use mathlib.Core.Bool.{true}
use mathlib.Core.List.{List}
use Prim.Native.Nat.{ℕ}
use Rattle.graphs.specs.Rows.{Row}
use Rattle.graphs.specs.Number.{Canonical}
use Rattle.graphs.specs.Generalize.{generalization_by, generalization}
use Rattle.graphs.specs.OfRows.{common_form}
use Rattle.lattice.specs.Label.{Label, no_label}
use Rattle.layout.specs.Layout.{Recorded, graph_of_rows, rows_of}
use Rattle.bounds.specs.Opening.{OpenedFor}
use Rattle.bounds.specs.Sets.{Seekable, join_in}
use Rattle.lattice.specs.Labels.{join_ranged, table_labels}
use Rattle.lattice.proofs.Laws.{accepted-size, zero-type}
use Rattle.lattice.proofs.Lawful.{label-parts}
use Rattle.bounds.proofs.Types.{joins-known}
use Rattle.encode.specs.Encode.{yielding, written_out, Writing}
use Rattle.record.specs.Reads.{Loaded}
use Rattle.record.proofs.Accepted.{Rules}
use Rattle.generalize.specs.Pairs.{Joinable}
use Rattle.generalize.specs.Product.{product_out}
use Rattle.generalize.proofs.Sides.{tells-pair}
use Rattle.replies.specs.Replies.{Reply}
use Rattle.replies.specs.Reply.{resulting, result_of, reply_of}
use Rattle.record.proofs.Loaded.{loaded-recorded, loaded-rules}
use Rattle.engine.specs.Generalizing.{generalized}
use Rattle.engine.proofs.Written.{replied-as}
use Rattle.engine.proofs.Tables.{label-known, canonical-same}

module _ {n : ℕ} {t sets : List ℕ} {cells : List (List ℕ)} (joins : OpenedFor true n t sets cells) where
  -- Two accepted graphs in words and the held joins meet what the common part requires.
  pub ready-to-join : {g h : List ℕ} → Loaded n g → Loaded n h →
      Recorded g × (Recorded h × (Joinable n (join_in n sets cells) g h × Seekable true n sets cells))
  ready-to-join one other =
      let few = (accepted-size n t joins.ok).1 in (
        loaded-recorded few one,
        (
          loaded-recorded few other,
          (
            record {
              few = few;
              joins-below = λ i j l s. (joins-known n t joins.ok sets joins.lent cells joins.long i j l s joins.holding).1;
              left = one.typed;
              right = other.typed;
            },
            joins.holding.held,
          ),
        ),
      )

  -- The common part by the held joins is the common part by the joins of the table.
  held-generalized : (g h : List (Row Label)) → Rules n g → Rules n h →
      common_form (join_ranged (join_in n sets cells)) no_label g h ≡ common_form (table_labels n t).join no_label g h
  unfolding generalization_by
  held-generalized g h left right =
      canonical-same tells-pair (generalization_by (join_ranged (join_in n sets cells)) (graph_of_rows g) (graph_of_rows h))
      (generalization (table_labels n t) (graph_of_rows g) (graph_of_rows h)) refl
      (λ x.
      label-parts
      (joins-known n t joins.ok sets joins.lent cells joins.long _ _ (label-known (zero-type n t joins.ok) left x.0).type
      (label-known (zero-type n t joins.ok) right x.1).type joins.holding).0 refl refl)
      (λ x f. refl)

  -- For two graphs in words, reply and output are those that `generalized` defines.
  pub generalized-as : {g h : List ℕ} (out : List ℕ) → Loaded n g → Loaded n h → {w : Writing} {r : Reply} {new : List ℕ} →
      yielding w new ≡ product_out (join_in n sets cells) g h out →
      r ≡ reply_of w → resulting r new ≡ generalized n t out (rows_of g) (rows_of h)
  unfolding generalized
  generalized-as {g} {h} out one other yields said =
      replied-as yields said ∙
      ap (λ (c : Canonical Label). result_of (written_out c out))
      (held-generalized (rows_of g) (rows_of h) (loaded-rules one) (loaded-rules other))
