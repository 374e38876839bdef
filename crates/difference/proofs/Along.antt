-- The difference along the node map that the order finds is the difference as it is defined, because all paths to a node of g lead to one node
-- of s.
use mathlib.Core.Path.{◌≡◌, sym, ap, ap₂, fun_ext}
use mathlib.Core.Bool.{Bool}
use mathlib.Core.List.{List}
use mathlib.Core.Option
use mathlib.Core.Option.{Option}
use Prim.Native.Nat.{ℕ, ◌<◌}
use native.Mathlib.Omega.{arith}
use lib.Dec.{eqb}
use lib.ListN.{length, get_or}
use Rattle.graphs.specs.Graph.{Graph as TypedGraph}
use Rattle.graphs.specs.Map.{NodeMap}
use Rattle.graphs.specs.Rows.{Row, from}
use Rattle.graphs.specs.Difference.{Link}
use Rattle.graphs.specs.Reasons.{along_links, written_order}
use Rattle.graphs.proofs.Lists.{from-range}
use Rattle.graphs.proofs.Below.{map_below}
use Rattle.graphs.proofs.Difference.Agree.{meet_over-agree, reason-agree, difference-agree}
use Rattle.lattice.specs.Label.{Label, no_label}
use Rattle.lattice.specs.Table as types
use Rattle.lattice.specs.Labels.{table_labels, wanted_label}
use Rattle.lattice.proofs.Every.{every-same}
use Rattle.layout.specs.Layout.{graph_of_rows}
use Rattle.record.proofs.Accepted.{Rules}
use Rattle.difference.specs.Promise.{wanted_along, all_wanted_along, difference_along, reasons_along}
use Rattle.difference.specs.Difference.{over, wanted_at, all_wanted, difference_rows}
use Rattle.difference.specs.Explained.{reasons_rows}
use Rattle.difference.proofs.Over.{over-only}

module _ (n : ℕ) (t : List ℕ) (s g : List (Row Label)) (map : List ℕ) (general : Rules n g)
    (along : NodeMap (table_labels n t) (graph_of_rows s) (graph_of_rows g) (λ y. get_or map y 0)) where
  lies : (y : ℕ) → y < length g → get_or map y 0 ≡ over s g y
  lies y h = sym (over-only n t g s general (map_below along) (λ y. get_or map y 0) along y h)

  -- The wanted labels along the node map are the wanted labels as they are defined.
  wanted-along : (v : ℕ) → wanted_along n t s g (λ y. get_or map y 0) v ≡ wanted_at n t s g v
  unfolding wanted_along
  wanted-along v =
      ap (wanted_label n t ((graph_of_rows s).label v))
      (meet_over-agree (table_labels n t) eqb (graph_of_rows g) (from 0 (length g)) (λ y. get_or map y 0) (over s g)
      (λ y m. lies y (omega (arith, from-range 0 (length g) y m))) v)

  pub all-along : all_wanted_along n t s g (λ y. get_or map y 0) ≡ all_wanted n t s g
  unfolding all_wanted_along
  all-along =
      every-same (λ v. types.found (wanted_along n t s g (λ y. get_or map y 0) v)) (λ v. types.found (wanted_at n t s g v)) (length s)
      (λ v _. ap types.found (wanted-along v))

  -- The difference along the node map is the difference as it is defined.
  pub difference-along : (earlier : Link ℕ → Link ℕ → Bool) → difference_along earlier n t s g (λ y. get_or map y 0) ≡ difference_rows earlier n t g s
  unfolding difference_along
  difference-along earlier =
      difference-agree (table_labels n t) eqb eqb earlier (graph_of_rows s) (from 0 (length s)) (graph_of_rows g) (from 0 (length g))
      (λ y. get_or map y 0) (over s g) (λ v. Option.get_or (wanted_along n t s g (λ y. get_or map y 0) v) no_label)
      (λ v. Option.get_or (wanted_at n t s g v) no_label) (λ y m. lies y (omega (arith, from-range 0 (length g) y m)))
      (λ v. ap (λ (o : Option Label). Option.get_or o no_label) (wanted-along v))

  -- The reasons along the node map are the reasons as they are defined.
  pub reasons-along : (earlier : Link ℕ → Link ℕ → Bool) → reasons_along earlier n t s g (λ y. get_or map y 0) ≡ reasons_rows earlier n t g s
  unfolding reasons_along
  reasons-along earlier =
      ap₂ (λ (d : TypedGraph Label ℕ) (value : Link ℕ → ℕ → ℕ). along_links d value (written_order eqb d)) (difference-along earlier)
      (fun_ext λ l. fun_ext λ v.
      reason-agree eqb eqb (graph_of_rows s) (from 0 (length s)) (graph_of_rows g) (from 0 (length g)) (λ y. get_or map y 0) (over s g)
      (λ y m. lies y (omega (arith, from-range 0 (length g) y m))) earlier l v)
