-- Written records number their nodes by least paths (document 01, "Graph record").
use mathlib.Core.List.{List, []}
use mathlib.Core.Logic.{◌↔◌}
use Prim.Native.Nat.{ℕ, ◌<◌}
use lib.ListN.{length}
use Rattle.graphs.specs.LeastPath.{Earlier, LeastPath}
use Rattle.graphs.proofs.Form.LeastPath as Least
use Rattle.lattice.specs.Label.{no_label}
use Rattle.lattice.specs.Labels.{OfAnySize}
use Rattle.record.specs.Read.{graph_of_rows}
use Rattle.record.proofs.Accepted.{accepted-rules}
use Rattle.record.proofs.Theorems.{accepted-of-any-size}
use Rattle.demands.specs.Demand.{WrittenRecord}

module _ (n : ℕ) (bytes : List ℕ) (one : WrittenRecord n bytes) where
  size : OfAnySize n [] (graph_of_rows one.form)
  size = accepted-of-any-size n bytes one.form one.reads []

  pub least-path-exists : (v : ℕ) → v < length one.form → (p : List ℕ) × LeastPath (graph_of_rows one.form) p v
  least-path-exists v h =
      Least.least-path no_label one.form size.any-size.features size.any-size.acyclic one.own v
      ((accepted-rules n bytes one.form one.reads).reached v h)

  pub numbered-by-least-path : (v w : ℕ) (p q : List ℕ) → LeastPath (graph_of_rows one.form) p v → LeastPath (graph_of_rows one.form) q w →
      (v < w) ↔ Earlier p q
  numbered-by-least-path = Least.numbered-by-least-path no_label one.form size.any-size.features size.any-size.acyclic one.own
