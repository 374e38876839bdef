-- `reading::has_ranges` meets its contract: from the beginning of the first row on, the words are the headers and the links.
use mathlib.Core.Bool.{not}
use mathlib.Core.List.{List}
use mathlib.Core.Path.{◌≡◌, ap}
use Prim.Native.Nat.{ℕ, ◌+◌, ◌*◌}
use native.Mathlib.Omega.{arith}
use lib.Dec.{eqb}
use Rattle.graphs.specs.Large.{links_in}
use Rattle.layout.specs.Layout.{Shaped, header, row_from, rows_end, rows_of, size}
use Rattle.layout.proofs.Order.{directory}
use Rattle.layout.proofs.Sums.{rows_end_lem}
use Rattle.record.proofs.reading.has_ranges.Goals as goal

-- where the last row ends
ends : {ws : List ℕ} → Shaped ws → rows_end ws ≡ row_from ws 0 + size ws * header + links_in (rows_of ws)
ends {ws} shaped = rows_end_lem ws shaped (size ws) (omega arith)

pub bounds-graph-0 : goal.bounds-graph-0
bounds-graph-0 c = omega (arith, directory c.requires)

pub bounds-graph-nodes : goal.bounds-graph-nodes
bounds-graph-nodes c = directory c.requires

pub overflow_cast-rows : goal.overflow_cast-rows
overflow_cast-rows c = let ws : List ℕ = c.args.graph.now in omega (arith, c.type_inv.graph (size ws + 1))

pub bounds-graph-1 : goal.bounds-graph-1
bounds-graph-1 c = omega (arith, directory c.requires)

pub overflow_cast-rows-2 : goal.overflow_cast-rows-2
overflow_cast-rows-2 c = omega (arith, c.type_inv.graph 1)

pub overflow_sub-rows : goal.overflow_sub-rows
overflow_sub-rows c = omega (arith, ends c.requires)

pub overflow_sub-links : goal.overflow_sub-links
overflow_sub-links c = omega (arith, ends c.requires)

pub overflow_add-result-2 : goal.overflow_add-result-2
overflow_add-result-2 c =
    omega (arith, c.requires.few, c.type_inv.graph (size c.args.graph.now + 1))

pub returns : goal.returns
returns c =
    ap (λ (n : ℕ). not (eqb c.args.length n)) (omega (arith, ends c.requires))
