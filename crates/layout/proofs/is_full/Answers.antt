-- `is_full` meets its contract: only the full range has the word 255.
use Prim.Native.Nat.{◌+◌, ◌*◌, ◌≤◌}
use mathlib.Core.Bool.{◌&&◌}
use mathlib.Core.Path.{◌≡◌}
use native.Mathlib.Omega.{arith}
use borrow.Author.Tests.{eq-eqb, eqb-true}
use lib.Dec.{eqb}
use Rattle.graphs.proofs.Search.{both_true, same_test, true-both}
use Rattle.lattice.specs.Label.{Label, is_full}
use Rattle.layout.specs.Layout.{levels}
use Rattle.layout.specs.Builder.{stated}
use Rattle.layout.proofs.is_full.Goals as goal

full-word : (l : Label) → l.highest ≤ 255 → eqb (l.lowest * levels + l.highest) 255 ≡ is_full l
unfolding is_full
full-word l h =
    same_test (eqb (l.lowest * levels + l.highest) 255) (eqb l.lowest 0 && eqb l.highest 255)
    (λ e.
    let q = eqb-true (l.lowest * levels + l.highest) 255 e in
    true-both (eqb l.lowest 0) (eqb l.highest 255) (eq-eqb l.lowest 0 (omega (arith, q))) (eq-eqb l.highest 255 (omega (arith, q))))
    (λ e.
    let (p, q) = both_true (eqb l.lowest 0) (eqb l.highest 255) e in
    eq-eqb (l.lowest * levels + l.highest) 255 (omega (arith, eqb-true l.lowest 0 p, eqb-true l.highest 255 q)))

pub returns : goal.returns
returns c = full-word (stated c.args.label) (omega (arith, c.struct_known-2-1.given))
