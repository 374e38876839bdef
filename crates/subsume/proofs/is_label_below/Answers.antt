-- `is_label_below` meets its contract.
use Prim.Native.Nat.{ℕ, ◌≤◌}
use mathlib.Core.Bool.{false}
use mathlib.Core.List.{List}
use mathlib.Core.Path.{◌≡◌, sym, ◌∙◌}
use native.Mathlib.Omega.{arith}
use Rattle.graphs.proofs.Search.{same_test, not-true-false}
use Rattle.lattice.specs.Label.{Label}
use Rattle.lattice.specs.Labels.{table_labels}
use Rattle.lattice.specs.Table.{below}
use Rattle.lattice.proofs.Lawful.{Inside, inside, inside-le}
use Rattle.layout.specs.Builder.{stated}
use Rattle.subsume.proofs.is_label_below.Goals as goal

module _ (n : ℕ) (t : List ℕ) (x y : Label) where
  outside : (Inside t x y → ⊥) → false ≡ (table_labels n t).le x y
  outside never = sym (not-true-false ((table_labels n t).le x y) (λ e. never (inside n t x y e)))

  -- the types decide where the range lies inside
  by-type : y.lowest ≤ x.lowest → x.highest ≤ y.highest → below t x.type y.type ≡ (table_labels n t).le x y
  by-type low high =
      same_test (below t x.type y.type) ((table_labels n t).le x y)
      (λ e. inside-le n t x y (record { type = e; lowest = low; highest = high })) (λ e. (inside n t x y e).type)

-- src/lib.rt:99:9
pub returns-then-a-b : goal.returns-then-a-b
returns-then-a-b c = λ n. let a = c.args in outside n _ (stated a.a) (stated a.b) (λ i. omega (arith, i.lowest, c.if-a-b.true))

-- src/lib.rt:102:9
pub returns-then-b-a : goal.returns-then-b-a
returns-then-b-a c = λ n. let a = c.args in outside n _ (stated a.a) (stated a.b) (λ i. omega (arith, i.highest, c.if-b-a.true))

-- src/lib.rt:94:1
pub returns : goal.returns
returns c = λ n. let a = c.args in c.is_below.ensures ∙ by-type n _ (stated a.a) (stated a.b) (omega (arith, c.if-a-b.false)) (omega (arith, c.if-b-a.false))
