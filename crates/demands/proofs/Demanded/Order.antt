-- What the order's four answers mean: each is given exactly where it is true over paths, and swapping the two graphs swaps the answer.
use mathlib.Core.Path.{◌≡◌, refl, sym, ◌∙◌, ap, ap₂}
use mathlib.Core.Bool.{Bool, true, false}
use mathlib.Core.List.{List}
use mathlib.Core.Logic.{◌↔◌, inl, inr, ⊎_elim}
use mathlib.Core.Option.{Option, none, some}
use Prim.Native.Nat.{ℕ}
use native.Mathlib.Omega.{arith}
use Rattle.graphs.specs.Graph.{Below}
use Rattle.graphs.specs.Rows.{Row}
use Rattle.graphs.proofs.Search.{true-false, not-true-false}
use Rattle.graphs.proofs.Walk.{none-some}
use Rattle.lattice.specs.Label.{Label}
use Rattle.acceptance.specs.Reply.{TableAnswer}
use Rattle.std.specs.Prelude.{Ok, Err}
use Rattle.acceptance.specs.Reply as table
use Rattle.lattice.specs.Labels.{table_labels}
use Rattle.record.specs.Read.{Reading, refused, accepted, reading, graph_of_rows}
use Rattle.record.specs.declared.GraphFault.{GraphFault}
use Rattle.record.proofs.Accepted.{accepted-rules}
use Rattle.replies.specs.declared.Side.TheVariants.{First, Second}
use Rattle.replies.specs.declared.answers.Answer.{Answer}
use Rattle.replies.specs.declared.answers.Answer.TheVariants as answer
use Rattle.replies.specs.Replies.{Reply}
use Rattle.replies.specs.Replies.{Same, Under, Above, Neither, Table, Graph}
use Rattle.replies.specs.Reply.{answer_of}
use Rattle.subsume.specs.Promise.{rows_below}
use Rattle.calls.specs.Calls.{checked, ordering}
use Rattle.pairs.specs.Pair.{read_both}
use Rattle.orders.specs.Ordering.{compared, ordered}
use Rattle.demands.specs.Demand.{Given, AnswersBelow, AnswersNotBelow}
use Rattle.record.proofs.Ordered.{order-test}

-- the two tests that one of the four tells
told_in : Answer → Option (Bool × Bool)
told_in answer.Same = some (true, true)
told_in answer.Under = some (true, false)
told_in answer.Above = some (false, true)
told_in answer.Neither = some (false, false)
told_in (answer.Length l) = none
told_in (answer.Counts nodes rows) = none
told_in answer.End = none
told_in (answer.Refused number) = none
told_in (answer.RefusedGraph number side) = none

abbrev told : Reply → Option (Bool × Bool)
told r = told_in (answer_of r)

compared-told : (x y : Bool) → told (compared x y) ≡ some (x, y)
unfolding told_in
compared-told true true = refl
compared-told true false = refl
compared-told false true = refl
compared-told false false = refl

-- Different test results give different answers.
compared-injective : (x y z w : Bool) → compared x y ≡ compared z w → (x ≡ z) × (y ≡ w)
compared-injective x y z w e =
    let q : ◌≡◌ {A = Option (Bool × Bool)} (some (x, y)) (some (z, w)) = sym (compared-told x y) ∙ ap told e ∙ compared-told z w in
    let p : ◌≡◌ {A = Bool × Bool} (x, y) (z, w) = cc in
    (ap (λ (v : Bool × Bool). v.0) p, ap (λ (v : Bool × Bool). v.1) p)

-- A refusal is none of the four answers.
refusal-told : (r : Reply) (x y : Bool) → told r ≡ none → r ≡ compared x y → ⊥
refusal-told r x y q e = none-some (sym q ∙ ap told e ∙ compared-told x y)

module _ (n : ℕ) (t a b : List ℕ) (s g : List (Row Label)) (given : Given n t a b s g) where
  ordering-is : ordering n t a b ≡ compared (rows_below n t s g) (rows_below n t g s)
  unfolding ordering ordered
  ordering-is = rw (given.opens, given.first, given.second)

  -- Each test decides the order over paths.
  lower : (rows_below n t s g ≡ true) ↔ Below (table_labels n t) (graph_of_rows s) (graph_of_rows g)
  lower = order-test n t s g (accepted-rules n b g given.second)

  upper : (rows_below n t g s ≡ true) ↔ Below (table_labels n t) (graph_of_rows g) (graph_of_rows s)
  upper = order-test n t g s (accepted-rules n a s given.first)

  not_lower : (rows_below n t s g ≡ false) ↔ (Below (table_labels n t) (graph_of_rows s) (graph_of_rows g) → ⊥)
  not_lower = (λ q x. true-false (lower.1 x) q, λ none. not-true-false (rows_below n t s g) (λ q. none (lower.0 q)))

  not-upper : (rows_below n t g s ≡ false) ↔ (Below (table_labels n t) (graph_of_rows g) (graph_of_rows s) → ⊥)
  not-upper = (λ q x. true-false (upper.1 x) q, λ none. not-true-false (rows_below n t g s) (λ q. none (upper.0 q)))

  -- an answer is given exactly where the tests give it
  answer-exact : (x y : Bool) → (ordering n t a b ≡ compared x y) ↔ ((rows_below n t s g ≡ x) × (rows_below n t g s ≡ y))
  answer-exact x y = (
    λ e. compared-injective (rows_below n t s g) (rows_below n t g s) x y (sym ordering-is ∙ e),
    λ (p, q). ordering-is ∙ ap₂ compared p q,
  )

  -- Each of the four answers is given exactly where it is true over paths.
  pub same-exact : (ordering n t a b ≡ Same) ↔
      (Below (table_labels n t) (graph_of_rows s) (graph_of_rows g) × Below (table_labels n t) (graph_of_rows g) (graph_of_rows s))
  same-exact = (
    λ e. let (p, q) = (answer-exact true true).0 e in (lower.0 p, upper.0 q),
    λ (x, y). (answer-exact true true).1 (lower.1 x, upper.1 y),
  )

  pub under-exact : (ordering n t a b ≡ Under) ↔
      (Below (table_labels n t) (graph_of_rows s) (graph_of_rows g) × (Below (table_labels n t) (graph_of_rows g) (graph_of_rows s) → ⊥))
  under-exact = (
    λ e. let (p, q) = (answer-exact true false).0 e in (lower.0 p, not-upper.0 q),
    λ (x, y). (answer-exact true false).1 (lower.1 x, not-upper.1 y),
  )

  pub above-exact : (ordering n t a b ≡ Above) ↔
      (Below (table_labels n t) (graph_of_rows g) (graph_of_rows s) × (Below (table_labels n t) (graph_of_rows s) (graph_of_rows g) → ⊥))
  above-exact = (
    λ e. let (p, q) = (answer-exact false true).0 e in (upper.0 q, not_lower.0 p),
    λ (x, y). (answer-exact false true).1 (not_lower.1 y, upper.1 x),
  )

  pub neither-exact : (ordering n t a b ≡ Neither) ↔
      ((Below (table_labels n t) (graph_of_rows s) (graph_of_rows g) → ⊥) × (Below (table_labels n t) (graph_of_rows g) (graph_of_rows s) → ⊥))
  neither-exact = (
    λ e. let (p, q) = (answer-exact false false).0 e in (not_lower.0 p, not-upper.0 q),
    λ (x, y). (answer-exact false false).1 (not_lower.1 x, not-upper.1 y),
  )

  -- The order answers same or under exactly where the first graph is below the second, and above or neither exactly where it is not.
  pub order-exact : (AnswersBelow n t a b ↔ Below (table_labels n t) (graph_of_rows s) (graph_of_rows g)) ×
      (AnswersNotBelow n t a b ↔ (Below (table_labels n t) (graph_of_rows s) (graph_of_rows g) → ⊥))
  order-exact = (
    (
      λ answer. ⊎_elim (λ (e : ordering n t a b ≡ Same). (same-exact.0 e).0) (λ (e : ordering n t a b ≡ Under). (under-exact.0 e).0) answer,
      λ x. below (rows_below n t g s) refl (lower.1 x),
    ),
    (
      λ answer. ⊎_elim (λ (e : ordering n t a b ≡ Above). (above-exact.0 e).1) (λ (e : ordering n t a b ≡ Neither). (neither-exact.0 e).0) answer,
      λ none. not-below (rows_below n t g s) refl (not_lower.1 none),
    ),
  )
    where
      below : (y : Bool) → rows_below n t g s ≡ y → rows_below n t s g ≡ true → AnswersBelow n t a b
      below true q p = inl ((answer-exact true true).1 (p, q))
      below false q p = inr ((answer-exact true false).1 (p, q))

      not-below : (y : Bool) → rows_below n t g s ≡ y → rows_below n t s g ≡ false → AnswersNotBelow n t a b
      not-below true q p = inl ((answer-exact false true).1 (p, q))
      not-below false q p = inr ((answer-exact false false).1 (p, q))

-- Each of the four answers says that the table and both records are accepted.
answer-given : (n : ℕ) (t a b : List ℕ) (x y : Bool) → ordering n t a b ≡ compared x y →
    (s : List (Row Label)) × (g : List (Row Label)) × Given n t a b s g
unfolding ordering told_in
answer-given n t a b x y e = go (table.opened n t) (reading n a) (reading n b) refl refl refl e
  where
    go : (o : TableAnswer) (v w : Reading) → table.opened n t ≡ o → reading n a ≡ v → reading n b ≡ w →
        checked (λ r. r) o (read_both (λ r. r) v w (ordered n t)) ≡ compared x y →
        (s : List (Row Label)) × (g : List (Row Label)) × Given n t a b s g
    go (Err fault) v w i j k e = absurd (refusal-told (Table fault) x y refl e)
    go (Ok tt) (refused fault) w i j k e = absurd (refusal-told (Graph fault First) x y refl e)
    go (Ok tt) (accepted s) (refused fault) i j k e = absurd (refusal-told (Graph fault Second) x y refl e)
    go (Ok tt) (accepted s) (accepted g) i j k e = (s, g, record { opens = i; first = j; second = k })

module _ (n : ℕ) (t a b : List ℕ) where
  pub below-given : AnswersBelow n t a b → (s : List (Row Label)) × (g : List (Row Label)) × Given n t a b s g
  below-given (inl e) = answer-given n t a b true true e
  below-given (inr e) = answer-given n t a b true false e

  -- Swapping the two records swaps the two tests in the answer.
  pub answer-turned : (x y : Bool) → ordering n t a b ≡ compared x y → ordering n t b a ≡ compared y x
  answer-turned x y e =
      let (s, g, given) = answer-given n t a b x y e in
      let (p, q) = (answer-exact n t a b s g given x y).0 e in
      (answer-exact n t b a g s (record { opens = given.opens; first = given.second; second = given.first }) y x).1 (q, p)

  -- Where only one of the two records is refused, swapping them swaps the side that the refusal tells.
  pub refusal-turned : (s : List (Row Label)) → reading n a ≡ accepted s → (fault : GraphFault) →
      (ordering n t a b ≡ Graph fault Second) ↔ (ordering n t b a ≡ Graph fault First)
  unfolding ordering ordered told_in
  refusal-turned s e fault = rw e (go (table.opened n t) (reading n b))
    where
      go : (o : TableAnswer) (w : Reading) →
          (checked (λ r. r) o (read_both (λ r. r) (accepted s) w (ordered n t)) ≡ Graph fault Second) ↔
          (checked (λ r. r) o (read_both (λ r. r) w (accepted s) (ordered n t)) ≡ Graph fault First)
      go (Err other) w = (
        λ q. let z : ◌≡◌ {A = ℕ} 0 1 = cc in absurd (omega arith),
        λ q. let z : ◌≡◌ {A = ℕ} 0 1 = cc in absurd (omega arith),
      )
      go (Ok tt) (refused other) = (
        λ q. let same : other ≡ fault = cc in ap (λ f. Graph f First) same,
        λ q. let same : other ≡ fault = cc in ap (λ f. Graph f Second) same,
      )
      go (Ok tt) (accepted g) = (
        λ q. absurd (refusal-told (Graph fault Second) (rows_below n t s g) (rows_below n t g s) refl (sym q)),
        λ q. absurd (refusal-told (Graph fault First) (rows_below n t g s) (rows_below n t s g) refl (sym q)),
      )
