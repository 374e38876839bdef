-- The tests for 6 and 7 are exact. A walk of as many links as there are rows comes back to a row, and a row that reaches itself
-- starts walks of every length, so `cyclic` says whether some node reaches itself, from the root or not. A visit lists each
-- reached node once, so it lists as many as there are rows exactly where it lists them all.
use mathlib.Core.Path.{◌≡◌, refl}
use mathlib.Core.Bool.{true}
use mathlib.Core.List.{List, [], ◌∷◌, Memᴰ}
use mathlib.Core.Logic.{◌↔◌}
use mathlib.Core.Option.{Option, none, some}
use Prim.Native.Nat.{ℕ, ◌≤◌, ◌<◌}
use native.Mathlib.Omega.{arith}
use borrow.Author.Tests.{eqb-true, eq-eqb}
use lib.Dec.{eqb}
use lib.ListN.{length}
use Rattle.graphs.specs.Graph.{follow, Reached}
use Rattle.graphs.specs.Rows.{Row, from}
use Rattle.graphs.specs.Number.{visit}
use Rattle.graphs.specs.Unify.{deep, holds}
use Rattle.graphs.specs.Large.{Distinct}
use Rattle.graphs.proofs.Walk.{follow-nil, reached-root, reached-link}
use Rattle.graphs.proofs.Lists.{from_member, from-range, length_from, distinct_from, distinct-bound, tells-eqb, full-list}
use Rattle.graphs.proofs.Search.{true-false, any_of-true, any_of-finds}
use Rattle.graphs.proofs.Unification.Deep.{deep-walk, walk-deep, long-loop, loop-walk}
use Rattle.graphs.proofs.Form.Visited.{visit-many}
use Rattle.graphs.proofs.Form.Canonical.{seen-reached, reached-seen, seen-distinct, seen-short}
use Rattle.lattice.specs.Label.{Label}
use Rattle.record.specs.Read.{graph_of_rows, cyclic, reaches_all}
use Rattle.record.proofs.Nodes.{Linked, link-small, follow-inside, reached-inside, reached-listed, narrow, few-nodes}

-- "a node reaches itself"
abbrev pub SelfReach : List (Row Label) → Type 0
SelfReach rows =
    (v : ℕ) × (v < length rows) × (f : ℕ) × (p : List ℕ) × (follow (graph_of_rows rows).link (some v) (f ∷ p) ≡ some v)

-- there is no "node the root does not reach"
abbrev pub AllReached : List (Row Label) → Type 0
AllReached rows = (v : ℕ) → v < length rows → Reached (graph_of_rows rows) v

module _ (rows : List (Row Label)) (linked : Linked rows) where
  pub cyclic-exact : (cyclic rows ≡ true) ↔ SelfReach rows
  unfolding cyclic
  cyclic-exact = (there, back)
    where
      count : ℕ
      count = length rows

      link : ℕ → ℕ → Option ℕ
      link = (graph_of_rows rows).link

      there : cyclic rows ≡ true → SelfReach rows
      there e =
          let (v, m, d) = any_of-true (λ v. deep link count v) (from 0 count) e in
          let inside = from-range 0 count v m in
          let (p, x, n, w) = deep-walk link count v d in
          let (y, f, q, (a, to), loop) = long-loop link eqb tells-eqb p v x (from 0 count)
          (λ q y d. from_member 0 count y (omega arith) (omega (arith, follow-inside rows linked q v y (omega arith) d)))
          w (omega (arith, length_from 0 count)) in
          (y, follow-inside rows linked a v y (omega arith) to, f, q, loop)

      back : SelfReach rows → cyclic rows ≡ true
      back (v, h, f, p, e) =
          let (q, x, w, long) = loop-walk link (some v) (v, f, p, ([], follow-nil link (some v)), e) count in
          any_of-finds (λ v. deep link count v) (from 0 count) v (from_member 0 count v (omega arith) (omega arith))
          (walk-deep link count v q x (λ q y z f _ l. link-small rows linked y z f l) w long)

  -- the nodes that the visit lists are 255 at the most, so the test also says that there are no more rows
  pub reaches-exact : (reaches_all rows ≡ true) ↔ ((length rows ≤ 255) × AllReached rows)
  unfolding reaches_all
  reaches-exact = go (visit eqb (graph_of_rows rows).link 255 0 []) refl
    where
      go : (o : Option (List ℕ)) → visit eqb (graph_of_rows rows).link 255 0 [] ≡ o →
          (holds (λ seen. eqb (length seen) (length rows)) o ≡ true) ↔ ((length rows ≤ 255) × AllReached rows)
      go none e = (
        λ q. true-false q refl,
        λ (short, _).
            absurd
            (few-nodes rows linked short
            (visit-many eqb tells-eqb (graph_of_rows rows).link (Reached (graph_of_rows rows))
            (λ v w f r l. reached-link (graph_of_rows rows) f r l) (narrow rows linked) 0 (reached-root (graph_of_rows rows)) e)),
      )
      go (some now) e = (
        λ q.
            let full = eqb-true (length now) (length rows) q in (
              omega (arith, seen-short eqb tells-eqb (graph_of_rows rows) (narrow rows linked) now e),
              λ v h. found v (full-list (length rows) now distinct (λ x m. reached-inside rows linked x (found x m)) full v h),
            ),
        λ (_, all).
            let enough = distinct-bound (from 0 (length rows)) now (distinct_from 0 (length rows))
            (λ v m. finds v (all v (omega (arith, from-range 0 (length rows) v m)))) in
            let few = distinct-bound now (from 0 (length rows)) distinct (λ v m. reached-listed rows linked v (found v m)) in
            eq-eqb (length now) (length rows) (omega (arith, length_from 0 (length rows))),
      )
        where
          distinct : Distinct now
          distinct = seen-distinct eqb tells-eqb (graph_of_rows rows) (narrow rows linked) now e

          found : (v : ℕ) → Memᴰ v now → Reached (graph_of_rows rows) v
          found = seen-reached eqb tells-eqb (graph_of_rows rows) (narrow rows linked) now e

          finds : (v : ℕ) → Reached (graph_of_rows rows) v → Memᴰ v now
          finds = reached-seen eqb tells-eqb (graph_of_rows rows) (narrow rows linked) now e
