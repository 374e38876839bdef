-- All small graphs in the order of their records' bytes (document 02, Paper 14). F is the number of features, n the number of types.
use Rattle.std.specs.Prelude.{◌≡◌, Bool, true, false, cond, not, ◌&&◌, ◌||◌, ◌⊎◌, ℕ, zero, suc, ◌-◌, ◌≤◌, eqb, leb, ltb, length, get_or, take}
use mathlib.Core.List.{List, [], ◌∷◌, map, flat_map}
use Rattle.std.proofs.Math.Option
use Rattle.std.proofs.Math.Option.{Option, none, some, bind, or_else}
use Rattle.graphs.specs.Rows.{Row, from}
use Rattle.graphs.specs.Number.{canonical, written}
use Rattle.graphs.specs.Order.{all_of}
use Rattle.graphs.specs.Unify.{any_of}
use Rattle.lattice.specs.Label.{Label, plain, is_full}
use Rattle.encoder.specs.Encode.{encoded}
use Rattle.record.specs.Read.{reading, accepted, graph_of_rows}

-- "the order of their bytes": at the first place where the two lists differ, the first has the lesser byte, or it ends there.
unfoldable pub precedes : List ℕ → List ℕ → Bool
precedes [] [] = false
precedes [] (y ∷ ys) = true
precedes (x ∷ xs) [] = false
precedes (x ∷ xs) (y ∷ ys) = ltb x y || (eqb x y && precedes xs ys)

-- every feature of the rows is below F
unfoldable pub features_below : ℕ → List (Row Label) → Bool
features_below F rows = all_of rows λ r. all_of r.1 λ l. ltb l.0 F

-- no node has a range
unfoldable pub unranged_rows : List (Row Label) → Bool
unranged_rows rows = all_of rows λ r. is_full r.0

-- "at most 3 nodes .. all written records without ranges that use features below F".
pub record Listed (n F : ℕ) (bytes : List ℕ) : Type 0 where
  pub form : List (Row Label)
  pub reads : reading n bytes ≡ accepted form
  pub own : canonical eqb (graph_of_rows form) ≡ written form
  pub bytes-are : bytes ≡ encoded form
  pub few : length form ≤ 3
  pub features : features_below F form ≡ true
  pub unranged : unranged_rows form ≡ true

-- r is the least listed record above the bytes; above no bytes, this is the least of all.
pub record LeastAbove (n F : ℕ) (bytes r : List ℕ) : Type 0 where
  pub listed : Listed n F r
  pub above : precedes bytes r ≡ true
  pub least : (s : List ℕ) → Listed n F s → precedes bytes s ≡ true → (s ≡ r) ⊎ (precedes r s ≡ true)

-- Seven numbers state a listed record: the number of its nodes, and for each of three nodes its type and its links, as a number. A node that is
-- not there has 0 and 0. The links of a node, by number: 0, none; 1, 2 and 3, by feature 0, by feature 1 and by both to one node, which is node 2
-- from node 1 and node 1 from the others; 4, of the root alone, feature 0 to node 1 and feature 1 to node 2.

-- The one node that the links of node v lead to: 2 from node 1, and 1 from the others.
abbrev pub heir : ℕ → ℕ
heir v = cond (eqb v 1) 2 1

-- The links of node v, by their number.
abbrev pub link_set : ℕ → ℕ → List (ℕ × ℕ)
link_set v zero = []
link_set v (suc zero) = (0, heir v) ∷ []
link_set v (suc (suc zero)) = (1, heir v) ∷ []
link_set v (suc (suc (suc zero))) = (0, heir v) ∷ (1, heir v) ∷ []
link_set v (suc (suc (suc (suc k)))) = (0, 1) ∷ (1, 2) ∷ []

-- the rows that seven numbers state
unfoldable pub stated_rows : List ℕ → List (Row Label)
stated_rows d =
    take (get_or d 0 0)
    ((plain (get_or d 1 0), link_set 0 (get_or d 2 0)) ∷ (plain (get_or d 3 0), link_set 1 (get_or d 4 0)) ∷
    (plain (get_or d 5 0), link_set 2 (get_or d 6 0)) ∷ [])

-- The number of choices of links to one node: 1 for F of 1, 3 for F of 2.
abbrev pub sets : ℕ → ℕ
sets F = cond (eqb F 1) 1 3

-- The least and the greatest number that may stand at a place: for the type of a node, which is there or not, and for the links of each node.

-- The span of the type of a node, which is there or not.
abbrev pub type_span : ℕ → Bool → ℕ × ℕ
type_span n there = cond there (1, n - 1) (0, 0)

-- The span of the root's links.
abbrev pub root_span : ℕ → ℕ → ℕ × ℕ
root_span F N = cond (eqb N 1) (0, 0) (1, cond (eqb N 3 && eqb F 2) 4 (sets F))

-- The span of the links of node 1.
abbrev pub middle_span : ℕ → ℕ → ℕ → ℕ × ℕ
middle_span F N c₀ = cond (eqb N 3) (cond (eqb c₀ 4) 0 1, sets F) (0, 0)

-- The span of the links of node 2.
abbrev pub last_span : ℕ → ℕ → ℕ → ℕ × ℕ
last_span N c₀ c₁ = cond (eqb N 3 && eqb c₀ 4 && eqb c₁ 0) (0, 3) (0, 0)

-- The bounds of the next number, by the numbers before it, the last of them first.
unfoldable pub span : ℕ → ℕ → List ℕ → ℕ × ℕ
span n F [] = (1, 3)
span n F (N ∷ []) = type_span n true
span n F (t₀ ∷ N ∷ []) = root_span F N
span n F (c₀ ∷ t₀ ∷ N ∷ []) = type_span n (leb 2 N)
span n F (t₁ ∷ c₀ ∷ t₀ ∷ N ∷ []) = middle_span F N c₀
span n F (c₁ ∷ t₁ ∷ c₀ ∷ t₀ ∷ N ∷ []) = type_span n (eqb N 3)
span n F (t₂ ∷ c₁ ∷ t₁ ∷ c₀ ∷ t₀ ∷ N ∷ []) = last_span N c₀ c₁
span n F (c₂ ∷ t₂ ∷ c₁ ∷ t₁ ∷ c₀ ∷ t₀ ∷ N ∷ more) = (0, 0)

-- Each number is between its bounds.
abbrev pub Run : (List ℕ → ℕ × ℕ) → List ℕ → List ℕ → Type 0
Run bounds p [] = Unit {0}
Run bounds p (x ∷ xs) = ((bounds p).0 ≤ x) × (x ≤ (bounds p).1) × Run bounds (x ∷ p) xs

-- All lists of k numbers that may stand behind the given ones, in order.
unfoldable pub runs : (List ℕ → ℕ × ℕ) → List ℕ → ℕ → List (List ℕ)
runs bounds p zero = [] ∷ []
runs bounds p (suc k) = flat_map (λ x. map (λ xs. x ∷ xs) (runs bounds (x ∷ p) k)) (from (bounds p).0 (suc (bounds p).1 - (bounds p).0))

-- The least k numbers behind the given ones.
unfoldable pub least_run : (List ℕ → ℕ × ℕ) → ℕ → List ℕ → List ℕ
least_run bounds zero p = []
least_run bounds (suc k) p = (bounds p).0 ∷ least_run bounds k ((bounds p).0 ∷ p)

-- The next of these lists: the last number that can be raised is raised by one, and those behind it take their least.
unfoldable pub raised : (List ℕ → ℕ × ℕ) → List ℕ → List ℕ → Option (List ℕ)
raised bounds p [] = none
raised bounds p (x ∷ xs) =
    or_else (Option.map (λ zs. x ∷ zs) (raised bounds (x ∷ p) xs))
    (cond (ltb x (bounds p).1) (some (suc x ∷ least_run bounds (length xs) (suc x ∷ p))) none)

-- the record that seven numbers state
abbrev pub record_of : List ℕ → List ℕ
record_of d = encoded (stated_rows d)

-- all listed records, in order
unfoldable pub listing : ℕ → ℕ → List (List ℕ)
listing n F = map record_of (runs (span n F) [] 7)

-- The bytes are one of the listed records: neither comes before the other.
unfoldable pub is_listed : ℕ → ℕ → List ℕ → Bool
is_listed n F bytes = any_of (listing n F) λ r. not (precedes bytes r || precedes r bytes)

-- The first record of a list that the bytes precede.
unfoldable pub first_after : List ℕ → List (List ℕ) → Option (List ℕ)
first_after bytes [] = none
first_after bytes (r ∷ rs) = cond (precedes bytes r) (some r) (first_after bytes rs)

-- The next listed record; the first one where there are no bytes; none at the end.
unfoldable pub following : ℕ → ℕ → List ℕ → Option (List ℕ)
following n F bytes = first_after bytes (listing n F)

-- What call k gives: call 0 has no record, and each later call has the record that the call before it gave.
unfoldable pub calls : ℕ → ℕ → ℕ → Option (List ℕ)
calls n F zero = following n F []
calls n F (suc k) = bind (calls n F k) (λ bytes. following n F bytes)
