-- The shapes of small graphs, computed. Of all choices of links between at most three nodes by features below F, those that are their own written
-- form are the ones that the numbers state, and each of these is read and is its own written form.
use mathlib.Core.Path.{◌≡◌, refl}
use mathlib.Core.Bool.{Bool, true, false, cond, not, ◌&&◌, ◌||◌}
use mathlib.Core.List.{List, [], ◌∷◌, ◌++◌, map, flat_map}
use mathlib.Core.Option.{Option, bind}
use Prim.Native.Nat.{ℕ, zero, suc}
use lib.Dec.{eqb, leb, ltb}
use lib.ListN.{length, get_or, take}
use Rattle.graphs.specs.Graph.{Graph}
use Rattle.graphs.specs.Rows.{from, target, links_of}
use Rattle.graphs.specs.Number.{Canonical, many_nodes, many_links, written, canonical, visit, each, member, index_of, out_degree, link_count, row_of}
use Rattle.graphs.specs.Order.{all_of}
use Rattle.graphs.specs.Unify.{any_of, deep, holds}
use Rattle.listed.specs.Listing.{link_set, span, runs}

-- the links of each node
abbrev pub Links : Type 0
Links = List (List (ℕ × ℕ))

-- All choices of links by the given features to nodes below N.
unfoldable pub chosen : ℕ → List ℕ → Links
chosen N [] = [] ∷ []
chosen N (f ∷ fs) = chosen N fs ++ flat_map (λ w. map (λ ls. (f, w) ∷ ls) (chosen N fs)) (from 0 N)

-- All lists of k members of a list.
unfoldable pub tuples : {X : Type 0} → List X → ℕ → List (List X)
tuples xs zero = [] ∷ []
tuples xs (suc k) = flat_map (λ x. map (λ r. x ∷ r) (tuples xs k)) xs

abbrev pub link_in : Links → ℕ → ℕ → Option ℕ
link_in ks v f = target (get_or ks v []) f

-- The graph with these links, in which each node's label is its number.
abbrev pub bare : Links → Graph ℕ ℕ
bare ks = record { root = 0; label = λ v. v; link = link_in ks }

unfoldable pub loops : Links → Bool
loops ks = any_of (from 0 (length ks)) λ v. deep (link_in ks) (length ks) v

unfoldable pub same_links : List (ℕ × ℕ) → List (ℕ × ℕ) → Bool
same_links [] [] = true
same_links [] (b ∷ bs) = false
same_links (a ∷ xs) [] = false
same_links (a ∷ xs) (b ∷ bs) = eqb a.0 b.0 && (eqb a.1 b.1 && same_links xs bs)

unfoldable pub same_all : Links → Links → Bool
same_all [] [] = true
same_all [] (b ∷ bs) = false
same_all (a ∷ xs) [] = false
same_all (a ∷ xs) (b ∷ bs) = same_links a b && same_all xs bs

-- A written form has these links.
abbrev pub has_links : Links → Canonical ℕ → Bool
has_links ks many_nodes = false
has_links ks many_links = false
has_links ks (written rows) = same_all (map (λ r. r.1) rows) ks

unfoldable pub own : Links → Bool
own ks = has_links ks (canonical eqb (bare ks))

-- the number of a node's links
unfoldable pub code_of : List (ℕ × ℕ) → ℕ
code_of [] = 0
code_of (l ∷ []) = suc l.0
code_of (l ∷ m ∷ []) = cond (eqb l.1 m.1) 3 4
code_of (l ∷ m ∷ k ∷ ls) = 5

unfoldable pub within : ℕ × ℕ → ℕ → Bool
within s x = leb s.0 x && leb x s.1

-- The links are those of some numbers, and these are within their bounds. The types play no part.
unfoldable pub shaped : ℕ → Links → Bool
shaped F [] = false
shaped F (a ∷ []) = within (span 2 F (1 ∷ 1 ∷ [])) (code_of a) && same_links a (link_set 0 (code_of a))
shaped F (a ∷ b ∷ []) =
    within (span 2 F (1 ∷ 2 ∷ [])) (code_of a) && (same_links a (link_set 0 (code_of a)) &&
    (within (span 2 F (1 ∷ code_of a ∷ 1 ∷ 2 ∷ [])) (code_of b) && same_links b (link_set 1 (code_of b))))
shaped F (a ∷ b ∷ c ∷ []) =
    within (span 2 F (1 ∷ 3 ∷ [])) (code_of a) && (same_links a (link_set 0 (code_of a)) &&
    (within (span 2 F (1 ∷ code_of a ∷ 1 ∷ 3 ∷ [])) (code_of b) && (same_links b (link_set 1 (code_of b)) &&
    (within (span 2 F (1 ∷ code_of b ∷ 1 ∷ code_of a ∷ 1 ∷ 3 ∷ [])) (code_of c) && same_links c (link_set 2 (code_of c))))))
shaped F (a ∷ b ∷ c ∷ d ∷ ks) = false

-- Of all choices, those that have no loop and are their own written form have such a shape.
unfoldable pub test : ℕ → ℕ → Bool
test F N = all_of (tuples (chosen N (from 0 F)) N) λ ks. loops ks || (not (own ks) || shaped F ks)

-- Each list of numbers states links that ascend, have features below F, lead to nodes of the graph, make no loop and reach every node. The links
-- are their own written form, with each node in its place.

unfoldable pub same_numbers : List ℕ → List ℕ → Bool
same_numbers [] [] = true
same_numbers [] (b ∷ bs) = false
same_numbers (a ∷ xs) [] = false
same_numbers (a ∷ xs) (b ∷ bs) = eqb a b && same_numbers xs bs

unfoldable pub ascends : List (ℕ × ℕ) → Bool
ascends [] = true
ascends (l ∷ ls) = all_of ls (λ m. ltb l.0 m.0) && ascends ls

abbrev pub in_place : Links → Canonical ℕ → Bool
in_place ks many_nodes = false
in_place ks many_links = false
in_place ks (written rows) = same_all (map (λ r. r.1) rows) ks && same_numbers (map (λ r. r.0) rows) (from 0 (length ks))

unfoldable pub proper : ℕ → ℕ → List (ℕ × ℕ) → Bool
proper F N ls = ascends ls && (leb (length ls) 2 && all_of ls λ l. ltb l.0 F && ltb l.1 N)

unfoldable pub good : ℕ → Links → Bool
good F ks =
    all_of ks (proper F (length ks)) && (not (loops ks) && (holds (λ seen. eqb (length seen) (length ks)) (visit eqb (link_in ks) 255 0 []) &&
    in_place ks (canonical eqb (bare ks))))

-- the links that numbers state
unfoldable pub stated_links : List ℕ → Links
stated_links d = take (get_or d 0 0) (link_set 0 (get_or d 2 0) ∷ link_set 1 (get_or d 4 0) ∷ link_set 2 (get_or d 6 0) ∷ [])

unfoldable pub stated : ℕ → Bool
stated F = all_of (runs (span 2 F) [] 7) λ d. good F (stated_links d)

pub one-one : test 1 1 ≡ true
unfolding test tuples chosen loops own shaped within code_of same_all same_links all_of from flat_map any_of deep target canonical visit each member index_of links_of out_degree link_count row_of span bind
one-one = refl

pub one-two : test 1 2 ≡ true
unfolding test tuples chosen loops own shaped within code_of same_all same_links all_of from flat_map any_of deep target canonical visit each member index_of links_of out_degree link_count row_of span bind
one-two = refl

pub one-three : test 1 3 ≡ true
unfolding test tuples chosen loops own shaped within code_of same_all same_links all_of from flat_map any_of deep target canonical visit each member index_of links_of out_degree link_count row_of span bind
one-three = refl

pub two-one : test 2 1 ≡ true
unfolding test tuples chosen loops own shaped within code_of same_all same_links all_of from flat_map any_of deep target canonical visit each member index_of links_of out_degree link_count row_of span bind
two-one = refl

pub two-two : test 2 2 ≡ true
unfolding test tuples chosen loops own shaped within code_of same_all same_links all_of from flat_map any_of deep target canonical visit each member index_of links_of out_degree link_count row_of span bind
two-two = refl

pub two-three : test 2 3 ≡ true
unfolding test tuples chosen loops own shaped within code_of same_all same_links all_of from flat_map any_of deep target canonical visit each member index_of links_of out_degree link_count row_of span bind
two-three = refl

pub stated-one : stated 1 ≡ true
unfolding stated runs stated_links good proper ascends same_numbers loops same_all same_links all_of from flat_map any_of deep target canonical visit each member index_of links_of out_degree link_count row_of span bind
stated-one = refl

pub stated-two : stated 2 ≡ true
unfolding stated runs stated_links good proper ascends same_numbers loops same_all same_links all_of from flat_map any_of deep target canonical visit each member index_of links_of out_degree link_count row_of span bind
stated-two = refl
