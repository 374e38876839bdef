-- This file computes the difference of g and s, for s below g (document 01, "Difference"; document 001). `ss` and `gs` list the nodes
-- of s and g, and `over y` is the node of s that the paths of g to y lead to. `earlier` orders the links of s, and `wanted` gives each
-- node of s its wanted label. `Relations.antt` says the same over paths.
use Rattle.std.specs.Prelude.{◌≡◌, Bool, true, false, cond, not, ◌&&◌, ◌||◌, List, [], ◌∷◌, ◌++◌, map, ◌⊎◌, ℕ, zero, suc, leb, eqb, length}
use Rattle.std.proofs.Math.Option.{Option, none, some, bind}
use Rattle.graphs.specs.Label.{Labels}
use Rattle.graphs.specs.Graph.{Graph}
use Rattle.graphs.specs.Rows.{features}
use Rattle.graphs.specs.Unify.{any_of, holds}

-- a link of s: the node that it leaves, and its feature
abbrev pub Link : Type 0 → Type 0
Link A = A × ℕ

-- `earlier` is a strict total order of links.
pub record StrictOrder {A : Type 0} (earlier : Link A → Link A → Bool) : Type 0 where
  pub irreflexive : (l : Link A) → earlier l l ≡ false
  pub transitive : (l m n : Link A) → earlier l m ≡ true → earlier m n ≡ true → earlier l n ≡ true
  pub total : (l m : Link A) → (earlier l m ≡ true) ⊎ (earlier m l ≡ true) ⊎ (l ≡ m)

-- the least of the link l and the links of a list
unfoldable pub least_of : {A : Type 0} → (Link A → Link A → Bool) → Link A → List (Link A) → Link A
least_of earlier l [] = l
least_of earlier l (m ∷ ms) = least_of earlier (cond (earlier m l) m l) ms

-- the meet of the labels that a test picks, top where it picks none
unfoldable pub meet_where : (𝓛 : Labels) {B : Type 0} → (B → Bool) → (B → 𝓛.L) → List B → 𝓛.L
meet_where 𝓛 test label [] = 𝓛.top
meet_where 𝓛 test label (y ∷ ys) = cond (test y) (𝓛.meet (label y) (meet_where 𝓛 test label ys)) (meet_where 𝓛 test label ys)

-- "The wanted type is the greatest type whose meet with the meet of all g types over this node .. equals the type in s": c is
-- the greatest label whose meet with q is p.
pub record IsWanted (𝓛 : Labels) (q p c : 𝓛.L) : Type 0 where
  pub restores : 𝓛.meet c q ≡ p
  pub greatest : (d : 𝓛.L) → 𝓛.meet d q ≡ p → 𝓛.le d c ≡ true

-- c is the greatest label whose meet with q is below or equal to p. "A table admits differences when for all types p, q" there is such a c.
pub record IsResidual (𝓛 : Labels) (q p c : 𝓛.L) : Type 0 where
  pub under : 𝓛.le (𝓛.meet c q) p ≡ true
  pub greatest : (d : 𝓛.L) → 𝓛.le (𝓛.meet d q) p ≡ true → 𝓛.le d c ≡ true

-- the elements that pass a test
unfoldable pub select : {X : Type 0} → (X → Bool) → List X → List X
select test [] = []
select test (x ∷ xs) = cond (test x) (x ∷ select test xs) (select test xs)

-- each node of a list with each feature, node after node
unfoldable pub links_from : {A : Type 0} → List A → List (Link A)
links_from [] = []
links_from (u ∷ us) = map (λ f. (u, f)) features ++ links_from us

module _ {L A B : Type 0} (sameA : A → A → Bool) (sameB : B → B → Bool) (s : Graph L A) (ss : List A) (g : Graph L B) (gs : List B) (over : B → A) where
  -- whether two links are one
  abbrev pub same_link : Link A → Link A → Bool
  same_link l m = sameA l.0 m.0 && eqb l.1 m.1

  -- whether two links of a list differ
  unfoldable pub differ : List (Link A) → Bool
  differ ls = any_of ls λ l. any_of ls λ m. not (same_link l m)

  -- the links of s that enter v
  unfoldable pub incoming : A → List (Link A)
  incoming v = select (λ l. holds (sameA v) (s.link l.0 l.1)) (links_from ss)

  -- a link of g that lies over l enters z
  unfoldable pub covers : B → Link A → Bool
  covers z l = any_of gs λ y. sameA (over y) l.0 && holds (sameB z) (g.link y l.1)

  -- "A link with nothing of g over it"
  unfoldable pub bare : Link A → Bool
  bare l = not (any_of gs λ z. covers z l)

  -- "put two incoming links in one group when two links of g that enter one node of g lie over them"
  unfoldable pub touch : Link A → Link A → Bool
  touch l m = any_of gs λ z. covers z l && covers z m

  -- "close this transitively": k times, the group becomes those of the links that are in it or touch a link of it.
  unfoldable pub spread : ℕ → List (Link A) → List (Link A) → List (Link A)
  spread zero links group = group
  spread (suc k) links group = spread k links (select (λ m. any_of group λ l. same_link l m || touch l m) links)

  -- the group of a link that enters v
  unfoldable pub group_of : A → Link A → List (Link A)
  group_of v l = let links = incoming v in spread (length links) links (l ∷ [])

  module _ (earlier : Link A → Link A → Bool) where
    -- the least link of the group of a link that enters v
    unfoldable pub lead : A → Link A → Link A
    lead v l = least_of earlier l (group_of v l)

    -- the least link of each group at v
    unfoldable pub leaders : A → List (Link A)
    leaders v = select (λ l. same_link (lead v l) l) (incoming v)

    module _ (is_top : A → Bool) where
      -- v is kept for itself: it is the root, has two or more groups, has a group that nothing of g lies over, or wants a label that is
      -- not top.
      unfoldable pub kept_itself : A → Bool
      kept_itself v = sameA v s.root || differ (leaders v) || any_of (leaders v) bare || not (is_top v)

      -- v is kept for itself, or because "a link leaving this node is kept". Such links are looked for k links deep.
      unfoldable pub keeps : ℕ → A → Bool
      keeps zero v = kept_itself v
      keeps (suc k) v =
          kept_itself v || any_of features λ f. holds (λ w. same_link (lead w (v, f)) (v, f) && keeps k w) (s.link v f)

      -- "the difference keeps the least link of each": a link is kept where it is the least of its group and enters a kept node.
      unfoldable pub kept_link : A → ℕ → Option A
      kept_link u f = bind (s.link u f) λ v. cond (same_link (lead v (u, f)) (u, f) && keeps (length ss) v) (some v) none

-- "The root is always kept. Kept nodes carry their wanted types."
module _ (𝓛 : Labels) {A B : Type 0} (sameA : A → A → Bool) (sameB : B → B → Bool) where
  unfoldable pub difference :
      (earlier : Link A → Link A → Bool) (s : Graph 𝓛.L A) (ss : List A) (g : Graph 𝓛.L B) (gs : List B) (over : B → A)
      (wanted : A → 𝓛.L) → Graph 𝓛.L A
  difference earlier s ss g gs over wanted =
      record {
        root = s.root;
        label = wanted;
        link = kept_link sameA sameB s ss g gs over earlier (λ v. 𝓛.le 𝓛.top (wanted v));
      }

-- the meet of all labels of g over the node v, top if none
unfoldable pub meet_over :
    (𝓛 : Labels) {A B : Type 0} (sameA : A → A → Bool) (g : Graph 𝓛.L B) (gs : List B) (over : B → A) → A → 𝓛.L
meet_over 𝓛 sameA g gs over v = meet_where 𝓛 (λ y. sameA (over y) v) g.label gs

-- "Links are ordered by parent number, then feature."
unfoldable pub by_number : Link ℕ → Link ℕ → Bool
by_number l m = leb (suc l.0) m.0 || (eqb l.0 m.0 && leb (suc l.1) m.1)

-- the place of a feature in a list; a feature that is not in the list comes behind all that are
unfoldable pub place_in : List ℕ → ℕ → ℕ
place_in [] f = f
place_in (x ∷ xs) f = cond (eqb x f) zero (suc (place_in xs f))

-- "by the feature's place in the list, then by parent number" (document 02, Paper 10)
unfoldable pub by_reading : List ℕ → Link ℕ → Link ℕ → Bool
by_reading list l m =
    leb (suc (place_in list l.1)) (place_in list m.1)
    || (eqb (place_in list l.1) (place_in list m.1) && leb (suc l.0) m.0)
