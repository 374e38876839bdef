-- This file computes the written form of a graph (document 01, "Graph record"): it numbers the nodes by first visit and gives the rows, or
-- tells that there are too many nodes or too many links.
use Rattle.std.specs.Prelude.{Bool, true, false, cond, ◌||◌, List, [], ◌∷◌, map, reverse, ℕ, zero, suc, ◌+◌, leb, length}
use Rattle.std.proofs.Math.Option
use Rattle.std.proofs.Math.Option.{Option, none, some, bind}
use Rattle.graphs.specs.Graph.{Graph}
use Rattle.graphs.specs.Rows.{Row, features, links_of}

-- The first value where the test holds, else the second. The second is computed only where the test fails.
abbrev pub otherwise : {X : Type 0} → Bool → X → (Unit {0} → X) → X
otherwise true x y = x
otherwise false x y = y tt

-- 1 for a value, 0 for none
abbrev pub count_some : {X : Type 0} → Option X → ℕ
count_some none = 0
count_some (some x) = 1

module _ {A : Type 0} (same : A → A → Bool) where
  -- whether v is in a list
  unfoldable pub member : A → List A → Bool
  member v [] = false
  member v (w ∷ ws) = same v w || member v ws

  -- the place of v in a list, or the list's length where v is not in it
  unfoldable pub index_of : A → List A → ℕ
  index_of v [] = 0
  index_of v (w ∷ ws) = cond (same v w) 0 (suc (index_of v ws))

-- the nodes seen once a target is visited by `go`, if there is a target
abbrev pub enter : {A : Type 0} → (A → List A → Option (List A)) → Option A → List A → Option (List A)
enter go none seen = some seen
enter go (some w) seen = go w seen

module _ {A : Type 0} (link : A → ℕ → Option A) where
  -- "All that hangs below a link is numbered before the node's next link is followed": the targets of v are visited in turn by `go`.
  unfoldable pub each : (A → List A → Option (List A)) → A → List ℕ → List A → Option (List A)
  each go v [] seen = some seen
  each go v (f ∷ fs) seen = bind (enter go (link v f) seen) (each go v fs)

  -- the number of links that leave v by the features given
  unfoldable pub out_degree : A → List ℕ → ℕ
  out_degree v [] = 0
  out_degree v (f ∷ fs) = count_some (link v f) + out_degree v fs

  -- the number of links that leave the nodes of a list
  unfoldable pub link_count : List A → ℕ
  link_count [] = 0
  link_count (v ∷ vs) = out_degree v features + link_count vs

module _ {A : Type 0} (same : A → A → Bool) (link : A → ℕ → Option A) where
  -- "Written records number the nodes by first visit, from the root, lowest feature first, following links downward": the
  -- nodes numbered so far, the last first, once v is visited. A 256th node gives none. The first argument is one more than
  -- the number of links that may still be followed down; a new node deeper than that gives none too.
  unfoldable pub visit : ℕ → A → List A → Option (List A)
  visit zero v seen = otherwise (member same v seen) (some seen) λ _. none
  visit (suc d) v seen =
      otherwise (member same v seen) (some seen)
      λ _. otherwise (leb 255 (length seen)) none λ _. each link (visit d) v features (v ∷ seen)

-- The written form of a graph: the graph has more than 255 nodes, or more than 2,048 links, or the form is its rows.
pub data Canonical (L : Type 0) : Type 0 where
  many_nodes : Canonical L
  many_links : Canonical L
  written : List (Row L) → Canonical L

module _ {L A : Type 0} (same : A → A → Bool) (g : Graph L A) where
  -- the row of the node v, where the nodes are numbered by their places in a list
  unfoldable pub row_of : List A → A → Row L
  row_of nodes v = (g.label v, links_of (λ f. Option.map (λ w. index_of same w nodes) (g.link v f)) features)

  -- the written form, from the nodes that the visit saw, the last first
  abbrev pub counted : Option (List A) → Canonical L
  counted none = many_nodes
  counted (some seen) =
      cond (leb (link_count g.link seen) 2048)
      (let nodes = reverse seen in written (map (row_of nodes) nodes))
      many_links

  -- the written form of g, whose visit follows links "never deeper than 254 links"
  unfoldable pub canonical : Canonical L
  canonical = counted (visit same g.link 255 g.root [])
