-- This file defines what walks over a graph in words go by: which node leads to which, an order of the nodes with targets first, and the
-- visit of crate `graphs`, here over the targets of each node in their order. The file also says what sorting and numbering answer.
use Rattle.std.specs.Prelude.{◌≡◌, Bool, true, false, List, [], ◌∷◌, map, reverse, ℕ, zero, suc, ◌%◌, ◌≤◌, ◌<◌, eqb, leb, length, get_or, Some, None, Option as Answer}
use Rattle.std.proofs.Math.Option.{Option, none, some, bind}
use Rattle.std.proofs.Math.Seq.{slice}
use Rattle.graphs.specs.Number.{member, otherwise}
use Rattle.layout.specs.Layout.{scale, size, links_from, row_end, target_at}

-- A link leads from v to w.
pub record Leads (ws : List ℕ) (v w : ℕ) : Type 0 where
  pub inside : v < size ws
  pub place : ℕ
  pub low : links_from ws v ≤ place
  pub high : place < row_end ws v
  pub target_is : target_at ws place ≡ w

-- One link or more lead from v to w.
pub data Reaches (ws : List ℕ) : ℕ → ℕ → Type 0 where
  one : {v w : ℕ} → Leads ws v w → Reaches ws v w
  more : {v w x : ℕ} → Leads ws v w → Reaches ws w x → Reaches ws v x

-- An order of the nodes with targets first: `place v` is where v stands, and a link leads to an earlier place.
pub record TargetsFirst (ws order : List ℕ) (place : ℕ → ℕ) : Type 0 where
  pub inside : (v : ℕ) → v < size ws → place v < size ws
  pub stands : (v : ℕ) → v < size ws → get_or order (place v) 0 ≡ v
  pub earlier : (v w : ℕ) → Leads ws v w → place w < place v

-- What follows is the visit of crate `graphs`, over the targets of each node in their order.

-- the nodes seen once the targets of a list are visited in turn by `go`
unfoldable pub each_target : (ℕ → List ℕ → Option (List ℕ)) → List ℕ → List ℕ → Option (List ℕ)
each_target go [] seen = some seen
each_target go (w ∷ ws) seen = bind (go w seen) (each_target go ws)

-- The nodes seen, the last first, once v is visited. A 256th node gives none, and so does a new node that is too deep.
unfoldable pub visit_targets : (ℕ → List ℕ) → ℕ → ℕ → List ℕ → Option (List ℕ)
visit_targets next zero v seen = otherwise (member eqb v seen) (some seen) λ _. none
visit_targets next (suc d) v seen =
    otherwise (member eqb v seen) (some seen)
    λ _. otherwise (leb 255 (length seen)) none λ _. each_target (visit_targets next d) (next v) (v ∷ seen)

-- the targets of node v
unfoldable pub targets_at : List ℕ → ℕ → List ℕ
targets_at ws v = map (λ w. w % scale) (slice (links_from ws v) (row_end ws v) ws)

-- the nodes that the root reaches, the last found first; none for more than 255
abbrev pub found_in : List ℕ → Option (List ℕ)
found_in ws = visit_targets (targets_at ws) 255 0 []

-- What sorting answers: a yes says that some node reaches itself, a no that `order` has the nodes with targets first.
pub record Sorts (ws order : List ℕ) (found : Bool) : Type 0 where
  pub looped : found ≡ true → (v : ℕ) × Reaches ws v v
  pub sorted : found ≡ false → (place : ℕ → ℕ) × TargetsFirst ws order place

-- What numbering answers: how many nodes the root reaches, or none for more than 255. The arrays hold these nodes as the visit finds them.
pub record Numbers (ws : List ℕ) (count : Answer ℕ) (numbers visited : List ℕ) : Type 0 where
  pub full : found_in ws ≡ none → count ≡ None
  pub counted : (seen : List ℕ) → found_in ws ≡ some seen → count ≡ Some (length seen)
  pub by_number_lem : (seen : List ℕ) → found_in ws ≡ some seen → (i : ℕ) → i < length seen → get_or visited i 0 ≡ get_or (reverse seen) i 0
  pub by-node : (seen : List ℕ) → found_in ws ≡ some seen → (i : ℕ) → i < length seen → get_or numbers (get_or (reverse seen) i 0) 0 ≡ i
