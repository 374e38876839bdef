-- The queue of the pairs of nodes that are known, with their marks, and what adding the links of one pair leaves.
use Rattle.std.specs.Prelude.{◌≡◌, ℕ, ◌+◌, ◌*◌, ◌≤◌, ◌<◌, length, get_or, Option as Answer, None, Some}
use mathlib.Core.List.{List, Memᴰ}
use Rattle.std.proofs.Math.Option.{Option, some}
use Rattle.graphs.specs.Generalize.{both}
use Rattle.graphs.specs.Large.{Ascending}
use Rattle.layout.specs.Layout.{graph_in, links_between}
use Rattle.layout.specs.Builder.{Same}
use Rattle.product.specs.declared.Spread.{Spread}

-- a pair of nodes as one number
abbrev pub code_of : ℕ × ℕ → ℕ
code_of x = x.0 * 255 + x.1

-- the mark of a pair that has no number
abbrev pub clear : ℕ
clear = 255

-- Each pair in the queue is marked by its place there, and no other pair is marked.
pub record Marked (marks queue : List ℕ) (count : ℕ) : Type 0 where
  pub marks-long : length marks ≡ 65025
  pub queue_long : length queue ≡ 255
  pub few : count ≤ 255
  pub inside : (i : ℕ) → i < count → get_or queue i 0 < 65025
  pub placed : (i : ℕ) → i < count → get_or marks (get_or queue i 0) 0 ≡ i
  pub queued : (p : ℕ) → p < 65025 → (get_or marks p 0 ≡ clear → ⊥) → (get_or marks p 0 < count) × (get_or queue (get_or marks p 0) 0 ≡ p)

-- The pair is in the queue, at the end where it was not there before.
pub record Enlisted (queue : List ℕ) (pair count : ℕ) (marks' queue' : List ℕ) (next : ℕ) : Type 0 where
  pub after : Marked marks' queue' next
  pub least : count ≤ next
  pub kept : (i : ℕ) → i < count → get_or queue' i 0 ≡ get_or queue i 0
  pub fresh : (i : ℕ) → count ≤ i → i < next → get_or queue' i 0 ≡ pair
  pub numbered : get_or marks' pair 0 < next
  pub found : get_or queue' (get_or marks' pair 0) 0 ≡ pair

-- A pair that is offered to the queue is there afterwards, or it has no mark and all 255 numbers are in use.
abbrev pub Offered : (marks queue : List ℕ) (pair count : ℕ) (marks' queue' : List ℕ) → Answer ℕ → Type 0
Offered marks queue pair count marks' queue' None = (count ≡ 255) × (get_or marks pair 0 ≡ clear)
Offered marks queue pair count marks' queue' (Some next) = Enlisted queue pair count marks' queue' next

-- The pair that a feature of both leads to from a pair of nodes.
abbrev pub common : List ℕ → List ℕ → ℕ × ℕ → ℕ → Option (ℕ × ℕ)
common a b x f = both ((graph_in a).link x.0 f) ((graph_in b).link x.1 f)

-- The pair x stands in the queue at i.
pub record Numbered (queue : List ℕ) (count : ℕ) (x : ℕ × ℕ) (i : ℕ) : Type 0 where
  pub left : x.0 < 255
  pub right : x.1 < 255
  pub below : i < count
  pub stands : get_or queue i 0 ≡ code_of x

-- The links by features below `bound` that lead somewhere, lowest feature first. Each has the number of the pair that it leads to.
pub record Matched (leads : ℕ → Option (ℕ × ℕ)) (queue : List ℕ) (count bound : ℕ) (links : List (ℕ × ℕ)) : Type 0 where
  pub ascends : Ascending links
  pub known : (l : ℕ × ℕ) → Memᴰ l links → l.0 < bound
  pub led : (l : ℕ × ℕ) → Memᴰ l links → (x : ℕ × ℕ) × (leads l.0 ≡ some x) × Numbered queue count x l.1
  pub present : (f : ℕ) → f < bound → (x : ℕ × ℕ) → leads f ≡ some x → (i : ℕ) × Memᴰ (f, i) links

-- The links by features below `bound` stand from one place to the next. What stood before is kept, and each new pair in the queue is led to by
-- some feature.
pub record Adds (leads : ℕ → Option (ℕ × ℕ)) (queue words : List ℕ) (known : Spread) (bound : ℕ) (marks' queue' words' : List ℕ)
    (next : Spread) : Type 0 where
  pub after : Marked marks' queue' next.count
  pub row : Matched leads queue' next.count bound (links_between words' known.at next.at)
  pub rises : known.at ≤ next.at
  pub short : next.at ≤ known.at + bound
  pub long : length words' ≡ length words
  pub kept : Same words words' 0 known.at
  pub grows : known.count ≤ next.count
  pub queue-kept : (i : ℕ) → i < known.count → get_or queue' i 0 ≡ get_or queue i 0
  pub fresh : (i : ℕ) → known.count ≤ i → i < next.count →
      (f : ℕ) × (x : ℕ × ℕ) × (leads f ≡ some x) × Numbered queue' next.count x i

-- All 255 numbers are in use, by pairs that were known or are led to, and one more pair is led to.
pub record Full (leads : ℕ → Option (ℕ × ℕ)) (queue words : List ℕ) (known : Spread) : Type 0 where
  pub bound : ℕ
  pub marks' : List ℕ
  pub queue' : List ℕ
  pub words' : List ℕ
  pub next : Spread
  pub part : Adds leads queue words known bound marks' queue' words' next
  pub given : next.count ≡ 255
  pub feature : ℕ
  pub pair : ℕ × ℕ
  pub led : leads feature ≡ some pair
  pub left : pair.0 < 255
  pub right : pair.1 < 255
  pub free : get_or marks' (code_of pair) 0 ≡ clear

-- All links of a pair are added, or 255 numbers do not suffice.
abbrev pub Spreads : (leads : ℕ → Option (ℕ × ℕ)) (queue words : List ℕ) (known : Spread) (marks' queue' words' : List ℕ) → Answer Spread →
    Type 0
Spreads leads queue words known marks' queue' words' None = Full leads queue words known
Spreads leads queue words known marks' queue' words' (Some next) = Adds leads queue words known 64 marks' queue' words' next
