-- This file says what the depth-first walk keeps that sorts the nodes. A node's colour is 0 while it is white, 1 while it is on the way
-- down, and 2 + p once it is finished and stands at place p of the order.
use Rattle.std.specs.Prelude.{◌≡◌, Option, Some, None, List, [], ◌∷◌, ℕ, zero, suc, ◌+◌, ◌-◌, ◌≤◌, ◌<◌, length, get_or}
use Rattle.layout.specs.Layout.{size, Sound}
use Rattle.visits.specs.Walks.{Leads, Reaches}

-- how many of the first n nodes are white
unfoldable pub whites : ℕ → List ℕ → ℕ
whites zero colour = 0
whites (suc n) [] = 0
whites (suc n) (zero ∷ colour) = suc (whites n colour)
whites (suc n) (suc c ∷ colour) = whites n colour

module _ (ws : List ℕ) where
  -- Finished nodes stand at their places below `count`, and a link from one leads to one at an earlier place.
  pub record Placed (colour order : List ℕ) (count : ℕ) : Type 0 where
    pub long : length colour ≡ 510
    pub roomy : length order ≡ 510
    pub low : (u : ℕ) → u < size ws → 2 ≤ get_or colour u 0 → get_or colour u 0 < count + 2
    pub stands : (u : ℕ) → u < size ws → 2 ≤ get_or colour u 0 → get_or order (get_or colour u 0 - 2) 0 ≡ u
    pub closed : (u w : ℕ) → Leads ws u w → 2 ≤ get_or colour u 0 → 2 ≤ get_or colour w 0
    pub earlier : (u w : ℕ) → Leads ws u w → 2 ≤ get_or colour u 0 → get_or colour w 0 < get_or colour u 0

  -- From one colouring to a later one only white nodes change, and none stays on the way down.
  pub record Advanced (colour : List ℕ) (count : ℕ) (later order : List ℕ) (more : ℕ) : Type 0 where
    pub placed : Placed later order more
    pub kept : (u : ℕ) → 0 < get_or colour u 0 → get_or later u 0 ≡ get_or colour u 0
    pub descending : (u : ℕ) → get_or later u 0 ≡ 1 → get_or colour u 0 ≡ 1
    pub fewer : whites (size ws) later ≤ whites (size ws) colour
    pub counted : more + whites (size ws) later ≤ count + whites (size ws) colour

  -- The walk comes to the white node v: every node on the way down reaches v.
  pub record Entered (colour order : List ℕ) (v count : ℕ) : Type 0 where
    pub sound : Sound ws
    pub placed : Placed colour order count
    pub inside : v < size ws
    pub white : get_or colour v 0 ≡ 0
    pub above : (u : ℕ) → u < size ws → get_or colour u 0 ≡ 1 → Reaches ws u v
    pub room : count + whites (size ws) colour ≤ size ws

  -- The walk leaves the node v: v is finished, and the answer is the number of finished nodes; or there is none, and some node reaches itself.
  pub record Leaves (colour : List ℕ) (v count : ℕ) (later order : List ℕ) (answer : Option ℕ) : Type 0 where
    pub long : length later ≡ 510
    pub roomy : length order ≡ 510
    pub counted : (more : ℕ) → answer ≡ Some more → Advanced colour count later order more
    pub finished : (more : ℕ) → answer ≡ Some more → 2 ≤ get_or later v 0
    pub looped : answer ≡ None → (u : ℕ) × Reaches ws u u
