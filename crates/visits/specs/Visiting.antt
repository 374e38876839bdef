-- This file says what the functions of the numbering keep: `numbers` and `visited` hold the nodes seen so far.
use Rattle.std.specs.Prelude.{◌≡◌, cond, List, [], ◌∷◌, reverse, ℕ, ◌≤◌, ◌<◌, eqb, length, get_or, take, Some, None, Option as Answer}
use Rattle.std.proofs.Math.Option.{Option, none, some}
use Rattle.layout.specs.Layout.{Sound, size}
use Rattle.visits.specs.Walks.{each_target, targets_at, visit_targets}

-- the first `count` nodes visited, the last first
abbrev pub seen_of : List ℕ → ℕ → List ℕ
seen_of visited count = reverse (take count visited)

-- the number of a node among the nodes seen, which stand the last first; 0xFFFF where it is not among them
unfoldable pub number_among : ℕ → List ℕ → ℕ
number_among v [] = 65535
number_among v (w ∷ ws) = cond (eqb v w) (length ws) (number_among v ws)

-- `numbers` and `visited` hold the first `count` nodes seen.
pub record Marks (ws numbers visited : List ℕ) (count : ℕ) : Type 0 where
  pub numbers-long : length numbers ≡ 510
  pub visited-long : length visited ≡ 255
  pub few : count ≤ 255
  pub numbered : (v : ℕ) → v < size ws → get_or numbers v 0 ≡ number_among v (seen_of visited count)
  pub placed : (i : ℕ) → i < count → get_or numbers (get_or visited i 0) 0 ≡ i

-- v is a node without a number, and there is room for one number more.
pub record Visitable (ws numbers visited : List ℕ) (v given : ℕ) : Type 0 where
  pub sound : Sound ws
  pub marks : Marks ws numbers visited given
  pub inside : v < size ws
  pub fresh : get_or numbers v 0 ≡ 65535
  pub room : given < 255

-- the nodes seen once v has its number and all that hangs below it is visited, at most `depth` links deep
abbrev pub below : List ℕ → ℕ → ℕ → List ℕ → Option (List ℕ)
below ws depth v seen = each_target (visit_targets (targets_at ws) depth) (targets_at ws v) (v ∷ seen)

-- There is no count where a visit gives none; else the arrays hold the nodes that the visit has seen.
pub record Finds (ws : List ℕ) (found : Option (List ℕ)) (count : Answer ℕ) (numbers visited : List ℕ) : Type 0 where
  pub numbers-long : length numbers ≡ 510
  pub visited-long : length visited ≡ 255
  pub full : found ≡ none → count ≡ None
  pub counted : (seen : List ℕ) → found ≡ some seen → count ≡ Some (length seen)
  pub marks : (seen : List ℕ) → found ≡ some seen → (seen_of visited (length seen) ≡ seen) × Marks ws numbers visited (length seen)
