-- This file defines what a type table is (document 01, "Type table"): the order that its bytes state, when a table is accepted, its meets
-- and joins, the wanted type, and when it admits differences. `t` is the list of the table's bytes and `n` the number of types.
use Rattle.std.specs.Prelude.{ℕ, zero, suc, ◌+◌, ◌*◌, ◌-◌, ◌/◌, ◌%◌, ◌^◌, Bool, true, false, cond, not, ◌&&◌, ◌||◌, List, [], ◌∷◌, ◌++◌, map, length, get_or, set, leb, eqb, Option as Answer, None, Some}
use Rattle.std.proofs.Math.Option.{Option, none, some}

-- whether every number below n passes a test
unfoldable pub every : ℕ → (ℕ → Bool) → Bool
every zero p = true
every (suc n) p = every n p && p n

-- the greatest number below n that passes a test, if one does
unfoldable pub last : ℕ → (ℕ → Bool) → Option ℕ
last zero p = none
last (suc n) p = cond (p n) (some n) (last n p)

-- 0, 1, .., n - 1
unfoldable pub upto : ℕ → List ℕ
upto zero = []
upto (suc n) = upto n ++ (n ∷ [])

-- whether a implies b
abbrev pub implies : Bool → Bool → Bool
implies a b = not a || b

-- "Row i is 8 bytes; bit j of the row (bit j mod 8 of byte j div 8) stands when type j is below or equal to type i"
unfoldable pub below : List ℕ → ℕ → ℕ → Bool
below t j i = eqb ((get_or t (8 * i + j / 8) 0 / 2 ^ (j % 8)) % 2) 1

-- whether there is a value
abbrev pub found : {A : Type 0} → Option A → Bool
found none = false
found (some c) = true

-- whether there is a bound and it is p
abbrev pub found_as : ℕ → Option ℕ → Bool
found_as p none = false
found_as p (some c) = eqb c p

-- whether there is a bound and it is below or equal to p
abbrev pub found_below : List ℕ → ℕ → Option ℕ → Bool
found_below t p none = false
found_below t p (some c) = below t c p

-- "A table has n types, 2 to 64, and 8 × n bytes"; else it is refused by 1.
unfoldable pub sized : ℕ → List ℕ → Bool
sized n t = leb 2 n && leb n 64 && eqb (length t) (8 * n)

module _ (n : ℕ) (t : List ℕ) where
  -- no row has "a bit at n or above"
  unfoldable pub confined : Bool
  confined = every n λ i. every 64 λ j. implies (below t j i) (leb (suc j) n)

  -- "The rows must be an order": every type is below or equal to itself.
  unfoldable pub reflexive : Bool
  reflexive = every n λ i. below t i i

  -- "The rows must be an order": two types that are below each other are one.
  unfoldable pub antisymmetric : Bool
  antisymmetric = every n λ i. every n λ j. implies (below t i j && below t j i) (eqb i j)

  -- "The rows must be an order": what is below a type below k is below k.
  unfoldable pub transitive : Bool
  transitive = every n λ i. every n λ j. every n λ k. implies (below t i j && below t j k) (below t i k)

  -- "Type 0 is the contradiction and the least"
  unfoldable pub least : Bool
  least = every n λ i. below t 0 i

  -- "type n−1 says nothing and is the greatest, here called top"
  unfoldable pub greatest : Bool
  greatest = every n λ i. below t i (n - 1)

  -- whether the rows pass all tests of refusal 2
  unfoldable pub ordered : Bool
  ordered = confined && reflexive && antisymmetric && transitive && least && greatest

  -- c is below a and below b, and every such type is below c: the greatest lower bound
  unfoldable pub is_meet : ℕ → ℕ → ℕ → Bool
  is_meet a b c = below t c a && below t c b && every n λ d. implies (below t d a && below t d b) (below t d c)

  -- c is above a and above b, and every such type is above c: the least upper bound
  unfoldable pub is_join : ℕ → ℕ → ℕ → Bool
  is_join a b c = below t a c && below t b c && every n λ d. implies (below t a d && below t b d) (below t c d)

  -- the meet of two types, if they have one
  unfoldable pub meet : ℕ → ℕ → Option ℕ
  meet a b = last n (is_meet a b)

  -- the join of two types, if they have one
  unfoldable pub join : ℕ → ℕ → Option ℕ
  join a b = last n (is_join a b)

  -- "every two types must have a meet (greatest lower bound) and a join (least upper bound)"; else the table is refused by 3.
  unfoldable pub bounded : Bool
  bounded = every n λ a. every n λ b. found (meet a b) && found (join a b)

  -- "A table is accepted when none of 1 to 3 applies to it"
  unfoldable pub accepted : Bool
  accepted = sized n t && ordered && bounded

  -- the meet of c and q is p: c restores p over q
  unfoldable pub restores : ℕ → ℕ → ℕ → Bool
  restores p q c = found_as p (meet c q)

  -- c is the greatest type that restores p over q
  unfoldable pub is_wanted : ℕ → ℕ → ℕ → Bool
  is_wanted p q c = restores p q c && every n λ d. implies (restores p q d) (below t d c)

  -- "The wanted type is the greatest type whose meet with the meet of all g types over this node (top if none) equals the type in
  -- s", for the meet q and the type p in s; none where "none is the greatest"
  unfoldable pub wanted : ℕ → ℕ → Option ℕ
  wanted p q = last n (is_wanted p q)

  -- the meet of c and q is below or equal to p
  unfoldable pub meet_below : ℕ → ℕ → ℕ → Bool
  meet_below p q c = found_below t p (meet c q)

  -- c is the greatest type whose meet with q is below or equal to p
  unfoldable pub is_residual : ℕ → ℕ → ℕ → Bool
  is_residual p q c = meet_below p q c && every n λ d. implies (meet_below p q d) (below t d c)

  -- the greatest type whose meet with q is below or equal to p, if there is one: the relative pseudo-complement of q with respect to p
  unfoldable pub residual : ℕ → ℕ → Option ℕ
  residual p q = last n (is_residual p q)

  -- "A table admits differences when for all types p, q there is a greatest type c whose meet with q is below or equal to p"
  unfoldable pub admits : Bool
  admits = every n λ p. every n λ q. found (residual p q)

-- the bound of two types on one side: the join for true, the meet for false
abbrev pub side_bound : ℕ → List ℕ → Bool → ℕ → ℕ → Option ℕ
side_bound n t true = join n t
side_bound n t false = meet n t

-- the number in a cell of the two tables: a type, or 64 where there is no bound
abbrev pub cell : Option ℕ → ℕ
cell none = 64
cell (some c) = c

-- what a call answers for a value that may not be there
abbrev pub answer : {A : Type 0} → Option A → Answer A
answer none = None
answer (some c) = Some c

-- Row a of a table of bounds has 64 numbers: the bounds of a with the n types, then 0.
unfoldable pub bound_row : ℕ → (ℕ → ℕ → Option ℕ) → ℕ → List ℕ
bound_row n bound a = map (λ b. cond (leb (suc b) n) (cell (bound a b)) 0) (upto 64)

-- the rows where the first n are overwritten and the others are as they were
unfoldable pub overwrite : ℕ → (ℕ → List ℕ) → List (List ℕ) → List (List ℕ)
overwrite zero row rows = rows
overwrite (suc k) row rows = set (overwrite k row rows) k (row k)

-- "Meets and joins stand in two tables of 64 rows by 64 entries once a table is accepted": what a lent table holds
-- after opening. The table is filled once 1 and 2 do not apply, and unchanged otherwise.
unfoldable pub filled : ℕ → List ℕ → (ℕ → ℕ → Option ℕ) → List (List ℕ) → List (List ℕ)
filled n t bound rows = cond (sized n t && ordered n t) (overwrite n (bound_row n bound) rows) rows
