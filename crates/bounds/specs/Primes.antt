-- This file says in terms of words which types of an order are irreducible, and whether they are prime. The proofs show that these
-- tests on words decide what `Sets.antt` defines.
use Rattle.std.specs.Prelude.{ℕ, ◌-◌, ◌^◌, ◌<◌, ◌≡◌, Bool, true, false, List, get_or, Option as Answer, None, Some}
use Rattle.bounds.specs.declared.primes.Irreducibles.{Irreducibles}
use Rattle.lattice.specs.Table.{every, implies, found}
use Rattle.lattice.specs.Words.{word, without, turned, holder}

module _ (n : ℕ) (ws : List ℕ) where
  -- the types strictly below j are those below one type
  unfoldable pub word_irreducible : ℕ → Bool
  word_irreducible j = found (holder n ws (without (get_or ws j 0) (2 ^ j)))

  -- the types that are not in a word are those below one type
  unfoldable pub word_splits : ℕ → Bool
  word_splits above = found (holder n ws (without (get_or ws (n - 1) 0) above))

  -- if the types strictly below j are those below one type, so are the types not above j
  unfoldable pub word_prime : ℕ → Bool
  word_prime j = implies (word_irreducible j) (word_splits (turned n ws j))

-- All irreducible types are prime, and r has them and the types above each.
pub record AllPrime (n : ℕ) (ws : List ℕ) (r : Irreducibles) : Type 0 where
  pub primes : every n (word_prime n ws) ≡ true
  pub types : r.types ≡ word n (word_irreducible n ws)
  pub above : (j : ℕ) → j < n → word_irreducible n ws j ≡ true → get_or r.above j 0 ≡ turned n ws j

-- What the search for irreducible types answers: none where not all of them are prime, else these types and the types above each.
abbrev pub Finds : ℕ → List ℕ → Answer Irreducibles → Type 0
Finds n ws None = every n (word_prime n ws) ≡ false
Finds n ws (Some r) = AllPrime n ws r
