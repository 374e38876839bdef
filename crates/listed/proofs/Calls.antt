-- The test whether a record is listed, and the list of the paper's example.
use mathlib.Core.Path.{◌≡◌, refl, sym, ◌∙◌, ap, subst}
use mathlib.Core.Bool.{Bool, true, false, not, ◌||◌}
use mathlib.Core.List.Memᴰ
use mathlib.Core.List.{List, [], ◌∷◌, flat_map, Memᴰ}
use mathlib.Core.Logic.{◌↔◌, ⊎_elim}
use Prim.Native.Nat.{ℕ, ◌≤◌}
use lib.ListN.{length}
use Rattle.graphs.specs.Rows.{from}
use Rattle.graphs.specs.Unify.{any_of}
use Rattle.encoder.specs.Encode.{encoded}
use Rattle.listed.specs.Listing.{precedes, Listed, stated_rows, span, runs, listing, is_listed}
use Rattle.listed.proofs.Order.{Before, false-true, before-irrefl, before-cases}
use Rattle.listed.proofs.Stated.{Counts}
use Rattle.listed.proofs.Theorems.{listing-exactly}

same_bytes : (xs ys : List ℕ) → not (precedes xs ys || precedes ys xs) ≡ true → xs ≡ ys
same_bytes xs ys e =
    ⊎_elim (λ (h : Before xs ys). false-true (sym (ap (λ (b : Bool). not (b || precedes ys xs)) h) ∙ e))
    (⊎_elim (λ (q : xs ≡ ys). q) (λ (h : Before ys xs). last (precedes xs ys) (precedes ys xs) h e)) (before-cases xs ys)
  where
    last : (a b : Bool) → b ≡ true → not (a || b) ≡ true → xs ≡ ys
    last true b h q = false-true q
    last false true h q = false-true q
    last false false h q = false-true h

bytes_same : (xs : List ℕ) → not (precedes xs xs || precedes xs xs) ≡ true
bytes_same xs = go (precedes xs xs) refl
  where
    go : (b : Bool) → precedes xs xs ≡ b → not (b || b) ≡ true
    go true e = absurd (before-irrefl xs e)
    go false e = refl

any-member : (L : List (List ℕ)) (xs : List ℕ) → any_of L (λ r. not (precedes xs r || precedes r xs)) ≡ true → Memᴰ xs L
unfolding any_of
any-member [] xs e = false-true e
any-member (y ∷ L) xs e = go (not (precedes xs y || precedes y xs)) refl e (any-member L xs)
  where
    go : (b : Bool) → not (precedes xs y || precedes y xs) ≡ b → b || any_of L (λ r. not (precedes xs r || precedes r xs)) ≡ true →
        (any_of L (λ r. not (precedes xs r || precedes r xs)) ≡ true → Memᴰ xs L) → Memᴰ xs (y ∷ L)
    go true t q rest = Memᴰ.head (same_bytes xs y t)
    go false t q rest = Memᴰ.tail (rest q)

member-any : (L : List (List ℕ)) (xs : List ℕ) → Memᴰ xs L → any_of L (λ r. not (precedes xs r || precedes r xs)) ≡ true
unfolding any_of
member-any [] xs m = absurd (Memᴰ.not-nil m)
member-any (y ∷ L) xs m =
    ⊎_elim (λ (e : xs ≡ y). ap (λ (b : Bool). b || any_of L (λ r. not (precedes xs r || precedes r xs))) (subst (λ (w : List ℕ). not (precedes xs w || precedes w xs) ≡ true) e (bytes_same xs)))
    (λ n. right (not (precedes xs y || precedes y xs)) (member-any L xs n)) (Memᴰ.cases_cons m)
  where
    right : (a : Bool) → any_of L (λ r. not (precedes xs r || precedes r xs)) ≡ true → a || any_of L (λ r. not (precedes xs r || precedes r xs)) ≡ true
    right true e = refl
    right false e = e

pub is-listed : (n F : ℕ) → 2 ≤ n → n ≤ 64 → Counts F → (bytes : List ℕ) → (is_listed n F bytes ≡ true) ↔ Listed n F bytes
unfolding is_listed
is-listed n F low small f bytes = (
  λ e. (listing-exactly n F low small f bytes).0 (any-member (listing n F) bytes e),
  λ l. member-any (listing n F) bytes ((listing-exactly n F low small f bytes).1 l),
)

-- "Over a two-type table with F of 1 the list has three records: chains of one, two and three nodes."
pub three : listing 2 1 ≡
    encoded (stated_rows (1 ∷ 1 ∷ 0 ∷ 0 ∷ 0 ∷ 0 ∷ 0 ∷ [])) ∷ encoded (stated_rows (2 ∷ 1 ∷ 1 ∷ 1 ∷ 0 ∷ 0 ∷ 0 ∷ [])) ∷
    encoded (stated_rows (3 ∷ 1 ∷ 1 ∷ 1 ∷ 1 ∷ 1 ∷ 0 ∷ [])) ∷ []
unfolding listing runs span from flat_map
three = refl

pub twenty : length (listing 2 2) ≡ 20
unfolding listing runs span from flat_map
twenty = refl
