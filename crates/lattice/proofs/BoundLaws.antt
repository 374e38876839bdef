-- The type whose word has the bits that the words of a and b share is their bound: in the words of the types below each type it is the
-- greatest lower bound, in those of the types above the least upper bound. Where every two types have a bound on one side, every two have
-- a bound on the other, since there are a least and a greatest type.
use Prim.Native.Nat.{ℕ, zero, suc, ◌*◌, ◌-◌, ◌<◌, ◌≤◌}
use mathlib.Core.Path.{◌≡◌, refl, sym, ap, subst, ◌∙◌}
use mathlib.Core.Bool.{Bool, true, false, ◌&&◌}
use mathlib.Core.List.{List}
use mathlib.Core.Option.{some}
use mathlib.Core.Logic.{⊎_elim}
use native.Mathlib.Nat.{not-suc-le-zero}
use native.Mathlib.Omega.{arith}
use lib.ListN.{length, get_or}
use lib.Dec.{leb, eqb}
use lib.Bits.{bit_and, and_comm}
use borrow.Author.Tests.{le-leb, eq-eqb, eqb-true}
use Rattle.graphs.proofs.Search.{same_test, true-both}
use Rattle.lattice.specs.Table.{every, last, implies, found, is_meet, is_join, meet, join, side_bound}
use Rattle.lattice.specs.Words.{word, related, Words, holder, word_bound, all_found}
use Rattle.lattice.proofs.Every.{and_left, and_right, implies-at, implies-from, every-at, every-all, last-same, last-passes, last_found, found_some, true-not-false, below_or_not, below_suc}
use Rattle.lattice.proofs.WordLaws.{word_same, word-bits, word_and}
use Rattle.lattice.proofs.OrderLaws.{Side, Ordered, side}

-- c is on the side of a and of b, and every such type is on the side of c
abbrev is_bound : ℕ → (ℕ → ℕ → Bool) → ℕ → ℕ → ℕ → Bool
is_bound n rel a b c = rel a c && rel b c && every n λ d. implies (rel a d && rel b d) (rel c d)

module _ (n : ℕ) (rel : ℕ → ℕ → Bool) (ws : List ℕ) (few : n ≤ 64) (laws : Side n rel)
    (words : (i : ℕ) → i < n → get_or ws i 0 ≡ word 64 (rel i)) where
  bound-test : (a b c : ℕ) → a < n → b < n → c < n
      → eqb (get_or ws c 0) (bit_and (get_or ws a 0) (get_or ws b 0)) ≡ is_bound n rel a b c
  bound-test a b c la lb lc =
      let common : bit_and (get_or ws a 0) (get_or ws b 0) ≡ word 64 (λ j. rel a j && rel b j) =
      rw (words a la, words b lb, word_and 64 (rel a) (rel b)) in
      same_test (eqb (get_or ws c 0) (bit_and (get_or ws a 0) (get_or ws b 0))) (is_bound n rel a b c)
      (λ h.
      let bits : (j : ℕ) → j < 64 → rel c j ≡ (rel a j && rel b j) =
      word-bits 64 (rel c) (λ j. rel a j && rel b j) (sym (words c lc) ∙ eqb-true _ _ h ∙ common) in
      let own : rel a c && rel b c ≡ true = sym (bits c (omega arith)) ∙ laws.self c lc in
      true-both (rel a c && rel b c) (every n λ d. implies (rel a d && rel b d) (rel c d)) own
      (every-all _ n λ d l. implies-from (rel a d && rel b d) (rel c d) λ e. bits d (omega arith) ∙ e))
      λ h.
      let own : rel a c && rel b c ≡ true = and_left (rel a c && rel b c) _ h in
      let most : every n (λ d. implies (rel a d && rel b d) (rel c d)) ≡ true = and_right (rel a c && rel b c) _ h in
      eq-eqb _ _
      (words c lc ∙
      word_same 64 (rel c) (λ j. rel a j && rel b j)
      (λ j l.
      same_test (rel c j) (rel a j && rel b j)
      (λ e.
      let s : j < n = laws.inside c j lc l e in
      true-both (rel a j) (rel b j)
      (laws.chain a c j la lc s (and_left (rel a c) (rel b c) own) e)
      (laws.chain b c j lb lc s (and_right (rel a c) (rel b c) own) e))
      λ e.
      implies-at (rel a j && rel b j) (rel c j) (every-at _ n j most (laws.inside a j la l (and_left (rel a j) (rel b j) e)))
      e) ∙
      sym common)

  bound-found : (a b : ℕ) → a < n → b < n → word_bound n ws a b ≡ last n (is_bound n rel a b)
  unfolding holder
  bound-found a b la lb = last-same _ _ n λ c lc. bound-test a b c la lb lc

-- two types have one bound in either order
pub bound-turned : (n : ℕ) (ws : List ℕ) (a b : ℕ) → word_bound n ws a b ≡ word_bound n ws b a
bound-turned n ws a b = ap (holder n ws) (and_comm (get_or ws a 0) (get_or ws b 0))

-- it is enough to test each type with those numbered from it on
module _ (n : ℕ) (ws : List ℕ) where
  pub onward-found : every n (λ a. every n (λ b. implies (leb a b) (found (word_bound n ws a b)))) ≡ all_found n (word_bound n ws)
  unfolding all_found
  onward-found =
      let test : ℕ → ℕ → Bool = λ a b. found (word_bound n ws a b) in
      same_test (every n (λ a. every n (λ b. implies (leb a b) (test a b)))) (every n (λ a. every n (test a)))
      (λ h.
      let onward : (a b : ℕ) → a < n → b < n → a ≤ b → test a b ≡ true =
      λ a b l s r.
      implies-at (leb a b) (test a b)
      (every-at (λ k. implies (leb a k) (test a k)) n b (every-at (λ i. every n (λ k. implies (leb i k) (test i k))) n a h l) s)
      (le-leb a b r) in
      every-all _ n λ a l.
      every-all _ n λ b s.
      ⊎_elim (λ r. ap found (bound-turned n ws a b) ∙ onward b a s l (omega arith)) (onward a b l s) (below_or_not b a))
      λ h.
      every-all _ n λ a l.
      every-all _ n λ b s.
      implies-from (leb a b) (test a b) λ e. every-at (test a) n b (every-at (λ i. every n (test i)) n a h l) s

-- Bounds on one side give those on the other: a ∨ b is the meet of all upper bounds of both, and dually.
module _ (n : ℕ) (rel : ℕ → ℕ → Bool) (laws : Side n rel) (end : ℕ) (type : end < n) (all : (i : ℕ) → i < n → rel end i ≡ true)
    (bounds : (a b : ℕ) → a < n → b < n → found (last n (is_bound n rel a b)) ≡ true) where
  bound_of : (a b : ℕ) → a < n → b < n
      → (c : ℕ) × (c < n) × (rel a c ≡ true) × (rel b c ≡ true) × ((d : ℕ) → d < n → rel a d ≡ true → rel b d ≡ true → rel c d ≡ true)
  bound_of a b la lb =
      let r : (c : ℕ) × (last n (is_bound n rel a b) ≡ some c) = found_some (last n (is_bound n rel a b)) (bounds a b la lb) in
      let c : ℕ = r.0 in
      let passes : (c < n) × (is_bound n rel a b c ≡ true) = last-passes (is_bound n rel a b) n c r.1 in
      let own : rel a c && rel b c ≡ true = and_left (rel a c && rel b c) _ passes.1 in
      let most : every n (λ d. implies (rel a d && rel b d) (rel c d)) ≡ true = and_right (rel a c && rel b c) _ passes.1 in (
        c,
        passes.0,
        and_left (rel a c) (rel b c) own,
        and_right (rel a c) (rel b c) own,
        λ d l e f. implies-at (rel a d && rel b d) (rel c d) (every-at _ n d most l) (true-both (rel a d) (rel b d) e f),
      )

  -- there is a type that has a and b on its side, and is itself on the side of every type before k that has both
  shared-bound : (a b : ℕ) → a < n → b < n → (k : ℕ) → k ≤ n
      → (c : ℕ) × (c < n) × (rel c a ≡ true) × (rel c b ≡ true) × ((d : ℕ) → d < k → rel d a ≡ true → rel d b ≡ true → rel d c ≡ true)
  shared-bound a b la lb zero l = (end, type, all a la, all b lb, λ d r. absurd (not-suc-le-zero r))
  shared-bound a b la lb (suc k) l = go (shared-bound a b la lb k (omega arith)) (rel k a && rel k b) refl where
    go : (c : ℕ) × (c < n) × (rel c a ≡ true) × (rel c b ≡ true) × ((d : ℕ) → d < k → rel d a ≡ true → rel d b ≡ true → rel d c ≡ true)
        → (s : Bool) → (rel k a && rel k b) ≡ s
        → (c : ℕ) × (c < n) × (rel c a ≡ true) × (rel c b ≡ true)
        × ((d : ℕ) → d < suc k → rel d a ≡ true → rel d b ≡ true → rel d c ≡ true)
    go (c, lc, ca, cb, under) true e =
        let (m, lm, cm, km, most) = bound_of c k lc l in (
          m,
          lm,
          most a la ca (and_left (rel k a) (rel k b) e),
          most b lb cb (and_right (rel k a) (rel k b) e),
          λ d r f g.
              below_suc r (λ q. subst (λ (i : ℕ). rel i m ≡ true) (sym q) km)
              (λ s. laws.chain d c m (omega arith) lc lm (under d s f g) cm),
        )
    go (c, lc, ca, cb, under) false e = (
      c,
      lc,
      ca,
      cb,
      λ d r f g.
          below_suc r
          (λ q.
          absurd (true-not-false (rel d a && rel d b) (true-both (rel d a) (rel d b) f g) (ap (λ (i : ℕ). rel i a && rel i b) q ∙ e)))
          (λ s. under d s f g),
    )

  other-found : (a b : ℕ) → a < n → b < n → found (last n (is_bound n (λ i j. rel j i) a b)) ≡ true
  other-found a b la lb =
      let (c, lc, ca, cb, under) = shared-bound a b la lb n (omega arith) in
      last_found (is_bound n (λ i j. rel j i) a b) n c lc
      (true-both (rel c a && rel c b) _ (true-both (rel c a) (rel c b) ca cb)
      (every-all _ n λ d l.
      implies-from (rel d a && rel d b) (rel d c) λ e. under d l (and_left (rel d a) (rel d b) e) (and_right (rel d a) (rel d b) e)))

module _ (n : ℕ) (t : List ℕ) (full : length t ≡ 8 * n) (o : Ordered n t) where
  pub bound-same : (up : Bool) (ws : List ℕ) → n ≤ 64 → Words n t up ws → (a b : ℕ) → a < n → b < n
      → word_bound n ws a b ≡ side_bound n t up a b
  unfolding meet is_meet join is_join
  bound-same true ws few words a b la lb = bound-found n (related t true) ws few (side n t true full o) words a b la lb
  bound-same false ws few words a b la lb = bound-found n (related t false) ws few (side n t false full o) words a b la lb

  -- where every two types have a bound on one side, every two have one on the other
  pub other-side : (up other : Bool) → 0 < n → ((a b : ℕ) → a < n → b < n → found (side_bound n t up a b) ≡ true)
      → (a b : ℕ) → a < n → b < n → found (side_bound n t other a b) ≡ true
  unfolding meet is_meet join is_join
  other-side true true l h = h
  other-side false false l h = h
  other-side false true l h = other-found n (related t false) (side n t false full o) (n - 1) (omega arith) o.top h
  other-side true false l h = other-found n (related t true) (side n t true full o) 0 l o.bottom h
