-- An accepted table admits differences exactly when every irreducible type is prime. A type is irreducible where the types
-- strictly below it are those below one type, and prime where the types not above it are those below one type.
use Prim.Native.Nat.{ℕ, zero, suc, ◌*◌, ◌-◌, ◌^◌, ◌<◌, ◌≤◌}
use mathlib.Core.Path.{◌≡◌, refl, sym, ap, subst, ◌∙◌}
use mathlib.Core.Bool.{Bool, true, false, not, ◌&&◌}
use mathlib.Core.List.{List}
use mathlib.Core.Logic.{◌⊎◌, inl, inr, ⊎_elim}
use native.Mathlib.Nat.{not-suc-le-zero}
use native.Mathlib.Omega.{arith}
use lib.ListN.{get_or}
use lib.Dec.{eqb}
use borrow.Author.Tests.{eq-eqb, ne_eqb, eqb-true, not-true}
use Rattle.graphs.proofs.Search.{same_test, not-true-false, true-both}
use Rattle.lattice.specs.Table.{every, found, implies, below, accepted, meet_below, is_residual, residual, admits}
use Rattle.lattice.specs.Words.{digit, word, related, Words, bit, without, turned, holder, Sided, Inside}
use Rattle.bounds.specs.Primes.{word_irreducible, word_splits, word_prime}
use Rattle.lattice.proofs.Every.{and_left, and_right, implies-at, implies-from, every-at, every-all, not-false-true, true-not-false, below_or_not, below_suc, last-passes, last_found, found_some}
use Rattle.lattice.proofs.WordLaws.{word_below, word-bits}
use Rattle.lattice.proofs.Bits.{bit_word, bits-same, without-bit, without-most, cleared-bit}
use Rattle.lattice.proofs.OrderLaws.{row-bit}
use Rattle.lattice.proofs.Seeking.{without-inside}
use Rattle.lattice.proofs.Laws.{Meet, Join, Residual, meet_below_lem, accepted-size, accepted-facts, accepted-sided, zero-type, top-type, below-reflexive, below-transitive, below-antisymmetric, zero-least, top-greatest, meet-exists, join-exists, residual-exists}

-- j is below n and passes, and no number below n that passes has a lesser value
abbrev Least : (ℕ → Bool) → (ℕ → ℕ) → ℕ → Type 0
Least p f n = (j : ℕ) × (j < n) × (p j ≡ true) × ((d : ℕ) → d < n → p d ≡ true → f j ≤ f d)

least-or-none : (p : ℕ → Bool) (f : ℕ → ℕ) (n : ℕ) → ((d : ℕ) → d < n → p d ≡ false) ⊎ Least p f n
least-or-none p f zero = inl λ d l. absurd (not-suc-le-zero l)
least-or-none p f (suc n) = go (p n) refl (least-or-none p f n) where
  go : (b : Bool) → p n ≡ b → ((d : ℕ) → d < n → p d ≡ false) ⊎ Least p f n → ((d : ℕ) → d < suc n → p d ≡ false) ⊎ Least p f (suc n)
  go false e (inl h) = inl λ d l. below_suc l (λ q. ap p q ∙ e) (h d)
  go false e (inr r) =
      inr (
        r.0,
        omega (arith, r.1),
        r.2,
        λ d l g. below_suc l (λ q. absurd (true-not-false (p d) g (ap p q ∙ e))) (λ s. r.3 d s g),
      )
  go true e (inl h) =
      inr (n, omega arith, e, λ d l g. below_suc l (λ q. omega (arith, ap f q)) (λ s. absurd (true-not-false (p d) g (h d s))))
  go true e (inr r) =
      ⊎_elim
      (λ less. inr (n, omega arith, e, λ d l g. below_suc l (λ q. omega (arith, ap f q)) (λ s. omega (arith, r.3 d s g))))
      (λ more.
      inr (r.0, omega (arith, r.1), r.2, λ d l g. below_suc l (λ q. omega (arith, ap f q)) (λ s. r.3 d s g)))
      (below_or_not (f n) (f r.0))

-- a word with fewer bits is less or equal
word-least-bits : (k : ℕ) (p q : ℕ → Bool) → ((j : ℕ) → j < k → p j ≡ true → q j ≡ true) → word k p ≤ word k q
unfolding word
word-least-bits zero p q h = omega arith
word-least-bits (suc k) p q h =
    omega (arith, word-least-bits k p q (λ j l. h j (omega arith)), top (p k) (q k) (h k (omega arith)))
  where
    top : (a b : Bool) → (a ≡ true → b ≡ true) → digit a * 2 ^ k ≤ digit b * 2 ^ k
    top false b g = omega arith
    top true b g = rw (g refl) (omega arith)

-- the types strictly below j are those below k
abbrev pub Covers : ℕ → List ℕ → ℕ → ℕ → Type 0
Covers n t j k = (d : ℕ) → d < n → below t d k ≡ (below t d j && not (eqb d j))

-- the types not above j are those below m
abbrev pub Splits : ℕ → List ℕ → ℕ → ℕ → Type 0
Splits n t j m = (d : ℕ) → d < n → below t d m ≡ not (below t j d)

-- j is prime if it is irreducible
abbrev pub Primes : ℕ → List ℕ → ℕ → Type 0
Primes n t j = (k : ℕ) → k < n → Covers n t j k → (m : ℕ) × (m < n) × Splits n t j m

module _ (n : ℕ) (t : List ℕ) (ok : accepted n t ≡ true) where
  -- the word of a strictly lower type is less
  word-less : (d j : ℕ) → d < n → j < n → below t d j ≡ true → (d ≡ j → ⊥) → word 64 (related t false d) < word 64 (related t false j)
  word-less d j l s e apart =
      let few : n ≤ 64 = (accepted-size n t ok).1 in
      let most : word 64 (related t false d) ≤ word 64 (related t false j) =
      word-least-bits 64 (related t false d) (related t false j) λ b r f.
      below-transitive n t ok b d j ((accepted-facts n t ok).inside d b l r f) l s f e in
      let other : word 64 (related t false d) ≡ word 64 (related t false j) → ⊥ =
      λ q.
      apart
      (below-antisymmetric n t ok d j l s e
      (word-bits 64 (related t false d) (related t false j) q j (omega arith) ∙ below-reflexive n t ok j s)) in
      omega arith

  -- Where m is not below p, there is a least type below m and not below p: the types strictly below it are those below its meet with p.
  pub least-outside : (m p : ℕ) → m < n → p < n → below t m p ≡ false →
      (j : ℕ) × (j < n) × (below t j m ≡ true) × (below t j p ≡ false) × (k : ℕ) × (k < n) × Covers n t j k
  least-outside m p lm lp f =
      ⊎_elim
      (λ none.
      absurd (true-not-false (below t m m && not (below t m p)) (rw (below-reflexive n t ok m lm, f)) (none m lm)))
      (λ r.
      let j : ℕ = r.0 in
      let l : j < n = r.1 in
      let jm : below t j m ≡ true = and_left (below t j m) (not (below t j p)) r.2 in
      let jp : below t j p ≡ false = not-true (below t j p) (and_right (below t j m) (not (below t j p)) r.2) in
      let s : (k : ℕ) × Meet n t j p k = meet-exists n t ok j p l lp in
      let k : Meet n t j p s.0 = s.1 in
      let covers : Covers n t j s.0 =
      λ d ld.
      same_test (below t d s.0) (below t d j && not (eqb d j))
      (λ g.
      true-both (below t d j) (not (eqb d j)) (below-transitive n t ok d s.0 j ld k.type l g k.left)
      (ap not
      (ne_eqb d j λ same.
      true-not-false (below t j p)
      (below-transitive n t ok j s.0 p l k.type lp (subst (λ (i : ℕ). below t i s.0 ≡ true) same g) k.right) jp)))
      (λ g.
      let dj : below t d j ≡ true = and_left (below t d j) (not (eqb d j)) g in
      let apart : eqb d j ≡ false = not-true (eqb d j) (and_right (below t d j) (not (eqb d j)) g) in
      k.greatest d ld dj
      (not-false-true (below t d p) λ not-below.
      let passes : below t d m && not (below t d p) ≡ true =
      rw (below-transitive n t ok d j m ld l lm dj jm, not-below) in
      let less : word 64 (related t false d) < word 64 (related t false j) =
      word-less d j ld l dj λ same. true-not-false (eqb d j) (eq-eqb d j same) apart in
      omega (arith, r.3 d ld passes))) in
      (j, l, jm, jp, s.0, k.type, covers))
      (least-or-none (λ j. below t j m && not (below t j p)) (λ j. word 64 (related t false j)) n)

module _ (n : ℕ) (t ws : List ℕ) (ok : accepted n t ≡ true) (words : Words n t false ws) where
  pub few : n ≤ 64
  few = (accepted-size n t ok).1

  pub laws : Sided n ws
  laws = accepted-sided n t ok ws words

  pub own-bit : (i j : ℕ) → i < n → j < 64 → bit (get_or ws i 0) j ≡ below t j i
  own-bit = row-bit n t ws few words

  pub word_small : (i : ℕ) → i < n → get_or ws i 0 < 2 ^ 64
  word_small i l = subst (λ (w : ℕ). w < 2 ^ 64) (sym (words i l)) (word_below 64 (related t false i))

  -- a word has a holder exactly where its bits are the types below one type
  pub holder-at : (w m : ℕ) → w < 2 ^ 64 → Inside n w → m < n → ((d : ℕ) → d < n → below t d m ≡ bit w d) → found (holder n ws w) ≡ true
  unfolding holder
  holder-at w m small in-n l h =
      last_found (λ c. eqb (get_or ws c 0) w) n m l
      (eq-eqb (get_or ws m 0) w
      (bits-same 64 (get_or ws m 0) w (word_small m l) small λ d s.
      own-bit m d l s ∙
      same_test (below t d m) (bit w d)
      (λ e. sym (h d ((accepted-facts n t ok).inside m d l s e)) ∙ e)
      (λ e. h d (in-n d s e) ∙ e)))

  pub holder-is : (w : ℕ) → found (holder n ws w) ≡ true → (m : ℕ) × (m < n) × ((d : ℕ) → d < n → below t d m ≡ bit w d)
  unfolding holder
  holder-is w h =
      let r : (m : ℕ) × _ = found_some (holder n ws w) h in
      let s : (r.0 < n) × (eqb (get_or ws r.0 0) w ≡ true) = last-passes (λ c. eqb (get_or ws c 0) w) n r.0 r.1 in (
        r.0,
        s.0,
        λ d l. sym (own-bit r.0 d s.0 (omega (arith, few))) ∙ ap (λ (x : ℕ). bit x d) (eqb-true _ _ s.1),
      )

  pub lower-bit : (j d : ℕ) → j < n → d < n → bit (without (get_or ws j 0) (2 ^ j)) d ≡ (below t d j && not (eqb d j))
  lower-bit j d l s =
      cleared-bit (get_or ws j 0) j d ∙
      ap (λ (b : Bool). b && not (eqb d j)) (own-bit j d l (omega (arith, few)))

  others-bit : (j d : ℕ) → j < n → d < n → bit (without (get_or ws (n - 1) 0) (turned n ws j)) d ≡ not (below t j d)
  unfolding turned
  others-bit j d l s =
      let top : bit (get_or ws (n - 1) 0) d ≡ true =
      own-bit (n - 1) d (top-type n t ok) (omega (arith, few)) ∙ top-greatest n t ok d s in
      let up : bit (turned n ws j) d ≡ below t j d =
      bit_word n (λ i. bit (get_or ws i 0) j) d s ∙ own-bit d j s (omega (arith, few)) in
      without-bit (get_or ws (n - 1) 0) (turned n ws j) d ∙ rw (top, up)

  pub less-small : (i b : ℕ) → i < n → without (get_or ws i 0) b < 2 ^ 64
  less-small i b l = omega (arith, word_small i l, without-most (get_or ws i 0) b)

  -- the test on words decides whether j is prime
  pub prime-facts : (j : ℕ) → j < n → word_prime n ws j ≡ true → Primes n t j
  unfolding word_prime word_irreducible word_splits
  prime-facts j l h k lk covers =
      let lower : ℕ = without (get_or ws j 0) (2 ^ j) in
      let others : ℕ = without (get_or ws (n - 1) 0) (turned n ws j) in
      let r : (m : ℕ) × (m < n) × ((d : ℕ) → d < n → below t d m ≡ bit others d) =
      holder-is others
      (implies-at (found (holder n ws lower)) (found (holder n ws others)) h
      (holder-at lower k (less-small j (2 ^ j) l) (without-inside n (get_or ws j 0) (2 ^ j) (λ d. laws.inside j d l)) lk λ d s.
      covers d s ∙ sym (lower-bit j d l s))) in
      (r.0, r.1, λ d s. r.2 d s ∙ others-bit j d l s)

  pub facts-prime : (j : ℕ) → j < n → Primes n t j → word_prime n ws j ≡ true
  unfolding word_prime word_irreducible word_splits
  facts-prime j l h =
      let lower : ℕ = without (get_or ws j 0) (2 ^ j) in
      let others : ℕ = without (get_or ws (n - 1) 0) (turned n ws j) in
      implies-from (found (holder n ws lower)) (found (holder n ws others)) λ e.
      let k : (k : ℕ) × (k < n) × ((d : ℕ) → d < n → below t d k ≡ bit lower d) = holder-is lower e in
      let m : (m : ℕ) × (m < n) × Splits n t j m = h k.0 k.1 λ d s. k.2 d s ∙ lower-bit j d l s in
      holder-at others m.0 (less-small (n - 1) (turned n ws j) (top-type n t ok))
      (without-inside n (get_or ws (n - 1) 0) (turned n ws j) (λ d. laws.inside (n - 1) d (top-type n t ok)))
      m.1
      λ d s. m.2 d s ∙ sym (others-bit j d l s)

  -- the least type above all that pass below i
  join-of : (p : ℕ → Bool) (i : ℕ) → i ≤ n → (e : ℕ) × (e < n) × ((d : ℕ) → d < i → p d ≡ true → below t d e ≡ true)
      × ((u : ℕ) → u < n → ((d : ℕ) → d < i → p d ≡ true → below t d u ≡ true) → below t e u ≡ true)
  join-of p zero l = (0, zero-type n t ok, λ d s. absurd (not-suc-le-zero s), λ u s h. zero-least n t ok u s)
  join-of p (suc i) l = go (p i) refl (join-of p i (omega arith)) where
    go : (b : Bool) → p i ≡ b
        → (e : ℕ) × (e < n) × ((d : ℕ) → d < i → p d ≡ true → below t d e ≡ true)
        × ((u : ℕ) → u < n → ((d : ℕ) → d < i → p d ≡ true → below t d u ≡ true) → below t e u ≡ true)
        → (e : ℕ) × (e < n) × ((d : ℕ) → d < suc i → p d ≡ true → below t d e ≡ true)
        × ((u : ℕ) → u < n → ((d : ℕ) → d < suc i → p d ≡ true → below t d u ≡ true) → below t e u ≡ true)
    go false f r = (
      r.0,
      r.1,
      λ d s g. below_suc s (λ q. absurd (true-not-false (p d) g (ap p q ∙ f))) (λ a. r.2 d a g),
      λ u s h. r.3 u s λ d a. h d (omega arith),
    )
    go true f r =
        let k : (k : ℕ) × Join n t r.0 i k = join-exists n t ok r.0 i r.1 l in
        let j : Join n t r.0 i k.0 = k.1 in (
          k.0,
          j.type,
          λ d s g.
              below_suc s (λ q. subst (λ (x : ℕ). below t x k.0 ≡ true) (sym q) j.right)
              (λ a. below-transitive n t ok d r.0 k.0 (omega arith) r.1 j.type (r.2 d a g) j.left),
          λ u s h. j.least u s (r.3 u s λ d a. h d (omega arith)) (h i (omega arith) f),
        )

  module _ (p q : ℕ) (lp : p < n) (lq : q < n) where
    -- the meet of d and q is below p
    under : (d m : ℕ) → Meet n t d q m → meet_below n t p q d ≡ below t m p
    under d m k = meet_below_lem n t p q d m k.is

    module _ (prime : (j : ℕ) → j < n → Primes n t j) where
      -- the least type above all whose meet with q is below p is one of them: else a least type below its meet with q, and
      -- not below p, is irreducible and not prime
      greatest-under : (e m : ℕ) → e < n → Meet n t e q m
          → ((u : ℕ) → u < n → ((d : ℕ) → d < n → meet_below n t p q d ≡ true → below t d u ≡ true) → below t e u ≡ true)
          → below t m p ≡ false → ⊥
      greatest-under e m le x least f =
          let (j, l, jm, jp, k, lk, covers) = least-outside n t ok m p x.type lp f in
          let split : (a : ℕ) × (a < n) × Splits n t j a = prime j l k lk covers in
          let ea : below t e split.0 ≡ true =
          least split.0 split.1 λ d ld g.
          let y : (y : ℕ) × Meet n t d q y = meet-exists n t ok d q ld lq in
          let z : Meet n t d q y.0 = y.1 in
          split.2 d ld ∙
          ap not
          (not-true-false (below t j d) λ jd.
          true-not-false (below t j p)
          (below-transitive n t ok j y.0 p l z.type lp
          (z.greatest j l jd (below-transitive n t ok j m q l x.type lq jm x.right)) (sym (under d y.0 z) ∙ g))
          jp) in
          true-not-false (below t j e) (below-transitive n t ok j m e l x.type le jm x.left)
          (not-true (below t j e) (sym (split.2 e le) ∙ ea))

      residual-there : found (residual n t p q) ≡ true
      unfolding residual is_residual
      residual-there =
          let e : (e : ℕ) × (e < n) × ((d : ℕ) → d < n → meet_below n t p q d ≡ true → below t d e ≡ true)
          × ((u : ℕ) → u < n → ((d : ℕ) → d < n → meet_below n t p q d ≡ true → below t d u ≡ true) → below t e u ≡ true) =
          join-of (meet_below n t p q) n (omega arith) in
          let r : (m : ℕ) × Meet n t e.0 q m = meet-exists n t ok e.0 q e.1 lq in
          last_found (is_residual n t p q) n e.0 e.1
          (true-both (meet_below n t p q e.0) (every n (λ d. implies (meet_below n t p q d) (below t d e.0)))
          (under e.0 r.0 r.1 ∙ not-false-true (below t r.0 p) (greatest-under e.0 r.0 e.1 r.1 e.3))
          (every-all _ n λ d l. implies-from (meet_below n t p q d) (below t d e.0) (e.2 d l)))

  -- the residual of an irreducible type's lower neighbour by the type splits the types
  splits-there : admits n t ≡ true → (j : ℕ) → j < n → Primes n t j
  splits-there differ j l k lk covers =
      let r : (c : ℕ) × Residual n t k j c = residual-exists n t ok differ k j lk l in
      let c : Residual n t k j r.0 = r.1 in
      let s : (m : ℕ) × Meet n t r.0 j m = meet-exists n t ok r.0 j c.type l in
      let m : Meet n t r.0 j s.0 = s.1 in
      let jk : below t j k ≡ false = covers j l ∙ rw (eq-eqb j j refl, below-reflexive n t ok j l) in (
        r.0,
        c.type,
        λ d ld.
            let y : (y : ℕ) × Meet n t d j y = meet-exists n t ok d j ld l in
            let z : Meet n t d j y.0 = y.1 in
            same_test (below t d r.0) (not (below t j d))
            (λ e.
            ap not
            (not-true-false (below t j d) λ jd.
            true-not-false (below t j k)
            (below-transitive n t ok j s.0 k l m.type lk
            (m.greatest j l (below-transitive n t ok j d r.0 l ld c.type jd e) (below-reflexive n t ok j l))
            (c.under s.0 m.is))
            jk))
            (λ e.
            c.greatest d y.0 ld z.is
            (covers y.0 z.type ∙
            true-both (below t y.0 j) (not (eqb y.0 j)) z.right
            (ap not
            (ne_eqb y.0 j λ same.
            true-not-false (below t j d) (subst (λ (i : ℕ). below t i d ≡ true) same z.left) (not-true (below t j d) e))))),
      )

  pub primes-admit : every n (word_prime n ws) ≡ admits n t
  unfolding admits
  primes-admit =
      same_test (every n (word_prime n ws)) (admits n t)
      (λ h.
      every-all _ n λ p lp.
      every-all _ n λ q lq. residual-there p q lp lq λ j l. prime-facts j l (every-at _ n j h l))
      (λ h. every-all _ n λ j l. facts-prime j l (splits-there h j l))
