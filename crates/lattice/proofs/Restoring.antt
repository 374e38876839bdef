-- This file is about the search for a wanted type in words. The type whose word is the union of the words of all types that restore p over
-- q is the greatest of these types: each of them is below that type, and that type is below one of them.
use Prim.Native.Nat.{ℕ, ◌+◌, ◌-◌, ◌^◌, ◌<◌, ◌≤◌}
use mathlib.Core.Path.{◌≡◌, refl, sym, ap, subst, ◌∙◌}
use mathlib.Core.Bool.{Bool, true, false, not, ◌&&◌, and-true}
use mathlib.Core.List.{List}
use native.Mathlib.Numerals.{add-one}
use native.Mathlib.Omega.{arith}
use lib.ListN.{get_or}
use lib.Dec.{eqb}
use Rattle.std.specs.Prelude.{Option as Answer, Some}
use lib.Bits.{bit_and, bit_or, and_comm, and_self}
use borrow.Author.Tests.{eq-eqb, ne_eqb, eqb-true, not-true}
use Rattle.graphs.proofs.Search.{same_test, true-both}
use Rattle.lattice.specs.Table.{every, implies, below, accepted, restores, is_wanted, wanted, answer, cell, meet}
use Rattle.lattice.specs.Words.{related, Words, bit, without, part_of, word_restores, Restoring, WantedOver, holder, Sided, Inside}
use Rattle.lattice.proofs.Every.{and_left, and_right, implies-at, implies-from, every-at, every-all, true-not-false, not-false-true, last-same}
use Rattle.lattice.proofs.WordLaws.{word_same, word_and, bits-part-of}
use Rattle.lattice.proofs.Bits.{no-bit, part-bit, part-from}
use Rattle.lattice.proofs.Parts.{or-part, cleared-part}
use Rattle.lattice.proofs.OrderLaws.{row-bit}
use Rattle.lattice.proofs.Laws.{
  Meet,
  meet-restores,
  accepted-size,
  accepted-facts,
  accepted-sided,
  top-type,
  below-transitive,
  below-antisymmetric,
  top-greatest,
  meet-exists,
  wanted-of-same,
  wanted-by-top,
}

-- The loop that unites the words of the types before k.

pub restoring_none : (ws : List ℕ) (lower over : ℕ) → Restoring 0 ws lower over 0
unfolding every
restoring_none ws lower over m = part-from 0 m λ j e. absurd (true-not-false (bit 0 j) e (no-bit j))

module _ (ws : List ℕ) (lower over k u : ℕ) (r : Restoring k ws lower over u) where
  pub restoring-more : bit_and (get_or ws k 0) over ≡ lower → Restoring (k + 1) ws lower over (bit_or u (get_or ws k 0))
  unfolding every
  restoring-more e m = or-part u (get_or ws k 0) m ∙ rw (add-one, r m, eq-eqb (bit_and (get_or ws k 0) over) lower e)

  pub restoring-kept : (bit_and (get_or ws k 0) over ≡ lower → ⊥) → Restoring (k + 1) ws lower over u
  unfolding every
  restoring-kept e m =
      rw (add-one, r m, ne_eqb (bit_and (get_or ws k 0) over) lower e)
      (sym (and-true (every k λ c. implies (word_restores ws lower over c) (part_of (get_or ws c 0) m))))

  pub restoring-done : (n : ℕ) → k ≤ n → n ≤ k → Restoring n ws lower over u
  restoring-done n l s = let e : k ≡ n = omega arith in subst (λ (i : ℕ). Restoring i ws lower over u) e r

-- a word is part of itself, and words that are parts of each other are one
part-self : (a : ℕ) → part_of a a ≡ true
part-self a = eq-eqb (bit_and a a) a (and_self a)

part_same : (a b : ℕ) → part_of a b ≡ true → part_of b a ≡ true → a ≡ b
part_same a b e f = sym (eqb-true (bit_and a b) a e) ∙ and_comm a b ∙ eqb-true (bit_and b a) b f

module _ (n : ℕ) (t ws : List ℕ) (ok : accepted n t ≡ true) (words : Words n t false ws) where
  few : n ≤ 64
  few = (accepted-size n t ok).1

  laws : Sided n ws
  laws = accepted-sided n t ok ws words

  -- the word of d is part of that of c where d is below c
  below-part : (d c : ℕ) → d < n → c < n → below t d c ≡ true → part_of (get_or ws d 0) (get_or ws c 0) ≡ true
  below-part d c l s e =
      rw (words d l, words c s)
      (bits-part-of 64 (related t false d) (related t false c) λ j r f.
      let i : j < n = (accepted-facts n t ok).inside d j l r f in
      below-transitive n t ok j d c i l s f e)

  part-below : (d c : ℕ) → d < n → c < n → part_of (get_or ws d 0) (get_or ws c 0) ≡ true → below t d c ≡ true
  part-below d c l s e =
      sym (row-bit n t ws few words c d s (omega (arith, few))) ∙ part-bit (get_or ws d 0) (get_or ws c 0) e d (laws.own d l)

  -- types of one word are one
  one_word : (a b : ℕ) → a < n → b < n → get_or ws a 0 ≡ get_or ws b 0 → a ≡ b
  one_word a b l s e =
      laws.anti a b l s (ap (λ (w : ℕ). bit w b) e ∙ laws.own b s) (ap (λ (w : ℕ). bit w a) (sym e) ∙ laws.own a l)

  -- the bits that two words share are the word of the meet
  common-word : (d q m : ℕ) → d < n → q < n → Meet n t d q m → bit_and (get_or ws d 0) (get_or ws q 0) ≡ get_or ws m 0
  common-word d q m ld lq is =
      rw (words d ld, words q lq, words m is.type)
      (word_and 64 (related t false d) (related t false q) ∙
      word_same 64 (λ j. below t j d && below t j q) (related t false m) λ j l.
      same_test (below t j d && below t j q) (below t j m)
      (λ e.
      let f : below t j d ≡ true = and_left (below t j d) (below t j q) e in
      is.greatest j ((accepted-facts n t ok).inside d j ld l f) f (and_right (below t j d) (below t j q) e))
      (λ e.
      let i : j < n = (accepted-facts n t ok).inside m j is.type l e in
      true-both (below t j d) (below t j q) (below-transitive n t ok j m d i is.type ld e is.left)
      (below-transitive n t ok j m q i is.type lq e is.right)))

  pub meet-word : (d q : ℕ) → d < n → q < n → bit_and (get_or ws d 0) (get_or ws q 0) ≡ get_or ws (cell (meet n t d q)) 0
  meet-word d q ld lq =
      let r : (m : ℕ) × Meet n t d q m = meet-exists n t ok d q ld lq in
      common-word d q r.0 ld lq r.1 ∙ ap (λ (i : ℕ). get_or ws i 0) (sym (ap cell r.1.is))

  -- the test on words decides whether the meet of d and q is p
  restores-test : (p q d : ℕ) → p < n → q < n → d < n → word_restores ws (get_or ws p 0) (get_or ws q 0) d ≡ restores n t p q d
  restores-test p q d lp lq ld =
      let r : (m : ℕ) × Meet n t d q m = meet-exists n t ok d q ld lq in
      let common : bit_and (get_or ws d 0) (get_or ws q 0) ≡ get_or ws r.0 0 = common-word d q r.0 ld lq r.1 in
      same_test (word_restores ws (get_or ws p 0) (get_or ws q 0) d) (eqb r.0 p)
      (λ e. eq-eqb r.0 p (one_word r.0 p r.1.type lp (sym common ∙ eqb-true _ _ e)))
      (λ e. eq-eqb _ _ (common ∙ ap (λ (i : ℕ). get_or ws i 0) (eqb-true r.0 p e))) ∙
      sym (meet-restores n t p q d r.0 r.1.is)

  module _ (p q u : ℕ) (lp : p < n) (lq : q < n) (all : Restoring n ws (get_or ws p 0) (get_or ws q 0) u) where
    -- the union is part of a word where the word of each type that restores is
    all-part : (m : ℕ) → ((d : ℕ) → d < n → restores n t p q d ≡ true → part_of (get_or ws d 0) m ≡ true) → part_of u m ≡ true
    all-part m each =
        all m ∙
        every-all _ n λ d l.
        implies-from (word_restores ws (get_or ws p 0) (get_or ws q 0) d) (part_of (get_or ws d 0) m) λ e. each d l (sym (restores-test p q d lp lq l) ∙ e)

    part-all : (m d : ℕ) → part_of u m ≡ true → d < n → restores n t p q d ≡ true → part_of (get_or ws d 0) m ≡ true
    part-all m d e l f =
        implies-at (word_restores ws (get_or ws p 0) (get_or ws q 0) d) (part_of (get_or ws d 0) m) (every-at _ n d (sym (all m) ∙ e) l)
        (restores-test p q d lp lq l ∙ f)

    all-inside : Inside n u
    all-inside j l e =
        laws.inside (n - 1) j (top-type n t ok) l
        (part-bit u (get_or ws (n - 1) 0)
        (all-part (get_or ws (n - 1) 0) (λ d s f. below-part d (n - 1) s (top-type n t ok) (top-greatest n t ok d s))) j e)

    -- a type that is above all types that restore, and whose word is the union, restores: else the union would not have its bit
    own-restores : (c : ℕ) → c < n → get_or ws c 0 ≡ u → ((d : ℕ) → d < n → restores n t p q d ≡ true → below t d c ≡ true) →
        restores n t p q c ≡ true
    own-restores c l same most =
        not-false-true (restores n t p q c) λ e.
        let rest : ℕ = without (get_or ws c 0) (2 ^ c) in
        let part : part_of u rest ≡ true =
        all-part rest (λ d s f.
        let apart : bit (get_or ws d 0) c ≡ true → ⊥ = λ g.
        let one : d ≡ c =
        below-antisymmetric n t ok d c s l (most d s f) (sym (row-bit n t ws few words d c s (omega (arith, few))) ∙ g) in
        true-not-false (restores n t p q d) f (ap (restores n t p q) one ∙ e) in
        cleared-part (get_or ws d 0) (get_or ws c 0) c ∙
        true-both (part_of (get_or ws d 0) (get_or ws c 0)) (not (bit (get_or ws d 0) c)) (below-part d c s l (most d s f))
        (not-bit (bit (get_or ws d 0) c) apart)) in
        true-not-false (bit (get_or ws c 0) c) (laws.own c l)
        (not-true (bit (get_or ws c 0) c)
        (and_right (part_of (get_or ws c 0) (get_or ws c 0)) (not (bit (get_or ws c 0) c))
        (sym (cleared-part (get_or ws c 0) (get_or ws c 0) c) ∙ ap (λ (w : ℕ). part_of w rest) same ∙ part)))
      where
        not-bit : (b : Bool) → (b ≡ true → ⊥) → not b ≡ true
        not-bit true h = absurd (h refl)
        not-bit false h = refl

    wanted-test : (c : ℕ) → c < n → eqb (get_or ws c 0) u ≡ is_wanted n t p q c
    unfolding is_wanted
    wanted-test c l =
        same_test (eqb (get_or ws c 0) u) (restores n t p q c && every n (λ d. implies (restores n t p q d) (below t d c)))
        (λ h.
        let same : get_or ws c 0 ≡ u = eqb-true _ _ h in
        let whole : part_of u (get_or ws c 0) ≡ true = ap (λ (w : ℕ). part_of w (get_or ws c 0)) (sym same) ∙ part-self (get_or ws c 0) in
        let most : (d : ℕ) → d < n → restores n t p q d ≡ true → below t d c ≡ true =
        λ d s f. part-below d c s l (part-all (get_or ws c 0) d whole s f) in
        true-both (restores n t p q c) (every n (λ d. implies (restores n t p q d) (below t d c))) (own-restores c l same most)
        (every-all _ n λ d s. implies-from (restores n t p q d) (below t d c) (most d s)))
        (λ h.
        let here : restores n t p q c ≡ true = and_left (restores n t p q c) _ h in
        let most : every n (λ d. implies (restores n t p q d) (below t d c)) ≡ true = and_right (restores n t p q c) _ h in
        eq-eqb _ _
        (part_same (get_or ws c 0) u (part-all u c (part-self u) l here)
        (all-part (get_or ws c 0) λ d s f.
        below-part d c s l (implies-at (restores n t p q d) (below t d c) (every-at _ n d most s) f))))

    wanted-found : holder n ws u ≡ wanted n t p q
    unfolding holder wanted
    wanted-found = last-same _ _ n wanted-test

  -- what the search answers for the union
  pub wanted-answer : (p over u : ℕ) (r : Answer ℕ) → p < n → Restoring n ws (get_or ws p 0) over u →
      ((m : ℕ) → m ≤ 64 → Sided m ws → Inside m u → r ≡ answer (holder m ws u)) → WantedOver n t ws p over r
  wanted-answer p over u r lp all answers q lq e =
      let all' : Restoring n ws (get_or ws p 0) (get_or ws q 0) u = subst (λ (w : ℕ). Restoring n ws (get_or ws p 0) w u) e all in
      answers n few laws (all-inside p q u lp lq all') ∙ ap answer (wanted-found p q u lp lq all')

  -- the answers without a search: q is p, or the greatest type
  pub same-answer : (p over : ℕ) → p < n → over ≡ get_or ws p 0 → WantedOver n t ws p over (Some (n - 1))
  same-answer p over lp e q lq f =
      sym (ap (λ (i : ℕ). answer (wanted n t p i)) (one_word q p lq lp (sym f ∙ e)) ∙ ap answer (wanted-of-same n t ok p lp))

  pub top-answer : (p over : ℕ) → p < n → over ≡ get_or ws (n - 1) 0 → WantedOver n t ws p over (Some p)
  top-answer p over lp e q lq f =
      sym (ap (λ (i : ℕ). answer (wanted n t p i)) (one_word q (n - 1) lq (top-type n t ok) (sym f ∙ e)) ∙ ap answer (wanted-by-top n t ok p lp))
