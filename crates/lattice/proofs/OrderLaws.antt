-- This file states the laws of an order as facts, and shows that the tests on words decide them.
use Prim.Native.Nat.{ℕ, suc, ◌+◌, ◌*◌, ◌-◌, ◌/◌, ◌%◌, ◌^◌, ◌<◌, ◌≤◌}
use mathlib.Core.Path.{◌≡◌, sym, ap, ◌∙◌}
use mathlib.Core.Bool.{Bool, true, false, ◌&&◌}
use mathlib.Core.List.{List}
use mathlib.Core.Logic.{⊎_elim}
use native.Mathlib.Nat.{zero-div}
use native.Mathlib.Omega.{arith}
use lib.ListN.{length, get_or, get_or-eq_default}
use lib.Dec.{leb, eqb}
use borrow.Author.Tests.{eq-eqb, eqb-true, le-leb, leb-true}
use Rattle.graphs.proofs.Search.{same_test, true-both}
use Rattle.lattice.specs.Table.{every, implies, below, ordered, confined, reflexive, antisymmetric, transitive, least, greatest}
use Rattle.lattice.specs.Words.{word, related, Words, bit, turned, part_of, pair_ordered, row_ordered, Sided}
use Rattle.lattice.proofs.Every.{and_left, and_right, implies-at, implies-from, every-at, every-all, true-not-false, below_or_not}
use Rattle.lattice.proofs.WordLaws.{word_same, word_cut, bits-part-of, part-of-bits, short-bits, bits-short}
use Rattle.lattice.proofs.Bits.{bit_word}

-- the laws of the order that the rows state, for types below n
pub record Ordered (n : ℕ) (t : List ℕ) : Type 0 where
  pub inside : (i j : ℕ) → i < n → j < 64 → below t j i ≡ true → j < n
  pub self : (i : ℕ) → i < n → below t i i ≡ true
  pub anti : (i j : ℕ) → i < n → j < n → below t i j ≡ true → below t j i ≡ true → i ≡ j
  pub chain : (i j k : ℕ) → i < n → j < n → k < n → below t i j ≡ true → below t j k ≡ true → below t i k ≡ true
  pub bottom : (i : ℕ) → i < n → below t 0 i ≡ true
  pub top : (i : ℕ) → i < n → below t i (n - 1) ≡ true

module _ (n : ℕ) (t : List ℕ) where
  pub ordered-facts : ordered n t ≡ true → Ordered n t
  unfolding ordered confined reflexive antisymmetric transitive least greatest
  ordered-facts h =
      let h₄ : confined n t && reflexive n t && antisymmetric n t && transitive n t && least n t ≡ true = and_left _ (greatest n t) h in
      let h₃ : confined n t && reflexive n t && antisymmetric n t && transitive n t ≡ true = and_left _ (least n t) h₄ in
      let h₂ : confined n t && reflexive n t && antisymmetric n t ≡ true = and_left _ (transitive n t) h₃ in
      let h₁ : confined n t && reflexive n t ≡ true = and_left _ (antisymmetric n t) h₂ in
      record {
        inside = λ i j l s e.
            leb-true (suc j) n
            (implies-at (below t j i) (leb (suc j) n) (every-at _ 64 j (every-at _ n i (and_left (confined n t) (reflexive n t) h₁) l) s) e);
        self = λ i l. every-at _ n i (and_right (confined n t) (reflexive n t) h₁) l;
        anti = λ i j l s e f.
            eqb-true i j
            (implies-at (below t i j && below t j i) (eqb i j)
            (every-at _ n j (every-at _ n i (and_right (confined n t && reflexive n t) (antisymmetric n t) h₂) l) s)
            (true-both (below t i j) (below t j i) e f));
        chain = λ i j k l s r e f.
            implies-at (below t i j && below t j k) (below t i k)
            (every-at _ n k
            (every-at _ n j
            (every-at _ n i (and_right (confined n t && reflexive n t && antisymmetric n t) (transitive n t) h₃) l)
            s)
            r)
            (true-both (below t i j) (below t j k) e f);
        bottom = λ i l.
            every-at _ n i (and_right (confined n t && reflexive n t && antisymmetric n t && transitive n t) (least n t) h₄) l;
        top = λ i l.
            every-at _ n i
            (and_right (confined n t && reflexive n t && antisymmetric n t && transitive n t && least n t) (greatest n t) h) l;
      }

  pub facts-ordered : Ordered n t → ordered n t ≡ true
  unfolding ordered confined reflexive antisymmetric transitive least greatest
  facts-ordered o =
      let w : confined n t ≡ true =
      every-all _ n λ i l.
      every-all _ 64 λ j s. implies-from (below t j i) (leb (suc j) n) λ e. le-leb (suc j) n (o.inside i j l s e) in
      let r : reflexive n t ≡ true = every-all _ n o.self in
      let a : antisymmetric n t ≡ true =
      every-all _ n λ i l.
      every-all _ n λ j s.
      implies-from (below t i j && below t j i) (eqb i j) λ e.
      eq-eqb i j (o.anti i j l s (and_left (below t i j) (below t j i) e) (and_right (below t i j) (below t j i) e)) in
      let c : transitive n t ≡ true =
      every-all _ n λ i l.
      every-all _ n λ j s.
      every-all _ n λ k r.
      implies-from (below t i j && below t j k) (below t i k) λ e.
      o.chain i j k l s r (and_left (below t i j) (below t j k) e) (and_right (below t i j) (below t j k) e) in
      let b : least n t ≡ true = every-all _ n o.bottom in
      let g : greatest n t ≡ true = every-all _ n o.top in
      rw (w, r, a, c, b, g)

-- the tests on words decide the laws
module _ (n : ℕ) (t ws : List ℕ) (few : n ≤ 64) (words : Words n t false ws) where
  -- bit j of word i is the bit of the table
  pub row-bit : (i j : ℕ) → i < n → j < 64 → bit (get_or ws i 0) j ≡ below t j i
  row-bit i j l s = ap (λ (w : ℕ). bit w j) (words i l) ∙ bit_word 64 (related t false i) j s

  pair-facts : (i j : ℕ) → i < n → j < n → pair_ordered ws i j ≡ true
      → ((k : ℕ) → k < 64 → below t k j ≡ true → below t k i ≡ true) × (below t i j ≡ true → i ≡ j)
  unfolding pair_ordered
  pair-facts i j l s h =
      let test : Bool = implies (bit (get_or ws j 0) i) (eqb i j) in
      let sub : part_of (word 64 (related t false j)) (word 64 (related t false i)) ≡ true =
      rw (← words j s, ← words i l) (and_left (part_of (get_or ws j 0) (get_or ws i 0)) test h) in (
        part-of-bits 64 (related t false j) (related t false i) sub,
        λ f.
            eqb-true i j
            (implies-at (bit (get_or ws j 0) i) (eqb i j) (and_right (part_of (get_or ws j 0) (get_or ws i 0)) test h)
            (row-bit j i s (omega arith) ∙ f)),
      )

  facts-pair : Ordered n t → (i j : ℕ) → i < n → j < n → below t j i ≡ true → pair_ordered ws i j ≡ true
  unfolding pair_ordered
  facts-pair o i j l s e =
      true-both (part_of (get_or ws j 0) (get_or ws i 0)) (implies (bit (get_or ws j 0) i) (eqb i j))
      (rw (words j s, words i l)
      (bits-part-of 64 (related t false j) (related t false i) λ k r f. o.chain k j i (o.inside j k s r f) s l f e))
      (implies-from (bit (get_or ws j 0) i) (eqb i j) λ f. eq-eqb i j (o.anti i j l s (sym (row-bit j i s (omega arith)) ∙ f) e))

  -- what the tests of row i say
  row-facts : (i : ℕ) → i < n → row_ordered n ws i ≡ true
      → ((j : ℕ) → j < 64 → below t j i ≡ true → j < n) × (below t i i ≡ true) × (below t 0 i ≡ true) × (below t i (n - 1) ≡ true)
      × ((j : ℕ) → j < n → below t j i ≡ true → pair_ordered ws i j ≡ true)
  unfolding row_ordered
  row-facts i l h =
      let w : ℕ = get_or ws i 0 in
      let short : Bool = leb (w / 2 ^ (n - 1)) 1 in
      let under : Bool = bit (get_or ws (n - 1) 0) i in
      let pairs : Bool = every 64 (λ j. implies (bit w j) (pair_ordered ws i j)) in
      let h₃ : short && bit w i && bit w 0 && under ≡ true = and_left _ pairs h in
      let h₂ : short && bit w i && bit w 0 ≡ true = and_left _ under h₃ in
      let h₁ : short && bit w i ≡ true = and_left _ (bit w 0) h₂ in
      let h₀ : leb (word 64 (related t false i) / 2 ^ (n - 1)) 1 ≡ true = rw (← words i l) (and_left short (bit w i) h₁) in
      let all : pairs ≡ true = and_right (short && bit w i && bit w 0 && under) pairs h in (
        short-bits n 64 (related t false i) (omega arith) h₀,
        sym (row-bit i i l (omega arith)) ∙ and_right short (bit w i) h₁,
        sym (row-bit i 0 l (omega arith)) ∙ and_right (short && bit w i) (bit w 0) h₂,
        sym (row-bit (n - 1) i (omega arith) (omega arith)) ∙ and_right (short && bit w i && bit w 0) under h₃,
        λ j s e. implies-at (bit w j) (pair_ordered ws i j) (every-at _ 64 j all (omega arith)) (row-bit i j l (omega arith) ∙ e),
      )

  pub rows-facts : every n (row_ordered n ws) ≡ true → Ordered n t
  rows-facts h =
      let row : (i : ℕ) (l : i < n) → _ = λ i l. row-facts i l (every-at _ n i h l) in
      let pair : (i j : ℕ) (l : i < n) (s : j < n) → below t j i ≡ true → _ =
      λ i j l s e. pair-facts i j l s ((row i l).4 j s e) in
      record {
        inside = λ i j l. (row i l).0 j;
        self = λ i l. (row i l).1;
        anti = λ i j l s e f. (pair i j l s f).1 e;
        chain = λ i j k l s r e f. (pair k j r s f).0 i (omega arith) e;
        bottom = λ i l. (row i l).2;
        top = λ i l. (row i l).3;
      }

  pub facts-rows : Ordered n t → every n (row_ordered n ws) ≡ true
  unfolding row_ordered
  facts-rows o =
      every-all _ n λ i l.
      let short : leb (get_or ws i 0 / 2 ^ (n - 1)) 1 ≡ true =
      rw (words i l) (bits-short n 64 (related t false i) (omega arith) few λ j. o.inside i j l) in
      let pairs : every 64 (λ j. implies (bit (get_or ws i 0) j) (pair_ordered ws i j)) ≡ true =
      every-all _ 64 λ j s.
      implies-from (bit (get_or ws i 0) j) (pair_ordered ws i j) λ e.
      let f : below t j i ≡ true = sym (row-bit i j l s) ∙ e in
      facts-pair o i j l (o.inside i j l s f) f in
      rw (
        short,
        row-bit i i l (omega arith),
        o.self i l,
        row-bit i 0 l (omega arith),
        o.bottom i l,
        row-bit (n - 1) i (omega arith) (omega arith),
        o.top i l,
        pairs,
      )

  pub rows-ordered : every n (row_ordered n ws) ≡ ordered n t
  rows-ordered = same_test _ _ (λ h. facts-ordered n t (rows-facts h)) (λ h. facts-rows (ordered-facts n t h))

-- off the table no bit stands
pub off-table : (n : ℕ) (t : List ℕ) (j i : ℕ) → length t ≡ 8 * n → n ≤ i → below t j i ≡ false
unfolding below
off-table n t j i e l =
    let d : get_or t (8 * i + j / 8) 0 ≡ 0 = get_or-eq_default t 0 (omega arith) in
    rw (d, zero-div (2 ^ (j % 8)))

-- the laws of one side: `rel i j` says that j is on that side of i
pub record Side (n : ℕ) (rel : ℕ → ℕ → Bool) : Type 0 where
  pub inside : (i j : ℕ) → i < n → j < 64 → rel i j ≡ true → j < n
  pub self : (i : ℕ) → i < n → rel i i ≡ true
  pub anti : (i j : ℕ) → i < n → j < n → rel i j ≡ true → rel j i ≡ true → i ≡ j
  pub chain : (i j k : ℕ) → i < n → j < n → k < n → rel i j ≡ true → rel j k ≡ true → rel i k ≡ true

pub side : (n : ℕ) (t : List ℕ) (up : Bool) → length t ≡ 8 * n → Ordered n t → Side n (related t up)
side n t true e o =
    record {
      inside = λ i j l s f.
          ⊎_elim (λ r. r) (λ r. absurd (true-not-false (below t i j) f (off-table n t i j e r))) (below_or_not j n);
      self = o.self;
      anti = o.anti;
      chain = o.chain;
    }
side n t false e o =
    record {
      inside = o.inside;
      self = o.self;
      anti = λ i j l s f g. o.anti i j l s g f;
      chain = λ i j k l s r f g. o.chain k j i r s l g f;
    }

-- the words of a side are those of an order
pub sided : (n : ℕ) (rel : ℕ → ℕ → Bool) (ws : List ℕ) → n ≤ 64 → Side n rel → ((i : ℕ) → i < n → get_or ws i 0 ≡ word 64 (rel i)) → Sided n ws
sided n rel ws few laws words =
    let at : (i j : ℕ) → i < n → j < 64 → bit (get_or ws i 0) j ≡ rel i j =
    λ i j l s. ap (λ (w : ℕ). bit w j) (words i l) ∙ bit_word 64 (rel i) j s in
    record {
      own = λ i l. at i i l (omega arith) ∙ laws.self i l;
      inside = λ i j l s e. laws.inside i j l s (sym (at i j l s) ∙ e);
      anti = λ i j l s e f. laws.anti i j l s (sym (at i j l (omega arith)) ∙ e) (sym (at j i s (omega arith)) ∙ f);
    }

-- the words of the types below, turned, are those of the types above
pub turned-words : (n : ℕ) (t down up : List ℕ) → n ≤ 64 → length t ≡ 8 * n → Words n t false down
    → ((i : ℕ) → i < n → get_or up i 0 ≡ turned n down i) → Words n t true up
unfolding turned
turned-words n t down up few e words made i l =
    made i l ∙
    word_same n (λ j. bit (get_or down j 0) i) (related t true i) (λ j s. row-bit n t down few words j i s (omega arith)) ∙
    sym (word_cut n 64 (related t true i) few λ j a b. off-table n t i j e a)
