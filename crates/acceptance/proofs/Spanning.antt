-- The test of an order by covers. Of the types strictly below i the highest numbered is taken, its word is tested to have only types
-- strictly below i, all below it are put aside, and so on. Where every row passes, every pair is ordered: a type x strictly below i is
-- below a taken type c, the word of c is less than that of i, so what is below x is below c, and what is below c is strictly below i.
use Prim.Native.Nat.{ℕ, zero, suc, ◌+◌, ◌*◌, ◌-◌, ◌/◌, ◌^◌, ◌<◌, ◌≤◌}
use mathlib.Core.Path.{◌≡◌, refl, sym, ap, ap₂, subst, ◌∙◌}
use mathlib.Core.Bool.{Bool, true, false, not, ◌&&◌, and-true}
use mathlib.Core.List.{List}
use mathlib.Core.Logic.{◌⊎◌, inl, inr, ⊎_elim}
use native.Mathlib.Nat.{not-suc-le-zero, div-lt_iff_lt-mul}
use native.Mathlib.Omega.{arith}
use lib.ListN.{get_or}
use lib.Bits.{bit_and, bit_or, and_comm, and_le_l}
use lib.Dec.{leb, eqb}
use Rattle.std.specs.Prelude.{Option as Answer, None, Some, is_some}
use lib.Pow.{pow_pos}
use borrow.Author.Count.{below_more}
use borrow.Author.Tests.{eq-eqb, ne_eqb, eqb-true, le-leb, leb-true, not-true}
use Rattle.graphs.proofs.Search.{not-true-false, true-both}
use Rattle.lattice.specs.Table.{every, implies}
use Rattle.lattice.specs.Words.{
  bit,
  without,
  strictly,
  part_of,
  pair_ordered,
  pairs_ordered,
  row_inside,
  row_set,
  row_ordered,
  Owned,
  Spans,
  Spanned,
  CoversOf,
  word_bound,
  all_found,
  Sided,
  Inside,
  Lower,
  BoundsWithin,
}
use Rattle.lattice.proofs.Every.{and_left, and_right, true-not-false, implies-from, every-at, every-all, every-fails, every-same}
use Rattle.lattice.proofs.Bits.{no-bit, without-bit, without-less, cleared-bit, cleared-less, part-bit, part-from, short-inside}
use Rattle.lattice.proofs.Parts.{cleared-part}
use Rattle.acceptance.proofs.Covering.{
  Taking,
  take-begin,
  take_next,
  take-end,
  strictly-under,
  below-strictly,
  CoversBounded,
  covered-inside,
  covers_more,
  covers-bounded,
}

-- of a type j strictly below i: the pair is ordered where what is below j is strictly below i
pair-lower : (ws : List ℕ) (i j : ℕ)
    → implies (bit (strictly ws i) j) (part_of (get_or ws j 0) (strictly ws i))
    ≡ implies (bit (get_or ws i 0) j) (pair_ordered ws i j)
unfolding pair_ordered
pair-lower ws i j = go (eqb j i) refl where
  apart-only : (x b : Bool) → b ≡ false → not x ≡ implies x b
  apart-only true b e = sym e
  apart-only false b e = refl

  go : (b : Bool) → eqb j i ≡ b
      → implies (bit (strictly ws i) j) (part_of (get_or ws j 0) (strictly ws i))
      ≡ implies (bit (get_or ws i 0) j) (part_of (get_or ws j 0) (get_or ws i 0) && implies (bit (get_or ws j 0) i) (eqb i j))
  go true e =
      let q : j ≡ i = eqb-true j i e in
      implies-from (bit (strictly ws i) j) (part_of (get_or ws j 0) (strictly ws i))
      (λ h.
      absurd
      (true-not-false (eqb j i) e
      (not-true (eqb j i) (and_right (bit (get_or ws i 0) j) (not (eqb j i)) (sym (cleared-bit (get_or ws i 0) i j) ∙ h))))) ∙
      sym
      (implies-from (bit (get_or ws i 0) j) (part_of (get_or ws j 0) (get_or ws i 0) && implies (bit (get_or ws j 0) i) (eqb i j)) λ h.
      true-both (part_of (get_or ws j 0) (get_or ws i 0)) (implies (bit (get_or ws j 0) i) (eqb i j))
      (part-from (get_or ws j 0) (get_or ws i 0) λ k f. ap (λ (a : ℕ). bit (get_or ws a 0) k) (sym q) ∙ f)
      (implies-from (bit (get_or ws j 0) i) (eqb i j) λ f. eq-eqb i j (sym q)))
  go false e =
      let apart : eqb i j ≡ false = ne_eqb i j λ q. true-not-false (eqb j i) (eq-eqb j i (sym q)) e in
      ap₂ (λ (x y : Bool). implies x y)
      (cleared-bit (get_or ws i 0) i j ∙ ap (λ (b : Bool). bit (get_or ws i 0) j && not b) e ∙ and-true (bit (get_or ws i 0) j))
      (cleared-part (get_or ws j 0) (get_or ws i 0) i ∙
      ap (λ (b : Bool). part_of (get_or ws j 0) (get_or ws i 0) && b) (apart-only (bit (get_or ws j 0) i) (eqb i j) apart))

-- so it is of all pairs of i
pairs-lower : (ws : List ℕ) (i : ℕ) → every 64 (λ j. implies (bit (strictly ws i) j) (part_of (get_or ws j 0) (strictly ws i))) ≡ pairs_ordered ws i
pairs-lower ws i = every-same _ _ 64 (λ j l. pair-lower ws i j)

-- The types taken so far: every type strictly below i is left, or below one of them.
pub record Spanning (n : ℕ) (ws : List ℕ) (i left word : ℕ) : Type 0 where
  pub left-part : (j : ℕ) → bit left j ≡ true → bit (strictly ws i) j ≡ true
  pub spanned : (x : ℕ) → bit (strictly ws i) x ≡ true → (bit left x ≡ true) ⊎ ((c : ℕ) × Spans ws i x c)
  pub taking : Lower n ws → Taking n ws i left word

module _ {n : ℕ} {ws : List ℕ} {i : ℕ} (li : i < n) where
  pub span-begin : Spanning n ws i (strictly ws i) 0
  span-begin = record { left-part = λ j e. e; spanned = λ x e. inl e; taking = λ low. take-begin low li }

  pub span-end : {left word : ℕ} → left ≡ 0 → Spanning n ws i left word → CoversOf n ws i (Some word)
  span-end {left} e s = (
    λ x f.
        ⊎_elim (λ (g : bit left x ≡ true). absurd (true-not-false (bit left x) g (ap (λ (w : ℕ). bit w x) e ∙ no-bit x))) (λ r. r)
        (s.spanned x f),
    λ low. take-end low li e (s.taking low),
  )

  module _ {left word : ℕ} (s : Spanning n ws i left word) (c : ℕ) (small : c < 64) (stands : bit left c ≡ true) where
    taken : Owned n ws → c < n
    taken owned =
        owned.inside i c li small
        (and_left (bit (get_or ws i 0) c) (not (eqb c i)) (sym (cleared-bit (get_or ws i 0) i c) ∙ s.left-part c stands))

    pub span_less : Owned n ws → without left (get_or ws c 0) < left
    span_less owned = without-less left (get_or ws c 0) c stands (owned.own c (taken owned))

    pub span-next : part_of (get_or ws c 0) (strictly ws i) ≡ true
        → Spanning n ws i (without left (get_or ws c 0)) (bit_or (without word (get_or ws c 0)) (2 ^ c))
    span-next part =
        record {
          left-part = λ j e. s.left-part j (and_left (bit left j) (not (bit (get_or ws c 0) j)) (sym (without-bit left (get_or ws c 0) j) ∙ e));
          spanned = λ x e. go x (bit (get_or ws c 0) x) refl (s.spanned x e);
          taking = λ low. take_next low li (s.taking low) c small stands;
        }
      where
        go : (x : ℕ) (b : Bool) → bit (get_or ws c 0) x ≡ b → (bit left x ≡ true) ⊎ ((c : ℕ) × Spans ws i x c)
            → (bit (without left (get_or ws c 0)) x ≡ true) ⊎ ((c : ℕ) × Spans ws i x c)
        go x true e h = inr (c, record { small = small; under = s.left-part c stands; part = part; over = e })
        go x false e (inl f) = inl (without-bit left (get_or ws c 0) x ∙ rw (f, e))
        go x false e (inr r) = inr r

    -- a type below c is not strictly below i
    pub span-fails : n ≤ 64 → Owned n ws → part_of (get_or ws c 0) (strictly ws i) ≡ false → CoversOf n ws i None
    span-fails few owned e = (
      sym (pairs-lower ws i) ∙ every-fails _ 64 c small (rw (s.left-part c stands, e)),
      λ low.
          let under = strictly-under ws i c (s.left-part c stands) in
          true-not-false (part_of (get_or ws c 0) (strictly ws i))
          (eq-eqb _ _ (below-strictly n ws few low i c li (taken owned) under.below under.apart)) e,
    )

-- What a test of the answer for type i tells.
module _ (n : ℕ) (ws : List ℕ) (i : ℕ) where
  pub covers-missing : (o : Answer ℕ) → CoversOf n ws i o → is_some o ≡ false → pairs_ordered ws i ≡ false
  covers-missing None h e = h.0
  covers-missing (Some w) h e = absurd (true-not-false true refl e)

  pub covers-there : (o : Answer ℕ) → CoversOf n ws i o → is_some o ≡ true → Spanned ws i
  covers-there None h e = absurd (true-not-false false e refl)
  covers-there (Some w) h e = h.0

-- Where every row is spanned, all pairs are ordered.
module _ {n : ℕ} {ws : List ℕ} (owned : Owned n ws) (spans : (i : ℕ) → i < n → Spanned ws i) where
  -- what is below a type strictly below i is strictly below i, where the word of i is below k
  lower-part : (k i x : ℕ) → i < n → get_or ws i 0 < k → bit (strictly ws i) x ≡ true → part_of (get_or ws x 0) (strictly ws i) ≡ true
  lower-part zero i x li h e = absurd (not-suc-le-zero h)
  lower-part (suc k) i x li h e = go (lower-part k) (spans i li x e) where
    go : ((i x : ℕ) → i < n → get_or ws i 0 < k → bit (strictly ws i) x ≡ true → part_of (get_or ws x 0) (strictly ws i) ≡ true)
        → (c : ℕ) × Spans ws i x c → part_of (get_or ws x 0) (strictly ws i) ≡ true
    go next (c, s) = at (eqb x c) refl where
      least : get_or ws c 0 < k
      least =
          omega (
            arith,
            eqb-true (bit_and (get_or ws c 0) (strictly ws i)) (get_or ws c 0) s.part,
            and_comm (get_or ws c 0) (strictly ws i),
            and_le_l (strictly ws i) (get_or ws c 0),
            cleared-less (get_or ws i 0) i (owned.own i li),
          )

      at : (b : Bool) → eqb x c ≡ b → part_of (get_or ws x 0) (strictly ws i) ≡ true
      at true q = ap (λ (j : ℕ). part_of (get_or ws j 0) (strictly ws i)) (eqb-true x c q) ∙ s.part
      at false q =
          let in-n : c < n =
          owned.inside i c li s.small
          (and_left (bit (get_or ws i 0) c) (not (eqb c i)) (sym (cleared-bit (get_or ws i 0) i c) ∙ s.under)) in
          let below : part_of (get_or ws x 0) (strictly ws c) ≡ true =
          next c x in-n least (cleared-bit (get_or ws c 0) c x ∙ rw (s.over, q)) in
          part-from (get_or ws x 0) (strictly ws i) λ j f.
          part-bit (get_or ws c 0) (strictly ws i) s.part j
          (and_left (bit (get_or ws c 0) j) (not (eqb j c))
          (sym (cleared-bit (get_or ws c 0) c j) ∙ part-bit (get_or ws x 0) (strictly ws c) below j f))

  pairs-hold : (i : ℕ) → i < n → pairs_ordered ws i ≡ true
  pairs-hold i li =
      sym (pairs-lower ws i) ∙
      every-all _ 64 λ j l. implies-from (bit (strictly ws i) j) (part_of (get_or ws j 0) (strictly ws i)) (lower-part (suc (get_or ws i 0)) i j li (omega arith))

-- All rows are set where row n - 1 has no bit at n or above and every row lies inside it and has its own bit and that of 0.
module _ (n : ℕ) (ws : List ℕ) (some : 0 < n) where
  -- what the tests of row i say
  module _ (set : every n (row_set n ws) ≡ true) (i : ℕ) (l : i < n) where
    set-short : leb (get_or ws i 0 / 2 ^ (n - 1)) 1 ≡ true
    set-short =
        and_left (leb (get_or ws i 0 / 2 ^ (n - 1)) 1) (bit (get_or ws i 0) i)
        (and_left _ (bit (get_or ws i 0) 0) (and_left _ (bit (get_or ws (n - 1) 0) i) (every-at _ n i set l)))

    set_own : bit (get_or ws i 0) i ≡ true
    set_own =
        and_right (leb (get_or ws i 0 / 2 ^ (n - 1)) 1) (bit (get_or ws i 0) i)
        (and_left _ (bit (get_or ws i 0) 0) (and_left _ (bit (get_or ws (n - 1) 0) i) (every-at _ n i set l)))

    set-least : bit (get_or ws i 0) 0 ≡ true
    set-least =
        and_right (leb (get_or ws i 0 / 2 ^ (n - 1)) 1 && bit (get_or ws i 0) i) (bit (get_or ws i 0) 0)
        (and_left _ (bit (get_or ws (n - 1) 0) i) (every-at _ n i set l))

    set-greatest : bit (get_or ws (n - 1) 0) i ≡ true
    set-greatest = and_right (leb (get_or ws i 0 / 2 ^ (n - 1)) 1 && bit (get_or ws i 0) i && bit (get_or ws i 0) 0) _ (every-at _ n i set l)

  row_inside_lem : every n (row_set n ws) ≡ true → (i : ℕ) → i < n → row_inside (get_or ws (n - 1) 0) (get_or ws i 0) i ≡ true
  row_inside_lem set i l =
      true-both (part_of (get_or ws i 0) (get_or ws (n - 1) 0) && bit (get_or ws i 0) i) (bit (get_or ws i 0) 0)
      (true-both (part_of (get_or ws i 0) (get_or ws (n - 1) 0)) (bit (get_or ws i 0) i)
      (part-from (get_or ws i 0) (get_or ws (n - 1) 0) λ j e. set-greatest set j (short-inside n (get_or ws i 0) j some (set-short set i l) e))
      (set_own set i l))
      (set-least set i l)

  pub rows-set : leb (get_or ws (n - 1) 0 / 2 ^ (n - 1)) 1 ≡ true
      → ((i : ℕ) → i < n → row_inside (get_or ws (n - 1) 0) (get_or ws i 0) i ≡ true) → every n (row_set n ws) ≡ true
  rows-set short inside =
      every-all _ n λ i l.
      let all : ℕ = get_or ws (n - 1) 0 in
      let row : ℕ = get_or ws i 0 in
      let both : part_of row all && bit row i ≡ true = and_left (part_of row all && bit row i) (bit row 0) (inside i l) in
      let part : part_of row all ≡ true = and_left (part_of row all) (bit row i) both in
      let own : bit row i ≡ true = and_right (part_of row all) (bit row i) both in
      let least : bit row 0 ≡ true = and_right (part_of row all && bit row i) (bit row 0) (inside i l) in
      let most : all / 2 ^ (n - 1) ≤ 1 = leb-true (all / 2 ^ (n - 1)) 1 short in
      let under : row ≤ all = omega (arith, eqb-true (bit_and row all) row part, and_comm row all, and_le_l all row) in
      let wide : all < 2 * 2 ^ (n - 1) = (div-lt_iff_lt-mul (pow_pos (n - 1))).0 (omega arith) in
      let less : row / 2 ^ (n - 1) < 2 = (div-lt_iff_lt-mul (pow_pos (n - 1))).1 (omega arith) in
      let shorter : leb (row / 2 ^ (n - 1)) 1 ≡ true = le-leb (row / 2 ^ (n - 1)) 1 (omega arith) in
      true-both (leb (row / 2 ^ (n - 1)) 1 && bit row i && bit row 0) (bit all i)
      (true-both (leb (row / 2 ^ (n - 1)) 1 && bit row i) (bit row 0) (true-both (leb (row / 2 ^ (n - 1)) 1) (bit row i) shorter own) least)
      (part-bit row all part i own)

  pub top-fails : leb (get_or ws (n - 1) 0 / 2 ^ (n - 1)) 1 ≡ false → every n (row_set n ws) ≡ false
  top-fails e = not-true-false (every n (row_set n ws)) λ h. true-not-false _ (set-short h (n - 1) (omega arith)) e

  pub row-fails : (i : ℕ) → i < n → row_inside (get_or ws (n - 1) 0) (get_or ws i 0) i ≡ false → every n (row_set n ws) ≡ false
  row-fails i l e = not-true-false (every n (row_set n ws)) λ h. true-not-false _ (row_inside_lem h i l) e

module _ (n : ℕ) (ws : List ℕ) where
  -- rows that are set own their types
  pub rows-owned : every n (row_set n ws) ≡ true → Owned n ws
  rows-owned h =
      record {
        own = λ i l. set_own n ws (omega arith) h i l;
        inside = λ i j l s e. short-inside n (get_or ws i 0) j (omega arith) (set-short n ws (omega arith) h i l) e;
      }

  -- the answer for all rows
  pub rows-hold : every n (row_set n ws) ≡ true → ((i : ℕ) → i < n → Spanned ws i) → every n (row_ordered n ws) ≡ true
  unfolding row_ordered
  rows-hold h spans =
      every-all _ n λ i l. true-both (row_set n ws i) (pairs_ordered ws i) (every-at _ n i h l) (pairs-hold (rows-owned h) spans i l)

  pub rows-fail : (i : ℕ) → i < n → pairs_ordered ws i ≡ false → every n (row_ordered n ws) ≡ false
  unfolding row_ordered
  rows-fail i l e = every-fails _ n i l (none (row_set n ws i) e)
    where
      none : (a : Bool) {b : Bool} → b ≡ false → a && b ≡ false
      none true e = e
      none false e = refl

  pub rows-unset : every n (row_set n ws) ≡ false → every n (row_ordered n ws) ≡ false
  unfolding row_ordered
  rows-unset e =
      not-true-false (every n (row_ordered n ws)) λ h.
      true-not-false (every n (row_set n ws)) (every-all _ n λ i l. and_left (row_set n ws i) (pairs_ordered ws i) (every-at _ n i h l)) e

  -- the first k rows are spanned; `all` tells whether every two types that one of the first k types covers have a bound
  pub record Judging (k : ℕ) (all : Bool) : Type 0 where
    pub spans : (i : ℕ) → i < k → Spanned ws i
    pub yes-stands : all ≡ true → Lower n ws → CoversBounded n ws k
    pub no-stands : all ≡ false → Lower n ws → all_found n (word_bound n ws) ≡ false

  pub judge-begin : Judging 0 true
  judge-begin =
      record {
        spans = λ i l. absurd (not-suc-le-zero l);
        yes-stands = λ h low i l. absurd (not-suc-le-zero l);
        no-stands = λ h. absurd (true-not-false true refl h);
      }

  module _ {k w : ℕ} {all : Bool} (j : Judging k all) (o : CoversOf n ws k (Some w)) where
    -- the bounds of the types that type k covers are sought, or one is missing already
    pub judge-next : k < n → n ≤ 64 → all ≡ true → {answer : Bool} → (Sided n ws → Inside n w → BoundsWithin n ws w answer) → Judging (k + 1) answer
    judge-next l few h {answer} told =
        record {
          spans = below_more (Spanned ws) k j.spans o.0;
          yes-stands = λ e low.
              covers_more n ws k w (j.yes-stands h low) (o.1 low) (subst (BoundsWithin n ws w) e (at low));
          no-stands = λ e low. (at low).no-stands e;
        }
      where
        at : Lower n ws → BoundsWithin n ws w answer
        at low = told low.sided (covered-inside n ws k w l low.sided (o.1 low))

    pub judge-kept : all ≡ false → Judging (k + 1) all
    judge-kept h =
        record {
          spans = below_more (Spanned ws) k j.spans o.0;
          yes-stands = λ e. absurd (true-not-false all e h);
          no-stands = j.no-stands;
        }

  pub judge-end : {k : ℕ} {all : Bool} → n ≤ 64 → n ≤ k → k ≤ n → Judging k all → Lower n ws → all ≡ all_found n (word_bound n ws)
  judge-end {k} {all} few l r j low = go all refl where
    go : (b : Bool) → all ≡ b → all ≡ all_found n (word_bound n ws)
    go true e = e ∙ covers-bounded n ws few low k l r (j.yes-stands e low)
    go false e = e ∙ sym (j.no-stands e low)
