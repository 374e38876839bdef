-- Opening an accepted table leaves the sets of its types, or filled cells. Either way the meet and the join of two types, as they are held,
-- are those of the table.
use Prim.Native.Nat.{ℕ, ◌-◌, ◌<◌}
use mathlib.Core.Path.{◌≡◌, refl, sym, ap, ap₂, subst, ◌∙◌}
use mathlib.Core.Bool.{Bool, true, false, cond, not, ◌&&◌}
use mathlib.Core.List.{List}
use mathlib.Core.Option.{Option}
use native.Mathlib.Omega.{arith}
use lib.ListN.{length, get_or}
use lib.Bits.{bit_and, bit_or}
use borrow.Author.Tests.{eq-eqb}
use Rattle.graphs.proofs.Search.{not-true-false, true-both}
use Rattle.lattice.specs.Table.{every, below, sized, ordered, accepted, meet, join, cell, filled, bound_row, overwrite}
use Rattle.lattice.specs.Words.{word, related, Words, bit, turned, Inside}
use Rattle.bounds.specs.Primes.{word_irreducible, word_prime}
use Rattle.bounds.specs.Sets.{distributive, irreducible, set_of, set_in, as_sets, cell_in, meet_in, join_in, Apart, Held, Sets, Holding}
use Rattle.lattice.proofs.Every.{and_left, and_right, true-not-false}
use Rattle.lattice.proofs.WordLaws.{word_same, word_and, word_cut}
use Rattle.lattice.proofs.Bits.{bit_word, no-bit, and-bit, part-bit, word-inside}
use Rattle.lattice.proofs.Rows.{length-overwrite}
use Rattle.lattice.proofs.Laws.{Meet, Join, accepted-size, accepted-facts, zero-type, top-type, below-antisymmetric, zero-least, meet-exists, join-exists, meets-cell, joins-cell}
use Rattle.bounds.proofs.PrimeLaws.{few, laws, own-bit, least-outside}
use Rattle.bounds.proofs.Distributive.{covers-irreducible, below-by-sets, set-bit, sets-apart, sets-meet, sets-join, primes-distributive, word-irreducible}
use Rattle.bounds.proofs.Held.{holder-own, as-sets}

-- a word that is turned has the types below n that have the bit
turned-inside : (n : ℕ) (ws : List ℕ) (j : ℕ) → Inside n (turned n ws j)
unfolding turned
turned-inside n ws j = word-inside n (λ i. bit (get_or ws i 0) j)

turned_bit : (n : ℕ) (ws : List ℕ) (j k : ℕ) → k < n → bit (turned n ws j) k ≡ bit (get_or ws k 0) j
unfolding turned
turned_bit n ws j k l = bit_word n (λ i. bit (get_or ws i 0) j) k l

-- the tests of a type in either order
turned-tests : (x y z : Bool) → y ≡ z → (x && y) ≡ (z && x)
turned-tests true y true e = e
turned-tests true y false e = e
turned-tests false y true e = refl
turned-tests false y false e = refl

length-filled : (n : ℕ) (t : List ℕ) (bound : ℕ → ℕ → Option ℕ) (rows : List (List ℕ)) → length (filled n t bound rows) ≡ length rows
unfolding filled
length-filled n t bound rows = go (sized n t && ordered n t) where
  go : (b : Bool) → length (cond b (overwrite n (bound_row n bound) rows) rows) ≡ length rows
  go true = length-overwrite n (bound_row n bound) rows
  go false = refl

module _ (n : ℕ) (t : List ℕ) (ok : accepted n t ≡ true) where
  module _ (ws : List ℕ) (words : Words n t false ws) {up : Bool} {sets : List ℕ} (made : Sets up n ws sets n) where
    -- the sets that are made of words are those of the table
    sets-are : (a : ℕ) → a < n → set_in sets a ≡ set_of n t a
    unfolding set_of
    sets-are a l =
        let cut : word 64 (related t false a) ≡ word n (related t false a) =
        word_cut n 64 (related t false a) (few n t ws ok words) λ j m s.
        not-true-false (below t j a) λ e. absurd (omega (arith, (accepted-facts n t ok).inside a j l s e)) in
        made.set a l ∙ ap (λ (w : ℕ). bit_and w (word n (word_irreducible n ws))) (words a l ∙ cut) ∙
        word_and n (related t false a) (word_irreducible n ws) ∙
        word_same n _ (λ j. irreducible n t j && below t j a)
        (λ j s. turned-tests (below t j a) (word_irreducible n ws j) (irreducible n t j) (word-irreducible n t ok ws words j s))

    made-apart : Apart n sets
    made-apart i j l s e = sets-apart n t ok i j l s (sym (sets-are i l) ∙ e ∙ sets-are j s)

    -- a member of a set is a type below n, and irreducible
    member : (a j : ℕ) → a < n → j < 64 → bit (set_in sets a) j ≡ true →
        (j < n) × (bit (get_or ws a 0) j ≡ true) × (word_irreducible n ws j ≡ true)
    member a j l s e =
        let all : ℕ = word n (word_irreducible n ws) in
        let both : bit (get_or ws a 0) j && bit all j ≡ true =
        sym (and-bit (get_or ws a 0) all j) ∙ ap (λ (w : ℕ). bit w j) (sym (made.set a l)) ∙ e in
        let own : bit (get_or ws a 0) j ≡ true = and_left (bit (get_or ws a 0) j) (bit all j) both in
        let known : j < n = (laws n t ws ok words).inside a j l s own in
        (known, own, sym (bit_word n (word_irreducible n ws) j known) ∙ and_right (bit (get_or ws a 0) j) (bit all j) both)

  -- the set of the greatest type is not empty
  top-member : set_of n t (n - 1) ≡ 0 → ⊥
  top-member e =
      let apart : below t (n - 1) 0 ≡ false =
      not-true-false (below t (n - 1) 0) λ f.
      omega (
        arith,
        (accepted-size n t ok).0,
        below-antisymmetric n t ok (n - 1) 0 (top-type n t ok) (zero-type n t ok) f (zero-least n t ok (n - 1) (top-type n t ok)),
      ) in
      let (j, l, under, other, k, lk, covers) = least-outside n t ok (n - 1) 0 (top-type n t ok) (zero-type n t ok) apart in
      true-not-false (bit (set_of n t (n - 1)) j)
      (set-bit n t ok (n - 1) j l ∙ rw (covers-irreducible n t ok j k l lk covers, under))
      (ap (λ (w : ℕ). bit w j) e ∙ no-bit j)

  module _ (ws : List ℕ) (words : Words n t false ws) where
    held-sets : (up : Bool) (sets : List ℕ) → Sets up n ws sets n → Held up n sets
    held-sets false sets made =
        record {
          apart = made-apart ws words made;
          inside = λ a l j s e. (laws n t ws ok words).inside a j l s (ap (λ (w : ℕ). bit w j) (sym (made.sought a l)) ∙ e);
          lower = λ k a lk la part.
              ap (λ (w : ℕ). bit w k) (made.sought a la) ∙ own-bit n t ws ok words a k la (omega (arith, few n t ws ok words)) ∙
              below-by-sets n t ok k a lk la λ j l i e.
              and_right (irreducible n t j) (below t j a)
              (sym (set-bit n t ok a j l) ∙ ap (λ (w : ℕ). bit w j) (sym (sets-are ws words made a la)) ∙
              part-bit (set_in sets k) (set_in sets a) part j
              (ap (λ (w : ℕ). bit w j) (sets-are ws words made k lk) ∙ set-bit n t ok k j l ∙ true-both (irreducible n t j) (below t j k) i e));
        }
    held-sets true sets made =
        record {
          apart = made-apart ws words made;
          inside = λ a j la l e.
              let (known, own, stands) = member ws words made a j la l e in
              subst (Inside n) (sym (made.sought j known stands)) (turned-inside n ws j);
          upper = λ k j lk l e.
              let (known, own, stands) = member ws words made k j lk l e in
              ap (λ (w : ℕ). bit w k) (made.sought j known stands) ∙ turned_bit n ws j k lk ∙ own;
        }

    module _ (up : Bool) (bound : ℕ → ℕ → Option ℕ) (sets : List ℕ) (cells₀ cells : List (List ℕ)) where
      -- every irreducible type is prime: the types are held as sets, and no cell is filled
      pub holding-sets : every n (word_prime n ws) ≡ true → Sets up n ws sets n → cells ≡ cells₀ → Holding up n t bound sets cells₀ cells
      holding-sets prime made e =
          let spread : distributive n t ≡ true = sym (primes-distributive n t ok ws words) ∙ prime in
          record {
            set = λ d. sets-are ws words made;
            unfilled = λ d. e;
            no-set = λ d. absurd (true-not-false (distributive n t) spread d);
            filled-cells = λ d. absurd (true-not-false (distributive n t) spread d);
            held = (
              λ h. held-sets up sets made,
              λ h.
                  absurd
                  (true-not-false (as_sets n sets)
                  (as-sets n sets λ e. top-member (sym (sets-are ws words made (n - 1) (top-type n t ok)) ∙ e)) h),
            );
          }

  module _ (up : Bool) (bound : ℕ → ℕ → Option ℕ) (sets : List ℕ) (cells₀ cells : List (List ℕ)) where
    -- the table is not distributive: the cells are filled
    pub holding-cells : distributive n t ≡ false → set_in sets (n - 1) ≡ 0 → length cells₀ ≡ 64 → cells ≡ filled n t bound cells₀ →
        Holding up n t bound sets cells₀ cells
    holding-cells other none long e =
        record {
          set = λ d. absurd (true-not-false (distributive n t) d other);
          unfilled = λ d. absurd (true-not-false (distributive n t) d other);
          no-set = λ d. none;
          filled-cells = λ d. e;
          held = (
            λ h. absurd (true-not-false (as_sets n sets) h (ap not (eq-eqb (set_in sets (n - 1)) 0 none))),
            λ h. ap length e ∙ length-filled n t bound cells₀ ∙ long,
          );
        }

  module _ (sets : List ℕ) (cells₀ cells : List (List ℕ)) (long : distributive n t ≡ false → length cells₀ ≡ 64) (a b : ℕ) (la : a < n) (lb : b < n) where
    held-as : {up : Bool} {bound : ℕ → ℕ → Option ℕ} → Holding up n t bound sets cells₀ cells → distributive n t ≡ true → as_sets n sets ≡ true
    held-as h d = as-sets n sets λ e. top-member (sym (h.set d (n - 1) (top-type n t ok)) ∙ e)

    not-as : {up : Bool} {bound : ℕ → ℕ → Option ℕ} → Holding up n t bound sets cells₀ cells → distributive n t ≡ false → as_sets n sets ≡ false
    not-as h d = ap not (eq-eqb (set_in sets (n - 1)) 0 (h.no-set d))

    apart-as : {up : Bool} {bound : ℕ → ℕ → Option ℕ} → Holding up n t bound sets cells₀ cells → distributive n t ≡ true → Apart n sets
    apart-as h d i j l s e = sets-apart n t ok i j l s (sym (h.set d i l) ∙ e ∙ h.set d j s)

    -- the type that is held for a meet is the meet
    pub meets-known : Holding false n t (meet n t) sets cells₀ cells →
        (meet_in n sets cells a b ≡ cell (meet n t a b)) × (meet_in n sets cells a b < n)
    unfolding meet_in
    meets-known h = go (distributive n t) refl where
      m : (m : ℕ) × Meet n t a b m
      m = meet-exists n t ok a b la lb

      is : cell (meet n t a b) ≡ m.0
      is = ap cell m.1.is

      known : {x : ℕ} → x ≡ m.0 → (x ≡ cell (meet n t a b)) × (x < n)
      known {x} e = (e ∙ sym is, subst (λ (y : ℕ). y < n) (sym e) m.1.type)

      go : (d : Bool) → distributive n t ≡ d → (meet_in n sets cells a b ≡ cell (meet n t a b)) × (meet_in n sets cells a b < n)
      go true d =
          known
          (rw (held-as h d)
          (sym
          (holder-own n sets (bit_and (set_in sets a) (set_in sets b)) m.0 (apart-as h d) m.1.type
          (ap₂ bit_and (h.set d a la) (h.set d b lb) ∙ sets-meet n t ok a b la lb ∙ ap (set_of n t) is ∙
          sym (h.set d m.0 m.1.type)))))
      go false d =
          let k : Meet n t a b (cell_in cells a b) =
          subst (λ (table : List (List ℕ)). Meet n t a b (cell_in table a b)) (sym (h.filled-cells d)) (meets-cell n t ok cells₀ (long d) a b la lb) in
          known (rw (not-as h d) (sym (ap cell k.is) ∙ is))

    -- the type that is held for a join is the join
    pub joins-known : Holding true n t (join n t) sets cells₀ cells →
        (join_in n sets cells a b ≡ cell (join n t a b)) × (join_in n sets cells a b < n)
    unfolding join_in
    joins-known h = go (distributive n t) refl where
      m : (m : ℕ) × Join n t a b m
      m = join-exists n t ok a b la lb

      is : cell (join n t a b) ≡ m.0
      is = ap cell m.1.is

      known : {x : ℕ} → x ≡ m.0 → (x ≡ cell (join n t a b)) × (x < n)
      known {x} e = (e ∙ sym is, subst (λ (y : ℕ). y < n) (sym e) m.1.type)

      go : (d : Bool) → distributive n t ≡ d → (join_in n sets cells a b ≡ cell (join n t a b)) × (join_in n sets cells a b < n)
      go true d =
          known
          (rw (held-as h d)
          (sym
          (holder-own n sets (bit_or (set_in sets a) (set_in sets b)) m.0 (apart-as h d) m.1.type
          (ap₂ bit_or (h.set d a la) (h.set d b lb) ∙ sets-join n t ok d a b la lb ∙ ap (set_of n t) is ∙
          sym (h.set d m.0 m.1.type)))))
      go false d =
          let k : Join n t a b (cell_in cells a b) =
          subst (λ (table : List (List ℕ)). Join n t a b (cell_in table a b)) (sym (h.filled-cells d)) (joins-cell n t ok cells₀ (long d) a b la lb) in
          known (rw (not-as h d) (sym (ap cell k.is) ∙ is))
