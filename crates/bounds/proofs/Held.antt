-- This file is about types held as sets: the search for the type with a set, the types above all members of a set, and the sets of the
-- types one by one.
use Prim.Native.Nat.{ℕ, zero, suc, ◌+◌, ◌-◌, ◌^◌, ◌<◌, ◌≤◌}
use mathlib.Core.Path.{◌≡◌, refl, sym, ap, subst, ◌∙◌}
use mathlib.Core.Bool.{Bool, true, false, not, ◌&&◌}
use mathlib.Core.List.{List}
use mathlib.Core.Logic.{⊎_elim}
use native.Mathlib.Omega.{arith}
use lib.ListN.{length, get_or, set, length-set}
use lib.Seq.{get_or-set_same, get_or-set_other}
use lib.Bits.{bit_and, bit_or, or_add_and, and_le_r}
use lib.Dec.{eqb}
use Rattle.std.specs.Prelude.{Option as Answer, None, Some, unwrap_or}
use borrow.Author.Tests.{eq-eqb, ne_eqb, eqb-true}
use Rattle.graphs.proofs.Search.{true-both, either_true}
use Rattle.lattice.specs.Table.{every, answer, cell}
use Rattle.lattice.specs.Words.{word, bit, without, turned, holder}
use Rattle.bounds.specs.Primes.{word_irreducible, word_splits, word_prime}
use Rattle.bounds.specs.Sets.{set_in, word_in, as_sets, cell_in, meet_in, join_in, Apart, Among, MeetsHeld, JoinsHeld, Above, SoughtBy, Sets}
use Rattle.lattice.proofs.Every.{and_left, and_right, implies-from, every-fails, true-not-false, below_suc, last-nothing, last-only}
use Rattle.lattice.proofs.Bits.{no-bit, and-bit, or-bit, part-from, cleared-bit}
use Rattle.lattice.proofs.Rows.{answer-cell}
use Rattle.lattice.proofs.Seeking.{without-inside}

module _ {n : ℕ} {sets : List ℕ} {set left : ℕ} (a : Among n sets set left) where
  -- c has another set: the type sought is among the others
  pub among_next : (c : ℕ) → (set_in sets c ≡ set → ⊥) → Among n sets set (without left (2 ^ c))
  among_next c other =
      record {
        apart = a.apart;
        inside = without-inside n left (2 ^ c) a.inside;
        kept = λ k l e.
            cleared-bit left c k ∙
            true-both (bit left k) (not (eqb k c)) (a.kept k l e)
            (ap not (ne_eqb k c λ q. other (ap (λ (i : ℕ). get_or sets i 0) (sym q) ∙ e)));
      }

  -- c has the set, and no other type has
  pub among-found : (c : ℕ) → c < 64 → bit left c ≡ true → set_in sets c ≡ set → Some c ≡ answer (holder n sets set)
  unfolding holder
  among-found c l stands e =
      sym
      (ap answer
      (last-only (λ k. eqb (get_or sets k 0) set) n c (a.inside c l stands) (eq-eqb (get_or sets c 0) set e) λ k r f.
      a.apart k c r (a.inside c l stands) (eqb-true (get_or sets k 0) set f ∙ sym e)))

  -- no type is left
  pub among_none : left ≡ 0 → None ≡ answer (holder n sets set)
  unfolding holder
  among_none e =
      sym
      (ap answer
      (last-nothing (λ k. eqb (get_or sets k 0) set) n λ k l.
      ne_eqb (get_or sets k 0) set λ h. true-not-false (bit left k) (a.kept k l h) (ap (λ (w : ℕ). bit w k) e ∙ no-bit k)))

-- `part` has the types above the members of a set that are not left
pub record Gathering (sets : List ℕ) (set part left : ℕ) : Type 0 where
  pub above : Above sets set part
  pub members : (j : ℕ) → bit left j ≡ true → bit set j ≡ true

pub gather-begin : (sets : List ℕ) (set first i : ℕ) → first < 64 → bit set first ≡ true →
    Gathering sets set (word_in sets first) (without set (2 ^ i))
gather-begin sets set first i l e =
    record {
      above = record { one = (first, l, e, λ k f. f); kept = λ k h. h first l e };
      members = λ j f. and_left (bit set j) (not (eqb j i)) (sym (cleared-bit set i j) ∙ f);
    }

pub gather-next : {sets : List ℕ} {set part left : ℕ} (i j : ℕ) → Gathering sets set part left → j < 64 → bit left j ≡ true →
    Gathering sets set (bit_and part (word_in sets j)) (without left (2 ^ i))
gather-next {sets} {set} {part} {left} i j g l e =
    record {
      above = record {
        one = (
          g.above.one.0,
          g.above.one.1,
          g.above.one.2,
          λ k f. g.above.one.3 k (and_left (bit part k) (bit (word_in sets j) k) (sym (and-bit part (word_in sets j) k) ∙ f)),
        );
        kept = λ k h.
            and-bit part (word_in sets j) k ∙ true-both (bit part k) (bit (word_in sets j) k) (g.above.kept k h) (h j l (g.members j e));
      };
      members = λ k f. g.members k (and_left (bit left k) (not (eqb k i)) (sym (cleared-bit left i k) ∙ f));
    }

-- the types above each irreducible type of the first k stand in `above`
pub record Kept (n : ℕ) (ws above : List ℕ) (k : ℕ) : Type 0 where
  pub long : length above ≡ 64
  pub stand : (i : ℕ) → i < k → word_irreducible n ws i ≡ true → get_or above i 0 ≡ turned n ws i

module _ {n : ℕ} {ws above : List ℕ} {k : ℕ} (kept : Kept n ws above k) where
  pub kept_more : (v : ℕ) → k < 64 → v ≡ turned n ws k → Kept n ws (set above k v) (k + 1)
  kept_more v l e =
      record {
        long = length-set above k v ∙ kept.long;
        stand = λ i s h.
            below_suc {k = i} {n = k} (omega arith)
            (λ q.
            ap (λ (j : ℕ). get_or (set above k v) j 0) q ∙ get_or-set_same above k v 0 (omega (arith, kept.long)) ∙ e ∙
            ap (λ (j : ℕ). turned n ws j) (sym q))
            (λ r. get_or-set_other above k i v 0 (λ q. omega (arith, q)) ∙ kept.stand i r h);
      }

  pub kept-past : word_irreducible n ws k ≡ false → Kept n ws above (k + 1)
  kept-past e =
      record {
        long = kept.long;
        stand = λ i s h.
            below_suc {k = i} {n = k} (omega arith)
            (λ q. absurd (true-not-false (word_irreducible n ws i) h (ap (word_irreducible n ws) q ∙ e)))
            (λ r. kept.stand i r h);
      }

-- what the tests of one type say
module _ (n : ℕ) (ws : List ℕ) (j : ℕ) where
  pub prime-past : word_irreducible n ws j ≡ false → word_prime n ws j ≡ true
  unfolding word_prime
  prime-past e = rw e

  pub prime-split : (up : ℕ) → up ≡ turned n ws j → word_splits n ws up ≡ true → word_prime n ws j ≡ true
  unfolding word_prime
  prime-split up e f =
      implies-from (word_irreducible n ws j) (word_splits n ws (turned n ws j)) λ _. ap (word_splits n ws) (sym e) ∙ f

  -- an irreducible type that is not prime ends the search
  pub finds-fault : (up : ℕ) → j < n → word_irreducible n ws j ≡ true → up ≡ turned n ws j →
      word_splits n ws up ≡ false → every n (word_prime n ws) ≡ false
  unfolding word_prime
  finds-fault up l i e f = every-fails (word_prime n ws) n j l (rw (i, ← e, f))

-- the sets of one type more
module _ {up : Bool} {n : ℕ} {ws sets : List ℕ} {k : ℕ} (s : Sets up n ws sets k) (long : length sets ≡ 128) (l : k < 64) where
  pub sets_more : (v w : ℕ) → v ≡ bit_and (get_or ws k 0) (word n (word_irreducible n ws)) → SoughtBy up n ws k w →
      Sets up n ws (set (set sets k v) (64 + k) w) (k + 1)
  sets_more v w e f =
      record {
        set = λ i r.
            get_or-set_other (set sets k v) (64 + k) i w 0 (λ q. omega (arith, q)) ∙
            below_suc {k = i} {n = k} (omega arith)
            (λ q.
            ap (λ (j : ℕ). get_or (set sets k v) j 0) q ∙ get_or-set_same sets k v 0 (omega (arith, long)) ∙ e ∙
            ap (λ (j : ℕ). bit_and (get_or ws j 0) (word n (word_irreducible n ws))) (sym q))
            (λ r. get_or-set_other sets k i v 0 (λ q. omega (arith, q)) ∙ s.set i r);
        sought = λ i r.
            below_suc {k = i} {n = k} (omega arith)
            (λ q.
            subst (λ (j : ℕ). SoughtBy up n ws j (get_or (set (set sets k v) (64 + k) w) (64 + j) 0)) (sym q)
            (subst (SoughtBy up n ws k) (sym (get_or-set_same (set sets k v) (64 + k) w 0 (omega (arith, long, length-set sets k v)))) f))
            (λ r.
            subst (SoughtBy up n ws i)
            (sym
            (get_or-set_other (set sets k v) (64 + k) (64 + i) w 0 (λ q. omega (arith, q)) ∙
            get_or-set_other sets k (64 + i) v 0 (λ q. omega (arith, q))))
            (s.sought i r));
      }

-- Meets and joins of two types below n.

-- a union that is not one of the two has a member
pub union-member : (x y : ℕ) → (bit_or x y ≡ x → ⊥) → 0 < bit_or x y
union-member x y other = go (bit_or x y) refl where
  go : (w : ℕ) → bit_or x y ≡ w → 0 < w
  go zero e = absurd (other (omega (arith, e, or_add_and x y, and_le_r x y)))
  go (suc w) e = omega arith

pub as-sets : (n : ℕ) (sets : List ℕ) → (set_in sets (n - 1) ≡ 0 → ⊥) → as_sets n sets ≡ true
as-sets n sets h = ap not (ne_eqb (set_in sets (n - 1)) 0 h)

-- a type is the one with its set
pub holder-own : (n : ℕ) (sets : List ℕ) (set c : ℕ) → Apart n sets → c < n → set ≡ set_in sets c → c ≡ cell (holder n sets set)
unfolding holder
holder-own n sets set c apart l e =
    sym
    (ap cell
    (last-only (λ k. eqb (get_or sets k 0) set) n c l (eq-eqb (get_or sets c 0) set (sym e)) λ k r f.
    apart k c r l (eqb-true (get_or sets k 0) set f ∙ e)))

module _ (n : ℕ) (sets : List ℕ) (cells : List (List ℕ)) (a b : ℕ) where
  -- the rows of cells have a place for a type, if the cells are used
  pub row_inside_lem : set_in sets (n - 1) ≡ 0 → (as_sets n sets ≡ false → length cells ≡ 64) → a < n → n ≤ 64 → a < length cells
  row_inside_lem e long l few = omega (arith, long (ap not (eq-eqb (set_in sets (n - 1)) 0 e)))

  pub meet-in-cells : set_in sets (n - 1) ≡ 0 → cell_in cells a b ≡ meet_in n sets cells a b
  unfolding meet_in
  meet-in-cells e = rw (eq-eqb (set_in sets (n - 1)) 0 e)

  pub join-in-cells : set_in sets (n - 1) ≡ 0 → cell_in cells a b ≡ join_in n sets cells a b
  unfolding join_in
  join-in-cells e = rw (eq-eqb (set_in sets (n - 1)) 0 e)

  module _ (filled : set_in sets (n - 1) ≡ 0 → ⊥) (la : a < n) (lb : b < n) where
    in-meets : (r : ℕ) → r ≡ cell (holder n sets (bit_and (set_in sets a) (set_in sets b))) → r ≡ meet_in n sets cells a b
    unfolding meet_in
    in-meets r e = rw (as-sets n sets filled) e

    in-joins : (r : ℕ) → r ≡ cell (holder n sets (bit_or (set_in sets a) (set_in sets b))) → r ≡ join_in n sets cells a b
    unfolding join_in
    in-joins r e = rw (as-sets n sets filled) e

    module _ (ready : as_sets n sets ≡ true → MeetsHeld n sets) where
      meets-held : MeetsHeld n sets
      meets-held = ready (as-sets n sets filled)

      pub meet_left : bit_and (set_in sets a) (set_in sets b) ≡ set_in sets a → a ≡ meet_in n sets cells a b
      meet_left e = in-meets a (holder-own n sets _ a meets-held.apart la e)

      pub meet_right : bit_and (set_in sets a) (set_in sets b) ≡ set_in sets b → b ≡ meet_in n sets cells a b
      meet_right e = in-meets b (holder-own n sets _ b meets-held.apart lb e)

      -- a type whose set is the overlap is below both
      meet-among : Among n sets (bit_and (set_in sets a) (set_in sets b)) (bit_and (word_in sets a) (word_in sets b))
      meet-among =
          record {
            apart = meets-held.apart;
            inside = λ j l e.
                meets-held.inside a la j l
                (and_left (bit (word_in sets a) j) (bit (word_in sets b) j) (sym (and-bit (word_in sets a) (word_in sets b) j) ∙ e));
            kept = λ k l e.
                let both : (j : ℕ) → bit (set_in sets k) j ≡ true → bit (set_in sets a) j && bit (set_in sets b) j ≡ true =
                λ j f. sym (and-bit (set_in sets a) (set_in sets b) j) ∙ ap (λ (w : ℕ). bit w j) (sym e) ∙ f in
                and-bit (word_in sets a) (word_in sets b) k ∙
                true-both (bit (word_in sets a) k) (bit (word_in sets b) k)
                (meets-held.lower k a l la
                (part-from (set_in sets k) (set_in sets a) λ j f. and_left (bit (set_in sets a) j) (bit (set_in sets b) j) (both j f)))
                (meets-held.lower k b l lb
                (part-from (set_in sets k) (set_in sets b) λ j f. and_right (bit (set_in sets a) j) (bit (set_in sets b) j) (both j f)));
          }

      pub meet-sought : (r : Answer ℕ) → n ≤ 64 →
          ((n : ℕ) → n ≤ 64 → Among n sets (bit_and (set_in sets a) (set_in sets b)) (bit_and (word_in sets a) (word_in sets b)) →
          r ≡ answer (holder n sets (bit_and (set_in sets a) (set_in sets b)))) → unwrap_or r 64 ≡ meet_in n sets cells a b
      meet-sought r few answers = in-meets _ (answer-cell _ r (answers n few meet-among))

    module _ (ready : as_sets n sets ≡ true → JoinsHeld n sets) where
      joins-held : JoinsHeld n sets
      joins-held = ready (as-sets n sets filled)

      pub join-left : bit_or (set_in sets a) (set_in sets b) ≡ set_in sets a → a ≡ join_in n sets cells a b
      join-left e = in-joins a (holder-own n sets _ a joins-held.apart la e)

      pub join-right : bit_or (set_in sets a) (set_in sets b) ≡ set_in sets b → b ≡ join_in n sets cells a b
      join-right e = in-joins b (holder-own n sets _ b joins-held.apart lb e)

      -- a type whose set is the union is above each member of it
      join-among : (part : ℕ) → Above sets (bit_or (set_in sets a) (set_in sets b)) part → Among n sets (bit_or (set_in sets a) (set_in sets b)) part
      join-among part above =
          let (m, lm, in-union, under) = above.one in
          record {
            apart = joins-held.apart;
            inside = λ j l e.
                ⊎_elim (λ f. joins-held.inside a m la lm f j l (under j e)) (λ f. joins-held.inside b m lb lm f j l (under j e))
                (either_true (bit (set_in sets a) m) (bit (set_in sets b) m) (sym (or-bit (set_in sets a) (set_in sets b) m) ∙ in-union));
            kept = λ k l e. above.kept k λ j lj f. joins-held.upper k j l lj (ap (λ (w : ℕ). bit w j) e ∙ f);
          }

      pub join-sought : (part : ℕ) (r : Answer ℕ) → n ≤ 64 → Above sets (bit_or (set_in sets a) (set_in sets b)) part →
          ((n : ℕ) → n ≤ 64 → Among n sets (bit_or (set_in sets a) (set_in sets b)) part →
          r ≡ answer (holder n sets (bit_or (set_in sets a) (set_in sets b)))) → unwrap_or r 64 ≡ join_in n sets cells a b
      join-sought part r few above answers = in-joins _ (answer-cell _ r (answers n few (join-among part above)))
