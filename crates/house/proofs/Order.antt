-- The type table states the order by grades, is accepted, has the lessers as its meets, and admits differences.
use Prim.Native.Nat.{ℕ, ◌+◌, ◌*◌, ◌/◌, ◌%◌, ◌<◌}
use mathlib.Core.Path.{◌≡◌, sym, ap, subst, ◌∙◌}
use mathlib.Core.Bool.{true, false, ◌&&◌}
use mathlib.Core.Option.{some}
use native.Mathlib.Omega.{arith}
use lib.ListN.{length, get_or}
use borrow.Author.Tests.{eq-eqb}
use Rattle.graphs.proofs.Search.{true-both}
use Rattle.lattice.specs.Table.{found, below, sized, ordered, bounded, accepted, is_meet, meet, join, residual, admits}
use Rattle.lattice.specs.Words.{bit}
use Rattle.lattice.proofs.Bits.{bit_word}
use Rattle.lattice.proofs.Every.{and_left, and_right, implies-from, every-all, last_found}
use Rattle.lattice.proofs.OrderLaws.{Ordered, facts-ordered}
use Rattle.lattice.proofs.BoundLaws.{other-side}
use Rattle.lattice.proofs.Laws.{meet-unique, residual-unique}
use Rattle.house.specs.House.{under, lesser, byte_of, house_table}
use Rattle.house.proofs.Entries.{get_or-listed}
use Rattle.house.proofs.Filling.{length-table}
use Rattle.house.proofs.Grades.{Under, under-facts, facts-under, under-reflexive, under-transitive, under-antisymmetric, zero-under, under_top, IsLesser, lesser-grades, lesser-left, lesser-right, lesser-greatest, rest_of, rest-type, rest_under, rest-greatest}

-- byte k of the table
pub table-byte : (k : ℕ) → k < 512 → get_or house_table k 0 ≡ byte_of k
unfolding house_table
table-byte k l = get_or-listed byte_of 512 k l

-- bit j of row i stands exactly when type j is below type i, grade by grade
pub table_below : (j i : ℕ) → j < 64 → i < 64 → below house_table j i ≡ under j i
unfolding below bit
table_below j i lj li =
    let place : 8 * i + j / 8 < 512 = omega arith in
    let row : (8 * i + j / 8) / 8 ≡ i = omega arith in
    let column : (8 * i + j / 8) % 8 ≡ j / 8 = omega arith in
    let type : 8 * ((8 * i + j / 8) % 8) + j % 8 ≡ j = omega arith in
    ap (λ (b : ℕ). bit b (j % 8)) (table-byte (8 * i + j / 8) place)
    ∙ bit_word 8 (λ k. under (8 * ((8 * i + j / 8) % 8) + k) ((8 * i + j / 8) / 8)) (j % 8) (omega arith)
    ∙ ap (λ (x : ℕ). under x ((8 * i + j / 8) / 8)) type ∙ ap (under j) row

is_below_lem : {j i : ℕ} → j < 64 → i < 64 → Under j i → below house_table j i ≡ true
is_below_lem {j} {i} lj li u = table_below j i lj li ∙ facts-under u

below-is : {j i : ℕ} → j < 64 → i < 64 → below house_table j i ≡ true → Under j i
below-is {j} {i} lj li e = under-facts (sym (table_below j i lj li) ∙ e)

order : Ordered 64 house_table
order = record {
  inside = λ i j l s e. s;
  self = λ i l. is_below_lem l l (under-reflexive i);
  anti = λ i j l s e f. under-antisymmetric i j (below-is l s e) (below-is s l f);
  chain = λ i j k l s r e f. is_below_lem l r (under-transitive (below-is l s e) (below-is s r f));
  bottom = λ i l. is_below_lem (omega arith) l (zero-under i);
  top = λ i l. is_below_lem l (omega arith) (under_top i l);
}

-- the lesser passes as the meet
lesser-found : (a b : ℕ) → a < 64 → b < 64 → found (meet 64 house_table a b) ≡ true
unfolding meet is_meet
lesser-found a b la lb =
    let is : IsLesser a b (lesser a b) = lesser-grades a b la in
    let lm : lesser a b < 64 = is.type in
    last_found (is_meet 64 house_table a b) 64 (lesser a b) lm
    (true-both (below house_table (lesser a b) a && below house_table (lesser a b) b) _
    (true-both (below house_table (lesser a b) a) (below house_table (lesser a b) b) (is_below_lem lm la (lesser-left is)) (is_below_lem lm lb (lesser-right is)))
    (every-all _ 64 λ d ld.
    implies-from (below house_table d a && below house_table d b) (below house_table d (lesser a b)) λ e.
    is_below_lem ld lm
    (lesser-greatest is d (below-is ld la (and_left (below house_table d a) (below house_table d b) e))
    (below-is ld lb (and_right (below house_table d a) (below house_table d b) e)))))

-- "A table is accepted when none of 1 to 3 applies to it"
pub table-accepted : accepted 64 house_table ≡ true
unfolding accepted sized bounded
table-accepted =
    true-both (sized 64 house_table && ordered 64 house_table) (bounded 64 house_table)
    (true-both (sized 64 house_table) (ordered 64 house_table) (eq-eqb (length house_table) 512 length-table) (facts-ordered 64 house_table order))
    (every-all _ 64 λ a la.
    every-all _ 64 λ b lb.
    true-both (found (meet 64 house_table a b)) (found (join 64 house_table a b)) (lesser-found a b la lb)
    (other-side 64 house_table length-table order false true (omega arith) lesser-found a b la lb))

-- the meet of the definition is the lesser
pub table-meet : (a b : ℕ) → a < 64 → b < 64 → meet 64 house_table a b ≡ some (lesser a b)
table-meet a b la lb =
    let is : IsLesser a b (lesser a b) = lesser-grades a b la in
    let lm : lesser a b < 64 = is.type in
    meet-unique 64 house_table table-accepted a b (lesser a b) la lb lm (is_below_lem lm la (lesser-left is)) (is_below_lem lm lb (lesser-right is))
    λ c lc e f. is_below_lem lc lm (lesser-greatest is c (below-is lc la e) (below-is lc lb f))

-- a meet that is found is a lesser
meet-lesser : (d q m : ℕ) → d < 64 → q < 64 → meet 64 house_table d q ≡ some m → IsLesser d q m
meet-lesser d q m ld lq e =
    let f : some (lesser d q) ≡ some m = sym (table-meet d q ld lq) ∙ e in
    let g : lesser d q ≡ m = cc in
    subst (IsLesser d q) g (lesser-grades d q ld)

-- the residual of the definition, grade by grade
pub table-residual : (p q : ℕ) → p < 64 → q < 64 → residual 64 house_table p q ≡ some (rest_of p q)
table-residual p q lp lq =
    residual-unique 64 house_table table-accepted p q (rest_of p q) lq (rest-type p q lp)
    (λ m e.
    let is : IsLesser (rest_of p q) q m = meet-lesser (rest_of p q) q m (rest-type p q lp) lq e in
    is_below_lem is.type lp (rest_under p q lp is))
    λ d m ld e f.
    let is : IsLesser d q m = meet-lesser d q m ld lq e in
    is_below_lem ld (rest-type p q lp) (rest-greatest p q lp ld is (below-is is.type lp f))

-- "A table admits differences when for all types p, q there is a greatest type c whose meet with q is below or equal to p"
pub table-admits : admits 64 house_table ≡ true
unfolding admits
table-admits = every-all _ 64 λ p lp. every-all _ 64 λ q lq. ap found (table-residual p q lp lq)
