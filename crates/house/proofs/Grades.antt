-- This file has the laws of the order by grades: it is an order with a least and a greatest type, and has meets and residuals, each grade by
-- grade.
use Prim.Native.Nat.{ℕ, ◌<◌, ◌≤◌}
use mathlib.Core.Path.{◌≡◌, refl, sym, ap, subst, ◌∙◌}
use mathlib.Core.Bool.{Bool, true, false, cond, ◌&&◌}
use native.Mathlib.Omega.{arith}
use lib.Dec.{leb}
use borrow.Author.Tests.{le-leb, leb-true, leb-false}
use Rattle.lattice.proofs.Every.{and_left, and_right}
use Rattle.house.specs.House.{type_of, first, second, third, less, lesser, under}

-- each grade of a is at most that of b
pub record Under (a b : ℕ) : Type 0 where
  pub first-at-most : first a ≤ first b
  pub second-at-most : second a ≤ second b
  pub third-at-most : third a ≤ third b

pub under-facts : {a b : ℕ} → under a b ≡ true → Under a b
unfolding under
under-facts {a} {b} h =
    let two : leb (first a) (first b) && leb (second a) (second b) ≡ true = and_left _ (leb (third a) (third b)) h in
    record {
      first-at-most = leb-true (first a) (first b) (and_left (leb (first a) (first b)) (leb (second a) (second b)) two);
      second-at-most = leb-true (second a) (second b) (and_right (leb (first a) (first b)) (leb (second a) (second b)) two);
      third-at-most = leb-true (third a) (third b) (and_right (leb (first a) (first b) && leb (second a) (second b)) _ h);
    }

pub facts-under : {a b : ℕ} → Under a b → under a b ≡ true
unfolding under
facts-under {a} {b} u =
    rw (le-leb (first a) (first b) u.first-at-most, le-leb (second a) (second b) u.second-at-most, le-leb (third a) (third b) u.third-at-most)

-- the grades of a type below 64 are below 4
pub record Small (x y z : ℕ) : Type 0 where
  pub first_small : x < 4
  pub second-small : y < 4
  pub third-small : z < 4

pub small-grades : (a : ℕ) → a < 64 → Small (first a) (second a) (third a)
small-grades a l = record { first_small = omega arith; second-small = omega arith; third-small = omega arith }

-- a type has the grades that it is put together from
pub record Put (x y z : ℕ) : Type 0 where
  pub type : type_of x y z < 64
  pub first-is : first (type_of x y z) ≡ x
  pub second_is : second (type_of x y z) ≡ y
  pub third-is : third (type_of x y z) ≡ z

pub put-together : (x y z : ℕ) → Small x y z → Put x y z
put-together x y z s =
    let lx : x < 4 = s.first_small in
    let ly : y < 4 = s.second-small in
    let lz : z < 4 = s.third-small in
    record { type = omega arith; first-is = omega arith; second_is = omega arith; third-is = omega arith }

-- The order.

pub under-reflexive : (a : ℕ) → Under a a
under-reflexive a = record { first-at-most = omega arith; second-at-most = omega arith; third-at-most = omega arith }

pub under-transitive : {a b c : ℕ} → Under a b → Under b c → Under a c
under-transitive u v = record {
  first-at-most = omega (arith, u.first-at-most, v.first-at-most);
  second-at-most = omega (arith, u.second-at-most, v.second-at-most);
  third-at-most = omega (arith, u.third-at-most, v.third-at-most);
}

-- a type is put together from its grades
from-grades : (a : ℕ) → a ≡ type_of (first a) (second a) (third a)
from-grades a = omega arith

grades-equal : (a b : ℕ) → first a ≡ first b → second a ≡ second b → third a ≡ third b → a ≡ b
grades-equal a b e f g =
    let same : type_of (first a) (second a) (third a) ≡ type_of (first b) (second b) (third b) = cc in
    from-grades a ∙ same ∙ sym (from-grades b)

pub under-antisymmetric : (a b : ℕ) → Under a b → Under b a → a ≡ b
under-antisymmetric a b u v =
    grades-equal a b (omega (arith, u.first-at-most, v.first-at-most)) (omega (arith, u.second-at-most, v.second-at-most))
    (omega (arith, u.third-at-most, v.third-at-most))

pub zero-under : (a : ℕ) → Under 0 a
zero-under a = record { first-at-most = omega arith; second-at-most = omega arith; third-at-most = omega arith }

pub under_top : (a : ℕ) → a < 64 → Under a 63
under_top a l = record { first-at-most = omega arith; second-at-most = omega arith; third-at-most = omega arith }

-- Meets.

-- the lesser of two grades is their meet
record Lesser (x y m : ℕ) : Type 0 where
  left : m ≤ x
  right : m ≤ y
  greatest : (z : ℕ) → z ≤ x → z ≤ y → z ≤ m

less-meet : (x y : ℕ) → Lesser x y (less x y)
less-meet x y = go (leb x y) refl where
  go : (b : Bool) → leb x y ≡ b → Lesser x y (less x y)
  go true e =
      let l : x ≤ y = leb-true x y e in
      let same : less x y ≡ x = rw e in
      record { left = omega arith; right = omega arith; greatest = λ z f g. omega arith }
  go false e =
      let l : y < x = leb-false x y e in
      let same : less x y ≡ y = rw e in
      record { left = omega arith; right = omega arith; greatest = λ z f g. omega arith }

-- m is, grade by grade, the lesser of a and b
pub record IsLesser (a b m : ℕ) : Type 0 where
  pub type : m < 64
  pub first-is : first m ≡ less (first a) (first b)
  pub second_is : second m ≡ less (second a) (second b)
  pub third-is : third m ≡ less (third a) (third b)

pub lesser-grades : (a b : ℕ) → a < 64 → IsLesser a b (lesser a b)
unfolding lesser
lesser-grades a b l =
    let s : Small (first a) (second a) (third a) = small-grades a l in
    let p : Put (less (first a) (first b)) (less (second a) (second b)) (less (third a) (third b)) =
    put-together (less (first a) (first b)) (less (second a) (second b)) (less (third a) (third b))
    (record {
      first_small = omega (arith, s.first_small, (less-meet (first a) (first b)).left);
      second-small = omega (arith, s.second-small, (less-meet (second a) (second b)).left);
      third-small = omega (arith, s.third-small, (less-meet (third a) (third b)).left);
    }) in
    record { type = p.type; first-is = p.first-is; second_is = p.second_is; third-is = p.third-is }

module _ {a b m : ℕ} (is : IsLesser a b m) where
  pub lesser-left : Under m a
  lesser-left = record {
    first-at-most = omega (arith, is.first-is, (less-meet (first a) (first b)).left);
    second-at-most = omega (arith, is.second_is, (less-meet (second a) (second b)).left);
    third-at-most = omega (arith, is.third-is, (less-meet (third a) (third b)).left);
  }

  pub lesser-right : Under m b
  lesser-right = record {
    first-at-most = omega (arith, is.first-is, (less-meet (first a) (first b)).right);
    second-at-most = omega (arith, is.second_is, (less-meet (second a) (second b)).right);
    third-at-most = omega (arith, is.third-is, (less-meet (third a) (third b)).right);
  }

  pub lesser-greatest : (c : ℕ) → Under c a → Under c b → Under c m
  lesser-greatest c u v = record {
    first-at-most =
        omega (arith, is.first-is, (less-meet (first a) (first b)).greatest (first c) u.first-at-most v.first-at-most);
    second-at-most =
        omega (arith, is.second_is, (less-meet (second a) (second b)).greatest (second c) u.second-at-most v.second-at-most);
    third-at-most =
        omega (arith, is.third-is, (less-meet (third a) (third b)).greatest (third c) u.third-at-most v.third-at-most);
  }

-- Residuals.

-- the greatest grade whose lesser with y is at most x
abbrev pub rest : ℕ → ℕ → ℕ
rest x y = cond (leb y x) 3 x

record Rest (x y r : ℕ) : Type 0 where
  small : r < 4
  under-it : less r y ≤ x
  greatest : (z : ℕ) → z < 4 → less z y ≤ x → z ≤ r

rest-residual : (x y : ℕ) → x < 4 → Rest x y (rest x y)
rest-residual x y l = go (leb y x) refl where
  go : (b : Bool) → leb y x ≡ b → Rest x y (cond b 3 x)
  go true e =
      let s : y ≤ x = leb-true y x e in
      record { small = omega arith; under-it = omega (arith, (less-meet 3 y).right); greatest = λ z f g. omega arith }
  go false e =
      let s : x < y = leb-false y x e in
      record { small = l; under-it = (less-meet x y).left; greatest = λ z f g. at_most s z (leb z y) refl g }
    where
      at_most : x < y → (z : ℕ) (b : Bool) → leb z y ≡ b → less z y ≤ x → z ≤ x
      at_most s z true h g = rw h at g
      at_most s z false h g = let k : y ≤ x = rw h at g in absurd (omega arith)

-- c is, grade by grade, the residual of p by q
record IsRest (p q c : ℕ) : Type 0 where
  type : c < 64
  first-is : first c ≡ rest (first p) (first q)
  second_is : second c ≡ rest (second p) (second q)
  third-is : third c ≡ rest (third p) (third q)

-- the greatest type whose lesser with q is below p
abbrev pub rest_of : ℕ → ℕ → ℕ
rest_of p q = type_of (rest (first p) (first q)) (rest (second p) (second q)) (rest (third p) (third q))

module _ (p q : ℕ) (l : p < 64) where
  small : Small (first p) (second p) (third p)
  small = small-grades p l

  first_rest : Rest (first p) (first q) (rest (first p) (first q))
  first_rest = rest-residual (first p) (first q) small.first_small

  second-rest : Rest (second p) (second q) (rest (second p) (second q))
  second-rest = rest-residual (second p) (second q) small.second-small

  third-rest : Rest (third p) (third q) (rest (third p) (third q))
  third-rest = rest-residual (third p) (third q) small.third-small

  rest-grades : IsRest p q (rest_of p q)
  rest-grades =
      let k : Put (rest (first p) (first q)) (rest (second p) (second q)) (rest (third p) (third q)) =
      put-together (rest (first p) (first q)) (rest (second p) (second q)) (rest (third p) (third q))
      (record { first_small = first_rest.small; second-small = second-rest.small; third-small = third-rest.small }) in
      record { type = k.type; first-is = k.first-is; second_is = k.second_is; third-is = k.third-is }

  pub rest-type : rest_of p q < 64
  rest-type = rest-grades.type

  pub rest_under : {m : ℕ} → IsLesser (rest_of p q) q m → Under m p
  rest_under {m} is =
      record {
        first-at-most = subst (λ (x : ℕ). x ≤ first p) (sym (is.first-is ∙ ap (λ (x : ℕ). less x (first q)) rest-grades.first-is)) first_rest.under-it;
        second-at-most = subst (λ (x : ℕ). x ≤ second p) (sym (is.second_is ∙ ap (λ (x : ℕ). less x (second q)) rest-grades.second_is)) second-rest.under-it;
        third-at-most = subst (λ (x : ℕ). x ≤ third p) (sym (is.third-is ∙ ap (λ (x : ℕ). less x (third q)) rest-grades.third-is)) third-rest.under-it;
      }

  pub rest-greatest : {d m : ℕ} → d < 64 → IsLesser d q m → Under m p → Under d (rest_of p q)
  rest-greatest {d} {m} ld is u =
      let s : Small (first d) (second d) (third d) = small-grades d ld in
      record {
        first-at-most =
            omega
            (arith, rest-grades.first-is, first_rest.greatest (first d) s.first_small (subst (λ (x : ℕ). x ≤ first p) is.first-is u.first-at-most));
        second-at-most =
            omega
            (arith, rest-grades.second_is, second-rest.greatest (second d) s.second-small (subst (λ (x : ℕ). x ≤ second p) is.second_is u.second-at-most));
        third-at-most =
            omega
            (arith, rest-grades.third-is, third-rest.greatest (third d) s.third-small (subst (λ (x : ℕ). x ≤ third p) is.third-is u.third-at-most));
      }
