-- This file has the laws of an accepted table, for the types below n: its order with a least and a greatest type, its meets and joins, and
-- its wanted types. Where the table admits differences it has residuals, and they are the wanted types.
use Prim.Native.Nat.{ℕ, ◌*◌, ◌-◌, ◌<◌, ◌≤◌}
use mathlib.Core.Path.{◌≡◌, refl, sym, ap, subst, ◌∙◌}
use mathlib.Core.Bool.{true, false, ◌&&◌}
use mathlib.Core.List.{List, []}
use mathlib.Core.Option.{Option, some}
use native.Mathlib.Omega.{arith}
use lib.ListN.{length, get_or}
use lib.Dec.{eqb}
use borrow.Author.Tests.{eq-eqb, eqb-true}
use Rattle.graphs.proofs.Search.{true-both}
use Rattle.lattice.specs.Table.{every, found, implies, below, sized, ordered, bounded, accepted, is_meet, is_join, meet, join, restores, is_wanted, wanted, meet_below, is_residual, residual, admits, filled, bound_row}
use Rattle.lattice.specs.Words.{related, Words, Sided}
use Rattle.lattice.proofs.Every.{and_left, and_right, implies-at, implies-from, every-at, every-all, last-passes, last_found, found_some}
use Rattle.lattice.proofs.OrderLaws.{Ordered, ordered-facts, side, sided}
use Rattle.lattice.proofs.Sizes.{size-facts}
use Rattle.lattice.proofs.Rows.{get_or-overwrite, row-bound}

-- m is the meet of a and b: their greatest lower bound
pub record Meet (n : ℕ) (t : List ℕ) (a b m : ℕ) : Type 0 where
  pub is : meet n t a b ≡ some m
  pub type : m < n
  pub left : below t m a ≡ true
  pub right : below t m b ≡ true
  pub greatest : (c : ℕ) → c < n → below t c a ≡ true → below t c b ≡ true → below t c m ≡ true

-- m is the join of a and b: their least upper bound
pub record Join (n : ℕ) (t : List ℕ) (a b m : ℕ) : Type 0 where
  pub is : join n t a b ≡ some m
  pub type : m < n
  pub left : below t a m ≡ true
  pub right : below t b m ≡ true
  pub least : (c : ℕ) → c < n → below t a c ≡ true → below t b c ≡ true → below t m c ≡ true

-- c is the residual of p by q: the greatest type whose meet with q is below p
pub record Residual (n : ℕ) (t : List ℕ) (p q c : ℕ) : Type 0 where
  pub is : residual n t p q ≡ some c
  pub type : c < n
  pub under : (m : ℕ) → meet n t c q ≡ some m → below t m p ≡ true
  pub greatest : (d m : ℕ) → d < n → meet n t d q ≡ some m → below t m p ≡ true → below t d c ≡ true

-- c is the wanted type of p over q: the greatest type whose meet with q is p
pub record Wanted (n : ℕ) (t : List ℕ) (p q c : ℕ) : Type 0 where
  pub is : wanted n t p q ≡ some c
  pub type : c < n
  pub exact : meet n t c q ≡ some p
  pub greatest : (d : ℕ) → d < n → meet n t d q ≡ some p → below t d c ≡ true

-- the tests of one meet, where the meet is known
pub meet-restores : (n : ℕ) (t : List ℕ) (p q d m : ℕ) → meet n t d q ≡ some m → restores n t p q d ≡ eqb m p
unfolding restores
meet-restores n t p q d m e = rw e

pub meet_below_lem : (n : ℕ) (t : List ℕ) (p q d m : ℕ) → meet n t d q ≡ some m → meet_below n t p q d ≡ below t m p
unfolding meet_below
meet_below_lem n t p q d m e = rw e

-- a wanted type is a type
pub wanted-type : (n : ℕ) (t : List ℕ) (p q c : ℕ) → wanted n t p q ≡ some c → c < n
unfolding wanted
wanted-type n t p q c e = (last-passes (is_wanted n t p q) n c e).0

some_same : {a b : ℕ} → ◌≡◌ {A = Option ℕ} (some a) (some b) → a ≡ b
some_same e = cc

module _ (n : ℕ) (t : List ℕ) (ok : accepted n t ≡ true) where
  accepted-order : sized n t && ordered n t ≡ true
  unfolding accepted
  accepted-order = and_left (sized n t && ordered n t) (bounded n t) ok

  pub accepted-size : (2 ≤ n) × (n ≤ 64) × (length t ≡ 8 * n)
  accepted-size = size-facts n t (and_left (sized n t) (ordered n t) accepted-order)

  pub accepted-facts : Ordered n t
  accepted-facts = ordered-facts n t (and_right (sized n t) (ordered n t) accepted-order)

  -- the words of its lower types are those of an order's side
  pub accepted-sided : (ws : List ℕ) → Words n t false ws → Sided n ws
  accepted-sided ws words = sided n (related t false) ws accepted-size.1 (side n t false accepted-size.2 accepted-facts) words

  accepted-bounds : (a b : ℕ) → a < n → b < n → found (meet n t a b) && found (join n t a b) ≡ true
  unfolding accepted bounded
  accepted-bounds a b l s = every-at _ n b (every-at _ n a (and_right (sized n t && ordered n t) (bounded n t) ok) l) s

  -- 0 is a type
  pub zero-type : 0 < n
  zero-type = omega (arith, accepted-size.0)

  -- n - 1 is a type
  pub top-type : n - 1 < n
  top-type = omega (arith, accepted-size.0)

  -- every type is below itself
  pub below-reflexive : (a : ℕ) → a < n → below t a a ≡ true
  below-reflexive = accepted-facts.self

  -- what is below something below c is below c
  pub below-transitive : (a b c : ℕ) → a < n → b < n → c < n → below t a b ≡ true → below t b c ≡ true → below t a c ≡ true
  below-transitive = accepted-facts.chain

  -- types below each other are one
  pub below-antisymmetric : (a b : ℕ) → a < n → b < n → below t a b ≡ true → below t b a ≡ true → a ≡ b
  below-antisymmetric = accepted-facts.anti

  -- 0 is the least type
  pub zero-least : (a : ℕ) → a < n → below t 0 a ≡ true
  zero-least = accepted-facts.bottom

  -- n - 1 is the greatest type
  pub top-greatest : (a : ℕ) → a < n → below t a (n - 1) ≡ true
  top-greatest = accepted-facts.top

  -- what the search for a meet finds is the meet
  meet-sound : (a b m : ℕ) → meet n t a b ≡ some m → Meet n t a b m
  unfolding meet is_meet
  meet-sound a b m e =
      let r : (m < n) × (is_meet n t a b m ≡ true) = last-passes (is_meet n t a b) n m e in
      let sides : below t m a && below t m b ≡ true = and_left (below t m a && below t m b) _ r.1 in
      let most : every n (λ d. implies (below t d a && below t d b) (below t d m)) ≡ true =
      and_right (below t m a && below t m b) _ r.1 in
      record {
        is = e;
        type = r.0;
        left = and_left (below t m a) (below t m b) sides;
        right = and_right (below t m a) (below t m b) sides;
        greatest = λ c l f g.
            implies-at (below t c a && below t c b) (below t c m) (every-at _ n c most l) (true-both (below t c a) (below t c b) f g);
      }

  -- every two types have a meet
  pub meet-exists : (a b : ℕ) → a < n → b < n → (m : ℕ) × Meet n t a b m
  meet-exists a b l s =
      let r : (m : ℕ) × (meet n t a b ≡ some m) =
      found_some (meet n t a b) (and_left (found (meet n t a b)) (found (join n t a b)) (accepted-bounds a b l s)) in
      (r.0, meet-sound a b r.0 r.1)

  join-sound : (a b m : ℕ) → join n t a b ≡ some m → Join n t a b m
  unfolding join is_join
  join-sound a b m e =
      let r : (m < n) × (is_join n t a b m ≡ true) = last-passes (is_join n t a b) n m e in
      let sides : below t a m && below t b m ≡ true = and_left (below t a m && below t b m) _ r.1 in
      let most : every n (λ d. implies (below t a d && below t b d) (below t m d)) ≡ true =
      and_right (below t a m && below t b m) _ r.1 in
      record {
        is = e;
        type = r.0;
        left = and_left (below t a m) (below t b m) sides;
        right = and_right (below t a m) (below t b m) sides;
        least = λ c l f g.
            implies-at (below t a c && below t b c) (below t m c) (every-at _ n c most l) (true-both (below t a c) (below t b c) f g);
      }

  -- every two types have a join
  pub join-exists : (a b : ℕ) → a < n → b < n → (m : ℕ) × Join n t a b m
  join-exists a b l s =
      let r : (m : ℕ) × (join n t a b ≡ some m) =
      found_some (join n t a b) (and_right (found (meet n t a b)) (found (join n t a b)) (accepted-bounds a b l s)) in
      (r.0, join-sound a b r.0 r.1)

  -- the meet is the one greatest lower bound
  pub meet-unique : (a b m : ℕ) → a < n → b < n → m < n → below t m a ≡ true → below t m b ≡ true
      → ((c : ℕ) → c < n → below t c a ≡ true → below t c b ≡ true → below t c m ≡ true) → meet n t a b ≡ some m
  meet-unique a b m la lb lm f g most =
      let r : (k : ℕ) × Meet n t a b k = meet-exists a b la lb in
      let k : Meet n t a b r.0 = r.1 in
      k.is ∙
      ap some
      (below-antisymmetric r.0 m k.type lm (most r.0 k.type k.left k.right) (k.greatest m lm f g))

  -- the meet with a type above is the type itself
  pub meet-of-below : (p q : ℕ) → p < n → q < n → below t p q ≡ true → meet n t p q ≡ some p
  meet-of-below p q l s e = meet-unique p q p l s l (below-reflexive p l) e λ c r f g. f

  -- what restores p over q has p as its meet with q
  restores-meet : (p q d : ℕ) → q < n → d < n → restores n t p q d ≡ true → meet n t d q ≡ some p
  restores-meet p q d lq ld e =
      let r : (m : ℕ) × Meet n t d q m = meet-exists d q ld lq in
      r.1.is ∙ ap some (eqb-true r.0 p (sym (meet-restores n t p q d r.0 r.1.is) ∙ e))

  meet-restoring : (p q d : ℕ) → meet n t d q ≡ some p → restores n t p q d ≡ true
  meet-restoring p q d e = meet-restores n t p q d p e ∙ eq-eqb p p refl

  -- what the search for a wanted type finds is the wanted type
  pub wanted-sound : (p q c : ℕ) → q < n → wanted n t p q ≡ some c → Wanted n t p q c
  unfolding wanted is_wanted
  wanted-sound p q c lq e =
      let r : (c < n) × (is_wanted n t p q c ≡ true) = last-passes (is_wanted n t p q) n c e in
      let most : every n (λ d. implies (restores n t p q d) (below t d c)) ≡ true = and_right (restores n t p q c) _ r.1 in
      record {
        is = e;
        type = r.0;
        exact = restores-meet p q c lq r.0 (and_left (restores n t p q c) _ r.1);
        greatest = λ d l f. implies-at (restores n t p q d) (below t d c) (every-at _ n d most l) (meet-restoring p q d f);
      }

  -- the wanted type is the one greatest type whose meet with q is p
  pub wanted-unique : (p q c : ℕ) → q < n → c < n → meet n t c q ≡ some p
      → ((d : ℕ) → d < n → meet n t d q ≡ some p → below t d c ≡ true) → wanted n t p q ≡ some c
  unfolding wanted is_wanted
  wanted-unique p q c lq lc exact most =
      let passes : is_wanted n t p q c ≡ true =
      true-both (restores n t p q c) (every n (λ d. implies (restores n t p q d) (below t d c))) (meet-restoring p q c exact)
      (every-all _ n λ d l. implies-from (restores n t p q d) (below t d c) λ e. most d l (restores-meet p q d lq l e)) in
      let r : (i : ℕ) × (wanted n t p q ≡ some i) = found_some (wanted n t p q) (last_found (is_wanted n t p q) n c lc passes) in
      let i : Wanted n t p q r.0 = wanted-sound p q r.0 lq r.1 in
      i.is ∙
      ap some
      (below-antisymmetric r.0 c i.type lc (most r.0 i.type i.exact) (i.greatest c lc exact))

  -- where q is p, the wanted type is the greatest type
  pub wanted-of-same : (p : ℕ) → p < n → wanted n t p p ≡ some (n - 1)
  wanted-of-same p l =
      wanted-unique p p (n - 1) l top-type
      (meet-unique (n - 1) p p top-type l l (top-greatest p l) (below-reflexive p l) λ c r f g. g)
      λ d s e. top-greatest d s

  -- where q is the greatest type, the wanted type is p
  pub wanted-by-top : (p : ℕ) → p < n → wanted n t p (n - 1) ≡ some p
  wanted-by-top p l =
      wanted-unique p (n - 1) p top-type l (meet-of-below p (n - 1) l top-type (top-greatest p l))
      λ d s e.
      let same : d ≡ p = some_same (sym (meet-of-below d (n - 1) s top-type (top-greatest d s)) ∙ e) in
      subst (λ (c : ℕ). below t d c ≡ true) same (below-reflexive d s)

  residual-sound : (p q c : ℕ) → residual n t p q ≡ some c → Residual n t p q c
  unfolding residual is_residual
  residual-sound p q c e =
      let r : (c < n) × (is_residual n t p q c ≡ true) = last-passes (is_residual n t p q) n c e in
      let most : every n (λ d. implies (meet_below n t p q d) (below t d c)) ≡ true = and_right (meet_below n t p q c) _ r.1 in
      record {
        is = e;
        type = r.0;
        under = λ m f. sym (meet_below_lem n t p q c m f) ∙ and_left (meet_below n t p q c) _ r.1;
        greatest = λ d m l f g.
            implies-at (meet_below n t p q d) (below t d c) (every-at _ n d most l) (meet_below_lem n t p q d m f ∙ g);
      }

  -- the residual is the one greatest type whose meet with q is below p
  pub residual-unique : (p q c : ℕ) → q < n → c < n → ((m : ℕ) → meet n t c q ≡ some m → below t m p ≡ true)
      → ((d m : ℕ) → d < n → meet n t d q ≡ some m → below t m p ≡ true → below t d c ≡ true) → residual n t p q ≡ some c
  unfolding residual is_residual
  residual-unique p q c lq lc under most =
      let m : (k : ℕ) × Meet n t c q k = meet-exists c q lc lq in
      let passes : is_residual n t p q c ≡ true =
      true-both (meet_below n t p q c) (every n (λ d. implies (meet_below n t p q d) (below t d c)))
      (meet_below_lem n t p q c m.0 m.1.is ∙ under m.0 m.1.is)
      (every-all _ n λ d l.
      implies-from (meet_below n t p q d) (below t d c) λ e.
      let k : (i : ℕ) × Meet n t d q i = meet-exists d q l lq in
      most d k.0 l k.1.is (sym (meet_below_lem n t p q d k.0 k.1.is) ∙ e)) in
      let r : (i : ℕ) × (residual n t p q ≡ some i) = found_some (residual n t p q) (last_found (is_residual n t p q) n c lc passes) in
      let i : Residual n t p q r.0 = residual-sound p q r.0 r.1 in
      let k : (j : ℕ) × Meet n t r.0 q j = meet-exists r.0 q i.type lq in
      i.is ∙
      ap some
      (below-antisymmetric r.0 c i.type lc
      (most r.0 k.0 i.type k.1.is (i.under k.0 k.1.is))
      (i.greatest c m.0 lc m.1.is (under m.0 m.1.is)))

  module _ (differ : admits n t ≡ true) where
    -- where the table admits differences, every two types have a residual
    pub residual-exists : (p q : ℕ) → p < n → q < n → (c : ℕ) × Residual n t p q c
    unfolding admits
    residual-exists p q l s =
        let r : (c : ℕ) × (residual n t p q ≡ some c) = found_some (residual n t p q) (every-at _ n q (every-at _ n p differ l) s) in
        (r.0, residual-sound p q r.0 r.1)

    -- where p is below q, the residual is the wanted type: its meet with q is p, and it is the greatest such type
    pub wanted-residual : (p q : ℕ) → p < n → q < n → below t p q ≡ true → wanted n t p q ≡ residual n t p q
    wanted-residual p q l s e =
        let r : (c : ℕ) × Residual n t p q c = residual-exists p q l s in
        let c : Residual n t p q r.0 = r.1 in
        let m : (k : ℕ) × Meet n t r.0 q k = meet-exists r.0 q c.type s in
        let k : Meet n t r.0 q m.0 = m.1 in
        let up : below t p r.0 ≡ true = c.greatest p p l (meet-of-below p q l s e) (below-reflexive p l) in
        let same : m.0 ≡ p =
        below-antisymmetric m.0 p k.type l (c.under m.0 k.is) (k.greatest p l up e) in
        wanted-unique p q r.0 s c.type (k.is ∙ ap some same) (λ d ld f. c.greatest d p ld f (below-reflexive p l)) ∙ sym c.is

  -- a lent table of 64 rows holds the bound of a and b in cell (a, b), once it is filled
  filled-cell : (bound : ℕ → ℕ → Option ℕ) (rows : List (List ℕ)) → length rows ≡ 64 → (a b m : ℕ) → a < n → b < n → bound a b ≡ some m
      → get_or (get_or (filled n t bound rows) a []) b 0 ≡ m
  unfolding filled
  filled-cell bound rows e a b m l s f =
      let few : n ≤ 64 = accepted-size.1 in
      rw (accepted-order, get_or-overwrite n (bound_row n bound) rows a l (omega arith), row-bound n bound a b s (omega arith), f)

  -- cell (a, b) of the filled table of meets is the meet of a and b
  pub meets-cell : (rows : List (List ℕ)) → length rows ≡ 64 → (a b : ℕ) → a < n → b < n
      → Meet n t a b (get_or (get_or (filled n t (meet n t) rows) a []) b 0)
  meets-cell rows e a b l s =
      let r : (m : ℕ) × Meet n t a b m = meet-exists a b l s in
      subst (Meet n t a b) (sym (filled-cell (meet n t) rows e a b r.0 l s r.1.is)) r.1

  -- cell (a, b) of the filled table of joins is the join of a and b
  pub joins-cell : (rows : List (List ℕ)) → length rows ≡ 64 → (a b : ℕ) → a < n → b < n
      → Join n t a b (get_or (get_or (filled n t (join n t) rows) a []) b 0)
  joins-cell rows e a b l s =
      let r : (m : ℕ) × Join n t a b m = join-exists a b l s in
      subst (Join n t a b) (sym (filled-cell (join n t) rows e a b r.0 l s r.1.is)) r.1
