-- The labels of an accepted table are a lattice: its types are one, the levels 0 to 255 are one, and order, meet and join go by
-- components. The laws hold for types below n and levels up to 255, so a label here is a label with a proof of that. A total function makes
-- a label of what a cell of the tables holds, and keeps every label of the table.
use Prim.Native.Nat.{ℕ, suc, ◌-◌, ◌<◌, ◌≤◌}
use mathlib.Core.Path.{◌≡◌, refl, sym, ap, subst, ◌∙◌}
use mathlib.Core.Bool.{Bool, true, false, ◌&&◌, ◌||◌}
use mathlib.Core.HLevel.{Σ_prop_path}
use mathlib.Core.List.{List}
use mathlib.Core.Logic.{◌⊎◌, inl, inr, ⊎_elim}
use native.Mathlib.Bridge.{le_prop}
use native.Mathlib.Omega.{arith}
use lib.Dec.{leb, eqb}
use borrow.Author.Tests.{eq-eqb, eqb-true, le-leb, leb-true}
use Rattle.graphs.specs.Label.{Labels, Lattice}
use Rattle.graphs.proofs.Search.{true-both}
use Rattle.lattice.specs.Label.{Label, plain}
use Rattle.lattice.specs.Table.{below, accepted, cell}
use Rattle.lattice.specs.Labels.{table_labels, Known}
use Rattle.lattice.proofs.Every.{below_or_not, and_left, and_right}
use Rattle.lattice.proofs.Laws.{
  Meet,
  Join,
  zero-type,
  top-type,
  below-reflexive,
  below-transitive,
  below-antisymmetric,
  zero-least,
  meet-exists,
  join-exists,
}
use Rattle.lattice.proofs.Laws as laws

-- a label of a table with n types
abbrev pub KnownLabel : ℕ → Type 0
KnownLabel n = (x : Label) × Known n x

known-prop : {n : ℕ} {x : Label} (a b : Known n x) → a ≡ b
known-prop a b =
    λ i. record {
      type = le_prop a.type b.type i;
      lowest = le_prop a.lowest b.lowest i;
      highest = le_prop a.highest b.highest i;
    }

-- labels of the table that are one label are one
pub label-path : {n : ℕ} {x y : KnownLabel n} → x.0 ≡ y.0 → x ≡ y
label-path {n} {x} {y} e = Σ_prop_path (λ (a : Label). known-prop) {u = x} {v = y} e

-- labels of one type and one range are one
pub label-parts : {x y : Label} → x.type ≡ y.type → x.lowest ≡ y.lowest → x.highest ≡ y.highest → x ≡ y
label-parts a b c = λ i. record { type = a i; lowest = b i; highest = c i }

-- a type of the table with the full range is a label of the table
pub plain_known : (n a : ℕ) → a < n → Known n (plain a)
plain_known n a l = record { type = l; lowest = omega arith; highest = omega arith }

-- a label of a table is one of every table with as many types
pub known_more : {m n : ℕ} {x : Label} → m ≤ n → Known m x → Known n x
known_more {m} {n} {x} l k = let a : x.type < m = k.type in record { type = omega arith; lowest = k.lowest; highest = k.highest }

-- whether a label is one of the table
pub known-or-not : (n : ℕ) (x : Label) → Known n x ⊎ (Known n x → ⊥)
known-or-not n x =
    ⊎_elim
    (λ a.
    ⊎_elim
    (λ b.
    ⊎_elim (λ c. inl (record { type = a; lowest = omega arith; highest = omega arith }))
    (λ c. inr (λ k. let l : x.highest ≤ 255 = k.highest in omega arith))
    (below_or_not x.highest 256))
    (λ b. inr (λ k. let l : x.lowest ≤ 255 = k.lowest in omega arith))
    (below_or_not x.lowest 256))
    (λ a. inr (λ k. let l : x.type < n = k.type in omega arith))
    (below_or_not x.type n)

-- The order by its components.

-- one label is below another: its type is, and its range lies inside
pub record Inside (t : List ℕ) (x y : Label) : Type 0 where
  pub type : below t x.type y.type ≡ true
  pub lowest : y.lowest ≤ x.lowest
  pub highest : x.highest ≤ y.highest

module _ (n : ℕ) (t : List ℕ) (x y : Label) where
  pub inside : (table_labels n t).le x y ≡ true → Inside t x y
  inside e =
      let b = below t x.type y.type in
      let l = leb y.lowest x.lowest in
      let h = leb x.highest y.highest in
      record {
        type = and_left b l (and_left (b && l) h e);
        lowest = leb-true y.lowest x.lowest (and_right b l (and_left (b && l) h e));
        highest = leb-true x.highest y.highest (and_right (b && l) h e);
      }

  pub inside-le : Inside t x y → (table_labels n t).le x y ≡ true
  inside-le i =
      let b = below t x.type y.type in
      let l = leb y.lowest x.lowest in
      let h = leb x.highest y.highest in
      true-both (b && l) h (true-both b l i.type (le-leb y.lowest x.lowest i.lowest)) (le-leb x.highest y.highest i.highest)

-- The contradiction: type 0, or an empty range.

pub contradiction-parts : (n : ℕ) (t : List ℕ) (x : Label) → (table_labels n t).contradiction x ≡ true → (x.type ≡ 0) ⊎ (x.highest < x.lowest)
contradiction-parts n t x e = go (eqb x.type 0) refl e
  where
    go : (b : Bool) → eqb x.type 0 ≡ b → (b || leb (suc x.highest) x.lowest) ≡ true → (x.type ≡ 0) ⊎ (x.highest < x.lowest)
    go true q h = inl (eqb-true x.type 0 q)
    go false q h = inr (leb-true (suc x.highest) x.lowest h)

pub contradiction-from : (n : ℕ) (t : List ℕ) (x : Label) → (x.type ≡ 0) ⊎ (x.highest < x.lowest) → (table_labels n t).contradiction x ≡ true
contradiction-from n t x (inl e) = ap (λ b. b || leb (suc x.highest) x.lowest) (eq-eqb x.type 0 e)
contradiction-from n t x (inr l) =
    ap (λ b. eqb x.type 0 || b) (le-leb (suc x.highest) x.lowest l) ∙ go (eqb x.type 0)
  where
    go : (b : Bool) → (b || true) ≡ true
    go true = refl
    go false = refl

module _ (n : ℕ) (t : List ℕ) (ok : accepted n t ≡ true) where
  known_by : (x : Label) → Known n x ⊎ (Known n x → ⊥) → KnownLabel n
  known_by x (inl k) = (x, k)
  known_by x (inr k) = (plain (n - 1), plain_known n (n - 1) (top-type n t ok))

  -- the label of the table that a label is, top where it is none
  pub known : Label → KnownLabel n
  known x = known_by x (known-or-not n x)

  -- a label of the table is kept
  pub known-label : (x : Label) → Known n x → (known x).0 ≡ x
  unfolding known known_by
  known-label x k = go (known-or-not n x)
    where
      go : (o : Known n x ⊎ (Known n x → ⊥)) → (known_by x o).0 ≡ x
      go (inl s) = refl
      go (inr s) = absurd (s k)

  -- the labels of an accepted table
  abbrev pub lawful : Labels
  lawful =
      record {
        L = KnownLabel n;
        le = λ x y. (table_labels n t).le x.0 y.0;
        meet = λ x y. known ((table_labels n t).meet x.0 y.0);
        join = λ x y. known ((table_labels n t).join x.0 y.0);
        top = (plain (n - 1), plain_known n (n - 1) (top-type n t ok));
        contradiction = λ x. (table_labels n t).contradiction x.0;
      }

  -- The meet and the join of labels of the table, by components.

  module _ (x y : Label) (k : Known n x) (l : Known n y) where
    pub type-meet : Meet n t x.type y.type ((table_labels n t).meet x y).type
    type-meet =
        let r : (m : ℕ) × Meet n t x.type y.type m = meet-exists n t ok x.type y.type k.type l.type in
        subst (Meet n t x.type y.type) (sym (ap cell r.1.is)) r.1

    type-join : Join n t x.type y.type ((table_labels n t).join x y).type
    type-join =
        let r : (m : ℕ) × Join n t x.type y.type m = join-exists n t ok x.type y.type k.type l.type in
        subst (Join n t x.type y.type) (sym (ap cell r.1.is)) r.1

    pub meet-known : Known n ((table_labels n t).meet x y)
    meet-known =
        let a : x.lowest ≤ 255 = k.lowest in
        let b : y.lowest ≤ 255 = l.lowest in
        let c : x.highest ≤ 255 = k.highest in
        record { type = type-meet.type; lowest = omega arith; highest = omega arith }

    pub join-known : Known n ((table_labels n t).join x y)
    join-known =
        let a : x.lowest ≤ 255 = k.lowest in
        let b : x.highest ≤ 255 = k.highest in
        let c : y.highest ≤ 255 = l.highest in
        record { type = type-join.type; lowest = omega arith; highest = omega arith }

    meet-inside-left : Inside t ((table_labels n t).meet x y) x
    meet-inside-left = record { type = type-meet.left; lowest = omega arith; highest = omega arith }

    meet-inside-right : Inside t ((table_labels n t).meet x y) y
    meet-inside-right = record { type = type-meet.right; lowest = omega arith; highest = omega arith }

    meet-holds : (z : Label) → Known n z → Inside t z x → Inside t z y → Inside t z ((table_labels n t).meet x y)
    meet-holds z m i j =
        let a : x.lowest ≤ z.lowest = i.lowest in
        let b : y.lowest ≤ z.lowest = j.lowest in
        let c : z.highest ≤ x.highest = i.highest in
        let d : z.highest ≤ y.highest = j.highest in
        record { type = type-meet.greatest z.type m.type i.type j.type; lowest = omega arith; highest = omega arith }

    join-inside-left : Inside t x ((table_labels n t).join x y)
    join-inside-left = record { type = type-join.left; lowest = omega arith; highest = omega arith }

    join-inside-right : Inside t y ((table_labels n t).join x y)
    join-inside-right = record { type = type-join.right; lowest = omega arith; highest = omega arith }

    join-holds : (z : Label) → Known n z → Inside t x z → Inside t y z → Inside t ((table_labels n t).join x y) z
    join-holds z m i j =
        let a : z.lowest ≤ x.lowest = i.lowest in
        let b : z.lowest ≤ y.lowest = j.lowest in
        let c : x.highest ≤ z.highest = i.highest in
        let d : y.highest ≤ z.highest = j.highest in
        record { type = type-join.least z.type m.type i.type j.type; lowest = omega arith; highest = omega arith }

  -- what the meet or the join over labels of the table is
  pub meet-label : (x y : KnownLabel n) → (lawful.meet x y).0 ≡ (table_labels n t).meet x.0 y.0
  meet-label x y = known-label ((table_labels n t).meet x.0 y.0) (meet-known x.0 y.0 x.1 y.1)

  pub join-label : (x y : KnownLabel n) → (lawful.join x y).0 ≡ (table_labels n t).join x.0 y.0
  join-label x y = known-label ((table_labels n t).join x.0 y.0) (join-known x.0 y.0 x.1 y.1)

  pub le-reflexive : (x : Label) → Known n x → (table_labels n t).le x x ≡ true
  le-reflexive x k =
      inside-le n t x x (record { type = below-reflexive n t ok x.type k.type; lowest = omega arith; highest = omega arith })

  pub le-antisymmetric : (x y : Label) → Known n x → Known n y → (table_labels n t).le x y ≡ true → (table_labels n t).le y x ≡ true → x ≡ y
  le-antisymmetric x y k l d e =
      let i = inside n t x y d in
      let j = inside n t y x e in
      let a : y.lowest ≤ x.lowest = i.lowest in
      let b : x.lowest ≤ y.lowest = j.lowest in
      let c : x.highest ≤ y.highest = i.highest in
      let f : y.highest ≤ x.highest = j.highest in
      label-parts (below-antisymmetric n t ok x.type y.type k.type l.type i.type j.type) (omega arith) (omega arith)

  pub le-transitive : (x y z : Label) → Known n x → Known n y → Known n z → (table_labels n t).le x y ≡ true → (table_labels n t).le y z ≡ true →
      (table_labels n t).le x z ≡ true
  le-transitive x y z k l m d e =
      let i = inside n t x y d in
      let j = inside n t y z e in
      let a : y.lowest ≤ x.lowest = i.lowest in
      let b : z.lowest ≤ y.lowest = j.lowest in
      let c : x.highest ≤ y.highest = i.highest in
      let f : y.highest ≤ z.highest = j.highest in
      inside-le n t x z
      (record {
        type = below-transitive n t ok x.type y.type z.type k.type l.type m.type i.type j.type;
        lowest = omega arith;
        highest = omega arith;
      })

  pub lawful-lattice : Lattice lawful
  lawful-lattice =
      record {
        le_refl = λ a. le-reflexive a.0 a.1;
        le_trans = λ a b c. le-transitive a.0 b.0 c.0 a.1 b.1 c.1;
        le_antisym = λ a b d e. label-path (le-antisymmetric a.0 b.0 a.1 b.1 d e);
        meet_left = λ a b.
            ap (λ m. (table_labels n t).le m a.0) (meet-label a b) ∙
            inside-le n t _ _ (meet-inside-left a.0 b.0 a.1 b.1);
        meet_right = λ a b.
            ap (λ m. (table_labels n t).le m b.0) (meet-label a b) ∙
            inside-le n t _ _ (meet-inside-right a.0 b.0 a.1 b.1);
        meet-greatest = λ a b c d e.
            ap (λ m. (table_labels n t).le c.0 m) (meet-label a b) ∙
            inside-le n t _ _
            (meet-holds a.0 b.0 a.1 b.1 c.0 c.1 (inside n t c.0 a.0 d) (inside n t c.0 b.0 e));
        join-left = λ a b.
            ap (λ m. (table_labels n t).le a.0 m) (join-label a b) ∙
            inside-le n t _ _ (join-inside-left a.0 b.0 a.1 b.1);
        join-right = λ a b.
            ap (λ m. (table_labels n t).le b.0 m) (join-label a b) ∙
            inside-le n t _ _ (join-inside-right a.0 b.0 a.1 b.1);
        join-least = λ a b c d e.
            ap (λ m. (table_labels n t).le m c.0) (join-label a b) ∙
            inside-le n t _ _
            (join-holds a.0 b.0 a.1 b.1 c.0 c.1 (inside n t a.0 c.0 d) (inside n t b.0 c.0 e));
        top-greatest = λ a.
            let h : a.0.highest ≤ 255 = a.1.highest in
            inside-le n t a.0 (plain (n - 1))
            (record { type = laws.top-greatest n t ok a.0.type a.1.type; lowest = omega arith; highest = omega arith });
        contradiction-down = λ a b d e.
            let i = inside n t a.0 b.0 d in
            contradiction-from n t a.0
            (⊎_elim
            (λ zero. inl
            (below-antisymmetric n t ok a.0.type 0 a.1.type (zero-type n t ok)
            (subst (λ (c : ℕ). below t a.0.type c ≡ true) zero i.type)
            (zero-least n t ok a.0.type a.1.type)))
            (λ empty. inr
            (let l : b.0.lowest ≤ a.0.lowest = i.lowest in
            let h : a.0.highest ≤ b.0.highest = i.highest in
            omega arith))
            (contradiction-parts n t b.0 e));
      }
