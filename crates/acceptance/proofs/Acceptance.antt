-- This file goes from what the tests of size, order and bounds answer to whether the table is accepted.
use Prim.Native.Nat.{ℕ, ◌*◌, ◌-◌, ◌^◌, ◌<◌, ◌≤◌}
use mathlib.Core.Path.{◌≡◌, refl, sym, subst, ◌∙◌}
use mathlib.Core.Bool.{Bool, true, false, cond, ◌&&◌}
use mathlib.Core.List.{List}
use native.Mathlib.Omega.{arith}
use lib.ListN.{length, get_or}
use Rattle.graphs.proofs.Search.{same_test, true-both}
use Rattle.acceptance.specs.declared.TableFault.TheVariants.{Size, Order, Bounds}
use Rattle.std.specs.Prelude.{Ok, Err}
use Rattle.lattice.specs.Table.{every, below, found, sized, ordered, bounded, accepted, meet, join, side_bound}
use Rattle.acceptance.specs.Reply.{opened, TableAnswer}
use Rattle.lattice.specs.Words.{related, Words, bit, turned, word_bound, all_found, row_ordered, OrderWords, Sided, Lower}
use Rattle.lattice.proofs.Every.{and_left, and_right, every-at, every-all, true-not-false}
use Rattle.lattice.proofs.OrderLaws.{Ordered, facts-ordered, rows-facts, rows-ordered, row-bit, side, sided, turned-words}
use Rattle.lattice.proofs.WordLaws.{word_below}
use Rattle.lattice.proofs.BoundLaws.{bound-same, other-side}
use Rattle.lattice.proofs.Rows.{found-same}
use Rattle.lattice.proofs.Sizes.{size-facts}

-- The table is refused by its size or by its order.
module _ (n : ℕ) (t : List ℕ) where
  pub answer-size : sized n t ≡ false → Err Size ≡ opened n t
  unfolding opened
  answer-size h = rw h

  unordered : (down : List ℕ) → sized n t ≡ true → Words n t false down → every n (row_ordered n down) ≡ false → ordered n t ≡ false
  unordered down s words h = sym (rows-ordered n t down (size-facts n t s).1 words) ∙ h

  pub answer-order : (down : List ℕ) → sized n t ≡ true → Words n t false down → every n (row_ordered n down) ≡ false
      → Err Order ≡ opened n t
  unfolding opened
  answer-order down s words h = rw (s, unordered down s words h)

-- The tests of size and order pass.
pub order-words : {n : ℕ} {t down : List ℕ} → sized n t ≡ true → Words n t false down → every n (row_ordered n down) ≡ true → OrderWords n t down
order-words size words order = record { size = size; words = words; order = order }

-- The rows are an order. The answer depends on whether all bounds of one side are found.
module _ (n : ℕ) (t down : List ℕ) (passed : OrderWords n t down) where
  pub table-size : (2 ≤ n) × (n ≤ 64) × (length t ≡ 8 * n)
  table-size = size-facts n t passed.size

  pub table-ordered : Ordered n t
  table-ordered = rows-facts n t down table-size.1 passed.words passed.order

  pub up-words : (up : List ℕ) → ((i : ℕ) → i < n → get_or up i 0 ≡ turned n down i) → Words n t true up
  up-words up made = turned-words n t down up table-size.1 table-size.2 passed.words made

  -- the words of the types below each type, as the test of bounds asks for them
  pub lower-words : Lower n down
  lower-words =
      let few : n ≤ 64 = table-size.1 in
      let has : (i j : ℕ) → i < n → j < n → bit (get_or down i 0) j ≡ below t j i = λ i j l r. row-bit n t down few passed.words i j l (omega arith) in
      record {
        sided = sided n (related t false) down few (side n t false table-size.2 table-ordered) passed.words;
        small = λ i l. subst (λ (w : ℕ). w < 2 ^ 64) (sym (passed.words i l)) (word_below 64 (related t false i));
        chain = λ i j k li lj lk e f.
            has i k li lk ∙ table-ordered.chain k j i lk lj li (sym (has j k lj lk) ∙ f) (sym (has i j li lj) ∙ e);
        most = λ i l. has (n - 1) i (omega arith) l ∙ table-ordered.top i l;
      }

  module _ (up : Bool) (ws : List ℕ) (made : Words n t up ws) where
    pub side-sided : Sided n ws
    side-sided = sided n (related t up) ws table-size.1 (side n t up table-size.2 table-ordered) made

    -- the bound of two words is the bound of the table
    pub side-bound : (a b : ℕ) → a < n → b < n → word_bound n ws a b ≡ side_bound n t up a b
    side-bound = bound-same n t table-size.2 table-ordered up ws table-size.1 made

    -- every two types have a bound on the side exactly when they have a meet and a join
    side-bounded : all_found n (word_bound n ws) ≡ bounded n t
    unfolding all_found bounded
    side-bounded =
        let f : (2 ≤ n) × (n ≤ 64) × (length t ≡ 8 * n) = table-size in
        found-same n (word_bound n ws) (side_bound n t up) side-bound ∙
        same_test _ _
        (λ h.
        let all : (a b : ℕ) → a < n → b < n → found (side_bound n t up a b) ≡ true =
        λ a b l r. every-at _ n b (every-at _ n a h l) r in
        every-all _ n λ a l.
        every-all _ n λ b r.
        true-both (found (meet n t a b)) (found (join n t a b))
        (other-side n t f.2 table-ordered up false (omega (arith, f.0)) all a b l r)
        (other-side n t f.2 table-ordered up true (omega (arith, f.0)) all a b l r))
        λ h. every-all _ n λ a l. every-all _ n λ b r. both up a b (every-at _ n b (every-at _ n a h l) r)
      where
        both : (up : Bool) (a b : ℕ) → found (meet n t a b) && found (join n t a b) ≡ true → found (side_bound n t up a b) ≡ true
        both true a b = and_right (found (meet n t a b)) (found (join n t a b))
        both false a b = and_left (found (meet n t a b)) (found (join n t a b))

    pub answer-found : (b : Bool) → all_found n (word_bound n ws) ≡ b → cond b (Ok tt) (Err Bounds) ≡ opened n t
    unfolding opened
    answer-found b e = rw (passed.size, facts-ordered n t table-ordered, ← side-bounded, e)

-- The answer says whether the table is accepted.
module _ (n : ℕ) (t : List ℕ) where
  pub opened-accepted : (r : TableAnswer) → r ≡ opened n t → r ≡ Ok tt → accepted n t ≡ true
  unfolding opened accepted
  opened-accepted r e f = go (sized n t) (ordered n t) (bounded n t) (sym f ∙ e) where
    go : (s o b : Bool) → Ok (tt {0}) ≡ cond s (cond o (cond b (Ok tt) (Err Bounds)) (Err Order)) (Err Size) → s && o && b ≡ true
    go true true true h = refl
    go true true false h = let z : ◌≡◌ {A = ℕ} 0 1 = cc in absurd (omega arith)
    go true false b h = let z : ◌≡◌ {A = ℕ} 0 1 = cc in absurd (omega arith)
    go false o b h = let z : ◌≡◌ {A = ℕ} 0 1 = cc in absurd (omega arith)

  pub accepted-opened : accepted n t ≡ true → opened n t ≡ Ok tt
  unfolding opened accepted
  accepted-opened ok = go (sized n t) (ordered n t) (bounded n t) ok where
    go : (s o b : Bool) → s && o && b ≡ true → cond s (cond o (cond b (Ok (tt {0})) (Err Bounds)) (Err Order)) (Err Size) ≡ Ok tt
    go true true true h = refl
    go true true false h = absurd (true-not-false false h refl)
    go true false b h = absurd (true-not-false false h refl)
    go false o b h = absurd (true-not-false false h refl)
