-- This file is about the rows of a table of bounds: what stands in a row and in the table's cells, and when two such tables are equal.
use Prim.Native.Nat.{ℕ, zero, suc, ◌+◌, ◌<◌, ◌≤◌}
use mathlib.Core.Path.{◌≡◌, refl, sym, ap, ◌∙◌}
use mathlib.Core.Bool.{Bool, true, false, cond}
use mathlib.Core.List.{List, [], ◌∷◌, map}
use mathlib.Core.Option.{Option, none, some}
use mathlib.Core.Logic.{⊎_elim}
use native.Mathlib.Nat.{not-suc-le-zero, eq-or-lt_of_le, le_of_suc-le-suc}
use native.Mathlib.Numerals.{add-one}
use native.Mathlib.Omega.{arith}
use lib.ListN.{length, get_or, set, length-append, length-set, length-map, get_or-append}
use lib.Seq.{ext_get_or, get_or_at, get_or-set_same, get_or-set_other}
use lib.Dec.{leb}
use Rattle.std.specs.Prelude.{Option as Answer, is_some, unwrap_or}
use borrow.Author.Count.{below_more}
use borrow.Author.Tests.{le-leb, lt-leb, leb-true}
use Rattle.lattice.specs.Table.{found, answer, cell, bound_row, overwrite, upto}
use Rattle.lattice.specs.Words.{all_found, holder}
use Rattle.lattice.proofs.Every.{every-same, below_or_not}

length-upto : (k : ℕ) → length (upto k) ≡ k
unfolding upto
length-upto zero = refl
length-upto (suc k) = length-append (upto k) (k ∷ []) ∙ omega (arith, length-upto k)

get_or-upto : (k j : ℕ) → j < k → get_or (upto k) j 0 ≡ j
unfolding upto
get_or-upto zero j l = absurd (not-suc-le-zero l)
get_or-upto (suc k) j l =
    ⊎_elim (λ e. rw e (get_or_at (upto k) k [] 0 k (length-upto k)))
    (λ s. get_or-append (upto k) (k ∷ []) 0 j (omega (arith, length-upto k)) ∙ get_or-upto k j s)
    (eq-or-lt_of_le (le_of_suc-le-suc l))

get_d_map : {A : Type 0} (f : ℕ → A) (l : List ℕ) (i : ℕ) (d : ℕ) (e : A) → i < length l → get_or (map f l) i e ≡ f (get_or l i d)
get_d_map f [] i d e l = absurd (not-suc-le-zero l)
get_d_map f (x ∷ xs) zero d e l = refl
get_d_map f (x ∷ xs) (suc i) d e l = get_d_map f xs i d e (le_of_suc-le-suc l)

map_same : (f g : ℕ → ℕ) (l : List ℕ) → ((x : ℕ) → f x ≡ g x) → map f l ≡ map g l
map_same f g [] h = refl
map_same f g (x ∷ xs) h = let e : map f xs ≡ map g xs = map_same f g xs h in let k : f x ≡ g x = h x in cc

module _ (n : ℕ) (bound : ℕ → ℕ → Option ℕ) (a : ℕ) where
  pub length-row : length (bound_row n bound a) ≡ 64
  unfolding bound_row
  length-row = length-map (upto 64) _ ∙ length-upto 64

  row-cell : (b : ℕ) → b < 64 → get_or (bound_row n bound a) b 0 ≡ cond (leb (suc b) n) (cell (bound a b)) 0
  unfolding bound_row
  row-cell b l =
      get_d_map (λ b. cond (leb (suc b) n) (cell (bound a b)) 0) (upto 64) b 0 0 (omega (arith, length-upto 64)) ∙
      ap (λ (x : ℕ). cond (leb (suc x) n) (cell (bound a x)) 0) (get_or-upto 64 b l)

  pub row-bound : (b : ℕ) → b < n → b < 64 → get_or (bound_row n bound a) b 0 ≡ cell (bound a b)
  row-bound b l s = row-cell b s ∙ rw (le-leb (suc b) n l)

  -- a list of 64 with the bounds below n, and 0 elsewhere, is the row
  pub row_made : (row : List ℕ) → length row ≡ 64 → ((b : ℕ) → b < n → get_or row b 0 ≡ cell (bound a b))
      → ((b : ℕ) → n ≤ b → b < 64 → get_or row b 0 ≡ 0) → row ≡ bound_row n bound a
  row_made row e low high =
      ext_get_or 0 row (bound_row n bound a) (e ∙ sym length-row) λ b l.
      let s : b < 64 = omega arith in
      ⊎_elim (λ r. low b r ∙ sym (row-bound b r s)) (λ r. high b r s ∙ sym (row-cell b s ∙ rw (lt-leb (suc b) n (omega arith))))
      (below_or_not b n)

row_same : (n : ℕ) (f g : ℕ → ℕ → Option ℕ) (a : ℕ) → ((b : ℕ) → b < n → f a b ≡ g a b) → bound_row n f a ≡ bound_row n g a
unfolding bound_row
row_same n f g a h = map_same _ _ (upto 64) λ b. go b (leb (suc b) n) refl where
  go : (b : ℕ) (l : Bool) → leb (suc b) n ≡ l → cond (leb (suc b) n) (cell (f a b)) 0 ≡ cond (leb (suc b) n) (cell (g a b)) 0
  go b true e = ap (λ (o : Option ℕ). cond (leb (suc b) n) (cell o) 0) (h b (leb-true (suc b) n e))
  go b false e = rw e

overwrite-rows : (k : ℕ) (r s : ℕ → List ℕ) (rows : List (List ℕ)) → ((a : ℕ) → a < k → r a ≡ s a) → overwrite k r rows ≡ overwrite k s rows
unfolding overwrite
overwrite-rows zero r s rows h = refl
overwrite-rows (suc k) r s rows h =
    let e : overwrite k r rows ≡ overwrite k s rows = overwrite-rows k r s rows λ a l. h a (omega arith) in
    let f : r k ≡ s k = h k (omega arith) in
    rw (e, f)

module _ (n : ℕ) (f g : ℕ → ℕ → Option ℕ) (same : (a b : ℕ) → a < n → b < n → f a b ≡ g a b) where
  -- tables of equal bounds are equal
  pub overwrite-same : (rows : List (List ℕ)) → overwrite n (bound_row n f) rows ≡ overwrite n (bound_row n g) rows
  overwrite-same rows = overwrite-rows n _ _ rows λ a l. row_same n f g a λ b s. same a b l s

  pub found-same : all_found n f ≡ all_found n g
  unfolding all_found
  found-same = every-same _ _ n λ a l. every-same _ _ n λ b s. ap found (same a b l s)

pub overwrite-none : (row : ℕ → List ℕ) (rows : List (List ℕ)) → overwrite 0 row rows ≡ rows
unfolding overwrite
overwrite-none row rows = refl

pub length-overwrite : (k : ℕ) (row : ℕ → List ℕ) (rows : List (List ℕ)) → length (overwrite k row rows) ≡ length rows
unfolding overwrite
length-overwrite zero row rows = refl
length-overwrite (suc k) row rows = length-set (overwrite k row rows) k (row k) ∙ length-overwrite k row rows

pub get_or-overwrite : (k : ℕ) (row : ℕ → List ℕ) (rows : List (List ℕ)) (a : ℕ) → a < k → k ≤ length rows → get_or (overwrite k row rows) a [] ≡ row a
unfolding overwrite
get_or-overwrite zero row rows a l s = absurd (not-suc-le-zero l)
get_or-overwrite (suc k) row rows a l s =
    ⊎_elim
    (λ e. rw e (get_or-set_same (overwrite k row rows) k (row k) [] (omega (arith, length-overwrite k row rows))))
    (λ r.
    get_or-set_other (overwrite k row rows) k a (row k) [] (λ e. absurd (omega arith)) ∙
    get_or-overwrite k row rows a r (omega arith))
    (eq-or-lt_of_le (le_of_suc-le-suc l))

-- one cell more of a list that is filled from its start
pub set_more : {A : Type 0} (d : A) (f : ℕ → A) (l : List A) (i : ℕ) (v : A) → i < length l → ((k : ℕ) → k < i → get_or l k d ≡ f k) → v ≡ f i
    → (k : ℕ) → k < i + 1 → get_or (set l i v) k d ≡ f k
set_more d f l i v s h e =
    below_more (λ k. get_or (set l i v) k d ≡ f k) i
    (λ k r. get_or-set_other l i k v d (λ q. absurd (omega arith)) ∙ h k r)
    (get_or-set_same l i v d s ∙ e)

-- an answer has a value where there is one
answer-found : {A : Type 0} (o : Option A) → is_some (answer o) ≡ found o
answer-found none = refl
answer-found (some c) = refl

-- a word has a holder where the search answers a type
pub holder-found : (n : ℕ) (ws : List ℕ) (v w : ℕ) (r : Answer ℕ) → v ≡ w → r ≡ answer (holder n ws v) → is_some r ≡ found (holder n ws w)
holder-found n ws v w r q e = rw (e, q) (answer-found (holder n ws w))

-- the number in the cell of an answer
pub answer-cell : (o : Option ℕ) (r : Answer ℕ) → r ≡ answer o → unwrap_or r 64 ≡ cell o
answer-cell none r e = rw e
answer-cell (some c) r e = rw e

pub next_row : (k : ℕ) (row : ℕ → List ℕ) (rows table : List (List ℕ)) (v : List ℕ) → table ≡ overwrite k row rows → v ≡ row k
    → set table k v ≡ overwrite (k + 1) row rows
unfolding overwrite
next_row k row rows table v e f = rw (add-one, e, f)
