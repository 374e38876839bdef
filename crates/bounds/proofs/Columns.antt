-- This file is about a table of bounds that is filled by rows and columns at once: what stays true when one bound is written to both its
-- cells, and what stands in a row and a column that are done.
use Prim.Native.Nat.{ℕ, ◌+◌, ◌<◌, ◌≤◌}
use mathlib.Core.Path.{◌≡◌, refl, sym, ap, ◌∙◌}
use mathlib.Core.Bool.{Bool, true, false}
use mathlib.Core.List.{List, []}
use native.Mathlib.Nat.{not-suc-le-zero}
use native.Mathlib.Omega.{arith}
use lib.ListN.{length, get_or, set, length-set, length-replicate, get_or-replicate, replicate}
use lib.Seq.{get_or-set_same, get_or-set_other}
use lib.Dec.{leb, eqb}
use borrow.Author.Tests.{le-leb, lt-leb, eqb-true, eqb-false}
use Rattle.lattice.specs.Table.{every, implies, found, cell, bound_row, overwrite}
use Rattle.lattice.specs.Words.{word_bound, all_found}
use Rattle.bounds.specs.Cells.{Columns}
use Rattle.lattice.proofs.Every.{every-all, every-end, below_suc}
use Rattle.lattice.proofs.Rows.{row_made}
use Rattle.lattice.proofs.BoundLaws.{bound-turned, onward-found}

-- rows with v in cell j of row i
abbrev write : List (List ℕ) → ℕ → ℕ → ℕ → List (List ℕ)
write rows i j v = set rows i (set (get_or rows i []) j v)

-- a row before anything is written
abbrev zero_row : List ℕ
zero_row = replicate 64 0

-- Row a and column a are being filled: row a holds the bounds with the types before b, column a those with the types from a to b - 1.
pub record Filling (n : ℕ) (ws : List ℕ) (rows : List (List ℕ)) (a b : ℕ) : Type 0 where
  pub columns : Columns n ws rows a
  pub row : (j : ℕ) → j < b → get_or (get_or rows a []) j 0 ≡ cell (word_bound n ws a j)
  pub column : (i : ℕ) → a ≤ i → i < b → get_or (get_or rows i []) a 0 ≡ cell (word_bound n ws i a)

module _ (rows : List (List ℕ)) (x y v : ℕ) (tall : length rows ≡ 64) (wide : (i : ℕ) → i < 64 → length (get_or rows i []) ≡ 64)
    (lx : x < 64) (ly : y < 64) where
  write-wide : (i : ℕ) → i < 64 → length (get_or (write rows x y v) i []) ≡ 64
  write-wide i l = go (eqb i x) refl where
    go : (s : Bool) → eqb i x ≡ s → length (get_or (write rows x y v) i []) ≡ 64
    go true e =
        ap (λ (k : ℕ). length (get_or (write rows x y v) k [])) (eqb-true i x e) ∙
        ap (λ (r : List ℕ). length r) (get_or-set_same rows x (set (get_or rows x []) y v) [] (omega arith)) ∙
        length-set (get_or rows x []) y v ∙ wide x lx
    go false e = ap (λ (r : List ℕ). length r) (get_or-set_other rows x i _ [] (eqb-false i x e)) ∙ wide i l

  -- a cell holds w after the writing where v is w at the cell written, and it held w elsewhere
  write-holds : (i j w : ℕ) → (i ≡ x → j ≡ y → v ≡ w) → ((i ≡ x → j ≡ y → ⊥) → get_or (get_or rows i []) j 0 ≡ w)
      → get_or (get_or (write rows x y v) i []) j 0 ≡ w
  write-holds i j w here there = go (eqb i x) refl where
    cells : (s : Bool) → eqb j y ≡ s → i ≡ x → get_or (set (get_or rows x []) y v) j 0 ≡ w
    cells true e q =
        let f : j ≡ y = eqb-true j y e in
        ap (λ (k : ℕ). get_or (set (get_or rows x []) y v) k 0) f ∙
        get_or-set_same (get_or rows x []) y v 0 (omega (arith, wide x lx)) ∙ here q f
    cells false e q =
        get_or-set_other (get_or rows x []) y j v 0 (eqb-false j y e) ∙
        ap (λ (k : ℕ). get_or (get_or rows k []) j 0) (sym q) ∙ there (λ r f. eqb-false j y e f)

    go : (s : Bool) → eqb i x ≡ s → get_or (get_or (write rows x y v) i []) j 0 ≡ w
    go true e =
        let q : i ≡ x = eqb-true i x e in
        ap (λ (k : ℕ). get_or (get_or (write rows x y v) k []) j 0) q ∙
        ap (λ (r : List ℕ). get_or r j 0) (get_or-set_same rows x (set (get_or rows x []) y v) [] (omega arith)) ∙ cells (eqb j y) refl q
    go false e =
        ap (λ (r : List ℕ). get_or r j 0) (get_or-set_other rows x i (set (get_or rows x []) y v) [] (eqb-false i x e)) ∙
        there (λ q f. eqb-false i x e q)

module _ (n : ℕ) (ws : List ℕ) where
  -- a write between column a and column n
  write-columns : (rows : List (List ℕ)) (a x y v : ℕ) → n ≤ 64 → x < n → a ≤ y → y < n → Columns n ws rows a → Columns n ws (write rows x y v) a
  write-columns rows a x y v few lx la ly h =
      let sx : x < 64 = omega arith in
      let sy : y < 64 = omega arith in
      record {
        tall = length-set rows x _ ∙ h.tall;
        wide = write-wide rows x y v h.tall h.wide sx sy;
        before =
            λ i j r l s.
            write-holds rows x y v h.tall h.wide sx sy i j _ (λ q f. absurd (omega arith)) (λ ne. h.before i j r l s);
        rest =
            λ i j l r s.
            write-holds rows x y v h.tall h.wide sx sy i j _ (λ q f. absurd (omega arith)) (λ ne. h.rest i j l r s);
      }

  -- row a begins with the cells that are written already
  pub filling-begins : (rows : List (List ℕ)) (a : ℕ) → a < n → Columns n ws rows a → Filling n ws rows a a
  filling-begins rows a l h = record {
    columns = h;
    row = λ j s. h.before a j (omega arith) l s;
    column = λ i r s. absurd (omega arith);
  }

  -- one bound more in both its cells
  pub filling-more : (rows : List (List ℕ)) (a b v : ℕ) → n ≤ 64 → a ≤ b → b < n → v ≡ cell (word_bound n ws a b) → Filling n ws rows a b
      → Filling n ws (write (write rows a b v) b a v) a (b + 1)
  filling-more rows a b v few la lb e h =
      let sa : a < 64 = omega arith in
      let sb : b < 64 = omega arith in
      let one : Columns n ws (write rows a b v) a = write-columns rows a a b v few (omega arith) la lb h.columns in
      record {
        columns = write-columns (write rows a b v) a b a v few lb (omega arith) (omega arith) one;
        row =
            λ j l.
            write-holds (write rows a b v) b a v one.tall one.wide sb sa a j (cell (word_bound n ws a j))
            (λ q f. let g : b ≡ j = omega arith in e ∙ ap (λ (k : ℕ). cell (word_bound n ws a k)) g)
            (λ ne.
            write-holds rows a b v h.columns.tall h.columns.wide sa sb a j (cell (word_bound n ws a j))
            (λ q f. e ∙ ap (λ (k : ℕ). cell (word_bound n ws a k)) (sym f))
            (λ nf. h.row j (apart j l (nf refl))));
        column =
            λ i r l.
            write-holds (write rows a b v) b a v one.tall one.wide sb sa i a (cell (word_bound n ws i a))
            (λ q f. e ∙ ap cell (bound-turned n ws a b) ∙ ap (λ (k : ℕ). cell (word_bound n ws k a)) (sym q))
            (λ ne.
            write-holds rows a b v h.columns.tall h.columns.wide sa sb i a (cell (word_bound n ws i a))
            (λ q f. absurd (ne (q ∙ f) refl))
            (λ nf. h.column i r (apart i l (λ q. ne q refl))));
      }
    where
      apart : (k : ℕ) → k < b + 1 → (k ≡ b → ⊥) → k < b
      apart k l ne = omega arith

  -- row a and column a are done
  pub filling-ends : (rows : List (List ℕ)) (a b : ℕ) → n ≤ 64 → a < n → b ≤ n → n ≤ b → Filling n ws rows a b
      → (get_or rows a [] ≡ bound_row n (word_bound n ws) a) × Columns n ws rows (a + 1)
  filling-ends rows a b few la l s h = (
    row_made n (word_bound n ws) a (get_or rows a []) (h.columns.wide a (omega arith)) (λ j r. h.row j (omega arith))
        (λ j r q. h.columns.rest a j la r q),
    record {
      tall = h.columns.tall;
      wide = h.columns.wide;
      before =
          λ i j r k q.
          below_suc {P = get_or (get_or rows i []) j 0 ≡ cell (word_bound n ws i j)} (omega arith)
          (λ (f : j ≡ a). rw f (h.column i (omega arith) (omega arith)))
          (λ p. h.columns.before i j (omega arith) k p);
      rest = h.columns.rest;
    },
  )

  -- the zeros at the start hold no column yet
  pub columns-begin : n ≤ 64 → Columns n ws (replicate 64 zero_row) 0
  columns-begin few = record {
    tall = length-replicate {A = List ℕ} 64 zero_row;
    wide = λ i l. ap (λ (r : List ℕ). length r) (zeros i l) ∙ length-replicate {A = ℕ} 64 0;
    before = λ i j r l s. absurd (not-suc-le-zero s);
    rest = λ i j l r s. ap (λ (r : List ℕ). get_or r j 0) (zeros i (omega arith)) ∙ get_or-replicate {A = ℕ} 64 j 0 0 s;
  } where
    zeros : (i : ℕ) → i < 64 → get_or (replicate 64 zero_row) i [] ≡ zero_row
    zeros i l = get_or-replicate {A = List ℕ} 64 i zero_row [] l

-- no type before a is tested with a; those from a on are
pub none-tested : (a : ℕ) (p : ℕ → Bool) → true ≡ every a (λ k. implies (leb a k) (p k))
none-tested a p = sym (every-all _ a λ k l. rw (lt-leb a k l))

pub is-tested : (a b : ℕ) (p q : Bool) → a ≤ b → p ≡ q → implies (leb a b) p ≡ q
is-tested a b p q l e = rw (le-leb a b l, e)

-- the end of the filling
pub fill_done : (n : ℕ) (ws : List ℕ) (k : ℕ) (r : Bool) (table rows : List (List ℕ)) → k ≤ n → n ≤ k
    → r ≡ every k (λ a. every n (λ b. implies (leb a b) (found (word_bound n ws a b)))) → table ≡ overwrite k (bound_row n (word_bound n ws)) rows
    → (r ≡ all_found n (word_bound n ws)) × (table ≡ overwrite n (bound_row n (word_bound n ws)) rows)
fill_done n ws k r table rows l s e f =
    let q : k ≡ n = omega arith in
    (every-end _ k n r l s e ∙ onward-found n ws, f ∙ ap (λ (m : ℕ). overwrite m (bound_row n (word_bound n ws)) rows) q)
