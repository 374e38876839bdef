-- This file goes from what acceptance answers, and what is held, to what choosing a form, filling cells and opening ensure.
use Prim.Native.Nat.{ℕ, ◌-◌}
use mathlib.Core.Path.{◌≡◌, refl, sym, ap, ◌∙◌}
use mathlib.Core.Bool.{Bool, true, false, cond}
use mathlib.Core.List.{List, []}
use lib.ListN.{length}
use native.Mathlib.Omega.{arith}
use Rattle.acceptance.specs.declared.TableFault.{TableFault}
use Rattle.acceptance.specs.declared.TableFault.TheVariants.{Bounds}
use Rattle.std.specs.Prelude.{Ok, Err}
use Rattle.lattice.specs.Table.{every, sized, ordered, accepted, side_bound, bound_row, overwrite, filled}
use Rattle.acceptance.specs.Reply.{opened, TableAnswer}
use Rattle.lattice.specs.Words.{Words, word_bound, all_found, OrderWords}
use Rattle.lattice.proofs.Every.{true-not-false}
use Rattle.lattice.proofs.Sizes.{size-facts}
use Rattle.lattice.proofs.OrderLaws.{facts-ordered, rows-ordered}
use Rattle.lattice.proofs.Rows.{overwrite-same, length-overwrite}
use Rattle.acceptance.proofs.Acceptance.{accepted-opened, opened-accepted, table-ordered, side-bound, answer-found}
use Rattle.bounds.specs.declared.Form.TheVariants as forms
use Rattle.bounds.specs.Primes.{word_prime}
use Rattle.bounds.specs.Sets.{distributive, set_in, Holding, Sets}
use Rattle.bounds.specs.Opening.{SetsHeld, CellsNeeded, Chooses, Fills, Opening, OpenedFor}
use Rattle.bounds.proofs.Distributive.{primes-distributive}
use Rattle.bounds.proofs.Types.{holding-sets, holding-cells}

-- one answer of the choice rules the others out
module _ (up : Bool) (n : ℕ) (t sets : List ℕ) where
  pub chooses-refused : (fault : TableFault) → Err fault ≡ opened n t → Chooses up n t (Err fault) sets
  chooses-refused fault e =
      record {
        refused = λ f q. cc;
        as-sets = λ q. let z : ◌≡◌ {A = ℕ} 0 1 = cc in absurd (omega arith);
        as-cells = λ q. let z : ◌≡◌ {A = ℕ} 0 1 = cc in absurd (omega arith);
      }

  pub chooses-sets : SetsHeld up n t sets → Chooses up n t (Ok forms.Sets) sets
  chooses-sets h =
      record {
        refused = λ f q. let z : ◌≡◌ {A = ℕ} 0 1 = cc in absurd (omega arith);
        as-sets = λ q. h;
        as-cells = λ q. let z : ◌≡◌ {A = ℕ} 0 1 = cc in absurd (omega arith);
      }

  pub chooses-cells : CellsNeeded n t sets → Chooses up n t (Ok forms.Cells) sets
  chooses-cells h =
      record {
        refused = λ f q. let z : ◌≡◌ {A = ℕ} 0 1 = cc in absurd (omega arith);
        as-sets = λ q. let z : ◌≡◌ {A = ℕ} 0 1 = cc in absurd (omega arith);
        as-cells = λ q. h;
      }

-- what choosing and filling leave is what meets and joins rely on
module _ (up : Bool) (n : ℕ) (t sets : List ℕ) where
  pub opened-sets : SetsHeld up n t sets → OpenedFor up n t sets []
  opened-sets h =
      record {
        ok = h.ok;
        lent = [];
        long = λ d. absurd (true-not-false (distributive n t) h.spread d);
        holding = h.holding [];
      }

  module _ (needed : CellsNeeded n t sets) (ok : accepted n t ≡ true) (cells₀ cells : List (List ℕ)) (long : length cells₀ ≡ 64)
      (is : cells ≡ filled n t (side_bound n t up) cells₀) where
    cells-held : Holding up n t (side_bound n t up) sets cells₀ cells
    cells-held = holding-cells n t ok up (side_bound n t up) sets cells₀ cells (needed.other ok) needed.no-set long is

    pub opened-cells : OpenedFor up n t sets cells
    opened-cells = record { ok = ok; lent = cells₀; long = λ d. long; holding = cells-held }

-- the three ways through opening
module _ (up : Bool) (n : ℕ) (t sets : List ℕ) (cells₀ : List (List ℕ)) where
  pub opening-refused : (fault : TableFault) → Err fault ≡ opened n t → Opening up n t (side_bound n t up) (Err fault) sets cells₀ cells₀
  opening-refused fault e =
      record {
        answers = e;
        long = refl;
        holds = λ ok.
            let q : Err fault ≡ Ok tt = e ∙ accepted-opened n t ok in let z : ◌≡◌ {A = ℕ} 0 1 = cc in absurd (omega arith);
      }

  pub opening-sets : SetsHeld up n t sets → Opening up n t (side_bound n t up) (Ok tt) sets cells₀ cells₀
  opening-sets h = record { answers = sym (accepted-opened n t h.ok); long = refl; holds = λ ok. h.holding cells₀ }

  pub opening-cells : (cells : List (List ℕ)) (answer : TableAnswer) → CellsNeeded n t sets → length cells₀ ≡ 64 → Fills up n t answer cells₀ cells →
      Opening up n t (side_bound n t up) answer sets cells₀ cells
  opening-cells cells answer needed long fills =
      record {
        answers = fills.answers;
        long = fills.long;
        holds = λ ok. cells-held up n t sets needed ok cells₀ cells long (fills.filled-cells ok);
      }

-- the words of a table that passes the tests of refusals 1 and 2
pub words-ordered : (n : ℕ) (t : List ℕ) → sized n t ≡ true → ordered n t ≡ true → (ws : List ℕ) → Words n t false ws → OrderWords n t ws
words-ordered n t size order ws words =
    record { size = size; words = words; order = rows-ordered n t ws (size-facts n t size).1 words ∙ order }

-- The rows are an order. The answer depends on whether all bounds of one side are found.
module _ (n : ℕ) (t down : List ℕ) (passed : OrderWords n t down) (up : Bool) (ws : List ℕ) (made : Words n t up ws) where
  -- the cells are filled with the bounds of the words, which are those of the table
  pub cells-filled : (side : Bool) → side ≡ up → (cells₀ cells : List (List ℕ)) → cells ≡ overwrite n (bound_row n (word_bound n ws)) cells₀
      → cells ≡ filled n t (side_bound n t side) cells₀
  unfolding filled
  cells-filled side e cells₀ cells f =
      rw (passed.size, facts-ordered n t (table-ordered n t down passed), e)
      (f ∙ overwrite-same n _ _ (side-bound n t down passed up ws made) cells₀)

  -- the answer and the cells
  pub fills-found : (b side : Bool) → side ≡ up → (answer : TableAnswer) (cells₀ cells : List (List ℕ)) → answer ≡ cond b (Ok tt) (Err Bounds) →
      b ≡ all_found n (word_bound n ws) → cells ≡ overwrite n (bound_row n (word_bound n ws)) cells₀ → Fills side n t answer cells₀ cells
  fills-found b side e answer cells₀ cells q found f =
      record {
        answers = q ∙ answer-found n t down passed up ws made b (sym found);
        long = ap length f ∙ length-overwrite n (bound_row n (word_bound n ws)) cells₀;
        filled-cells = λ ok. cells-filled side e cells₀ cells f;
      }

-- The rows are an order, and the search for primes has ended.
module _ (n : ℕ) (t down : List ℕ) (passed : OrderWords n t down) (up : Bool) (sets : List ℕ) where
  pub cells-needed : every n (word_prime n down) ≡ false → set_in sets (n - 1) ≡ 0 → CellsNeeded n t sets
  cells-needed prime none =
      record {
        size = passed.size;
        order = facts-ordered n t (table-ordered n t down passed);
        other = λ ok. sym (primes-distributive n t ok down passed.words) ∙ prime;
        no-set = none;
      }

  -- the test of bounds refuses a table whose types are held as sets
  pub bounds-refused : false ≡ all_found n (word_bound n down) → Err Bounds ≡ opened n t
  bounds-refused found = answer-found n t down passed false down passed.words false (sym found)

  -- the test of bounds accepts it
  pub sets-held : every n (word_prime n down) ≡ true → Sets up n down sets n → true ≡ all_found n (word_bound n down) → SetsHeld up n t sets
  sets-held prime made found =
      let ok : accepted n t ≡ true = opened-accepted n t _ (answer-found n t down passed false down passed.words true (sym found)) refl in
      record {
        ok = ok;
        spread = sym (primes-distributive n t ok down passed.words) ∙ prime;
        holding = λ cells. holding-sets n t ok down passed.words up (side_bound n t up) sets cells cells prime made refl;
      }
