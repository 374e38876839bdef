-- How a gathering is begun: the table is checked, then n, the table and a length of 0 are stored.
use mathlib.Core.Path.{◌≡◌, sym, ◌∙◌, ap, ap₂}
use mathlib.Core.Bool.{Bool, true, false, cond}
use mathlib.Core.List.{List, [], ◌∷◌, ◌++◌}
use Prim.Native.Nat.{ℕ, ◌+◌, ◌*◌, ◌≤◌, ◌<◌}
use native.Mathlib.Omega.{arith}
use borrow.Author.Tests.{le-leb, lt-leb}
use lib.Dec.{leb}
use lib.ListN.{length, take, drop, set, length-set}
use lib.Seq.{take-length, take-suc-set, drop-set-lt, drop-drop, paste, take-paste, drop-paste}
use Rattle.acceptance.specs.declared.TableFault.{TableFault}
use Rattle.std.specs.Prelude.{Ok, Err}
use Rattle.acceptance.specs.Reply.{opened, TableAnswer}
use Rattle.lattice.proofs.Laws.{accepted-size}
use Rattle.acceptance.proofs.Acceptance.{opened-accepted}
use Rattle.replies.specs.Replies.{Length, Table, NoRoom}
use Rattle.replies.specs.Reply.{Result, resulting, refusing}
use Rattle.calls.specs.Calls.{checked}
use Rattle.gathering.specs.Gathering.{two_bytes, state_of, begun}

module _ (n : ℕ) (t : List ℕ) {answer : TableAnswer} (told : answer ≡ opened n t) where
  -- an accepted table has 8 × n bytes
  pub table-long : answer ≡ Ok tt → length t ≡ 8 * n
  table-long e = (accepted-size n t (opened-accepted n t answer told e)).2

  module _ (state : List ℕ) where
    abbrev begins : Bool → Result
    begins room = cond room (resulting (Length (3 + 8 * n)) (state_of n t [] (drop (3 + 8 * n) state))) (refusing NoRoom state)

    begun-checked : begun n t state ≡ checked (λ r. refusing r state) answer (begins (leb (1 + 8 * n + 2 + 4854) (length state)))
    unfolding begun
    begun-checked = ap (λ (o : TableAnswer). checked (λ r. refusing r state) o (begins (leb (1 + 8 * n + 2 + 4854) (length state)))) (sym told)

    pub begun-refused : (fault : TableFault) → answer ≡ Err fault → resulting (Table fault) state ≡ begun n t state
    begun-refused fault e =
        sym (begun-checked ∙ ap (λ (o : TableAnswer). checked (λ r. refusing r state) o (begins (leb (1 + 8 * n + 2 + 4854) (length state)))) e)

    begun-accepted : answer ≡ Ok tt → (b : Bool) → leb (1 + 8 * n + 2 + 4854) (length state) ≡ b → begins b ≡ begun n t state
    begun-accepted e b q =
        sym (begun-checked ∙ ap₂ (λ (o : TableAnswer) (c : Bool). checked (λ r. refusing r state) o (begins c)) e q)

    pub begun-short : answer ≡ Ok tt → length state < 1 + 8 * n + 2 + 4854 → resulting NoRoom state ≡ begun n t state
    begun-short e h = begun-accepted e false (lt-leb (1 + 8 * n + 2 + 4854) (length state) h)

    -- n, the table and a length of 0 are stored.
    module _ (accepts : answer ≡ Ok tt) (room : 1 + 8 * n + 2 + 4854 ≤ length state) where
      abbrev one : List ℕ
      one = set state 0 n

      pub table_fits : 1 + length t ≤ length one
      table_fits = omega (arith, room, table-long accepts, length-set state 0 n)

      stored : (two : List ℕ) → two ≡ paste one 1 t (length t) →
          take (1 + 8 * n) two ++ (two_bytes 0 ++ drop (1 + 8 * n + 2) two) ≡ state_of n t [] (drop (3 + 8 * n) state)
      unfolding state_of
      stored two is =
          let long : length t ≡ 8 * n = table-long accepts in
          let width : 1 + 8 * n ≡ 1 + length t = omega (arith, long) in
          let inside : 1 ≤ length one = omega (arith, table_fits) in
          let head : take (1 + 8 * n) two ≡ n ∷ t =
          ap₂ take width is ∙ take-paste one 1 t (length t) inside (omega arith) ∙
          ap₂ (λ (x y : List ℕ). x ++ y) (take-suc-set state 0 n (omega (arith, room))) (take-length t) in
          let behind : 1 + length t + 2 ≡ 3 + 8 * n = omega (arith, long) in
          let tail : drop (1 + 8 * n + 2) two ≡ drop (3 + 8 * n) state =
          sym (drop-drop 2 (1 + 8 * n) two) ∙ ap (drop 2) (ap₂ drop width is ∙ drop-paste one 1 t (length t) inside (omega arith)) ∙
          drop-drop 2 (1 + length t) one ∙ ap (λ (k : ℕ). drop k one) behind ∙ drop-set-lt (3 + 8 * n) state 0 n (omega arith) in
          ap₂ (λ (x y : List ℕ). x ++ (two_bytes 0 ++ y)) head tail

      pub begun-stored : {two three : List ℕ} → two ≡ paste one 1 t (length t) →
          three ≡ take (1 + 8 * n) two ++ (two_bytes 0 ++ drop (1 + 8 * n + 2) two) → resulting (Length (3 + 8 * n)) three ≡ begun n t state
      begun-stored {two} is next =
          ap (resulting (Length (3 + 8 * n))) (next ∙ stored two is) ∙
          begun-accepted accepts true (le-leb (1 + 8 * n + 2 + 4854) (length state) room)
