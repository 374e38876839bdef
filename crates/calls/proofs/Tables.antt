-- The table's 1 to 3 are checked first: a refused table gives its refusal, and over an accepted table a call goes on.
use mathlib.Core.Path.{◌≡◌, sym, ◌∙◌, ap}
use mathlib.Core.List.{List}
use Prim.Native.Nat.{ℕ}
use Rattle.acceptance.specs.declared.TableFault.{TableFault}
use Rattle.acceptance.specs.Reply.{TableAnswer}
use Rattle.std.specs.Prelude.{Ok, Err}
use Rattle.acceptance.specs.Reply as table
use Rattle.record.specs.Read.{reading}
use Rattle.replies.specs.Replies.{Reply}
use Rattle.replies.specs.Replies.{Length, Table}
use Rattle.pairs.specs.Pair.{read_both}
use Rattle.orders.specs.Ordering.{ordered}
use Rattle.calls.specs.Calls.{checked, checking, ordering}

module _ {X : Type 0} (refuse : Reply → X) (next : X) {o : TableAnswer} where
  -- A refused table gives its refusal 1 to 3.
  pub table-refused : (fault : TableFault) → o ≡ Err fault → checked refuse o next ≡ refuse (Table fault)
  table-refused fault e = ap (λ p. checked refuse p next) e

  pub table-accepted : o ≡ Ok tt → checked refuse o next ≡ next
  table-accepted e = ap (λ p. checked refuse p next) e

-- The order of two records.
module _ (n : ℕ) (t a b : List ℕ) where
  pub ordering-refused : (fault : TableFault) → table.opened n t ≡ Err fault → Table fault ≡ ordering n t a b
  unfolding ordering
  ordering-refused fault e =
      sym (table-refused (λ r. r) (read_both (λ r. r) (reading n a) (reading n b) (ordered n t)) fault e)

  pub ordering-accepted : {r : Reply} → table.opened n t ≡ Ok tt →
      r ≡ read_both (λ r. r) (reading n a) (reading n b) (ordered n t) → r ≡ ordering n t a b
  unfolding ordering
  ordering-accepted e h =
      h ∙ sym (table-accepted (λ r. r) (read_both (λ r. r) (reading n a) (reading n b) (ordered n t)) e)

-- A table alone.
module _ (n : ℕ) (t : List ℕ) where
  pub checking-refused : (fault : TableFault) → table.opened n t ≡ Err fault → Table fault ≡ checking n t
  unfolding checking
  checking-refused fault e = sym (ap (λ (o : TableAnswer). checked (λ r. r) o (Length 0)) e)

  pub checking-accepted : table.opened n t ≡ Ok tt → Length 0 ≡ checking n t
  unfolding checking
  checking-accepted e = sym (ap (λ (o : TableAnswer). checked (λ r. r) o (Length 0)) e)
