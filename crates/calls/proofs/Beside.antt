-- The definition of an operation with a list or without one gives both calls: the call with a list of types for features, and the call without
-- one, for which the list is empty.
use mathlib.Core.Path.{◌≡◌, refl, ap, ap₂, subst}
use mathlib.Core.Bool.{Bool, true, false, cond}
use mathlib.Core.List.{List}
use mathlib.Core.Logic.{◌⊎◌, inl, inr}
use Prim.Native.Nat.{ℕ}
use borrow.Author.Tests.{eq-eqb}
use lib.ListN.{length}
use Rattle.graphs.specs.Rows.{Row}
use Rattle.lattice.specs.Label.{Label}
use Rattle.acceptance.specs.Reply as table
use Rattle.bounds.specs.Opening.{OpenedFor}
use Rattle.record.specs.Read.{Reading, reading}
use Rattle.record.specs.Appropriate.{list_accepted, reading_appropriate}
use Rattle.replies.specs.Replies.{Reply}
use Rattle.replies.specs.Replies.{TypeList}
use Rattle.replies.specs.Reply.{Result, refusing}
use Rattle.pairs.specs.Pair.{Optional, read_both, reading_beside}
use Rattle.pairs.proofs.Readings.{accepted-long, optional-none, reading-listed, reading-plain}
use Rattle.engine.specs.Rewriting.{rewritten}
use Rattle.engine.specs.Generalizing.{generalized}
use Rattle.engine.specs.Unifying.{unified_rows}
use Rattle.calls.specs.Calls.{checked, checked_list, rewriting, generalizing, unifying}
use Rattle.calls.specs.Appropriate.{rewriting_appropriate, generalizing_appropriate, unifying_appropriate}
use Rattle.calls.specs.Beside.{checked_beside, rewriting_beside, generalizing_beside, unifying_beside}
use Rattle.calls.proofs.Listed.{Checks}

-- A table that is opened for joins or meets is opened for an operation that takes them.
pub opened-as : {joins takes : Bool} → joins ≡ takes → {n : ℕ} {t sets : List ℕ} {cells : List (List ℕ)} → OpenedFor joins n t sets cells →
    OpenedFor takes n t sets cells
opened-as same {n} {t} {sets} {cells} = subst (λ (b : Bool). OpenedFor b n t sets cells) same

-- A list that passes the test is empty or accepted.
pub optional-passed : (n : ℕ) (listed : Bool) (list : List ℕ) → (listed ≡ false → length list ≡ 0) → cond listed (list_accepted n list) true ≡ true →
    Optional n list
optional-passed n true list none ok = λ _. ok
optional-passed n false list none ok = optional-none n list (none refl)

-- The test passes if there is an accepted list, or no list.
pub test-passed : (listed ok : Bool) → ((listed ≡ true) × (ok ≡ true)) ⊎ (listed ≡ false) → cond listed ok true ≡ true
test-passed listed ok (inl (is, accepts)) = ap₂ (λ (b o : Bool). cond b o true) is accepts
test-passed listed ok (inr none) = ap (λ (b : Bool). cond b ok true) none

-- The test fails if there is a list that is not accepted.
pub test-failed : (listed ok : Bool) → listed ≡ true → ok ≡ false → cond listed ok true ≡ false
test-failed listed ok is other = ap₂ (λ (b o : Bool). cond b o true) is other

-- The call checks the table's 1 to 3, then 17 if there is a list.
pub beside-checked : (n : ℕ) (t : List ℕ) (listed : Bool) (list out : List ℕ) (next : Result) →
    Checks n t (cond listed (list_accepted n list) true) TypeList out (checked_beside n t listed list out next) next
beside-checked n t listed list out next = record { is = refl }

-- What a call does next matters only if its list is accepted.
next-same : (n : ℕ) (t : List ℕ) (ok : Bool) (wrong : Reply) (out : List ℕ) {next other : Result} → (ok ≡ true → next ≡ other) →
    checked_list n t ok wrong out next ≡ checked_list n t ok wrong out other
next-same n t true wrong out same =
    ap (λ (r : Result). checked (λ q. refusing q out) (table.opened n t) r) (same refl)
next-same n t false wrong out same = refl

module _ (n : ℕ) (t list : List ℕ) where
  -- Without a list, the definition gives the plain call.
  module _ (none : length list ≡ 0) (out : List ℕ) where
    both-plain : (a b : List ℕ) (next : List (Row Label) → List (Row Label) → Result) →
        read_both (λ r. refusing r out) (reading_beside n t list a) (reading_beside n t list b) next ≡
        read_both (λ r. refusing r out) (reading n a) (reading n b) next
    both-plain a b next =
        let e = eq-eqb (length list) 0 none in
        ap₂ (λ (o p : Reading). read_both (λ r. refusing r out) o p next) (reading-plain n t list a e) (reading-plain n t list b e)

    pub rewriting-plain : (bytes : List ℕ) → rewriting_beside n t false list bytes out ≡ rewriting n t bytes out
    unfolding rewriting
    rewriting-plain bytes =
        ap (λ (o : Reading). checked (λ q. refusing q out) (table.opened n t) (rewritten o out))
        (reading-plain n t list bytes (eq-eqb (length list) 0 none))

    pub generalizing-plain : (a b : List ℕ) → generalizing_beside n t false list a b out ≡ generalizing n t a b out
    unfolding generalizing
    generalizing-plain a b =
        ap (λ (r : Result). checked (λ q. refusing q out) (table.opened n t) r) (both-plain a b (generalized n t out))

    pub unifying-plain : (a b : List ℕ) → unifying_beside n t false list a b out ≡ unifying n t a b out
    unfolding unifying
    unifying-plain a b =
        ap (λ (r : Result). checked (λ q. refusing q out) (table.opened n t) r) (both-plain a b (unified_rows n t out))

  -- With a list, the definition gives the call with a list.
  module _ (out : List ℕ) where
    both-listed : (a b : List ℕ) (next : List (Row Label) → List (Row Label) → Result) → list_accepted n list ≡ true →
        read_both (λ r. refusing r out) (reading_beside n t list a) (reading_beside n t list b) next ≡
        read_both (λ r. refusing r out) (reading_appropriate n t list a) (reading_appropriate n t list b) next
    both-listed a b next ok =
        let e = accepted-long n list ok in
        ap₂ (λ (o p : Reading). read_both (λ r. refusing r out) o p next) (reading-listed n t list a e) (reading-listed n t list b e)

    pub rewriting-listed : (bytes : List ℕ) → rewriting_beside n t true list bytes out ≡ rewriting_appropriate n t list bytes out
    unfolding rewriting_appropriate
    rewriting-listed bytes =
        next-same n t (list_accepted n list) TypeList out
        (λ ok. ap (λ (o : Reading). rewritten o out) (reading-listed n t list bytes (accepted-long n list ok)))

    pub generalizing-listed : (a b : List ℕ) → generalizing_beside n t true list a b out ≡ generalizing_appropriate n t list a b out
    unfolding generalizing_appropriate
    generalizing-listed a b = next-same n t (list_accepted n list) TypeList out (both-listed a b (generalized n t out))

    pub unifying-listed : (a b : List ℕ) → unifying_beside n t true list a b out ≡ unifying_appropriate n t list a b out
    unfolding unifying_appropriate
    unifying-listed a b = next-same n t (list_accepted n list) TypeList out (both-listed a b (unified_rows n t out))
