-- Paper 4: gathering while the session is open. There is one theorem for each sentence, about the definitions that the calls are proved equal to;
-- `Theorems`, `Exact` and `Begun` have the proofs. n and t are the table, buffer is what is lent for the gathering, out is an output, cs are any
-- calls.
use mathlib.Core.Path.{◌≡◌, refl}
use mathlib.Core.List.{List, [], ◌∷◌, ◌++◌, Memᴰ}
use mathlib.Core.Logic.{◌↔◌, ◌⊎◌}
use mathlib.Core.Option.{Option, none, some}
use Prim.Native.Nat.{ℕ, ◌+◌, ◌*◌, ◌≤◌}
use lib.ListN.{length, drop}
use Rattle.graphs.specs.Rows.{Row}
use Rattle.lattice.specs.Label.{Label}
use Rattle.acceptance.specs.declared.TableFault.{TableFault}
use Rattle.std.specs.Prelude.{Err}
use Rattle.acceptance.specs.Reply.{opened}
use Rattle.encode.specs.Encode.{fitted}
use Rattle.record.specs.declared.GraphFault.{GraphFault}
use Rattle.record.specs.Read.{reading, accepted, refused, graph_of_rows}
use Rattle.replies.specs.declared.Side.TheVariants.{First}
use Rattle.replies.specs.Replies.{Reply}
use Rattle.replies.specs.Replies.{Length, Table, Graph, NoRoom, TooLarge, NothingGathered}
use Rattle.replies.specs.Reply.{refusing, result_of, refusal}
use Rattle.calls.specs.Calls.{rewriting, ordering}
use Rattle.demands.specs.Demand.{WrittenRecord, RecordOf, Large, common}
use Rattle.gathering.specs.Gathering.{two_bytes, begun, types_in, table_in, head_in, room_in, gathered_in, adding, comparing, finishing}
use Rattle.gathered.specs.Calls.{Call, order, finish, called, state_after, additions, alone, folded}
use Rattle.gathered.specs.Theorem.{Holds, LeastAbove}
use Rattle.gathered.specs.Due.{NewPart, BeginDue, AddDue, AddedDue, OrderDue, FinishDue, FinishedDue, Folds}
use Rattle.gathered.proofs.Theorems as Theorems
use Rattle.gathered.proofs.Exact as Exact
use Rattle.gathered.proofs.Begun as Begun

-- "the pane may put a program beside the unfinished gathering and learn its order .. this changes nothing in the gathering": this holds on any
-- bytes.
pub order-unchanged : (state bytes : List ℕ) → (called state (order bytes)).output ≡ state
order-unchanged state bytes = refl

-- "A refused addition changes nothing either": this holds on any bytes.
pub addition-unchanged : (state bytes : List ℕ) (k : ℕ) → refusal (adding state bytes).reply ≡ some k → (adding state bytes).output ≡ state
addition-unchanged = Theorems.refused-unchanged

-- "Finishing .. leaves the gathering open": this holds on any bytes. A refused finish leaves the output as it was.
pub finish-open : (state out : List ℕ) → (called state (finish out)).output ≡ state
finish-open state out = refl

pub finish-refused : (state out : List ℕ) (k : ℕ) → refusal (finishing state out).reply ≡ some k → (finishing state out).output ≡ out
finish-refused = Theorems.finish-unchanged

-- Each reply is given exactly where it is due, whatever the bytes of the state: `AddDue`, `OrderDue` and `FinishDue` say where each reply is
-- due, and their cases stand in the order of the checks.

-- An addition checks the table's 1 to 3, the program's 4 to 7 as the first graph, the 4 to 7 of what is gathered as the second, then 11 and 8.
pub add-exact : (state bytes : List ℕ) (r : Reply) →
    ((adding state bytes).reply ≡ r) ↔ AddDue (types_in state) (table_in state) (gathered_in state) bytes (length (room_in state)) r
add-exact = Exact.add-exact

-- An addition that is answered by a length leaves n and the table, the length, the record of the new common part, and the other bytes as they
-- were.
pub add-leaves : (state bytes : List ℕ) (l : ℕ) → (adding state bytes).reply ≡ Length l →
    (new : List ℕ) × NewPart (types_in state) (table_in state) (gathered_in state) bytes new × (length new ≡ l) ×
    ((adding state bytes).output ≡ head_in state ++ (two_bytes l ++ (new ++ drop l (room_in state))))
add-leaves = Exact.add-leaves

-- "learn its order, as first graph, to the common part of those added so far": an order checks the table's 1 to 3 and the program's 4 to 7, then
-- 16, then the 4 to 7 of what is gathered as the second graph; then it is one of the four answers.
pub order-exact : (state bytes : List ℕ) (r : Reply) →
    (comparing state bytes ≡ r) ↔ OrderDue (types_in state) (table_in state) (gathered_in state) bytes r
order-exact = Exact.order-exact

-- A finish checks the table's 1 to 3, then 16, the 4 to 7 of what is gathered as the second graph, and 8.
pub finish-exact : (state out : List ℕ) (r : Reply) →
    ((finishing state out).reply ≡ r) ↔ FinishDue (types_in state) (table_in state) (gathered_in state) (length out) r
finish-exact = Exact.finish-exact

-- A finish that is answered by a length writes the record of what is gathered, and the other bytes stay as they were.
pub finish-leaves : (state out : List ℕ) (l : ℕ) → (finishing state out).reply ≡ Length l →
    (part : List ℕ) × (rows : List (Row Label)) × (new : List ℕ) × (gathered_in state ≡ some part) × (reading (types_in state) part ≡ accepted rows) ×
    RecordOf (types_in state) (table_in state) (graph_of_rows rows) new × (length new ≡ l) × ((finishing state out).output ≡ new ++ drop l out)
finish-leaves = Exact.finish-leaves

module _ (n : ℕ) (t buffer : List ℕ) where
  -- "A gathering is begun with one accepted table": 1 to 3 of the table, then 8 where fewer bytes are lent than n, the table, a length and the
  -- longest record take, and else the used length. Each is given exactly there.
  pub begin-exact : (r : Reply) → ((begun n t buffer).reply ≡ r) ↔ BeginDue n t (length buffer) r
  begin-exact = Exact.begin-exact n t buffer

  -- A begin that is answered by a length leaves n, the table, a length of 0, and the other bytes as they were.
  pub begin-leaves : (l : ℕ) → (begun n t buffer).reply ≡ Length l → (l ≡ 3 + 8 * n) ×
      ((begun n t buffer).output ≡ n ∷ (t ++ (0 ∷ 0 ∷ drop l buffer))) × (length (begun n t buffer).output ≡ length buffer)
  begin-leaves = Exact.begin-leaves n t buffer

  -- "A gathering is begun with one accepted table": 1 to 3 come first.
  pub begun-table : (fault : TableFault) → opened n t ≡ Err fault → begun n t buffer ≡ refusing (Table fault) buffer
  unfolding begun
  begun-table fault e = rw e

  -- A refused begin leaves what is lent as it was. 5,369 bytes are enough for every table.
  pub begun-refused : (k : ℕ) → refusal (begun n t buffer).reply ≡ some k → (begun n t buffer).output ≡ buffer
  begun-refused = Theorems.begin-unchanged n t buffer

  pub begun-enough : 5369 ≤ length buffer → (begun n t buffer).reply ≡ NoRoom → ⊥
  begun-enough = Theorems.begin-enough n t buffer

  -- The theorems on a gathering that was begun, after any calls on it.
  module _ (l : ℕ) (begins : (begun n t buffer).reply ≡ (Length l)) (cs : List Call) where
    abbrev start : List ℕ
    start = (begun n t buffer).output

    abbrev state : List ℕ
    state = state_after start cs

    abbrev programs : List (List ℕ)
    programs = additions start cs

    holds : Holds n t start none
    holds = Theorems.begun-holds n t buffer l begins

    -- "The state after any such mixture is what the accepted additions alone .. give", byte for byte. Made alone, all of them are accepted again.
    pub mixture-alone : state_after start cs ≡ state_after start (alone (additions start cs))
    mixture-alone = Theorems.mixture cs start

    pub mixture-accepted : additions start (alone (additions start cs)) ≡ additions start cs
    mixture-accepted = Theorems.alone-accepted cs start

    -- "folded in their order": the state holds the fold of the accepted additions. The gathering "keeps" its table and "can hold the longest
    -- record".
    pub mixture-folded : Holds n t (state_after start cs) (folded n t none (additions start cs))
    mixture-folded = Theorems.calls-hold n t cs start none holds

    -- The fold is that of common parts: the state holds `last` exactly where `last` is made from the accepted additions by one new common part
    -- after the other.
    pub mixture-folds : (last : Option (List ℕ)) → Holds n t (state_after start cs) last ↔ Folds n t none (additions start cs) last
    mixture-folds = Begun.calls-fold-exact n t cs start none holds

    -- "so an addition is refused by 4 to 7 or 11 alone": each reply is given exactly where it is due, the program's 4 to 7, 11, or the length of
    -- the new common part's record.
    pub added-exact : (bytes : List ℕ) (r : Reply) → ((adding (state_after start cs) bytes).reply ≡ r) ↔ AddedDue n t (folded n t none (additions start cs)) bytes r
    added-exact = Begun.added-exact n t state (folded n t none programs) mixture-folded

    -- The same, number by number: 4 to 7 exactly where reading the program gives them.
    pub added-program : (bytes : List ℕ) (fault : GraphFault) → ((adding (state_after start cs) bytes).reply ≡ Graph fault First) ↔ (reading n bytes ≡ refused fault)
    added-program = Begun.added-program n t state (folded n t none programs) mixture-folded

    -- 11 exactly where the common part of the program and what is gathered is too large.
    pub added-too-large : (bytes : List ℕ) → ((adding (state_after start cs) bytes).reply ≡ TooLarge) ↔
        ((part : List ℕ) × (rows : List (Row Label)) × (others : List (Row Label)) × (folded n t none (additions start cs) ≡ some part) ×
        (reading n bytes ≡ accepted rows) × (reading n part ≡ accepted others) × Large (common n t rows others))
    added-too-large = Begun.added-too-large n t state (folded n t none programs) mixture-folded

    -- A length exactly where there is a new common part of that length.
    pub added-length : (bytes : List ℕ) (l : ℕ) → ((adding (state_after start cs) bytes).reply ≡ Length l) ↔
        ((new : List ℕ) × NewPart n t (folded n t none (additions start cs)) bytes new × (length new ≡ l))
    added-length = Begun.added-length n t state (folded n t none programs) mixture-folded

    -- The order, and 4 to 7 of the program for it, exactly where they are due.
    pub ordered-exact : (bytes : List ℕ) (r : Reply) → (comparing (state_after start cs) bytes ≡ r) ↔ OrderDue n t (folded n t none (additions start cs)) bytes r
    ordered-exact = Begun.ordered-exact n t state (folded n t none programs) mixture-folded

    pub ordered-program : (bytes : List ℕ) (fault : GraphFault) → (comparing (state_after start cs) bytes ≡ Graph fault First) ↔ (reading n bytes ≡ refused fault)
    ordered-program = Begun.ordered-program n t state (folded n t none programs) mixture-folded

    -- A finish answers 16 where nothing is gathered, 8 where the output is shorter than the record that is gathered, and else its length, each
    -- exactly there.
    pub finished-exact : (out : List ℕ) (r : Reply) → ((finishing (state_after start cs) out).reply ≡ r) ↔ FinishedDue (folded n t none (additions start cs)) (length out) r
    finished-exact = Begun.finished-exact n t state (folded n t none programs) mixture-folded

    -- "Finishing writes the common part": what is written beside a length is a written record, and it is the fold of the accepted additions.
    pub finished-leaves : (out : List ℕ) (l : ℕ) → (finishing (state_after start cs) out).reply ≡ Length l →
        (part : List ℕ) × (folded n t none (additions start cs) ≡ some part) × WrittenRecord n part × (length part ≡ l) ×
        ((finishing (state_after start cs) out).output ≡ part ++ drop l out)
    finished-leaves = Begun.finished-leaves n t state (folded n t none programs) mixture-folded

    -- "so an addition is refused by 4 to 7 or 11 alone"
    pub addition-refused : (bytes : List ℕ) (k : ℕ) → refusal (adding state bytes).reply ≡ some k → ((4 ≤ k) × (k ≤ 7)) ⊎ (k ≡ 11)
    addition-refused = Theorems.addition-numbers n t state (folded n t none programs) mixture-folded

    -- "Order or finish before the first addition is 16, checked after the graph's 4 to 7 and before 8": 16 is given exactly before the first
    -- accepted addition.
    pub order-before-first : (bytes : List ℕ) → (comparing (state_after start cs) bytes ≡ NothingGathered) ↔
        ((additions start cs ≡ []) × ((rows : List (Row Label)) × (reading n bytes ≡ accepted rows)))
    order-before-first = Theorems.order-before n t cs start holds

    pub finish-before-first : (out : List ℕ) → ((finishing (state_after start cs) out).reply ≡ NothingGathered) ↔ (additions start cs ≡ [])
    finish-before-first = Theorems.finish-before n t cs start holds

    -- An order is refused only by 4 to 7 and 16, and a finish only by 16 and 8.
    pub order-refusals : (bytes : List ℕ) (k : ℕ) → refusal (comparing state bytes) ≡ some k → ((4 ≤ k) × (k ≤ 7)) ⊎ (k ≡ 16)
    order-refusals = Theorems.order-numbers n t state (folded n t none programs) mixture-folded

    pub finish-refusals : (out : List ℕ) (k : ℕ) → refusal (finishing state out).reply ≡ some k → (k ≡ 16) ⊎ (k ≡ 8)
    finish-refusals = Theorems.finish-numbers n t state (folded n t none programs) mixture-folded

    -- "Finishing writes the common part": finishing writes the record of the least graph of any size above all accepted additions, or answers 8.
    -- The order of a program is told, "as first graph, to the common part of those added so far".
    pub finish-writes-least : (additions start cs ≡ [] → ⊥) →
        (part : List ℕ) × LeastAbove n t (additions start cs) part ×
        ((out : List ℕ) → finishing (state_after start cs) out ≡ result_of (fitted part out)) ×
        ((bytes : List ℕ) → comparing (state_after start cs) bytes ≡ ordering n t bytes part)
    finish-writes-least = Theorems.finish-least n t cs start holds

    -- After one accepted addition, finishing gives what rewriting that program gives.
    pub finish-writes-one : (p : List ℕ) → additions start cs ≡ p ∷ [] →
        (out : List ℕ) → finishing (state_after start cs) out ≡ rewriting n t p out
    finish-writes-one = Theorems.finish-one n t cs start holds

    -- Two gatherings over the table that accept the same programs, in whatever orders, gather the same record.
    pub two-orders-one : (other : List ℕ) (m : ℕ) → (begun n t other).reply ≡ (Length m) → (ds : List Call) →
        ((p : List ℕ) → Memᴰ p (additions start cs) ↔ Memᴰ p (additions (begun n t other).output ds)) →
        folded n t none (additions start cs) ≡ folded n t none (additions (begun n t other).output ds)
    two-orders-one other m begins' ds same =
        Theorems.two-orders n t cs ds start (begun n t other).output holds (Theorems.begun-holds n t other m begins') same
