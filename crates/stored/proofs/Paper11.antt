-- Paper 11: a patient's versions in one buffer. There is one theorem for each sentence, about the definitions that the calls are proved equal to:
-- `putting` is put, `dropping` is drop, `fetching` is read. The files beside this one have the proofs. n and t are the table, ps and qs are
-- programs by their version numbers, out is an output, cs are any calls in turn. No theorem says that a drop cannot be refused, or that fewer
-- programs need less room.
use mathlib.Core.Path.{◌≡◌, refl}
use mathlib.Core.Bool.{true}
use mathlib.Core.List.{List, ◌++◌}
use mathlib.Core.Logic.{◌≢◌, ◌↔◌, ◌⊎◌}
use mathlib.Core.Option.{Option, none, some}
use Prim.Native.Nat.{ℕ, ◌≤◌, ◌<◌}
use lib.ListN.{length, get_or, set, take, drop}
use Rattle.graphs.specs.Graph.{SameMeaning}
use Rattle.graphs.specs.Rows.{Row}
use Rattle.lattice.specs.Label.{Label}
use Rattle.lattice.specs.Labels.{table_labels}
use Rattle.lattice.specs.Table.{admits}
use Rattle.acceptance.specs.declared.TableFault.{TableFault}
use Rattle.std.specs.Prelude.{Ok, Err}
use Rattle.acceptance.specs.Reply.{opened}
use Rattle.encode.specs.Encode.{fitted}
use Rattle.record.specs.declared.GraphFault.{GraphFault}
use Rattle.record.specs.declared.GraphFault.TheVariants.{Malformed}
use Rattle.record.specs.Read.{refused, accepted, reading, graph_of_rows}
use Rattle.replies.specs.declared.Side.TheVariants.{First, Second}
use Rattle.replies.specs.Replies.{Reply}
use Rattle.replies.specs.Replies.{Length, Table, Graph, NoRoom, TooLarge, NoWantedType, WrongVersion, NoStoreRoom}
use Rattle.replies.specs.Reply.{refusing, result_of, refusal}
use Rattle.calls.specs.Calls.{rewriting}
use Rattle.versions.specs.State.{made, stopped, Programs, no_programs, empty_state, state_of, differences, way, held}
use Rattle.contents.specs.Contents.{written_record}
use Rattle.store.specs.Calls.{putting, dropping, fetching}
use Rattle.stored.specs.Turns.{Call, fetch, called, buffer_after, replies, programs_after, puts_from, Drops, Keeps}
use Rattle.stored.specs.Theorem.{
  Versions,
  Holds,
  HoldsNone,
  Passed,
  Met,
  PutChecked,
  VersionChecked,
  Changed,
  Alike,
  PutDue,
  DropDue,
  ReadDue,
}
use Rattle.stored.proofs.Way as Way
use Rattle.stored.proofs.Held as Held
use Rattle.stored.proofs.Stops as Stops
use Rattle.stored.proofs.Calls as Calls
use Rattle.stored.proofs.Puts as Puts
use Rattle.stored.proofs.Exact as Exact
use Rattle.stored.proofs.Numbers as Numbers
use Rattle.stored.proofs.Theorems as Theorems
use Rattle.stored.proofs.Longer as Longer

-- What a buffer holds.

-- "a map of 16 bits .. saying which exist, then the length and record of their common part, then the length and difference of each version that
-- exists": the used bytes of a buffer that holds programs.
pub used-bytes : (n : ℕ) (t buffer : List ℕ) (ps : Programs) (holds : Holds n t buffer ps) →
    ((ps ≡ no_programs) × (holds.state ≡ empty_state)) ⊎
    ((part : List ℕ) × (ds : List ℕ) × Passed n t (length buffer) ps (some part) holds.state × (differences n t part ps ≡ made ds) ×
    (holds.state ≡ state_of ps part ds))
used-bytes n t buffer ps holds = Way.state-bytes n t (length buffer) ps holds.versions holds.state holds.reached

-- "Each step of that way stores the common part of its programs, folded in version order, and every program's difference from it": the way ends
-- in a state exactly where such steps lead past all versions to that state.
pub way-steps : (n : ℕ) (t : List ℕ) (room : ℕ) (ps : Programs) (s : List ℕ) →
    (way n t room ps ≡ made s) ↔ ((part : Option (List ℕ)) × Passed n t room ps part s)
way-steps = Way.way-passes

module _ (n : ℕ) (t : List ℕ) (opens : opened n t ≡ Ok tt) where
  -- A buffer holds programs exactly where their way in its length ends in its first bytes: `held` decides this.
  pub held-exact : (buffer : List ℕ) (ps : Programs) → (held n t buffer ≡ some ps) ↔ Holds n t buffer ps
  held-exact = Held.held-exact n t opens

  -- A buffer holds at most one list of programs.
  pub held_one : (buffer : List ℕ) (ps qs : Programs) → Holds n t buffer ps → Holds n t buffer qs → ps ≡ qs
  held_one = Theorems.holds-one n t opens

  -- No two lists of programs have one state, in rooms of whatever length.
  pub one_state : (room other : ℕ) (ps qs : Programs) → Versions n ps → Versions n qs → (s : List ℕ) → way n t room ps ≡ made s → way n t other qs ≡ made s →
      ps ≡ qs
  one_state = Way.one_state n t opens

  -- A state that is reached restores its programs: every buffer of that length that begins with the state holds exactly these programs.
  pub state-restores : (room : ℕ) (ps : Programs) → Versions n ps → (s : List ℕ) → way n t room ps ≡ made s → (rest : List ℕ) → length (s ++ rest) ≡ room →
      room ≤ 16384 → held n t (s ++ rest) ≡ some ps
  state-restores = Way.reached-held n t opens

  -- "An empty store is two zero bytes", with anything behind them.
  pub empty-store : (buffer : List ℕ) → (held n t buffer ≡ some no_programs) ↔ ((rest : List ℕ) × (buffer ≡ empty_state ++ rest) × (length rest ≤ 16382))
  empty-store = Theorems.empty-exact n t opens

-- Single calls.

module _ (n : ℕ) (t buffer : List ℕ) (version : ℕ) where
  -- "Put names a version number from 0 to 15 that is absent": a put that is answered by a length passed its checks, and the buffer then holds the
  -- program's written record under that number, beside the other programs. "Put and drop return the used length": the reply is that length. The
  -- bytes past the used ones stay.
  pub put-adds : (bytes : List ℕ) (l : ℕ) → (putting n t buffer version bytes).reply ≡ Length l →
      (ps : Programs) × (rows : List (Row Label)) × PutChecked n t buffer version bytes ps rows ×
      Changed n t buffer l (putting n t buffer version bytes).output (set ps version (some (written_record rows)))
  put-adds = Theorems.put-changes n t buffer version

  -- "drop removes the one named": a drop that is answered by a length passed its checks, and the buffer then holds the other programs.
  pub drop-removes : (l : ℕ) → (dropping n t buffer version).reply ≡ Length l →
      (ps : Programs) × (p : List ℕ) × VersionChecked n t buffer version ps p ×
      Changed n t buffer l (dropping n t buffer version).output (set ps version none)
  drop-removes = Theorems.drop-changes n t buffer version

  -- "read gives back the written record that was put": straight after the put, a read gives the reply and the output that rewriting the program
  -- gives.
  pub read-put : (bytes : List ℕ) (l : ℕ) → (putting n t buffer version bytes).reply ≡ Length l → (out : List ℕ) →
      fetching n t (putting n t buffer version bytes).output version out ≡ rewriting n t bytes out
  read-put = Theorems.read-put n t buffer version

  -- Straight after a drop, a read of the version gives 20. After a put or a drop, every other version is read as before it.
  pub read_dropped : (l : ℕ) → (dropping n t buffer version).reply ≡ Length l → (out : List ℕ) →
      fetching n t (dropping n t buffer version).output version out ≡ refusing WrongVersion out
  read_dropped = Theorems.drop-removes n t buffer version

  pub put-others : (bytes : List ℕ) (l : ℕ) → (putting n t buffer version bytes).reply ≡ Length l → (other : ℕ) → other ≢ version → (out : List ℕ) →
      fetching n t (putting n t buffer version bytes).output other out ≡ fetching n t buffer other out
  put-others = Theorems.put-others n t buffer version

  pub drop-others : (l : ℕ) → (dropping n t buffer version).reply ≡ Length l → (other : ℕ) → other ≢ version → (out : List ℕ) →
      fetching n t (dropping n t buffer version).output other out ≡ fetching n t buffer other out
  drop-others = Theorems.drop-others n t buffer version

  -- A read of a version that the buffer holds writes its record, or gives 8 where the output is shorter.
  pub read_held : (out : List ℕ) (ps : Programs) (p : List ℕ) → VersionChecked n t buffer version ps p →
      fetching n t buffer version out ≡ result_of (fitted p out)
  read_held = Exact.read_goes n t buffer version

  -- A read leaves the buffer as it was.
  pub read-leaves : (out : List ℕ) → (called n t buffer (fetch version out)).output ≡ buffer
  read-leaves out = refl

-- "With one table and nobody else writing the buffer": these theorems are on calls in turn, from an empty store on. `rest` stands behind its two
-- zero bytes.

module _ (n : ℕ) (t : List ℕ) (opens : opened n t ≡ Ok tt) (rest : List ℕ) (short : length rest ≤ 16382) where
  abbrev start : List ℕ
  start = empty_state ++ rest

  -- The way of programs is "an empty store into which the remaining programs were put in version order under their numbers": the puts give the
  -- same used bytes, or the same first number.
  pub way-by-puts : (ps : Programs) → Versions n ps → puts_from n t (empty_state ++ rest) empty_state 0 ps ≡ way n t (length (empty_state ++ rest)) ps
  way-by-puts = Puts.way-by-puts n t opens rest short

  module _ (cs : List Call) where
    -- "after any calls" the buffer holds the remaining programs.
    pub calls-hold : held n t (buffer_after n t (empty_state ++ rest) cs) ≡ some (programs_after n t (empty_state ++ rest) no_programs cs)
    calls-hold = Calls.store-holds n t opens rest short cs

    -- The remaining programs are those that were put and not dropped.
    pub calls-keep : (version : ℕ) (p : List ℕ) → (get_or (programs_after n t (empty_state ++ rest) no_programs cs) version none ≡ some p) ↔
        ((bytes : List ℕ) × (rows : List (Row Label)) × Keeps n t version bytes (empty_state ++ rest) cs × (reading n bytes ≡ accepted rows) × (p ≡ written_record rows))
    calls-keep = Theorems.put-and-kept n t opens rest short cs

    -- "the used bytes are those of an empty store into which the remaining programs were put in version order under their numbers, so dropped
    -- room serves again": this holds for every empty store of that length.
    pub used-by-puts : (s : List ℕ) ×
        ((other : List ℕ) → length other ≡ length rest →
        puts_from n t (empty_state ++ other) empty_state 0 (programs_after n t (empty_state ++ rest) no_programs cs) ≡ made s) ×
        (buffer_after n t (empty_state ++ rest) cs ≡ s ++ drop (length s) (buffer_after n t (empty_state ++ rest) cs))
    used-by-puts = Theorems.used-by-puts n t opens rest short cs

    -- No program opens as another: if no call since the put has dropped the version, a read gives the written record of the program that was put
    -- under the version, with the reply and output of rewriting that program.
    pub no-program-opens-as-another : (version : ℕ) (bytes : List ℕ) → Keeps n t version bytes (empty_state ++ rest) cs → (out : List ℕ) →
        fetching n t (buffer_after n t (empty_state ++ rest) cs) version out ≡ rewriting n t bytes out
    no-program-opens-as-another = Theorems.read_kept n t opens start no_programs (Held.empty-held n t rest short) cs

    -- Two versions are read as equal bytes exactly when the programs that were put mean the same: equal paths, types, ranges and sharing.
    pub equal-bytes-equal-meaning : (v w : ℕ) (a b : List ℕ) → Keeps n t v a (empty_state ++ rest) cs → Keeps n t w b (empty_state ++ rest) cs →
        (s g : List (Row Label)) → reading n a ≡ accepted s → reading n b ≡ accepted g → (out : List ℕ) (l m : ℕ) →
        (fetching n t (buffer_after n t (empty_state ++ rest) cs) v out).reply ≡ Length l →
        (fetching n t (buffer_after n t (empty_state ++ rest) cs) w out).reply ≡ Length m →
        SameMeaning (table_labels n t) (graph_of_rows s) (graph_of_rows g) ↔
        (take l (fetching n t (buffer_after n t (empty_state ++ rest) cs) v out).output ≡ take m (fetching n t (buffer_after n t (empty_state ++ rest) cs) w out).output)
    equal-bytes-equal-meaning = Theorems.read-meaning n t opens start no_programs (Held.empty-held n t rest short) cs

    -- Two versions are read with equal reply and output, whatever output is lent, exactly when the programs that were put mean the same.
    pub equal-reads-equal-meaning : (v w : ℕ) (a b : List ℕ) → Keeps n t v a (empty_state ++ rest) cs → Keeps n t w b (empty_state ++ rest) cs →
        (s g : List (Row Label)) → reading n a ≡ accepted s → reading n b ≡ accepted g →
        SameMeaning (table_labels n t) (graph_of_rows s) (graph_of_rows g) ↔
        ((out : List ℕ) → fetching n t (buffer_after n t (empty_state ++ rest) cs) v out ≡ fetching n t (buffer_after n t (empty_state ++ rest) cs) w out)
    equal-reads-equal-meaning = Theorems.read_same n t opens start no_programs (Held.empty-held n t rest short) cs

    -- A read is refused by 20 exactly where no program was put under the version, or the version was dropped since.
    pub read-not-kept : (version : ℕ) (out : List ℕ) → ((fetching n t (buffer_after n t (empty_state ++ rest) cs) version out).reply ≡ WrongVersion) ↔
        ((bytes : List ℕ) → Keeps n t version bytes (empty_state ++ rest) cs → ⊥)
    read-not-kept = Theorems.read-unkept n t opens rest short cs

-- The same theorems on calls in turn from any buffer that holds programs, such as one that was kept since earlier calls: ps are the programs
-- that the buffer holds before the calls.

module _ (n : ℕ) (t : List ℕ) (opens : opened n t ≡ Ok tt) (buffer : List ℕ) (ps : Programs) (holds : Holds n t buffer ps) (cs : List Call) where
  -- "after any calls" the buffer has the same length and holds the remaining programs.
  pub calls-hold-from : (length (buffer_after n t buffer cs) ≡ length buffer) × Holds n t (buffer_after n t buffer cs) (programs_after n t buffer ps cs)
  calls-hold-from = Calls.calls-hold n t opens cs buffer ps holds

  -- The remaining programs are those that were put and not dropped since, and those that were there before and were not dropped.
  pub calls-keep-from : (version : ℕ) (p : List ℕ) → (get_or (programs_after n t buffer ps cs) version none ≡ some p) ↔
      (((bytes : List ℕ) × (rows : List (Row Label)) × Keeps n t version bytes buffer cs × (reading n bytes ≡ accepted rows) × (p ≡ written_record rows)) ⊎
      ((get_or ps version none ≡ some p) × (Drops n t version buffer cs → ⊥)))
  calls-keep-from = Longer.kept-exact n t opens buffer ps holds cs

  -- "the used bytes are those of an empty store into which the remaining programs were put in version order under their numbers"
  pub used-by-puts-from : (s : List ℕ) ×
      ((rest : List ℕ) → length (empty_state ++ rest) ≡ length buffer →
      puts_from n t (empty_state ++ rest) empty_state 0 (programs_after n t buffer ps cs) ≡ made s) ×
      (buffer_after n t buffer cs ≡ s ++ drop (length s) (buffer_after n t buffer cs))
  used-by-puts-from = Longer.used-by-puts n t opens buffer ps holds cs

  -- No program opens as another: a program that was put and not dropped since is read as rewriting gives it, and a version that was there before
  -- and was not dropped is read as before the calls.
  pub no-program-opens-as-another-from : (version : ℕ) (bytes : List ℕ) → Keeps n t version bytes buffer cs → (out : List ℕ) →
      fetching n t (buffer_after n t buffer cs) version out ≡ rewriting n t bytes out
  no-program-opens-as-another-from = Theorems.read_kept n t opens buffer ps holds cs

  pub reads-stay : (version : ℕ) (p : List ℕ) → get_or ps version none ≡ some p → (Drops n t version buffer cs → ⊥) → (out : List ℕ) →
      fetching n t (buffer_after n t buffer cs) version out ≡ fetching n t buffer version out
  reads-stay = Longer.read_stays n t opens buffer ps holds cs

  -- Two versions are read as equal bytes, and with equal reply and output, exactly when the programs that were put mean the same.
  pub equal-bytes-equal-meaning-from : (v w : ℕ) (a b : List ℕ) → Keeps n t v a buffer cs → Keeps n t w b buffer cs →
      (s g : List (Row Label)) → reading n a ≡ accepted s → reading n b ≡ accepted g → (out : List ℕ) (l m : ℕ) →
      (fetching n t (buffer_after n t buffer cs) v out).reply ≡ Length l → (fetching n t (buffer_after n t buffer cs) w out).reply ≡ Length m →
      SameMeaning (table_labels n t) (graph_of_rows s) (graph_of_rows g) ↔
      (take l (fetching n t (buffer_after n t buffer cs) v out).output ≡ take m (fetching n t (buffer_after n t buffer cs) w out).output)
  equal-bytes-equal-meaning-from = Theorems.read-meaning n t opens buffer ps holds cs

  pub equal-reads-equal-meaning-from : (v w : ℕ) (a b : List ℕ) → Keeps n t v a buffer cs → Keeps n t w b buffer cs →
      (s g : List (Row Label)) → reading n a ≡ accepted s → reading n b ≡ accepted g →
      SameMeaning (table_labels n t) (graph_of_rows s) (graph_of_rows g) ↔
      ((out : List ℕ) → fetching n t (buffer_after n t buffer cs) v out ≡ fetching n t (buffer_after n t buffer cs) w out)
  equal-reads-equal-meaning-from = Theorems.read_same n t opens buffer ps holds cs

  -- A read is refused by 20 exactly where the version was not put and kept, and was not there before and kept.
  pub read-not-kept-from : (version : ℕ) (out : List ℕ) → ((fetching n t (buffer_after n t buffer cs) version out).reply ≡ WrongVersion) ↔
      (((bytes : List ℕ) → Keeps n t version bytes buffer cs → ⊥) × ((p : List ℕ) → get_or ps version none ≡ some p → (Drops n t version buffer cs → ⊥) → ⊥))
  read-not-kept-from = Longer.read-unkept n t opens buffer ps holds cs

-- "one holding no state so reached within its length": a state that is reached within a length is reached within every greater one, since only
-- the test for 21 depends on the room. So a store may be moved into a longer buffer: a buffer of at most 16,384 bytes that is at least as long
-- and begins with the same used bytes holds the same programs, and every version is read from it as before.
pub longer-way : (room more : ℕ) → room ≤ more → (n : ℕ) (t : List ℕ) (ps : Programs) (s : List ℕ) → way n t room ps ≡ made s → way n t more ps ≡ made s
longer-way = Longer.way-longer

module _ (n : ℕ) (t buffer longer : List ℕ) (ps : Programs) (holds : Holds n t buffer ps) (long : length buffer ≤ length longer)
    (lent : length longer ≤ 16384) (same : take (length holds.state) longer ≡ holds.state) where
  pub longer-holds : Holds n t longer ps
  longer-holds = Longer.longer-holds n t buffer longer ps holds long lent same

  pub longer-reads : opened n t ≡ Ok tt → (version : ℕ) (out : List ℕ) → fetching n t longer version out ≡ fetching n t buffer version out
  longer-reads = Longer.longer-reads n t buffer longer ps holds long lent same

  -- A put, and a drop, that is answered by a length is answered by the same length there, and leaves the same used bytes.
  pub longer-put : (version : ℕ) (bytes : List ℕ) (l : ℕ) → (putting n t buffer version bytes).reply ≡ Length l →
      ((putting n t longer version bytes).reply ≡ Length l) ×
      (take l (putting n t longer version bytes).output ≡ take l (putting n t buffer version bytes).output)
  longer-put = Longer.longer-put n t buffer longer ps holds long lent same

  pub longer-drop : (version : ℕ) (l : ℕ) → (dropping n t buffer version).reply ≡ Length l →
      ((dropping n t longer version).reply ≡ Length l) × (take l (dropping n t longer version).output ≡ take l (dropping n t buffer version).output)
  longer-drop = Longer.longer-drop n t buffer longer ps holds long lent same

-- "Bytes past the used ones may hold anything": these theorems are on two buffers of one length with the same used bytes.
module _ (n : ℕ) (t : List ℕ) (opens : opened n t ≡ Ok tt) (buffer other : List ℕ) (alike : Alike n t buffer other) where
  -- Both buffers hold the same programs.
  pub past-used : Holds n t other alike.programs
  past-used = Theorems.other-holds n t opens buffer other alike

  -- A put, and a drop, gives both buffers the same reply and leaves them the same used bytes.
  pub same-put : (version : ℕ) (bytes : List ℕ) → ((putting n t other version bytes).reply ≡ (putting n t buffer version bytes).reply) ×
      Alike n t (putting n t buffer version bytes).output (putting n t other version bytes).output
  same-put = Theorems.put-alike n t opens buffer other alike

  pub same_drop : (version : ℕ) → ((dropping n t other version).reply ≡ (dropping n t buffer version).reply) ×
      Alike n t (dropping n t buffer version).output (dropping n t other version).output
  same_drop = Theorems.drop-alike n t opens buffer other alike

  -- A read gives the same reply and output for both buffers.
  pub same_read : (version : ℕ) (out : List ℕ) → fetching n t other version out ≡ fetching n t buffer version out
  same_read = Theorems.read_alike n t opens buffer other alike

  -- Any calls in turn give both buffers the same replies and leave them the same used bytes.
  pub same-calls : (cs : List Call) → (replies n t other cs ≡ replies n t buffer cs) × Alike n t (buffer_after n t buffer cs) (buffer_after n t other cs)
  same-calls cs = Theorems.calls-alike n t opens cs buffer other alike

-- Refusals.

-- "A put or drop that cannot reach that state is refused with the first number met on that way": over an accepted table, the way of written
-- records stops with a reply exactly where that reply is the first number met, 11, 13 or 21.
pub first-number : (n : ℕ) (t : List ℕ) → opened n t ≡ Ok tt → (room : ℕ) (ps : Programs) → Versions n ps → (r : Reply) →
    (way n t room ps ≡ stopped r) ↔ Met n t room ps r
first-number = Stops.way-meets

-- "and the buffer is unchanged": whatever is handed in, a refused put or drop leaves the buffer as it was, and a refused read leaves the output
-- as it was.
module _ (n : ℕ) (t buffer : List ℕ) (version : ℕ) (k : ℕ) where
  pub put-unchanged : (bytes : List ℕ) → refusal (putting n t buffer version bytes).reply ≡ some k → (putting n t buffer version bytes).output ≡ buffer
  put-unchanged = Theorems.put_refused n t buffer version k

  pub drop-unchanged : refusal (dropping n t buffer version).reply ≡ some k → (dropping n t buffer version).output ≡ buffer
  drop-unchanged = Theorems.drop-refused n t buffer version k

  pub read-unchanged : (out : List ℕ) → refusal (fetching n t buffer version out).reply ≡ some k → (fetching n t buffer version out).output ≡ out
  read-unchanged = Theorems.read-refused n t buffer version k

-- Each reply is given exactly where it is due, whatever is handed in: `PutDue`, `DropDue` and `ReadDue` say where each reply is due.
module _ (n : ℕ) (t buffer : List ℕ) (version : ℕ) where
  pub put-exact : (bytes : List ℕ) (r : Reply) → ((putting n t buffer version bytes).reply ≡ r) ↔ PutDue n t buffer version bytes r
  put-exact = Exact.put-exact n t buffer version

  pub drop_exact : (r : Reply) → ((dropping n t buffer version).reply ≡ r) ↔ DropDue n t buffer version r
  drop_exact = Exact.drop_exact n t buffer version

  pub read-exact : (out : List ℕ) (r : Reply) → ((fetching n t buffer version out).reply ≡ r) ↔ ReadDue n t buffer version (length out) r
  read-exact = Exact.read-exact n t buffer version

  -- The same, number by number. "The table is checked first": 1 to 3 are given exactly where opening the table gives them.
  pub put-table : (bytes : List ℕ) (fault : TableFault) → ((putting n t buffer version bytes).reply ≡ Table fault) ↔ (opened n t ≡ Err fault)
  put-table = Numbers.put-table n t buffer version

  pub drop-table : (fault : TableFault) → ((dropping n t buffer version).reply ≡ Table fault) ↔ (opened n t ≡ Err fault)
  drop-table = Numbers.drop-table n t buffer version

  pub read_table : (out : List ℕ) (fault : TableFault) → ((fetching n t buffer version out).reply ≡ Table fault) ↔ (opened n t ≡ Err fault)
  read_table = Numbers.read_table n t buffer version

  -- "then the buffer, where one holding no state so reached within its length is 4 of the first graph": 4 of the first graph is given exactly
  -- there.
  pub put-stateless : (bytes : List ℕ) → ((putting n t buffer version bytes).reply ≡ Graph Malformed First) ↔ ((opened n t ≡ Ok tt) × HoldsNone n t buffer)
  put-stateless = Numbers.put-stateless n t buffer version

  pub drop-stateless : ((dropping n t buffer version).reply ≡ Graph Malformed First) ↔ ((opened n t ≡ Ok tt) × HoldsNone n t buffer)
  drop-stateless = Numbers.drop-stateless n t buffer version

  pub read-stateless : (out : List ℕ) → ((fetching n t buffer version out).reply ≡ Graph Malformed First) ↔ ((opened n t ≡ Ok tt) × HoldsNone n t buffer)
  read-stateless = Numbers.read-stateless n t buffer version

  -- "then the program's 4 to 7, as the second"
  pub put-program : (bytes : List ℕ) (fault : GraphFault) → ((putting n t buffer version bytes).reply ≡ Graph fault Second) ↔
      ((opened n t ≡ Ok tt) × ((ps : Programs) × Holds n t buffer ps) × (reading n bytes ≡ refused fault))
  put-program = Numbers.put-program n t buffer version

  -- "next a version above 15, or absent for read and drop, or present for put, is 20"
  pub put-wrong-version : (bytes : List ℕ) → ((putting n t buffer version bytes).reply ≡ WrongVersion) ↔
      ((opened n t ≡ Ok tt) × ((rows : List (Row Label)) × (reading n bytes ≡ accepted rows)) ×
      ((ps : Programs) × Holds n t buffer ps × ((15 < version) ⊎ ((p : List ℕ) × (get_or ps version none ≡ some p)))))
  put-wrong-version = Numbers.put-numbered n t buffer version

  pub drop-wrong-version : ((dropping n t buffer version).reply ≡ WrongVersion) ↔
      ((opened n t ≡ Ok tt) × ((ps : Programs) × Holds n t buffer ps × ((15 < version) ⊎ (get_or ps version none ≡ none))))
  drop-wrong-version = Numbers.drop-numbered n t buffer version

  pub read-wrong-version : (out : List ℕ) → ((fetching n t buffer version out).reply ≡ WrongVersion) ↔
      ((opened n t ≡ Ok tt) × ((ps : Programs) × Holds n t buffer ps × ((15 < version) ⊎ (get_or ps version none ≡ none))))
  read-wrong-version = Numbers.read-numbered n t buffer version

  -- "and on the way, after a step's 11 and 13, too few bytes for its state is 21": each of 11, 13 and 21 is given exactly where the call passes
  -- its checks and the number is the first met on the way to the new state. `Met` says where: 11 where a step's common part is too large, 13
  -- where a node of one of the step's programs has no wanted type, 21 where the step's state has more bytes than the buffer.
  pub put-too-large : (bytes : List ℕ) → ((putting n t buffer version bytes).reply ≡ TooLarge) ↔
      ((ps : Programs) × (rows : List (Row Label)) × PutChecked n t buffer version bytes ps rows ×
      Met n t (length buffer) (set ps version (some (written_record rows))) TooLarge)
  put-too-large bytes = Numbers.put-met n t buffer version bytes Numbers.eleven

  pub put-unwanted : (bytes : List ℕ) → ((putting n t buffer version bytes).reply ≡ NoWantedType) ↔
      ((ps : Programs) × (rows : List (Row Label)) × PutChecked n t buffer version bytes ps rows ×
      Met n t (length buffer) (set ps version (some (written_record rows))) NoWantedType)
  put-unwanted bytes = Numbers.put-met n t buffer version bytes Numbers.thirteen

  pub put-no-room : (bytes : List ℕ) → ((putting n t buffer version bytes).reply ≡ NoStoreRoom) ↔
      ((ps : Programs) × (rows : List (Row Label)) × PutChecked n t buffer version bytes ps rows ×
      Met n t (length buffer) (set ps version (some (written_record rows))) NoStoreRoom)
  put-no-room bytes = Numbers.put-met n t buffer version bytes Numbers.twenty-one

  pub drop-too-large : ((dropping n t buffer version).reply ≡ TooLarge) ↔
      ((ps : Programs) × (p : List ℕ) × VersionChecked n t buffer version ps p × Met n t (length buffer) (set ps version none) TooLarge)
  drop-too-large = Numbers.drop-met n t buffer version Numbers.eleven

  pub drop-unwanted : ((dropping n t buffer version).reply ≡ NoWantedType) ↔
      ((ps : Programs) × (p : List ℕ) × VersionChecked n t buffer version ps p × Met n t (length buffer) (set ps version none) NoWantedType)
  drop-unwanted = Numbers.drop-met n t buffer version Numbers.thirteen

  pub drop-no-room : ((dropping n t buffer version).reply ≡ NoStoreRoom) ↔
      ((ps : Programs) × (p : List ℕ) × VersionChecked n t buffer version ps p × Met n t (length buffer) (set ps version none) NoStoreRoom)
  drop-no-room = Numbers.drop-met n t buffer version Numbers.twenty-one

  -- A read gives 8 exactly where the version's record is longer than the output.
  pub read-no-room : (out : List ℕ) → ((fetching n t buffer version out).reply ≡ NoRoom) ↔
      ((ps : Programs) × (p : List ℕ) × VersionChecked n t buffer version ps p × (length out < length p))
  read-no-room = Numbers.read-shorter n t buffer version

  -- Over a table that admits differences, 13 is never given.
  module _ (differ : admits n t ≡ true) where
    pub put-always-wanted : (bytes : List ℕ) → (putting n t buffer version bytes).reply ≡ NoWantedType → ⊥
    put-always-wanted = Theorems.put_wanted n t differ buffer version

    pub drop-always-wanted : (dropping n t buffer version).reply ≡ NoWantedType → ⊥
    drop-always-wanted = Theorems.drop-wanted n t differ buffer version

  -- A call is refused by no other numbers.
  module _ (k : ℕ) where
    pub put-refusals : (bytes : List ℕ) → refusal (putting n t buffer version bytes).reply ≡ some k →
        ((1 ≤ k) × (k ≤ 7)) ⊎ (k ≡ 11) ⊎ (k ≡ 13) ⊎ (k ≡ 20) ⊎ (k ≡ 21)
    put-refusals = Numbers.put-numbers n t buffer version k

    pub drop-refusals : refusal (dropping n t buffer version).reply ≡ some k → ((1 ≤ k) × (k ≤ 4)) ⊎ (k ≡ 11) ⊎ (k ≡ 13) ⊎ (k ≡ 20) ⊎ (k ≡ 21)
    drop-refusals = Numbers.drop-numbers n t buffer version k

    pub read-refusals : (out : List ℕ) → refusal (fetching n t buffer version out).reply ≡ some k → ((1 ≤ k) × (k ≤ 4)) ⊎ (k ≡ 20) ⊎ (k ≡ 8)
    read-refusals = Numbers.read-numbers n t buffer version k

-- "A buffer above 16,384 bytes is 4", and so is a buffer of fewer than 2 bytes: neither holds programs.
pub long-stateless : (n : ℕ) (t buffer : List ℕ) → 16384 < length buffer → HoldsNone n t buffer
long-stateless = Theorems.long-none

pub short-stateless : (n : ℕ) (t buffer : List ℕ) → length buffer < 2 → HoldsNone n t buffer
short-stateless = Theorems.short_none
