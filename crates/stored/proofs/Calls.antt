-- Put, drop and read on a buffer that holds programs, and calls in turn.
use mathlib.Core.Path.{◌≡◌, refl, sym, ◌∙◌, ap, ap₂, subst}
use mathlib.Core.Bool.{Bool, true, false, cond, ◌&&◌}
use mathlib.Core.List.{List, [], ◌∷◌, ◌++◌}
use mathlib.Core.Logic.{◌⊎◌, inl, inr, ⊎_elim}
use mathlib.Core.Option.{Option, none, some}
use Prim.Native.Nat.{ℕ, zero, suc, ◌+◌, ◌≤◌, ◌<◌}
use native.Mathlib.Omega.{arith}
use borrow.Author.Tests.{ltb-true}
use lib.Dec.{ltb}
use lib.ListN.{length, get_or, set, drop, length-append, length-drop, length-set}
use lib.Seq.{drop-append_seam}
use Rattle.graphs.specs.Rows.{Row}
use Rattle.graphs.proofs.Walk.{some-injective}
use Rattle.lattice.specs.Label.{Label}
use Rattle.std.specs.Prelude.{Ok}
use Rattle.acceptance.specs.Reply.{opened, TableAnswer}
use Rattle.record.specs.Read.{Reading, refused, accepted, reading}
use Rattle.replies.specs.Replies.{WrongVersion}
use Rattle.replies.specs.Reply.{Result, length_of}
use Rattle.calls.specs.Calls.{checked}
use Rattle.demands.specs.Demand.{WrittenRecord}
use Rattle.gathering.proofs.Told.{none-some}
use Rattle.versions.specs.State.{Made, made, stopped, Programs, no_programs, empty_state, way, held}
use Rattle.contents.specs.Contents.{on_held, on_program, on_absent, on_present, is_none, written_record, given, put_among, drop_among}
use Rattle.store.specs.Calls.{settled, in_table, putting, dropping, fetching}
use Rattle.stored.specs.Turns.{Call, put, remove, fetch, called, buffer_after, written_in, done, where_given, programs_after}
use Rattle.stored.specs.Theorem.{Versions, Holds}
use Rattle.stored.proofs.Records.{program-written}
use Rattle.stored.proofs.Way.{state-long, state-fits}
use Rattle.stored.proofs.Stops.{way-meets, met-silent}
use Rattle.stored.proofs.Held.{held-complete, empty-held}

-- A put or a drop of a version leaves 16 versions, and each that exists is a written record.

set_at : (ps : Programs) (i v : ℕ) (o : Option (List ℕ)) (q : List ℕ) → get_or (set ps i o) v none ≡ some q → (o ≡ some q) ⊎ (get_or ps v none ≡ some q)
set_at [] i v o q e = inr e
set_at (x ∷ xs) zero zero o q e = inl e
set_at (x ∷ xs) zero (suc v) o q e = inr e
set_at (x ∷ xs) (suc i) zero o q e = inr e
set_at (x ∷ xs) (suc i) (suc v) o q e = set_at xs i v o q e

pub set-versions : (n : ℕ) (ps : Programs) (version : ℕ) (o : Option (List ℕ)) → Versions n ps → ((q : List ℕ) → o ≡ some q → WrittenRecord n q) →
    Versions n (set ps version o)
set-versions n ps version o versions one =
    record {
      sixteen = length-set ps version o ∙ versions.sixteen;
      written = λ v q e. ⊎_elim (one q) (versions.written v q) (set_at ps version v o q e);
    }

module _ (n : ℕ) (t : List ℕ) where
  -- A buffer that holds programs has two bytes or more.
  pub holds-long : (buffer : List ℕ) (ps : Programs) → Holds n t buffer ps → 2 ≤ length buffer
  holds-long buffer ps holds =
      omega (
        arith,
        state-long n t (length buffer) ps holds.versions holds.state holds.reached,
        ap length holds.first,
        length-append holds.state (drop (length holds.state) buffer),
      )

  -- A buffer keeps its length where a state is written over its first bytes.
  pub over-length : (buffer : List ℕ) (ps qs : Programs) → Holds n t buffer ps → Versions n qs → (s : List ℕ) → way n t (length buffer) qs ≡ made s →
      length (s ++ drop (length s) buffer) ≡ length buffer
  over-length buffer ps qs holds versions s reached =
      let fits : length s ≤ length buffer = state-fits n t (length buffer) qs versions s reached (holds-long buffer ps holds) in
      length-append s (drop (length s) buffer) ∙ ap (λ (k : ℕ). length s + k) (length-drop (length s) buffer) ∙ omega arith

  -- A buffer over whose first bytes a state is written holds the programs of that state.
  pub written_over : (buffer : List ℕ) (ps qs : Programs) → Holds n t buffer ps → Versions n qs → (s : List ℕ) → way n t (length buffer) qs ≡ made s →
      Holds n t (s ++ drop (length s) buffer) qs
  written_over buffer ps qs holds versions s reached =
      let long : length (s ++ drop (length s) buffer) ≡ length buffer = over-length buffer ps qs holds versions s reached in
      record {
        versions = versions;
        lent = omega (arith, holds.lent);
        state = s;
        reached = ap (λ (k : ℕ). way n t k qs) long ∙ reached;
        first = ap (λ (x : List ℕ). s ++ x) (sym (drop-append_seam s (drop (length s) buffer)));
      }

  module _ (opens : opened n t ≡ Ok tt) (buffer : List ℕ) (ps : Programs) (holds : Holds n t buffer ps) where
    -- After the checks of the table and the buffer, a call goes on with the programs.
    past-checks : (next : Programs → Made) → in_table n t next buffer ≡ next ps
    past-checks next =
        ap₂ (λ (o : TableAnswer) (h : Option Programs). checked stopped o (on_held h next)) opens (held-complete n t opens buffer ps holds)

    pub putting-is : (version : ℕ) (bytes : List ℕ) → putting n t buffer version bytes ≡ settled buffer (put_among n t (length buffer) version bytes ps)
    unfolding putting
    putting-is version bytes = ap (settled buffer) (past-checks (put_among n t (length buffer) version bytes))

    pub dropping-is : (version : ℕ) → dropping n t buffer version ≡ settled buffer (drop_among n t (length buffer) version ps)
    unfolding dropping
    dropping-is version = ap (settled buffer) (past-checks (drop_among n t (length buffer) version))

    pub fetching-is : (version : ℕ) (out : List ℕ) → fetching n t buffer version out ≡ given out (on_present (get_or ps version none) made)
    unfolding fetching
    fetching-is version out = ap (given out) (past-checks (λ ps. on_present (get_or ps version none) made))

    -- Once `m` is settled, the buffer has the same length, and holds `qs` where a length is told, else the programs as they were.
    abbrev After : Made → Programs → Type 0
    After m qs =
        (length (settled buffer m).output ≡ length buffer) × Holds n t (settled buffer m).output (where_given (length_of (settled buffer m).reply) ps qs)

    after-way : (qs : Programs) → Versions n qs → After (way n t (length buffer) qs) qs
    after-way qs versions = go (way n t (length buffer) qs) refl
      where
        go : (m : Made) → way n t (length buffer) qs ≡ m → After m qs
        go (made s) e = (over-length buffer ps qs holds versions s e, written_over buffer ps qs holds versions s e)
        go (stopped r) e =
            (refl, subst (λ (o : Option ℕ). Holds n t buffer (where_given o ps qs)) (sym (met-silent ((way-meets n t opens (length buffer) qs versions r).0 e))) holds)

    after-put : (version : ℕ) (bytes : List ℕ) (o : Reading) → reading n bytes ≡ o →
        After (on_program o λ p. on_absent ps version (way n t (length buffer) (set ps version (some p)))) (set ps version (some (written_in o)))
    after-put version bytes (refused fault) e = (refl, holds)
    after-put version bytes (accepted rows) e = go (ltb version 16 && is_none (get_or ps version none))
      where
        go : (b : Bool) → After (cond b (way n t (length buffer) (set ps version (some (written_record rows)))) (stopped WrongVersion)) (set ps version (some (written_record rows)))
        go true =
            after-way (set ps version (some (written_record rows)))
            (set-versions n ps version (some (written_record rows)) holds.versions
            (λ q d. subst (WrittenRecord n) (some-injective d) (program-written n t bytes rows e)))
        go false = (refl, holds)

    after-drop : (version : ℕ) (o : Option (List ℕ)) → After (on_present o λ p. way n t (length buffer) (set ps version none)) (set ps version none)
    after-drop version none = (refl, holds)
    after-drop version (some p) = after-way (set ps version none) (set-versions n ps version none holds.versions (λ q d. none-some d))

    unchanged : (o : Option ℕ) → where_given o ps ps ≡ ps
    unchanged none = refl
    unchanged (some l) = refl

    -- After a call the buffer has the same length, and holds the programs that the call makes where the reply is a length, else the programs as
    -- they were.
    pub called-holds : (c : Call) → (length (called n t buffer c).output ≡ length buffer) ×
        Holds n t (called n t buffer c).output (where_given (length_of (called n t buffer c).reply) ps (done n t c ps))
    called-holds (put version bytes) =
        subst (λ (y : Result). (length y.output ≡ length buffer) ×
        Holds n t y.output (where_given (length_of y.reply) ps (set ps version (some (written_in (reading n bytes))))))
        (sym (putting-is version bytes)) (after-put version bytes (reading n bytes) refl)
    called-holds (remove version) =
        subst (λ (y : Result). (length y.output ≡ length buffer) ×
        Holds n t y.output (where_given (length_of y.reply) ps (set ps version none)))
        (sym (dropping-is version)) (after-drop version (get_or ps version none))
    called-holds (fetch version out) =
        (refl, subst (Holds n t buffer) (sym (unchanged (length_of (fetching n t buffer version out).reply))) holds)

    -- A put that is answered by a length names a version from 0 to 15 that is absent, and a program that is accepted.
    pub put-given : (version : ℕ) (bytes : List ℕ) (l : ℕ) → length_of (putting n t buffer version bytes).reply ≡ some l →
        (version < 16) × (get_or ps version none ≡ none) × ((rows : List (Row Label)) × (reading n bytes ≡ accepted rows))
    put-given version bytes l e =
        read (reading n bytes) refl (ap (λ (y : Result). length_of y.reply) (sym (putting-is version bytes)) ∙ e)
      where
        test : (rows : List (Row Label)) → (b : Bool) → ltb version 16 ≡ b → (o : Option (List ℕ)) → get_or ps version none ≡ o →
            length_of (settled buffer (cond (b && is_none o) (way n t (length buffer) (set ps version (some (written_record rows)))) (stopped WrongVersion))).reply ≡ some l →
            (version < 16) × (get_or ps version none ≡ none)
        test rows true x none y d = (ltb-true version 16 x, y)
        test rows true x (some p) y d = none-some d
        test rows false x o y d = none-some d

        read : (o : Reading) → reading n bytes ≡ o →
            length_of (settled buffer (on_program o λ p. on_absent ps version (way n t (length buffer) (set ps version (some p))))).reply ≡ some l →
            (version < 16) × (get_or ps version none ≡ none) × ((rows : List (Row Label)) × (reading n bytes ≡ accepted rows))
        read (refused fault) q d = none-some d
        read (accepted rows) q d =
            let (few, free) = test rows (ltb version 16) refl (get_or ps version none) refl d in
            (few, free, (rows, q))

  -- After any calls in turn the buffer has the same length and holds the programs that remain.
  pub calls-hold : opened n t ≡ Ok tt → (cs : List Call) (buffer : List ℕ) (ps : Programs) → Holds n t buffer ps →
      (length (buffer_after n t buffer cs) ≡ length buffer) × Holds n t (buffer_after n t buffer cs) (programs_after n t buffer ps cs)
  unfolding buffer_after programs_after
  calls-hold opens [] buffer ps holds = (refl, holds)
  calls-hold opens (c ∷ cs) buffer ps holds =
      let (long, next) = called-holds opens buffer ps holds c in
      let (longer, last) =
      calls-hold opens cs (called n t buffer c).output (where_given (length_of (called n t buffer c).reply) ps (done n t c ps)) next in
      (longer ∙ long, last)

  -- From an empty store on, which is two zero bytes with anything behind them, the buffer holds the programs that were put and not dropped.
  pub store-holds : opened n t ≡ Ok tt → (rest : List ℕ) → length rest ≤ 16382 → (cs : List Call) →
      held n t (buffer_after n t (empty_state ++ rest) cs) ≡ some (programs_after n t (empty_state ++ rest) no_programs cs)
  store-holds opens rest lent cs =
      held-complete n t opens (buffer_after n t (empty_state ++ rest) cs) (programs_after n t (empty_state ++ rest) no_programs cs)
      (calls-hold opens cs (empty_state ++ rest) no_programs (empty-held n t rest lent)).1
