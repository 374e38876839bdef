-- Whatever is handed in, a refused begin leaves the buffer as it was, and a refused finish leaves the output as it was.
use mathlib.Core.Path.{◌≡◌, refl}
use mathlib.Core.Bool.{Bool, true, false, cond}
use mathlib.Core.List.{List, [], ◌++◌}
use mathlib.Core.Option.{Option, none, some}
use Prim.Native.Nat.{ℕ, ◌+◌, ◌*◌}
use lib.Dec.{eqb, leb}
use lib.ListN.{length, drop}
use Rattle.std.specs.Prelude.{Ok, Err}
use Rattle.graphs.specs.Number.{Canonical, canonical, many_nodes, many_links, written}
use Rattle.lattice.specs.Label.{Label}
use Rattle.acceptance.specs.Reply.{opened, TableAnswer}
use Rattle.encoder.specs.Encode.{encoded}
use Rattle.encode.specs.declared.Unwritten.TheVariants as unwritten
use Rattle.encode.specs.Encode.{yielding, fitted, written_out}
use Rattle.record.specs.Read.{Reading, refused, accepted, reading, graph_of_rows}
use Rattle.replies.specs.Replies.{Length, NoRoom}
use Rattle.replies.specs.Reply.{result_of, resulting, refusal}
use Rattle.calls.specs.Calls.{checked}
use Rattle.gathering.specs.Gathering.{
  state_of,
  begun,
  types_in,
  table_in,
  gathered_in,
  written_from,
  finished_with,
  finishing,
}
use Rattle.gathering.proofs.Told.{none-some}

pub begin-refused : (n : ℕ) (t buffer : List ℕ) (k : ℕ) → refusal (begun n t buffer).reply ≡ some k → (begun n t buffer).output ≡ buffer
unfolding begun
begin-refused n t buffer k e = go (opened n t) e
  where
    inside : (b : Bool) →
        refusal
        (cond b (resulting (Length (3 + 8 * n)) (state_of n t [] (drop (3 + 8 * n) buffer))) (resulting NoRoom buffer)).reply ≡ some k →
        (cond b (resulting (Length (3 + 8 * n)) (state_of n t [] (drop (3 + 8 * n) buffer))) (resulting NoRoom buffer)).output ≡ buffer
    inside true d = none-some d
    inside false d = refl

    go : (o : TableAnswer) →
        refusal
        (checked (λ r. resulting r buffer) o
        (cond (leb (1 + 8 * n + 2 + 4854) (length buffer))
        (resulting (Length (3 + 8 * n)) (state_of n t [] (drop (3 + 8 * n) buffer)))
        (resulting NoRoom buffer))).reply ≡ some k →
        (checked (λ r. resulting r buffer) o
        (cond (leb (1 + 8 * n + 2 + 4854) (length buffer))
        (resulting (Length (3 + 8 * n)) (state_of n t [] (drop (3 + 8 * n) buffer)))
        (resulting NoRoom buffer))).output ≡ buffer
    go (Err fault) d = refl
    go (Ok tt) d = inside (leb (1 + 8 * n + 2 + 4854) (length buffer)) d

pub finish-refused : (state out : List ℕ) (k : ℕ) → refusal (finishing state out).reply ≡ some k → (finishing state out).output ≡ out
unfolding finishing written_out fitted
finish-refused state out k e = go (opened (types_in state) (table_in state)) (gathered_in state) e
  where
    fits : (bytes : List ℕ) (b : Bool) →
        refusal
        (result_of (cond b (yielding (Ok (length bytes)) (bytes ++ drop (length bytes) out)) (yielding (Err unwritten.NoRoom) out))).reply ≡ some k →
        (result_of (cond b (yielding (Ok (length bytes)) (bytes ++ drop (length bytes) out)) (yielding (Err unwritten.NoRoom) out))).output ≡ out
    fits bytes true d = none-some d
    fits bytes false d = refl

    writes : (c : Canonical Label) → refusal (result_of (written_out c out)).reply ≡ some k → (result_of (written_out c out)).output ≡ out
    writes many_nodes d = refl
    writes many_links d = refl
    writes (written rows) d = fits (encoded rows) (leb (length (encoded rows)) (length out)) d

    reads : (r : Reading) → refusal (written_from r out).reply ≡ some k → (written_from r out).output ≡ out
    reads (refused fault) d = refl
    reads (accepted rows) d = writes (canonical eqb (graph_of_rows rows)) d

    go : (o : TableAnswer) (p : Option (List ℕ)) →
        refusal (checked (λ r. resulting r out) o (finished_with (types_in state) p out)).reply ≡ some k →
        (checked (λ r. resulting r out) o (finished_with (types_in state) p out)).output ≡ out
    go (Err fault) p d = refl
    go (Ok tt) none d = refl
    go (Ok tt) (some part) d = reads (reading (types_in state) part) d
