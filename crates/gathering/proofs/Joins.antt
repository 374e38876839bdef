-- An addition: what reading both graphs answers, what the call leaves in the room, and what settling the length makes of the state.
use mathlib.Core.Path.{◌≡◌, refl, sym, ◌∙◌, ap, ap₂, subst}
use mathlib.Core.Bool.{Bool, true, false, cond}
use mathlib.Core.List.{List, ◌++◌, append-nil}
use mathlib.Core.Option.{Option, none, some}
use Prim.Native.Nat.{ℕ, ◌+◌, ◌-◌, ◌≤◌}
use native.Mathlib.Omega.{arith}
use borrow.Author.Tests.{leb-true, ne_eqb}
use lib.Dec.{leb, eqb}
use lib.ListN.{length, take, drop, length-append, length-drop, take-append-drop, drop_of_length-le}
use lib.Seq.{take_all, length-take-le, take-take, take-append-le, drop_at}
use Rattle.std.specs.Prelude.{Ok, Err}
use Rattle.graphs.specs.Rows.{Row}
use Rattle.graphs.specs.Number.{Canonical, canonical, many_nodes, many_links, written}
use Rattle.lattice.specs.Label.{Label}
use Rattle.acceptance.specs.declared.TableFault.{TableFault}
use Rattle.acceptance.specs.Reply.{opened, TableAnswer}
use Rattle.layout.specs.Layout.{rows_of}
use Rattle.encoder.specs.Encode.{encoded}
use Rattle.encode.specs.declared.Unwritten.TheVariants as unwritten
use Rattle.encode.specs.Encode.{yielding, fitted, written_out}
use Rattle.record.specs.declared.GraphFault.{GraphFault}
use Rattle.record.specs.Read.{Reading, refused, accepted, reading, graph_of_rows}
use Rattle.record.specs.Reads.{ReadsAs, Verdict}
use Rattle.replies.specs.declared.Side.TheVariants.{First}
use Rattle.replies.specs.Replies.{Reply}
use Rattle.replies.specs.Replies.{Length, Table, Graph}
use Rattle.replies.specs.Reply.{Result, resulting, result_of, refusing, length_of}
use Rattle.pairs.specs.Pair.{read_both}
use Rattle.pairs.proofs.Readings.{told-refused, told-accepted}
use Rattle.engine.specs.Rewriting.{rewritten, rewritten_rows}
use Rattle.engine.specs.Generalizing.{generalized}
use Rattle.calls.specs.Calls.{checked, rewriting, generalizing}
use Rattle.gathering.specs.declared.parts.Parts.{Parts}
use Rattle.gathering.specs.Gathering.{two_bytes, types_in, table_in, head_in, room_in, first_of, gathered_in, joining, settled_by, settled, adding}
use Rattle.gathering.specs.Parts.{PartsOf}
use Rattle.gathering.specs.Joined.{joined, joined_rows, settled_for, settled_at}
use Rattle.gathering.proofs.Told.{none-some}
use Rattle.gathering.proofs.Answers.{table-told}

-- The program is read.
module _ (n : ℕ) (t bytes : List ℕ) (gathered : ℕ) (room : List ℕ) {v : Verdict} {ws : List ℕ} (tells : ReadsAs n (reading n bytes) v ws) where
  pub joined-refused : (fault : GraphFault) → v ≡ Err fault → resulting (Graph fault First) room ≡ joined n t (first_of gathered room) bytes room
  joined-refused fault e = sym (go (first_of gathered room))
    where
      go : (o : Option (List ℕ)) → joined n t o bytes room ≡ refusing (Graph fault First) room
      go none = ap (λ (i : Reading). rewritten i room) (told-refused tells fault e)
      go (some part) = ap (λ (i : Reading). read_both (λ r. refusing r room) i (reading n part) (generalized n t room)) (told-refused tells fault e)

  -- The addition where nothing is gathered.
  pub joined-none : gathered ≡ 0 → v ≡ Ok tt → rewritten_rows room (rows_of ws) ≡ joined n t (first_of gathered room) bytes room
  joined-none h e =
      sym (ap (λ (l : ℕ). joined n t (first_of l room) bytes room) h ∙ ap (λ (i : Reading). rewritten i room) (told-accepted tells e).is)

  -- The addition where something is gathered.
  pub joined-some : (gathered ≡ 0 → ⊥) → v ≡ Ok tt →
      joined_rows n t room (rows_of ws) (reading n (take gathered room)) ≡ joined n t (first_of gathered room) bytes room
  joined-some h e =
      sym (ap (λ (b : Bool). joined n t (cond b none (some (take gathered room))) bytes room) (ne_eqb gathered 0 h) ∙
      ap (λ (i : Reading). read_both (λ r. refusing r room) i (reading n (take gathered room)) (generalized n t room)) (told-accepted tells e).is ∙
      second (reading n (take gathered room)))
    where
      second : (i : Reading) → read_both (λ r. refusing r room) (accepted (rows_of ws)) i (generalized n t room) ≡ joined_rows n t room (rows_of ws) i
      second (refused fault) = refl
      second (accepted others) = refl

-- What a call leaves in the room: the room stays as it was where the reply tells no length. A record whose length is told has at least one byte.
pub record Keeps (out : List ℕ) (r : Result) : Type 0 where
  pub kept : length_of r.reply ≡ none → r.output ≡ out
  pub takes : (l : ℕ) → length_of r.reply ≡ some l → 1 ≤ length out

module _ (out : List ℕ) where
  fitted-keeps : (rows : List (Row Label)) → Keeps out (result_of (fitted (encoded rows) out))
  unfolding fitted encoded
  fitted-keeps rows = go (leb (length (encoded rows)) (length out)) refl
    where
      go : (b : Bool) → leb (length (encoded rows)) (length out) ≡ b →
          Keeps out
          (result_of (cond b (yielding (Ok (length (encoded rows))) (encoded rows ++ drop (length (encoded rows)) out)) (yielding (Err unwritten.NoRoom) out)))
      go true e = record { kept = λ d. none-some (sym d); takes = λ l d. omega (arith, leb-true (length (encoded rows)) (length out) e) }
      go false e = record { kept = λ d. refl; takes = λ l d. none-some d }

  written_keeps : (c : Canonical Label) → Keeps out (result_of (written_out c out))
  unfolding written_out
  written_keeps many_nodes = record { kept = λ d. refl; takes = λ l d. none-some d }
  written_keeps many_links = record { kept = λ d. refl; takes = λ l d. none-some d }
  written_keeps (written rows) = fitted-keeps rows

  pub joined_keeps : (n : ℕ) (t : List ℕ) (o : Option (List ℕ)) (bytes : List ℕ) → Keeps out (joined n t o bytes out)
  unfolding generalized
  joined_keeps n t none bytes = one (reading n bytes)
    where
      one : (i : Reading) → Keeps out (rewritten i out)
      one (refused fault) = record { kept = λ d. refl; takes = λ l d. none-some d }
      one (accepted rows) = written_keeps (canonical eqb (graph_of_rows rows))
  joined_keeps n t (some part) bytes = both (reading n bytes) (reading n part)
    where
      both : (i j : Reading) → Keeps out (read_both (λ r. refusing r out) i j (generalized n t out))
      both (refused fault) j = record { kept = λ d. refl; takes = λ l d. none-some d }
      both (accepted rows) (refused fault) = record { kept = λ d. refl; takes = λ l d. none-some d }
      both (accepted rows) (accepted others) = written_keeps _

-- An addition checks the table, and over an accepted table it is `joined`.
joining-checked : (n : ℕ) (t : List ℕ) (o : Option (List ℕ)) (bytes out : List ℕ) →
    joining n t o bytes out ≡ checked (λ r. refusing r out) (opened n t) (joined n t o bytes out)
unfolding rewriting generalizing
joining-checked n t none bytes out = refl
joining-checked n t (some part) bytes out = refl

module _ {state : List ℕ} {p : Parts} (parts : PartsOf state p) {answer : TableAnswer}
    (told : answer ≡ opened p.types (take (p.end - p.start) (drop p.start state))) (bytes : List ℕ) where
  -- The addition, by the parts that the definitions name.
  abbrev whole : Result
  whole = joined (types_in state) (table_in state) (gathered_in state) bytes (room_in state)

  adding-checked : adding state bytes ≡ settled state (checked (λ r. refusing r (room_in state)) answer whole)
  unfolding adding
  adding-checked =
      ap (settled state)
      (joining-checked (types_in state) (table_in state) (gathered_in state) bytes (room_in state) ∙
      ap (λ (o : TableAnswer). checked (λ r. refusing r (room_in state)) o whole) (table-told parts told))

  pub add-refused : (fault : TableFault) → answer ≡ Err fault → resulting (Table fault) state ≡ adding state bytes
  add-refused fault e =
      sym (adding-checked ∙ ap (λ (o : TableAnswer). settled state (checked (λ r. refusing r (room_in state)) o whole)) e)

  -- the room as it is lent
  abbrev lent : List ℕ
  lent = take (length state - p.room) (drop p.room state)

  lent_is : lent ≡ room_in state
  lent_is = take_all (length state - p.room) (drop p.room state) (omega (arith, length-drop p.room state)) ∙ parts.room-is

  module _ {reply : Reply} {new : List ℕ}
      (joins : resulting reply new ≡
      joined p.types (take (p.end - p.start) (drop p.start state)) (first_of p.gathered lent) bytes lent) where
    joined_is : resulting reply new ≡ whole
    joined_is =
        joins ∙
        ap₂ (λ (k : ℕ) (t : List ℕ). joined k t (first_of p.gathered lent) bytes lent) parts.types_are parts.table_is ∙
        ap₂ (λ (l : ℕ) (r : List ℕ). joined (types_in state) (table_in state) (first_of l r) bytes r) parts.gathered-is lent_is

    keeps : Keeps (room_in state) (resulting reply new)
    keeps =
        subst (Keeps (room_in state)) (sym joined_is) (joined_keeps (room_in state) (types_in state) (table_in state) (gathered_in state) bytes)

    long : length (take p.room state) ≡ p.room
    long = length-take-le p.room state parts.room-low

    -- There are two bytes for a length that is told.
    pub settle-fits : (rest : List ℕ) (l : ℕ) → reply ≡ Length l → p.end + 2 ≤ length (take p.room state ++ (new ++ rest))
    settle-fits rest l e =
        omega (arith, (parts.whole (keeps.takes l (ap length_of e))).1, long, length-append (take p.room state) (new ++ rest))

    abbrev after : List ℕ
    after = take p.room state ++ (new ++ drop (length state - p.room) (drop p.room state))

    after_is : after ≡ take p.room state ++ new
    after_is =
        ap (λ (x : List ℕ). take p.room state ++ (new ++ x))
        (drop_of_length-le (drop p.room state) {i = length state - p.room} (omega (arith, length-drop p.room state))) ∙
        ap (λ (x : List ℕ). take p.room state ++ x) (append-nil new)

    settles : (o : Option ℕ) → length_of reply ≡ o → settled_for p.end (take p.room state ++ new) reply o ≡ settled_by state o (resulting reply new)
    settles none e =
        ap (refusing reply)
        (ap (λ (x : List ℕ). take p.room state ++ x) (keeps.kept e ∙ sym parts.room-is) ∙ take-append-drop p.room state)
    settles (some l) e =
        let ends = parts.whole (keeps.takes l e) in
        let inside : p.end ≤ p.room = omega (arith, ends.1) in
        let head : take p.end (take p.room state ++ new) ≡ head_in state =
        take-append-le p.end (take p.room state) new (omega (arith, inside, long)) ∙
        take-take p.end p.room state inside ∙ ap (λ (k : ℕ). take k state) ends.0 in
        let tail : drop (p.end + 2) (take p.room state ++ new) ≡ new =
        drop_at (take p.room state) new (p.end + 2) (long ∙ ends.1) in
        ap₂ (λ (x y : List ℕ). resulting reply (x ++ (two_bytes l ++ y))) head tail

    pub add-accepted : answer ≡ Ok tt → settled_at p.end after reply ≡ adding state bytes
    add-accepted e =
        ap (λ (s : List ℕ). settled_at p.end s reply) after_is ∙ settles (length_of reply) refl ∙
        sym (adding-checked ∙ ap (λ (o : TableAnswer). settled state (checked (λ r. refusing r (room_in state)) o whole)) e ∙ ap (settled state) (sym joined_is))
