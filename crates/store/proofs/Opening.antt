-- The table of a call is opened: what is refused before the buffer is looked into, and what the call comes to behind that.
use mathlib.Core.Path.{◌≡◌, refl, sym, ◌∙◌, ap}
use mathlib.Core.Bool.{Bool, true, cond}
use mathlib.Core.List.{List}
use mathlib.Core.Option.{Option, none, some, bind}
use Prim.Native.Nat.{ℕ, ◌≤◌, ◌<◌}
use native.Mathlib.Omega.{arith}
use borrow.Author.Tests.{lt-leb}
use lib.ListN.{length, get_or}
use Rattle.std.specs.Prelude.{⊤, Result, Ok, Err}
use Rattle.lattice.specs.Table.{accepted}
use Rattle.acceptance.specs.declared.TableFault.{TableFault}
use Rattle.acceptance.specs.Reply.{opened, TableAnswer}
use Rattle.acceptance.proofs.Acceptance.{opened-accepted, accepted-opened}
use Rattle.bounds.specs.Opening.{OpenedFor}
use Rattle.record.specs.declared.GraphFault.TheVariants.{Malformed}
use Rattle.replies.specs.declared.Side.TheVariants.{First}
use Rattle.replies.specs.declared.Refusal.{Refusal}
use Rattle.replies.specs.declared.Refusal.TheVariants as refusal
use Rattle.replies.specs.Replies.{Graph}
use Rattle.replies.specs.Reply.{resulting}
use Rattle.calls.specs.Calls.{checked}
use Rattle.versions.specs.State.{Made, made, stopped, Programs, unpacked, begins, way, held}
use Rattle.contents.specs.Contents.{on_held, on_present, given, put_among, drop_among}
use Rattle.store.specs.Calls.{settled, in_table, putting, dropping, fetching}
use Rattle.store.specs.Opening.{Opens}

-- a buffer above 16,384 bytes holds nothing
long-none : (n : ℕ) (t buffer : List ℕ) → 16384 < length buffer → held n t buffer ≡ none
unfolding held
long-none n t buffer h =
    ap (λ (b : Bool). cond b (bind (unpacked n t buffer) λ ps. cond (begins (way n t (length buffer) ps) buffer) (some ps) none) none) (lt-leb (length buffer) 16384 h)

-- a call goes on behind an accepted table
goes_on : (n : ℕ) (t : List ℕ) → accepted n t ≡ true → (next : Programs → Made) (buffer : List ℕ) → in_table n t next buffer ≡ on_held (held n t buffer) next
goes_on n t ok next buffer = ap (λ (o : TableAnswer). checked stopped o (on_held (held n t buffer) next)) (accepted-opened n t ok)

ok_not_err : {why : Refusal} {X : Type 0} → ◌≡◌ {A = Result ⊤ Refusal} (Err why) (Ok tt) → X
ok_not_err e = let z : ◌≡◌ {A = ℕ} 0 1 = cc in absurd (omega arith)

same-why : {a b : Refusal} → ◌≡◌ {A = Result ⊤ Refusal} (Err a) (Err b) → a ≡ b
same-why e = cc

module _ (n : ℕ) (t : List ℕ) (room : ℕ) {sets : List ℕ} {cells : List (List ℕ)} where
  -- the table's 1 to 3
  pub opens-table : {answer : TableAnswer} → answer ≡ opened n t → (fault : TableFault) → answer ≡ Err fault → Opens n t room (Err (refusal.Table fault)) sets cells
  opens-table answers fault e =
      record {
        opened = λ d. ok_not_err d;
        refused = λ why d next buffer long.
            ap (λ (o : TableAnswer). checked stopped o (on_held (held n t buffer) next)) (sym answers ∙ e) ∙
            ap (λ (w : Refusal). stopped (Err w)) (same-why d);
      }

  -- 4 of a buffer that is too long
  pub opens-long : accepted n t ≡ true → 16384 < room → Opens n t room (Err (refusal.Graph Malformed First)) sets cells
  opens-long ok h =
      record {
        opened = λ d. ok_not_err d;
        refused = λ why d next buffer long.
            goes_on n t ok next buffer ∙ ap (λ (o : Option Programs). on_held o next) (long-none n t buffer (omega (arith, h, long))) ∙
            ap (λ (w : Refusal). stopped (Err w)) (same-why d);
      }

  pub opens_both : OpenedFor true n t sets cells → room ≤ 16384 → Opens n t room (Ok tt) sets cells
  opens_both ready h = record { opened = λ d. (ready, h); refused = λ why d. ok_not_err (sym d) }

-- put, drop and read
module _ (n : ℕ) (t : List ℕ) {sets : List ℕ} {cells : List (List ℕ)} (buffer : List ℕ) {answer : Result ⊤ Refusal}
    (opens : Opens n t (length buffer) answer sets cells) (version : ℕ) where
  abbrev accepts : answer ≡ Ok tt → accepted n t ≡ true
  accepts e = (opens.opened e).0.ok

  stops : {X : Type 0} (end : Made → X) (next : Programs → Made) (why : Refusal) → answer ≡ Err why → end (stopped (Err why)) ≡ end (in_table n t next buffer)
  stops end next why e = ap end (sym (opens.refused why e next buffer refl))

  ends : {X : Type 0} (end : Made → X) (next : Programs → Made) → answer ≡ Ok tt → {m : Made} → m ≡ on_held (held n t buffer) next →
      end m ≡ end (in_table n t next buffer)
  ends end next e is = ap end (is ∙ sym (goes_on n t (accepts e) next buffer))

  module _ (bytes : List ℕ) where
    pub put-stops : (why : Refusal) → answer ≡ Err why → resulting (Err why) buffer ≡ putting n t buffer version bytes
    unfolding putting
    put-stops = stops (settled buffer) (put_among n t (length buffer) version bytes)

    pub put-made : answer ≡ Ok tt → {m : Made} → m ≡ on_held (held n t buffer) (put_among n t (length buffer) version bytes) →
        settled buffer m ≡ putting n t buffer version bytes
    unfolding putting
    put-made = ends (settled buffer) (put_among n t (length buffer) version bytes)

  pub drop-stops : (why : Refusal) → answer ≡ Err why → resulting (Err why) buffer ≡ dropping n t buffer version
  unfolding dropping
  drop-stops = stops (settled buffer) (drop_among n t (length buffer) version)

  pub drop-made : answer ≡ Ok tt → {m : Made} → m ≡ on_held (held n t buffer) (drop_among n t (length buffer) version) →
      settled buffer m ≡ dropping n t buffer version
  unfolding dropping
  drop-made = ends (settled buffer) (drop_among n t (length buffer) version)

  module _ (out : List ℕ) where
    pub read-stops : (why : Refusal) → answer ≡ Err why → resulting (Err why) out ≡ fetching n t buffer version out
    unfolding fetching
    read-stops = stops (given out) (λ ps. on_present (get_or ps version none) made)

    pub read_made : answer ≡ Ok tt → given out (on_held (held n t buffer) (λ ps. on_present (get_or ps version none) made)) ≡ fetching n t buffer version out
    unfolding fetching
    read_made e = ends (given out) (λ ps. on_present (get_or ps version none) made) e refl
