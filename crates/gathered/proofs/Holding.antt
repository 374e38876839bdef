-- The states of a begun gathering: their parts, and what each call does to them.
use mathlib.Core.Path.{◌≡◌, refl, sym, ◌∙◌, ap, ap₂, subst}
use mathlib.Core.Bool.{Bool, cond}
use mathlib.Core.List.{List, ◌∷◌, ◌++◌}
use mathlib.Core.Option.{Option, none, some}
use Prim.Native.Nat.{ℕ, ◌+◌, ◌*◌, ◌≤◌}
use native.Mathlib.Omega.{arith}
use borrow.Author.Tests.{ne_eqb}
use lib.ListN.{length, take, drop, length-append, length-drop, take-append-drop}
use lib.Seq.{take-append_seam, drop-append_seam}
use Rattle.graphs.proofs.Walk.{some-injective}
use Rattle.acceptance.specs.Reply.{opened, TableAnswer}
use Rattle.replies.specs.Reply.{Result, length_of, resulting}
use Rattle.calls.specs.Calls.{checked}
use Rattle.demands.specs.Demand.{WrittenRecord, Leaves}
use Rattle.gathering.specs.Gathering.{two_bytes, state_of, types_in, table_in, head_in, behind_table, room_in, length_at, first_of, gathered_in, joining, settled_by, settled, adding, compared_with, comparing, finished_with, finishing}
use Rattle.gathering.proofs.Told.{length-told}
use Rattle.gathering.proofs.Beginning.{table-long}
use Rattle.gathering.proofs.Spans.{two-bytes-read}
use Rattle.gathered.specs.Calls.{blank, taken_by, taken, instead}
use Rattle.gathered.specs.Theorem.{bytes_of, Holds}
use Rattle.gathered.proofs.Mixture.{settled-answer}
use Rattle.gathered.proofs.Records.{written-some, written-short, joining-leaves, joining-room}

first_some : (part rest : List ℕ) → 1 ≤ length part → first_of (length part) (part ++ rest) ≡ some part
first_some part rest h =
    ap (λ (b : Bool). cond b none (some (take (length part) (part ++ rest)))) (ne_eqb (length part) 0 (λ e. omega (arith, e))) ∙
    ap some (take-append_seam part rest)

module _ (n : ℕ) (t state : List ℕ) (o : Option (List ℕ)) (holds : Holds n t state o) where
  -- What stands behind n and the table.
  abbrev after : List ℕ
  after = two_bytes (length (bytes_of o)) ++ (bytes_of o ++ holds.rest)

  abbrev whole : List ℕ
  whole = bytes_of o ++ holds.rest

  pub types_are : types_in state ≡ n
  unfolding state_of
  types_are = ap types_in holds.state-is

  behind-at : (k : ℕ) → k ≡ length t → drop k (t ++ after) ≡ after
  behind-at k e = ap (λ (j : ℕ). drop j (t ++ after)) e ∙ drop-append_seam t after

  behind-are : behind_table state ≡ after
  unfolding state_of
  behind-are = ap behind_table holds.state-is ∙ behind-at (8 * n) (sym (table-long n t refl holds.opens))

  pub table-are : table_in state ≡ t
  unfolding state_of
  table-are =
      ap table_in holds.state-is ∙ ap (λ (j : ℕ). take j (t ++ after)) (sym (table-long n t refl holds.opens)) ∙ take-append_seam t after

  pub head-are : head_in state ≡ n ∷ t
  unfolding state_of
  head-are =
      let long : 1 + 8 * n ≡ length (n ∷ t) = omega (arith, table-long n t refl holds.opens) in
      ap head_in holds.state-is ∙ ap (λ (j : ℕ). take j (n ∷ (t ++ after))) long ∙ take-append_seam (n ∷ t) after

  pub room-are : room_in state ≡ whole
  unfolding two_bytes
  room-are = ap (drop 2) behind-are

  length-are : length_at (behind_table state) ≡ length (bytes_of o)
  unfolding two_bytes
  length-are = ap length_at behind-are ∙ two-bytes-read (length (bytes_of o)) (omega (arith, short o holds.written))
    where
      short : (o : Option (List ℕ)) → ((part : List ℕ) → o ≡ some part → WrittenRecord n part) → length (bytes_of o) ≤ 4854
      short none w = omega arith
      short (some part) w = written-short n part (w part refl)

  pub gathered-are : gathered_in state ≡ o
  gathered-are = ap₂ first_of length-are room-are ∙ go o holds.written
    where
      go : (o : Option (List ℕ)) → ((part : List ℕ) → o ≡ some part → WrittenRecord n part) →
          first_of (length (bytes_of o)) (bytes_of o ++ holds.rest) ≡ o
      go none w = refl
      go (some part) w = first_some part holds.rest (written-some n part (w part refl))

  -- What each call is, over a state of a begun gathering.

  pub adding-is : (bytes : List ℕ) → adding state bytes ≡ settled state (joining n t o bytes whole)
  unfolding adding
  adding-is bytes =
      ap (λ (k : ℕ). settled state (joining k (table_in state) (gathered_in state) bytes (room_in state))) types_are ∙
      ap (λ (u : List ℕ). settled state (joining n u (gathered_in state) bytes (room_in state))) table-are ∙
      ap₂ (λ (p : Option (List ℕ)) (r : List ℕ). settled state (joining n t p bytes r)) gathered-are room-are

  -- An addition replies as its call on records, `joining`, does.
  pub adding-answer : (bytes : List ℕ) → (adding state bytes).reply ≡ (joining n t o bytes whole).reply
  adding-answer bytes =
      ap (λ (y : Result). y.reply) (adding-is bytes) ∙
      settled-answer state (joining n t o bytes whole) (length_of (joining n t o bytes whole).reply)

  pub comparing-is : (bytes : List ℕ) → comparing state bytes ≡ compared_with n t o bytes
  unfolding comparing
  comparing-is bytes =
      ap (λ (k : ℕ). compared_with k (table_in state) (gathered_in state) bytes) types_are ∙
      ap₂ (λ (u : List ℕ) (p : Option (List ℕ)). compared_with n u p bytes) table-are gathered-are

  pub finishing-is : (out : List ℕ) → finishing state out ≡ finished_with n o out
  unfolding finishing
  finishing-is out =
      ap (λ (k : ℕ). checked (λ r. resulting r out) (opened k (table_in state)) (finished_with k (gathered_in state) out)) types_are ∙
      ap₂ (λ (u : List ℕ) (p : Option (List ℕ)). checked (λ r. resulting r out) (opened n u) (finished_with n p out)) table-are gathered-are ∙
      ap (λ (x : TableAnswer). checked (λ r. resulting r out) x (finished_with n o out)) holds.opens

  -- What the state holds after an addition.
  abbrev After : Option ℕ → Result → Type 0
  After l r = Holds n t (settled_by state l r).output (instead o (taken_by l r))

  after-join : (r : Result) → Leaves n whole r → (l : Option ℕ) → length_of r.reply ≡ l → After l r
  unfolding state_of
  after-join r leaves none e = holds
  after-join r leaves (some l) e =
      let told = length-told r.reply l e in
      let long : length (take l r.output) ≡ l = leaves.length-is l told in
      record {
        opens = holds.opens;
        written = λ part d. subst (WrittenRecord n) (some-injective d) (leaves.holds l told);
        rest = drop l r.output;
        room = omega (
          arith,
          holds.room,
          length-append (take l r.output) (drop l r.output),
          ap length (leaves.others l told),
          length-drop l whole,
        );
        state-is =
            ap₂ (λ (h : List ℕ) (x : List ℕ). h ++ (two_bytes l ++ x)) head-are (sym (take-append-drop l r.output)) ∙
            ap (λ (k : ℕ). n ∷ (t ++ (two_bytes k ++ (take l r.output ++ drop l r.output)))) (sym long);
      }

  pub adding-holds : (bytes : List ℕ) → Holds n t (adding state bytes).output (instead o (taken (joining n t o bytes blank)))
  adding-holds bytes =
      subst (λ (p : Option (List ℕ)). Holds n t (adding state bytes).output (instead o p))
      (joining-room n t holds.opens o holds.written bytes whole holds.room)
      (subst (λ (y : Result). Holds n t y.output (instead o (taken (joining n t o bytes whole)))) (sym (adding-is bytes))
      (after-join (joining n t o bytes whole) (joining-leaves n t holds.opens o bytes whole) (length_of (joining n t o bytes whole).reply) refl))
