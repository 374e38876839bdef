-- The proofs of Paper 4, sentence by sentence, about the definitions of `Gathering` and `Calls`. `Holds n t state o` says that the state is one
-- of a begun gathering over the table n, t, with the common part o so far.
use mathlib.Core.Path.{◌≡◌, refl, sym, ◌∙◌, ap, ap₂, subst}
use mathlib.Core.Bool.{Bool, true, false, cond}
use mathlib.Core.List.Memᴰ
use mathlib.Core.List.{List, [], ◌∷◌, ◌++◌, Memᴰ}
use mathlib.Core.Logic.{◌↔◌, ◌⊎◌, inl, inr, ⊎_elim}
use mathlib.Core.Option.{Option, none, some}
use Prim.Native.Nat.{ℕ, ◌+◌, ◌*◌, ◌≤◌}
use native.Mathlib.Omega.{arith}
use borrow.Author.Tests.{leb-true, le-leb}
use lib.Dec.{leb, eqb}
use lib.ListN.{length, take, drop, length-drop}
use Rattle.std.specs.Prelude.{Ok, Err}
use Rattle.graphs.specs.Rows.{Row}
use Rattle.graphs.specs.Number.{canonical}
use Rattle.graphs.proofs.Walk.{some-injective}
use Rattle.lattice.specs.Label.{Label}
use Rattle.acceptance.specs.Reply.{opened, TableAnswer}
use Rattle.encode.specs.declared.Unwritten.TheVariants as unwritten
use Rattle.encode.specs.Encode.{yielding, fitted, written_out, Writing}
use Rattle.decode.specs.Decode.{decoded}
use Rattle.record.specs.declared.GraphFault.{GraphFault}
use Rattle.record.specs.declared.GraphFault.TheVariants.{Malformed, OutOfRange, Cyclic, Unreached}
use Rattle.record.specs.Read.{Reading, refused, accepted, reading, judged, in_range, cyclic, reaches_all, graph_of_rows, graph_number}
use Rattle.replies.specs.Replies.{Reply}
use Rattle.replies.specs.Replies.{Length, NoRoom, NothingGathered}
use Rattle.replies.specs.Reply.{Result, resulting, refusing, reply_of, result_of, refusal, length_of}
use Rattle.pairs.specs.Pair.{read_both}
use Rattle.subsume.specs.Promise.{rows_below}
use Rattle.orders.specs.Ordering.{compared, ordered}
use Rattle.engine.proofs.Tables.{few-types}
use Rattle.calls.specs.Calls.{checked, ordering, rewriting}
use Rattle.demands.specs.Demand.{WrittenRecord, Rewritten}
use Rattle.demands.proofs.Results.{rewriting-is}
use Rattle.demands.proofs.Demands.{rewriting-means, written-own-bytes}
use Rattle.gathering.specs.Gathering.{state_of, begun, nothing_after, joining, adding, compared_with, comparing, written_from, finished_with, finishing}
use Rattle.gathering.proofs.Told.{none-some, length-told}
use Rattle.gathered.specs.Calls.{Call, add, order, finish, state_after, kept_where, additions, alone, blank, taken_by, taken, instead, folded}
use Rattle.gathered.specs.Theorem.{bytes_of, Holds, LeastAbove}
use Rattle.gathered.proofs.Mixture as Mixture
use Rattle.gathered.proofs.Mixture.{adding-kept}
use Rattle.gathered.proofs.Records.{Why, joining-room, joining-why}
use Rattle.gathered.proofs.Refusing.{begin-refused, finish-refused}
use Rattle.gathered.proofs.Least.{least-after, least-once}
use Rattle.gathered.proofs.Least as Least
use Rattle.gathered.proofs.Holding.{comparing-is, finishing-is, adding-holds, adding-answer}

-- 1. "The state after any such mixture is what the accepted additions alone, folded in their order, give": on any state, the bytes are equal.
pub mixture : (cs : List Call) (state : List ℕ) → state_after state cs ≡ state_after state (alone (additions state cs))
mixture = Mixture.mixture

-- Made alone, all accepted additions are accepted again.
pub alone-accepted : (cs : List Call) (state : List ℕ) → additions state (alone (additions state cs)) ≡ additions state cs
alone-accepted = Mixture.alone-accepted

-- "A refused addition changes nothing", whatever is handed in.
pub refused-unchanged : (state bytes : List ℕ) (k : ℕ) → refusal (adding state bytes).reply ≡ some k → (adding state bytes).output ≡ state
refused-unchanged = Mixture.adding-refused

-- A refused begin leaves the buffer as it was, and a refused finish leaves the output as it was.
pub begin-unchanged : (n : ℕ) (t buffer : List ℕ) (k : ℕ) → refusal (begun n t buffer).reply ≡ some k → (begun n t buffer).output ≡ buffer
begin-unchanged = begin-refused

pub finish-unchanged : (state out : List ℕ) (k : ℕ) → refusal (finishing state out).reply ≡ some k → (finishing state out).output ≡ out
finish-unchanged = finish-refused

-- 2. "A gathering is begun with one accepted table": a begun state has the table, and room for the longest record.
module _ (n : ℕ) (t : List ℕ) where
  pub begun-holds : (buffer : List ℕ) (l : ℕ) → (begun n t buffer).reply ≡ (Length l) → Holds n t (begun n t buffer).output none
  unfolding begun
  begun-holds buffer l e = go (opened n t) refl e
    where
      inside : opened n t ≡ Ok tt → (b : Bool) → leb (1 + 8 * n + 2 + 4854) (length buffer) ≡ b →
          (cond b
          (resulting (Length (3 + 8 * n)) (state_of n t [] (drop (3 + 8 * n) buffer)))
          (resulting NoRoom buffer)).reply ≡ (Length l) →
          Holds n t
          (cond b (resulting (Length (3 + 8 * n)) (state_of n t [] (drop (3 + 8 * n) buffer))) (resulting NoRoom buffer)).output none
      inside opens true q d =
          record {
            opens = opens;
            written = λ part s. none-some s;
            rest = drop (3 + 8 * n) buffer;
            room = omega (arith, leb-true (1 + 8 * n + 2 + 4854) (length buffer) q, length-drop (3 + 8 * n) buffer);
            state-is = refl;
          }
      inside opens false q d = let z : ◌≡◌ {A = ℕ} 0 1 = cc in absurd (omega arith)

      go : (o : TableAnswer) → opened n t ≡ o →
          (checked (λ r. resulting r buffer) o
          (cond (leb (1 + 8 * n + 2 + 4854) (length buffer))
          (resulting (Length (3 + 8 * n)) (state_of n t [] (drop (3 + 8 * n) buffer)))
          (resulting NoRoom buffer))).reply ≡ (Length l) →
          Holds n t
          (checked (λ r. resulting r buffer) o
          (cond (leb (1 + 8 * n + 2 + 4854) (length buffer))
          (resulting (Length (3 + 8 * n)) (state_of n t [] (drop (3 + 8 * n) buffer)))
          (resulting NoRoom buffer))).output none
      go (Err fault) q d = let z : ◌≡◌ {A = ℕ} 0 1 = cc in absurd (omega arith)
      go (Ok tt) q d = inside q (leb (1 + 8 * n + 2 + 4854) (length buffer)) refl d

  -- 5,369 bytes are enough for every table.
  pub begin-enough : (buffer : List ℕ) → 5369 ≤ length buffer → (begun n t buffer).reply ≡ NoRoom → ⊥
  unfolding begun
  begin-enough buffer h e = go (opened n t) refl e
    where
      go : (o : TableAnswer) → opened n t ≡ o →
          (checked (λ r. refusing r buffer) o
          (cond (leb (1 + 8 * n + 2 + 4854) (length buffer))
          (resulting (Length (3 + 8 * n)) (state_of n t [] (drop (3 + 8 * n) buffer)))
          (refusing NoRoom buffer))).reply ≡ NoRoom → ⊥
      go (Err fault) q d = let z : ◌≡◌ {A = ℕ} 0 1 = cc in omega arith
      go (Ok tt) q d =
          let fits : leb (1 + 8 * n + 2 + 4854) (length buffer) ≡ true =
          le-leb (1 + 8 * n + 2 + 4854) (length buffer) (omega (arith, h, few-types n t (opened n t) refl q)) in
          let told : ◌≡◌ {A = Reply} (Length (3 + 8 * n)) NoRoom =
          sym (ap (λ (b : Bool). (cond b (resulting (Length (3 + 8 * n)) (state_of n t [] (drop (3 + 8 * n) buffer))) (refusing NoRoom buffer)).reply) fits) ∙ d in
          let z : ◌≡◌ {A = ℕ} 0 1 = cc told in
          omega arith

  -- 3. After any calls the state holds the fold of the accepted additions.
  pub calls-hold : (cs : List Call) (state : List ℕ) (o : Option (List ℕ)) → Holds n t state o →
      Holds n t (state_after state cs) (folded n t o (additions state cs))
  unfolding state_after additions folded
  calls-hold [] state o holds = holds
  calls-hold (add bytes ∷ cs) state o holds =
      go (length_of (adding state bytes).reply) refl (calls-hold cs (adding state bytes).output)
    where
      go : (l : Option ℕ) → length_of (adding state bytes).reply ≡ l →
          ((p : Option (List ℕ)) → Holds n t (adding state bytes).output p →
          Holds n t (state_after (adding state bytes).output cs) (folded n t p (additions (adding state bytes).output cs))) →
          Holds n t (state_after (adding state bytes).output cs) (folded n t o (kept_where l bytes (additions (adding state bytes).output cs)))
      go none e more = more o (subst (λ (s : List ℕ). Holds n t s o) (sym (adding-kept state bytes e)) holds)
      go (some l) e more = more (instead o (taken (joining n t o bytes blank))) (adding-holds n t state o holds bytes)
  calls-hold (order bytes ∷ cs) state o holds = calls-hold cs state o holds
  calls-hold (finish out ∷ cs) state o holds = calls-hold cs state o holds

-- 4. "an addition is refused by 4 to 7 or 11 alone"

-- The number of a refused record is 4 to 7.
pub reading-number : (n : ℕ) (bytes : List ℕ) (fault : GraphFault) → reading n bytes ≡ refused fault → (4 ≤ graph_number fault) × (graph_number fault ≤ 7)
unfolding reading
reading-number n bytes fault e = go (decoded bytes) e
  where
    last : (f : GraphFault) → refused f ≡ refused fault → (4 ≤ graph_number f) × (graph_number f ≤ 7) → (4 ≤ graph_number fault) × (graph_number fault ≤ 7)
    last f d x = let same : f ≡ fault = cc in subst (λ (g : GraphFault). (4 ≤ graph_number g) × (graph_number g ≤ 7)) same x

    never : {X : Type 0} {rows : List (Row Label)} → accepted rows ≡ refused fault → X
    never d = let z : ◌≡◌ {A = ℕ} 0 1 = cc in absurd (omega arith)

    reaches : (rows : List (Row Label)) (b : Bool) → cond b (accepted rows) (refused Unreached) ≡ refused fault →
        (4 ≤ graph_number fault) × (graph_number fault ≤ 7)
    reaches rows true d = never d
    reaches rows false d = last Unreached d (omega arith, omega arith)

    loops : (rows : List (Row Label)) (b : Bool) →
        cond b (refused Cyclic) (cond (reaches_all rows) (accepted rows) (refused Unreached)) ≡ refused fault →
        (4 ≤ graph_number fault) × (graph_number fault ≤ 7)
    loops rows true d = last Cyclic d (omega arith, omega arith)
    loops rows false d = reaches rows (reaches_all rows) d

    ranges : (rows : List (Row Label)) (b : Bool) →
        cond b (cond (cyclic rows) (refused Cyclic) (cond (reaches_all rows) (accepted rows) (refused Unreached))) (refused OutOfRange) ≡ refused fault →
        (4 ≤ graph_number fault) × (graph_number fault ≤ 7)
    ranges rows true d = loops rows (cyclic rows) d
    ranges rows false d = last OutOfRange d (omega arith, omega arith)

    go : (o : Option (List (Row Label))) → judged n o ≡ refused fault → (4 ≤ graph_number fault) × (graph_number fault ≤ 7)
    go none d = last Malformed d (omega arith, omega arith)
    go (some rows) d = ranges rows (in_range n rows) d

-- What an order and a finish go on with, once something is gathered, never answers 16.

ordering-gathered : (n : ℕ) (t a b : List ℕ) → ordering n t a b ≡ NothingGathered → ⊥
unfolding ordering ordered
ordering-gathered n t a b e = go (opened n t) (reading n a) (reading n b) e
  where
    four : (p q : Bool) → compared p q ≡ NothingGathered → ⊥
    four true true d = let z : ◌≡◌ {A = ℕ} 0 1 = cc in omega arith
    four true false d = let z : ◌≡◌ {A = ℕ} 0 1 = cc in omega arith
    four false true d = let z : ◌≡◌ {A = ℕ} 0 1 = cc in omega arith
    four false false d = let z : ◌≡◌ {A = ℕ} 0 1 = cc in omega arith

    go : (x : TableAnswer) (p q : Reading) → checked (λ r. r) x (read_both (λ r. r) p q (ordered n t)) ≡ NothingGathered → ⊥
    go (Err fault) p q d = let z : ◌≡◌ {A = ℕ} 0 1 = cc in omega arith
    go (Ok tt) (refused fault) q d = let z : ◌≡◌ {A = ℕ} 0 1 = cc in omega arith
    go (Ok tt) (accepted rows) (refused fault) d = let z : ◌≡◌ {A = ℕ} 0 1 = cc in omega arith
    go (Ok tt) (accepted s) (accepted g) d = four (rows_below n t s g) (rows_below n t g s) d

written-gathered : (w : Writing) → reply_of w ≡ NothingGathered → ⊥
written-gathered (Ok l) e = let z : ◌≡◌ {A = ℕ} 0 1 = cc in omega arith
written-gathered (Err unwritten.TooLarge) e = let z : ◌≡◌ {A = ℕ} 0 1 = cc in omega arith
written-gathered (Err unwritten.NoRoom) e = let z : ◌≡◌ {A = ℕ} 0 1 = cc in omega arith

module _ (n : ℕ) (t state : List ℕ) (o : Option (List ℕ)) (holds : Holds n t state o) where
  -- An addition is refused by the program's 4 to 7, as the first graph, or by 11 once something is gathered.
  pub addition-why : (bytes : List ℕ) → length_of (adding state bytes).reply ≡ none →
      (r : Reply) × ((adding state bytes).reply ≡ r) × Why n bytes o r
  addition-why bytes e = (
    (joining n t o bytes (bytes_of o ++ holds.rest)).reply,
    adding-answer n t state o holds bytes,
    joining-why n t holds.opens o holds.written bytes (bytes_of o ++ holds.rest) holds.room (sym (ap length_of (adding-answer n t state o holds bytes)) ∙ e),
  )

  pub addition-numbers : (bytes : List ℕ) (k : ℕ) → refusal (adding state bytes).reply ≡ some k → ((4 ≤ k) × (k ≤ 7)) ⊎ (k ≡ 11)
  addition-numbers bytes k e =
      let (r, is, why) = addition-why bytes (Mixture.refusal-no-length (adding state bytes).reply k e) in
      number r (sym (ap refusal is) ∙ e) why
    where
      number : (r : Reply) → refusal r ≡ some k → Why n bytes o r → ((4 ≤ k) × (k ≤ 7)) ⊎ (k ≡ 11)
      number r d (inl (fault, reads, is)) =
          let same : graph_number fault ≡ k = some-injective (sym (ap refusal is) ∙ d) in
          inl (subst (λ (j : ℕ). (4 ≤ j) × (j ≤ 7)) same (reading-number n bytes fault reads))
      number r d (inr (part, there, is)) = inr (sym (some-injective (sym (ap refusal is) ∙ d)))

  -- An accepted addition is part of the fold.
  pub addition-taken : (bytes : List ℕ) (l : ℕ) → length_of (adding state bytes).reply ≡ some l →
      (part : List ℕ) × (taken (joining n t o bytes blank) ≡ some part)
  addition-taken bytes l e =
      let whole : List ℕ = bytes_of o ++ holds.rest in
      let told : length_of (joining n t o bytes whole).reply ≡ some l = sym (ap length_of (adding-answer n t state o holds bytes)) ∙ e in (
        take l (joining n t o bytes whole).output,
        sym (joining-room n t holds.opens o holds.written bytes whole holds.room) ∙
            ap (λ (m : Option ℕ). taken_by m (joining n t o bytes whole)) told,
      )

  -- 5. The order of a program is told "as first graph, to the common part of those added so far".
  pub order_is : (bytes part : List ℕ) → o ≡ some part → comparing state bytes ≡ ordering n t bytes part
  order_is bytes part e = comparing-is n t state o holds bytes ∙ ap (λ (p : Option (List ℕ)). compared_with n t p bytes) e

  -- An order answers 16 exactly where nothing is gathered and the program is accepted.
  pub order-nothing : (bytes : List ℕ) → (comparing state bytes ≡ NothingGathered) ↔
      ((o ≡ none) × ((rows : List (Row Label)) × (reading n bytes ≡ accepted rows)))
  order-nothing bytes = (λ e. there o (sym (comparing-is n t state o holds bytes) ∙ e), λ e. comparing-is n t state o holds bytes ∙ back e)
    where
      reads : (r : Reading) → nothing_after r ≡ NothingGathered → (rows : List (Row Label)) × (r ≡ accepted rows)
      reads (refused fault) e = let z : ◌≡◌ {A = ℕ} 0 1 = cc in absurd (omega arith)
      reads (accepted rows) e = (rows, refl)

      there : (p : Option (List ℕ)) → compared_with n t p bytes ≡ NothingGathered → (p ≡ none) × ((rows : List (Row Label)) × (reading n bytes ≡ accepted rows))
      there none e =
          (refl, reads (reading n bytes) (sym (ap (λ (x : TableAnswer). checked (λ r. r) x (nothing_after (reading n bytes))) holds.opens) ∙ e))
      there (some part) e = absurd (ordering-gathered n t bytes part e)

      back : (o ≡ none) × ((rows : List (Row Label)) × (reading n bytes ≡ accepted rows)) → compared_with n t o bytes ≡ NothingGathered
      back (e, (rows, d)) =
          ap (λ (p : Option (List ℕ)). compared_with n t p bytes) e ∙
          ap₂ (λ (x : TableAnswer) (r : Reading). checked (λ r. r) x (nothing_after r)) holds.opens d

  -- 6. "Finishing writes the common part", or answers 8.
  pub finish-is : (out part : List ℕ) → o ≡ some part → finishing state out ≡ result_of (fitted part out)
  finish-is out part e =
      let one : WrittenRecord n part = holds.written part e in
      finishing-is n t state o holds out ∙ ap (λ (p : Option (List ℕ)). finished_with n p out) e ∙
      ap (λ (r : Reading). written_from r out) one.reads ∙
      sym (rewriting-is n t part one.form holds.opens one.reads out) ∙ written-own-bytes n t part one holds.opens out

  -- A finish answers 16 exactly where nothing is gathered.
  pub finish-nothing : (out : List ℕ) → ((finishing state out).reply ≡ NothingGathered) ↔ (o ≡ none)
  finish-nothing out = (
    λ e. there o holds.written (sym (ap (λ (y : Result). y.reply) (finishing-is n t state o holds out)) ∙ e),
    λ e. ap (λ (y : Result). y.reply) (finishing-is n t state o holds out ∙ ap (λ (p : Option (List ℕ)). finished_with n p out) e),
  )
    where
      from : (r : Reading) → (written_from r out).reply ≡ NothingGathered → {X : Type 0} → X
      from (refused fault) e = let z : ◌≡◌ {A = ℕ} 0 1 = cc in absurd (omega arith)
      from (accepted rows) e = absurd (written-gathered (written_out (canonical eqb (graph_of_rows rows)) out).answer e)

      there : (p : Option (List ℕ)) → ((part : List ℕ) → p ≡ some part → WrittenRecord n part) → (finished_with n p out).reply ≡ NothingGathered → p ≡ none
      there none w e = refl
      there (some part) w e = from (reading n part) e

  -- An order is refused only by the program's 4 to 7 and by 16, a finish only by 16 and 8.
  pub order-numbers : (bytes : List ℕ) (k : ℕ) → refusal (comparing state bytes) ≡ some k → ((4 ≤ k) × (k ≤ 7)) ⊎ (k ≡ 16)
  unfolding ordering ordered
  order-numbers bytes k e = go o holds.written (sym (ap refusal (comparing-is n t state o holds bytes)) ∙ e)
    where
      number : (fault : GraphFault) → reading n bytes ≡ refused fault → some (graph_number fault) ≡ some k → ((4 ≤ k) × (k ≤ 7)) ⊎ (k ≡ 16)
      number fault reads d = inl (subst (λ (j : ℕ). (4 ≤ j) × (j ≤ 7)) (some-injective d) (reading-number n bytes fault reads))

      nothing : (r : Reading) → reading n bytes ≡ r → refusal (nothing_after r) ≡ some k → ((4 ≤ k) × (k ≤ 7)) ⊎ (k ≡ 16)
      nothing (refused fault) reads d = number fault reads d
      nothing (accepted rows) reads d = inr (sym (some-injective d))

      four : (p q : Bool) {X : Type 0} → refusal (compared p q) ≡ some k → X
      four true true d = none-some d
      four true false d = none-some d
      four false true d = none-some d
      four false false d = none-some d

      both : (form : List (Row Label)) (r : Reading) → reading n bytes ≡ r →
          refusal (read_both (λ q. q) r (accepted form) (ordered n t)) ≡ some k → ((4 ≤ k) × (k ≤ 7)) ⊎ (k ≡ 16)
      both form (refused fault) reads d = number fault reads d
      both form (accepted rows) reads d = four (rows_below n t rows form) (rows_below n t form rows) d

      go : (p : Option (List ℕ)) → ((part : List ℕ) → p ≡ some part → WrittenRecord n part) → refusal (compared_with n t p bytes) ≡ some k →
          ((4 ≤ k) × (k ≤ 7)) ⊎ (k ≡ 16)
      go none w d =
          nothing (reading n bytes) refl
          (sym (ap (λ (x : TableAnswer). refusal (checked (λ r. r) x (nothing_after (reading n bytes)))) holds.opens) ∙ d)
      go (some part) w d =
          both (w part refl).form (reading n bytes) refl
          (sym (ap₂ (λ (x : TableAnswer) (r : Reading). refusal (checked (λ r. r) x (read_both (λ q. q) (reading n bytes) r (ordered n t)))) holds.opens (w part refl).reads) ∙ d)

  pub finish-numbers : (out : List ℕ) (k : ℕ) → refusal (finishing state out).reply ≡ some k → (k ≡ 16) ⊎ (k ≡ 8)
  unfolding fitted
  finish-numbers out k e = go o refl
    where
      room : (bytes : List ℕ) (b : Bool) →
          refusal
          (result_of (cond b (yielding (Ok (length bytes)) (bytes ++ drop (length bytes) out)) (yielding (Err unwritten.NoRoom) out))).reply ≡ some k →
          (k ≡ 16) ⊎ (k ≡ 8)
      room bytes true d = none-some d
      room bytes false d = inr (sym (some-injective d))

      go : (p : Option (List ℕ)) → o ≡ p → (k ≡ 16) ⊎ (k ≡ 8)
      go none d =
          let is : (finishing state out).reply ≡ NothingGathered = (finish-nothing out).1 d in
          inl (sym (some-injective (sym (ap refusal is) ∙ e)))
      go (some part) d = room part (leb (length part) (length out)) (sym (ap (λ (r : Result). refusal r.reply) (finish-is out part d)) ∙ e)

-- 7. Nothing is gathered exactly before the first accepted addition.
module _ (n : ℕ) (t : List ℕ) where
  folded-some : (ps : List (List ℕ)) (part : List ℕ) → (q : List ℕ) × (folded n t (some part) ps ≡ some q)
  unfolding folded
  folded-some [] part = (part, refl)
  folded-some (b ∷ ps) part = go (taken (joining n t (some part) b blank)) (folded-some ps)
    where
      go : (x : Option (List ℕ)) → ((p : List ℕ) → (q : List ℕ) × (folded n t (some p) ps ≡ some q)) →
          (q : List ℕ) × (folded n t (instead (some part) x) ps ≡ some q)
      go none more = more part
      go (some c) more = more c

  pub gathered-or-none : (cs : List Call) (state : List ℕ) (o : Option (List ℕ)) → Holds n t state o →
      (additions state cs ≡ []) ⊎ ((q : List ℕ) × (folded n t o (additions state cs) ≡ some q))
  unfolding additions folded
  gathered-or-none [] state o holds = inl refl
  gathered-or-none (add bytes ∷ cs) state o holds =
      go (length_of (adding state bytes).reply) refl (gathered-or-none cs (adding state bytes).output o)
    where
      go : (l : Option ℕ) → length_of (adding state bytes).reply ≡ l →
          (Holds n t (adding state bytes).output o →
          (additions (adding state bytes).output cs ≡ []) ⊎ ((q : List ℕ) × (folded n t o (additions (adding state bytes).output cs) ≡ some q))) →
          (kept_where l bytes (additions (adding state bytes).output cs) ≡ []) ⊎
          ((q : List ℕ) × (folded n t o (kept_where l bytes (additions (adding state bytes).output cs)) ≡ some q))
      go none e more = more (subst (λ (s : List ℕ). Holds n t s o) (sym (adding-kept state bytes e)) holds)
      go (some l) e more =
          let (part, is) = addition-taken n t state o holds bytes l e in
          let (q, found) = folded-some (additions (adding state bytes).output cs) part in
          inr (q, ap (λ (x : Option (List ℕ)). folded n t (instead o x) (additions (adding state bytes).output cs)) is ∙ found)
  gathered-or-none (order bytes ∷ cs) state o holds = gathered-or-none cs state o holds
  gathered-or-none (finish out ∷ cs) state o holds = gathered-or-none cs state o holds

  -- "Order or finish before the first addition is 16"
  pub finish-before : (cs : List Call) (state : List ℕ) → Holds n t state none → (out : List ℕ) →
      ((finishing (state_after state cs) out).reply ≡ NothingGathered) ↔ (additions state cs ≡ [])
  unfolding folded
  finish-before cs state holds out =
      let exact = finish-nothing n t (state_after state cs) (folded n t none (additions state cs)) (calls-hold n t cs state none holds) out in (
        λ e. ⊎_elim (λ d. d) (λ found. none-some (sym (exact.0 e) ∙ found.1)) (gathered-or-none cs state none holds),
        λ d. exact.1 (ap (folded n t none) d),
      )

  pub order-before : (cs : List Call) (state : List ℕ) → Holds n t state none → (bytes : List ℕ) →
      (comparing (state_after state cs) bytes ≡ NothingGathered) ↔
      ((additions state cs ≡ []) × ((rows : List (Row Label)) × (reading n bytes ≡ accepted rows)))
  unfolding folded
  order-before cs state holds bytes =
      let exact = order-nothing n t (state_after state cs) (folded n t none (additions state cs)) (calls-hold n t cs state none holds) bytes in (
        λ e. (⊎_elim (λ d. d) (λ found. none-some (sym (exact.0 e).0 ∙ found.1)) (gathered-or-none cs state none holds), (exact.0 e).1),
        λ d. exact.1 (ap (folded n t none) d.0, d.1),
      )

  -- 8. After calls on a begun state that accepted an addition, there is one record that is read as the least graph of any size above all accepted
  -- additions. Finishing writes this record, or answers 8, and a program's order is told to this record.
  pub finish-least : (cs : List Call) (state : List ℕ) → Holds n t state none → (additions state cs ≡ [] → ⊥) →
      (part : List ℕ) × LeastAbove n t (additions state cs) part ×
      ((out : List ℕ) → finishing (state_after state cs) out ≡ result_of (fitted part out)) ×
      ((bytes : List ℕ) → comparing (state_after state cs) bytes ≡ ordering n t bytes part)
  finish-least cs state holds some-added = go (least-after n t holds.opens cs state holds)
    where
      after : Holds n t (state_after state cs) (folded n t none (additions state cs))
      after = calls-hold n t cs state none holds

      go : (additions state cs ≡ []) ⊎ ((q : List ℕ) × (folded n t none (additions state cs) ≡ some q) × LeastAbove n t (additions state cs) q) →
          (part : List ℕ) × LeastAbove n t (additions state cs) part ×
          ((out : List ℕ) → finishing (state_after state cs) out ≡ result_of (fitted part out)) ×
          ((bytes : List ℕ) → comparing (state_after state cs) bytes ≡ ordering n t bytes part)
      go (inl none-added) = absurd (some-added none-added)
      go (inr (q, found, best)) = (
        q,
        best,
        (λ out. finish-is n t (state_after state cs) (folded n t none (additions state cs)) after out q found),
        (λ bytes. order_is n t (state_after state cs) (folded n t none (additions state cs)) after bytes q found),
      )

  -- After one accepted addition, finishing gives what rewriting that program gives.
  pub finish-one : (cs : List Call) (state : List ℕ) → Holds n t state none → (p : List ℕ) → additions state cs ≡ p ∷ [] →
      (out : List ℕ) → finishing (state_after state cs) out ≡ rewriting n t p out
  unfolding folded
  finish-one cs state holds p e out = go (least-after n t holds.opens cs state holds)
    where
      again : (rows : List (Row Label)) (q : List ℕ) → reading n p ≡ accepted rows → (o : Option ℕ) → length_of (rewriting n t p blank).reply ≡ o →
          taken_by o (rewriting n t p blank) ≡ some q → Rewritten n t p rows q
      again rows q reads none d is = none-some is
      again rows q reads (some l) d is =
          subst (Rewritten n t p rows) (some-injective is)
          (rewriting-means n t p rows holds.opens reads blank l (length-told (rewriting n t p blank).reply l d))

      instead-taken : (o : Option (List ℕ)) → instead none o ≡ o
      instead-taken none = refl
      instead-taken (some q) = refl

      go : (additions state cs ≡ []) ⊎ ((q : List ℕ) × (folded n t none (additions state cs) ≡ some q) × LeastAbove n t (additions state cs) q) →
          finishing (state_after state cs) out ≡ rewriting n t p out
      go (inl none-added) = let z : ◌≡◌ {A = ℕ} 0 1 = cc (none-added, e) in absurd (omega arith)
      go (inr (q, found, best)) =
          let (rows, reads) = best.all-accepted p (subst (λ (ps : List (List ℕ)). Memᴰ p ps) (sym e) (Memᴰ.head refl)) in
          let is : taken (rewriting n t p blank) ≡ some q =
          sym (instead-taken (taken (rewriting n t p blank))) ∙ sym (ap (folded n t none) e) ∙ found in
          let one : Rewritten n t p rows q = again rows q reads (length_of (rewriting n t p blank).reply) refl is in
          finish-is n t (state_after state cs) (folded n t none (additions state cs)) (calls-hold n t cs state none holds) out q found ∙
          sym (written-own-bytes n t q one.is-record.is-written holds.opens out) ∙ one.again out

  -- 9. The record that is gathered depends only on which programs were accepted, not on their order.
  pub two-orders : (cs ds : List Call) (state other : List ℕ) → Holds n t state none → Holds n t other none →
      ((p : List ℕ) → Memᴰ p (additions state cs) ↔ Memᴰ p (additions other ds)) →
      folded n t none (additions state cs) ≡ folded n t none (additions other ds)
  unfolding folded
  two-orders cs ds state other holds held same =
      go (least-after n t holds.opens cs state holds) (least-after n t holds.opens ds other held)
    where
      no_member : (ps : List (List ℕ)) → ((p : List ℕ) → Memᴰ p ps → ⊥) → ps ≡ []
      no_member [] h = refl
      no_member (p ∷ ps) h = absurd (h p (Memᴰ.head refl))

      go : (additions state cs ≡ []) ⊎ ((q : List ℕ) × (folded n t none (additions state cs) ≡ some q) × LeastAbove n t (additions state cs) q) →
          (additions other ds ≡ []) ⊎ ((q : List ℕ) × (folded n t none (additions other ds) ≡ some q) × LeastAbove n t (additions other ds) q) →
          folded n t none (additions state cs) ≡ folded n t none (additions other ds)
      go (inl e) _ =
          let d : additions other ds ≡ [] =
          no_member (additions other ds)
          (λ p mem. Memᴰ.not-nil (subst (λ (ps : List (List ℕ)). Memᴰ p ps) e ((same p).1 mem))) in
          ap (folded n t none) (e ∙ sym d)
      go (inr _) (inl d) =
          let e : additions state cs ≡ [] =
          no_member (additions state cs)
          (λ p mem. Memᴰ.not-nil (subst (λ (ps : List (List ℕ)). Memᴰ p ps) d ((same p).0 mem))) in
          ap (folded n t none) (e ∙ sym d)
      go (inr (q, found, best)) (inr (r, seen, least)) =
          found ∙
          ap some (least-once n t holds.opens (additions state cs) (additions other ds) q r same
          ((calls-hold n t cs state none holds).written q found) ((calls-hold n t ds other none held).written r seen) best least) ∙
          sym seen

-- 10. An accepted addition writes its record, the next value of the fold, over the first bytes of the room; the table and the bytes behind stay.
pub addition-state : (n : ℕ) (t state : List ℕ) (o : Option (List ℕ)) (holds : Holds n t state o) (bytes : List ℕ) (l : ℕ) →
    length_of (adding state bytes).reply ≡ some l →
    (c : List ℕ) × (taken (joining n t o bytes blank) ≡ some c) ×
    ((adding state bytes).output ≡ state_of n t c (drop (length c) (bytes_of o ++ holds.rest)))
addition-state n t state o holds bytes l e = Least.addition-state n t holds.opens state o holds bytes l e
