-- Each reply of a call on a gathering that was begun is given exactly where it is due, and what is gathered is the fold of the accepted
-- additions.
use mathlib.Core.Path.{◌≡◌, refl, sym, ◌∙◌, ap, subst}
use mathlib.Core.Bool.{Bool, true, false}
use mathlib.Core.List.{List, [], ◌∷◌, ◌++◌}
use mathlib.Core.Logic.{◌↔◌}
use mathlib.Core.Option.{Option, none, some}
use Prim.Native.Nat.{ℕ}
use native.Mathlib.Omega.{arith}
use borrow.Author.Tests.{leb-true, leb-false}
use lib.Dec.{leb}
use lib.ListN.{length, drop}
use Rattle.graphs.specs.Rows.{Row}
use Rattle.graphs.proofs.Walk.{some-injective}
use Rattle.lattice.specs.Label.{Label}
use Rattle.acceptance.specs.declared.TableFault.{TableFault}
use Rattle.std.specs.Prelude.{Ok, Err}
use Rattle.acceptance.specs.Reply.{opened, TableAnswer}
use Rattle.encode.specs.Encode.{fitted}
use Rattle.record.specs.declared.GraphFault.{GraphFault}
use Rattle.record.specs.Read.{Reading, refused, accepted, reading}
use Rattle.replies.specs.declared.Side.TheVariants.{First}
use Rattle.replies.specs.Replies.{Reply}
use Rattle.replies.specs.Replies.{Length, Graph as OfGraph, TooLarge}
use Rattle.replies.specs.Reply.{Result, length_of}
use Rattle.demands.specs.Demand.{WrittenRecord, Large, common}
use Rattle.gathering.specs.Gathering.{state_of, joining, adding, comparing, finishing}
use Rattle.gathering.proofs.Told.{length-told}
use Rattle.gathered.specs.Calls.{Call, add, order, finish, state_after, kept_where, additions, blank, taken, instead, folded}
use Rattle.gathered.specs.Theorem.{bytes_of, Holds}
use Rattle.gathered.specs.Due.{NewPart, AddDue, AddedDue, OrderDue, FinishedDue, Folds}
use Rattle.gathered.specs.Due as due
use Rattle.gathered.proofs.Mixture.{adding-kept}
use Rattle.gathered.proofs.Records.{length-blank, written-short, taken-fitted}
use Rattle.gathered.proofs.Holding.{gathered-are, adding-answer, comparing-is, adding-holds}
use Rattle.gathered.proofs.Theorems.{calls-hold, finish-is, finish-nothing, addition-state}
use Rattle.gathered.proofs.Exact.{fitted_by, fitted_short, fitted-whole, joining-new, joining-exact, compared-exact}

table-both : {X : Type 0} {x : TableAnswer} {fault : TableFault} → x ≡ Ok tt → x ≡ Err fault → X
table-both opens e = let z : ◌≡◌ {A = ℕ} 0 1 = cc (opens, e) in absurd (omega arith)

read-both : {X : Type 0} {x : Reading} {rows : List (Row Label)} {fault : GraphFault} → x ≡ accepted rows → x ≡ refused fault → X
read-both reads e = let z : ◌≡◌ {A = ℕ} 0 1 = cc (reads, e) in absurd (omega arith)

-- The record of a new common part is a written record.
pub new-written : (n : ℕ) (t : List ℕ) (o : Option (List ℕ)) (bytes new : List ℕ) → NewPart n t o bytes new → WrittenRecord n new
new-written n t o bytes new (due.first rows is reads one) = one.is-written
new-written n t o bytes new (due.later part rows others is reads second one) = one.is-written

-- The record of a new common part is what an addition takes.
pub new-taken : (n : ℕ) (t : List ℕ) → opened n t ≡ Ok tt → (o : Option (List ℕ)) (bytes new : List ℕ) → NewPart n t o bytes new →
    taken (joining n t o bytes blank) ≡ some new
new-taken n t opens o bytes new one =
    ap taken (joining-new n t bytes blank opens o new one) ∙
    taken-fitted new blank (omega (arith, length-blank, written-short n new (new-written n t o bytes new one)))

module _ (n : ℕ) (t state : List ℕ) (o : Option (List ℕ)) (holds : Holds n t state o) where
  -- Add.
  module _ (bytes : List ℕ) where
    pub added-exact : (r : Reply) → ((adding state bytes).reply ≡ r) ↔ AddedDue n t o bytes r
    added-exact r =
        let is = adding-answer n t state o holds bytes in
        let (due-there, due-back) = joining-exact n t bytes (bytes_of o ++ holds.rest) o r in
        (λ e. there (due-there (sym is ∙ e)), λ d. is ∙ due-back (back d))
      where
        there : {r : Reply} → AddDue n t o bytes (length (bytes_of o ++ holds.rest)) r → AddedDue n t o bytes r
        there (due.table fault e) = table-both holds.opens e
        there (due.program fault opens e) = due.program fault e
        there (due.gathered part rows fault opens reads is e) = read-both (holds.written part is).reads e
        there (due.too_large part rows others is given large) = due.too_large part rows others is given.first given.second large
        there (due.no_room new opens one less) = absurd (omega (arith, holds.room, written-short n new (new-written n t o bytes new one)))
        there (due.fits new opens one fit) = due.added new one

        back : {r : Reply} → AddedDue n t o bytes r → AddDue n t o bytes (length (bytes_of o ++ holds.rest)) r
        back (due.program fault e) = due.program fault holds.opens e
        back (due.too_large part rows others is first second large) =
            due.too_large part rows others is (record { opens = holds.opens; first = first; second = second }) large
        back (due.added new one) =
            due.fits new holds.opens one (omega (arith, holds.room, written-short n new (new-written n t o bytes new one)))

    pub added-program : (fault : GraphFault) → ((adding state bytes).reply ≡ OfGraph fault First) ↔ (reading n bytes ≡ refused fault)
    added-program fault =
        (λ e. go fault ((added-exact (OfGraph fault First)).0 e), λ e. (added-exact (OfGraph fault First)).1 (due.program fault e))
      where
        go : (fault : GraphFault) → AddedDue n t o bytes (OfGraph fault First) → reading n bytes ≡ refused fault
        go _ (due.program fault e) = e

    abbrev CommonLarge : Type 0
    CommonLarge =
        (part : List ℕ) × (rows : List (Row Label)) × (others : List (Row Label)) × (o ≡ some part) × (reading n bytes ≡ accepted rows) ×
        (reading n part ≡ accepted others) × Large (common n t rows others)

    pub added-too-large : ((adding state bytes).reply ≡ TooLarge) ↔
        ((part : List ℕ) × (rows : List (Row Label)) × (others : List (Row Label)) × (o ≡ some part) × (reading n bytes ≡ accepted rows) ×
        (reading n part ≡ accepted others) × Large (common n t rows others))
    added-too-large = (
      λ e. go ((added-exact TooLarge).0 e),
      λ (part, rows, others, is, first, second, large). (added-exact TooLarge).1 (due.too_large part rows others is first second large),
    )
      where
        go : AddedDue n t o bytes TooLarge → CommonLarge
        go (due.too_large part rows others is first second large) = (part, rows, others, is, first, second, large)

    pub added-length : (l : ℕ) → ((adding state bytes).reply ≡ Length l) ↔ ((new : List ℕ) × NewPart n t o bytes new × (length new ≡ l))
    added-length l = (
      λ e. go l ((added-exact (Length l)).0 e),
      λ (new, one, is). (added-exact (Length (length new))).1 (due.added new one) ∙ ap Length is,
    )
      where
        go : (l : ℕ) → AddedDue n t o bytes (Length l) → (new : List ℕ) × NewPart n t o bytes new × (length new ≡ l)
        go _ (due.added new one) = (new, one, refl)

    -- What an accepted addition leaves: the record of the new common part stands over the first bytes of the room, and the other bytes stay.
    pub added-leaves : (l : ℕ) → (adding state bytes).reply ≡ Length l →
        (new : List ℕ) × NewPart n t o bytes new × (length new ≡ l) × ((adding state bytes).output ≡ state_of n t new (drop l (bytes_of o ++ holds.rest)))
    added-leaves l e =
        let (new, one, long) = (added-length l).0 e in
        let (c, is, state-is) = addition-state n t state o holds bytes l (ap length_of e) in
        let same : c ≡ new = some-injective (sym is ∙ new-taken n t holds.opens o bytes new one) in (
          new,
          one,
          long,
          state-is ∙ ap (λ (x : List ℕ). state_of n t x (drop (length x) (bytes_of o ++ holds.rest))) same ∙
              ap (λ (k : ℕ). state_of n t new (drop k (bytes_of o ++ holds.rest))) long,
        )

    -- Order.
    pub ordered-exact : (r : Reply) → (comparing state bytes ≡ r) ↔ OrderDue n t o bytes r
    ordered-exact r =
        let is = comparing-is n t state o holds bytes in
        let (there, back) = compared-exact n t bytes o r in
        (λ e. there (sym is ∙ e), λ d. is ∙ back d)

    pub ordered-program : (fault : GraphFault) → (comparing state bytes ≡ OfGraph fault First) ↔ (reading n bytes ≡ refused fault)
    ordered-program fault = (
      λ e. go fault ((ordered-exact (OfGraph fault First)).0 e),
      λ e. (ordered-exact (OfGraph fault First)).1 (due.program fault holds.opens e),
    )
      where
        go : (fault : GraphFault) → OrderDue n t o bytes (OfGraph fault First) → reading n bytes ≡ refused fault
        go _ (due.program fault opens e) = e

  -- Finish.
  module _ (out : List ℕ) where
    finished-due : FinishedDue o (length out) (finishing state out).reply
    unfolding fitted
    finished-due = held o refl
      where
        room : (part : List ℕ) → o ≡ some part → (b : Bool) → leb (length part) (length out) ≡ b → FinishedDue o (length out) (fitted_by part out b).reply
        room part is true e = due.fits part is (leb-true (length part) (length out) e)
        room part is false e = due.no_room part is (leb-false (length part) (length out) e)

        held : (p : Option (List ℕ)) → o ≡ p → FinishedDue o (length out) (finishing state out).reply
        held none is = subst (FinishedDue o (length out)) (sym ((finish-nothing n t state o holds out).1 is)) (due.nothing is)
        held (some part) is =
            subst (λ (y : Result). FinishedDue o (length out) y.reply) (sym (finish-is n t state o holds out part is))
            (room part is (leb (length part) (length out)) refl)

    finished-replies : {r : Reply} → FinishedDue o (length out) r → (finishing state out).reply ≡ r
    finished-replies (due.nothing is) = (finish-nothing n t state o holds out).1 is
    finished-replies (due.no_room part is less) =
        ap (λ (y : Result). y.reply) (finish-is n t state o holds out part is ∙ fitted_short part out less)
    finished-replies (due.fits part is fit) =
        ap (λ (y : Result). y.reply) (finish-is n t state o holds out part is ∙ fitted-whole part out fit)

    pub finished-exact : (r : Reply) → ((finishing state out).reply ≡ r) ↔ FinishedDue o (length out) r
    finished-exact r = (λ e. subst (FinishedDue o (length out)) e finished-due, finished-replies)

    -- What a finish that is answered by a length writes.
    pub finished-leaves : (l : ℕ) → (finishing state out).reply ≡ Length l →
        (part : List ℕ) × (o ≡ some part) × WrittenRecord n part × (length part ≡ l) × ((finishing state out).output ≡ part ++ drop l out)
    finished-leaves l e = go l ((finished-exact (Length l)).0 e)
      where
        go : (l : ℕ) → FinishedDue o (length out) (Length l) →
            (part : List ℕ) × (o ≡ some part) × WrittenRecord n part × (length part ≡ l) × ((finishing state out).output ≡ part ++ drop l out)
        go _ (due.fits part is fit) = (
          part,
          is,
          holds.written part is,
          refl,
          ap (λ (y : Result). y.output) (finish-is n t state o holds out part is ∙ fitted-whole part out fit),
        )

-- The fold.
module _ (n : ℕ) (t : List ℕ) where
  -- After any calls the state holds the fold of the accepted additions.
  pub calls-fold : (cs : List Call) (state : List ℕ) (o : Option (List ℕ)) → Holds n t state o →
      Folds n t o (additions state cs) (folded n t o (additions state cs))
  unfolding additions folded
  calls-fold [] state o holds = due.end o
  calls-fold (add bytes ∷ cs) state o holds =
      go (length_of (adding state bytes).reply) refl (calls-fold cs (adding state bytes).output)
    where
      go : (l : Option ℕ) → length_of (adding state bytes).reply ≡ l →
          ((p : Option (List ℕ)) → Holds n t (adding state bytes).output p →
          Folds n t p (additions (adding state bytes).output cs) (folded n t p (additions (adding state bytes).output cs))) →
          Folds n t o (kept_where l bytes (additions (adding state bytes).output cs))
          (folded n t o (kept_where l bytes (additions (adding state bytes).output cs)))
      go none e more = more o (subst (λ (s : List ℕ). Holds n t s o) (sym (adding-kept state bytes e)) holds)
      go (some l) e more =
          let (new, one, long) = (added-length n t state o holds bytes l).0 (length-told (adding state bytes).reply l e) in
          let is : instead o (taken (joining n t o bytes blank)) ≡ some new = ap (instead o) (new-taken n t holds.opens o bytes new one) in
          let after : Holds n t (adding state bytes).output (some new) =
          subst (Holds n t (adding state bytes).output) is (adding-holds n t state o holds bytes) in
          subst (λ (p : Option (List ℕ)). Folds n t o (bytes ∷ additions (adding state bytes).output cs) (folded n t p (additions (adding state bytes).output cs)))
          (sym is)
          (due.next o bytes new (additions (adding state bytes).output cs) (folded n t (some new) (additions (adding state bytes).output cs)) one
          (more (some new) after))
  calls-fold (order bytes ∷ cs) state o holds = calls-fold cs state o holds
  calls-fold (finish out ∷ cs) state o holds = calls-fold cs state o holds

  -- Programs have one fold.
  pub fold-one : opened n t ≡ Ok tt → (o : Option (List ℕ)) (ps : List (List ℕ)) (last : Option (List ℕ)) → Folds n t o ps last → folded n t o ps ≡ last
  unfolding folded
  fold-one opens o ps last (due.end _) = refl
  fold-one opens o ps last (due.next _ bytes new more _ one others) =
      ap (λ (x : Option (List ℕ)). folded n t (instead o x) more) (new-taken n t opens o bytes new one) ∙ fold-one opens (some new) more last others

  -- After any calls the state holds exactly the fold of the accepted additions.
  pub calls-fold-exact : (cs : List Call) (state : List ℕ) (o : Option (List ℕ)) → Holds n t state o → (last : Option (List ℕ)) →
      Holds n t (state_after state cs) last ↔ Folds n t o (additions state cs) last
  calls-fold-exact cs state o holds last =
      let after : Holds n t (state_after state cs) (folded n t o (additions state cs)) = calls-hold n t cs state o holds in (
        λ held. subst (Folds n t o (additions state cs))
            (sym (gathered-are n t (state_after state cs) (folded n t o (additions state cs)) after) ∙ gathered-are n t (state_after state cs) last held)
            (calls-fold cs state o holds),
        λ folds. subst (Holds n t (state_after state cs)) (fold-one holds.opens o (additions state cs) last folds) after,
      )
