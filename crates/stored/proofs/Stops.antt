-- Which number is met first on a way of written records over an accepted table: 11, 13 or 21, each exactly where it is due. A program is below
-- the common part of the programs up to it, so no difference gives 12, and no difference is too large.
use mathlib.Core.Path.{◌≡◌, refl, sym, ◌∙◌, ap, subst}
use mathlib.Core.Bool.{Bool, true, false, cond}
use mathlib.Core.List.{List, [], ◌∷◌, ◌++◌}
use mathlib.Core.Logic.{◌↔◌, ◌⊎◌, inl, inr, ⊎_elim}
use mathlib.Core.Option.{Option, none, some}
use Prim.Native.Nat.{ℕ, zero, suc, ◌<◌}
use native.Mathlib.Omega.{arith}
use borrow.Author.Tests.{leb-false}
use lib.Dec.{leb, eqb}
use lib.ListN.{length, get_or}
use lib.Seq.{append_snoc, get_or-append_seam}
use Rattle.graphs.specs.Graph.{Below}
use Rattle.graphs.specs.Rows.{Row}
use Rattle.graphs.specs.Difference.{by_number}
use Rattle.graphs.specs.OfRows.{same_pair}
use Rattle.graphs.proofs.Below.{same_refl}
use Rattle.graphs.proofs.Difference.ByNumber.{by-number-order}
use Rattle.lattice.specs.Label.{Label}
use Rattle.std.specs.Prelude.{Ok}
use Rattle.acceptance.specs.Reply.{opened}
use Rattle.lattice.specs.Table.{admits}
use Rattle.lattice.specs.Labels.{table_labels}
use Rattle.acceptance.proofs.Acceptance.{opened-accepted}
use Rattle.lattice.proofs.AnySize.{below-transitive}
use Rattle.record.specs.Read.{reading, accepted, graph_of_rows}
use Rattle.record.proofs.Theorems.{accepted-of-any-size}
use Rattle.replies.specs.Replies.{Reply}
use Rattle.replies.specs.Replies.{TooLarge, NoWantedType, NoStoreRoom}
use Rattle.replies.specs.Reply.{Result, length_of}
use Rattle.engine.specs.Generalizing.{generalized}
use Rattle.calls.specs.Calls.{generalizing, differing}
use Rattle.demands.specs.Wanted.{SomeUnwanted}
use Rattle.demands.specs.Demand.{WrittenRecord, Given, AnswersBelow, Large, common, remainder}
use Rattle.demands.proofs.Results.{result_for}
use Rattle.demands.proofs.Demanded.CommonPart.{common-part-writes}
use Rattle.demands.proofs.Demands.{
  order-exact,
  meaning-order,
  generalizing-leaves,
  common-part,
  differing-leaves,
  differing-never-large,
  difference-not-below,
  difference-not-wanted,
}
use Rattle.demands.proofs.Requests.Paper06.{admitted-wanted}
use Rattle.demands.proofs.Demanded.Difference as Differed
use Rattle.demands.proofs.Demanded.Difference.{not-below, not-wanted, differs, difference-told, remainder-result, plain-parts}
use Rattle.gathering.proofs.Told.{none-some}
use Rattle.gathered.proofs.Records.{length-blank, call-large}
use Rattle.versions.specs.State.{
  Made,
  made,
  stopped,
  and_then,
  taken_by,
  taken,
  blank,
  Programs,
  empty_state,
  measured,
  state_of,
  common_part,
  difference_of,
  differences,
  within,
  stored,
  joined,
  way_from,
  way,
}
use Rattle.versions.proofs.Loops.{within-short, way-large, way-halts}
use Rattle.stored.specs.Theorem.{Versions, Passed, start, absent, steps, Step, programs_of, Met, too_large, unwanted, short}
use Rattle.stored.proofs.Records.{made-injective, stopped-made, taken_made, common-written}
use Rattle.stored.proofs.Way.{snoc-first, passed_on}

stop-injective : {q r : Reply} → stopped q ≡ stopped r → q ≡ r
stop-injective e = cc

-- Where nothing is taken of a call, it stops with the call's reply, which tells no length.
taken-stopped : (x : Result) (q : Reply) → taken x ≡ stopped q → (x.reply ≡ q) × (length_of x.reply ≡ none)
taken-stopped x q e = go (length_of x.reply) refl e
  where
    go : (o : Option ℕ) → length_of x.reply ≡ o → taken_by o x ≡ stopped q → (x.reply ≡ q) × (length_of x.reply ≡ none)
    go none i d = (stop-injective d, i)
    go (some l) i d = stopped-made (sym d)

stopped-taken : (x : Result) (q : Reply) → length_of q ≡ none → x.reply ≡ q → taken x ≡ stopped q
stopped-taken x q silent e = ap (λ (o : Option ℕ). taken_by o x) (ap length_of e ∙ silent) ∙ ap stopped e

-- If one thing after another stops with a reply, the first stops with it, or the first is made and the second stops with it.
then-stopped : (m : Made) (next : List ℕ → Made) (r : Reply) → and_then m next ≡ stopped r →
    (m ≡ stopped r) ⊎ ((b : List ℕ) × (m ≡ made b) × (next b ≡ stopped r))
then-stopped (made b) next r e = inr (b, refl, e)
then-stopped (stopped q) next r e = inl e

within-stops : (room : ℕ) (bytes : List ℕ) (r : Reply) → within room bytes ≡ stopped r → (NoStoreRoom ≡ r) × (room < length bytes)
unfolding within
within-stops room bytes r e = go (leb (length bytes) room) refl e
  where
    go : (b : Bool) → leb (length bytes) room ≡ b → cond b (made bytes) (stopped NoStoreRoom) ≡ stopped r → (NoStoreRoom ≡ r) × (room < length bytes)
    go true q d = stopped-made (sym d)
    go false q d = (stop-injective d, leb-false (length bytes) room q)

snoc-at : (done : Programs) (o : Option (List ℕ)) (v : ℕ) (q : List ℕ) → get_or (done ++ o ∷ []) v none ≡ some q → (get_or done v none ≡ some q) ⊎ (o ≡ some q)
snoc-at [] o zero q e = inr e
snoc-at [] o (suc v) q e = inl e
snoc-at (x ∷ done) o zero q e = inl e
snoc-at (x ∷ done) o (suc v) q e = snoc-at done o v q e

append-first : (ps others : Programs) (v : ℕ) (p : List ℕ) → get_or ps v none ≡ some p → get_or (ps ++ others) v none ≡ some p
append-first [] others v p e = none-some e
append-first (x ∷ ps) others zero p e = e
append-first (x ∷ ps) others (suc v) p e = append-first ps others v p e

-- Facts on two accepted records.
module _ (n : ℕ) (t a b : List ℕ) (g h : List (Row Label)) (given : Given n t a b g h) where
  common-is : (out : List ℕ) → generalizing n t a b out ≡ result_for same_pair (common n t g h) out
  unfolding generalizing generalized
  common-is out = rw (given.opens, given.first, given.second)

  -- The common part is stopped by 11 alone, and only where it is too large.
  common-stops : (r : Reply) → common_part n t a b ≡ stopped r → (TooLarge ≡ r) × Large (common n t g h)
  unfolding common_part
  common-stops r e =
      let (is, silent) = taken-stopped (generalizing n t a b blank) r e in
      let large : (generalizing n t a b blank).reply ≡ TooLarge =
      call-large n same_pair (common n t g h) (generalizing n t a b) (λ out. generalizing-leaves n t out a b) common-is blank (omega (arith, length-blank)) silent in
      (sym large ∙ is, (common-part-writes n t a b g h given blank).too_large.0 large)

  common-large : Large (common n t g h) → common_part n t a b ≡ stopped TooLarge
  unfolding common_part
  common-large large =
      stopped-taken (generalizing n t a b blank) TooLarge refl ((common-part-writes n t a b g h given blank).too_large.1 large)

  -- Where the second record is below the first, their difference is stopped by 13 alone, and only where a node has no wanted type.
  module _ (below : Below (table_labels n t) (graph_of_rows h) (graph_of_rows g)) where
    difference-stops : (r : Reply) → difference_of n t a b ≡ stopped r → (NoWantedType ≡ r) × SomeUnwanted n t (graph_of_rows h) (graph_of_rows g)
    unfolding difference_of
    difference-stops r e =
        let (is, silent) = taken-stopped (differing n t a b blank) r e in
        let lacks : (differing n t a b blank).reply ≡ NoWantedType =
        go silent (difference-told n t a b g h given by-number-order (plain-parts n t a b given blank)) in
        (sym lacks ∙ is, ((difference-not-wanted n t a b g h given blank).0 lacks).1)
      where
        go : length_of (differing n t a b blank).reply ≡ none →
            Differed.Told n t a b g h given by-number-order (plain-parts n t a b given blank) → (differing n t a b blank).reply ≡ NoWantedType
        go silent (not-below d) = absurd ((difference-not-below n t a b g h given blank).0 (ap (λ (x : Result). x.reply) d) below)
        go silent (not-wanted _ _ d) = ap (λ (x : Result). x.reply) d
        go silent (differs lies wants) =
            let is : (out : List ℕ) → differing n t a b out ≡ result_for eqb (remainder by_number n t g h) out =
            λ out. remainder-result n t a b g h given by-number-order (plain-parts n t a b given out) lies wants in
            absurd (differing-never-large n t blank a b
            (call-large n eqb (remainder by_number n t g h) (differing n t a b) (λ out. differing-leaves n t out a b) is blank (omega (arith, length-blank)) silent))

    difference-unwanted : SomeUnwanted n t (graph_of_rows h) (graph_of_rows g) → difference_of n t a b ≡ stopped NoWantedType
    unfolding difference_of
    difference-unwanted lacks =
        stopped-taken (differing n t a b blank) NoWantedType refl ((difference-not-wanted n t a b g h given blank).1 (below, lacks))

module _ (n : ℕ) (t : List ℕ) (opens : opened n t ≡ Ok tt) where
  both : {a b : List ℕ} (x : WrittenRecord n a) (y : WrittenRecord n b) → Given n t a b x.form y.form
  both x y = record { opens = opens; first = x.reads; second = y.reads }

  -- the order among written records
  is_below_lem : {a b : List ℕ} (x : WrittenRecord n a) (y : WrittenRecord n b) → AnswersBelow n t a b →
      Below (table_labels n t) (graph_of_rows x.form) (graph_of_rows y.form)
  is_below_lem {a} {b} x y = (order-exact n t a b x.form y.form (both x y)).0.0

  itself-below : {a : List ℕ} → WrittenRecord n a → AnswersBelow n t a a
  itself-below {a} x = inl ((meaning-order n t a a x.form x.form (both x x)).1 (same_refl (graph_of_rows x.form)))

  below_on : {a b c : List ℕ} → WrittenRecord n a → WrittenRecord n b → WrittenRecord n c → AnswersBelow n t a b → AnswersBelow n t b c → AnswersBelow n t a c
  below_on {a} {b} {c} x y z p q =
      (order-exact n t a c x.form z.form (both x z)).0.1
      (below-transitive n t (opened-accepted n t (opened n t) refl opens) (graph_of_rows x.form) (graph_of_rows y.form) (graph_of_rows z.form)
      (accepted-of-any-size n a x.form x.reads t) (accepted-of-any-size n b y.form y.reads t) (accepted-of-any-size n c z.form z.reads t)
      (is_below_lem x y p) (is_below_lem y z q))

  -- the common part lies above both
  common-above : {a b : List ℕ} (x : WrittenRecord n a) (y : WrittenRecord n b) (c : List ℕ) → common_part n t a b ≡ made c →
      AnswersBelow n t a c × AnswersBelow n t b c
  unfolding common_part
  common-above {a} {b} x y c e =
      let (l, q, is) = taken_made (generalizing n t a b blank) c e in
      let part = common-part n t a b x.form y.form (both x y) blank l q in
      (subst (AnswersBelow n t a) is part.first_below, subst (AnswersBelow n t b) is part.second_below)

  -- The programs are written records, and each is below the record `part`.
  abbrev Under : List ℕ → Programs → Type 0
  Under part ps = (v : ℕ) (p : List ℕ) → get_or ps v none ≡ some p → WrittenRecord n p × AnswersBelow n t p part

  -- Differences of programs from the record `part`.
  module _ (part : List ℕ) (g : List (Row Label)) (reads : reading n part ≡ accepted g) where
    -- Some node of the program has no wanted type.
    abbrev Lacks : List ℕ → Type 0
    Lacks p = (s : List (Row Label)) × (reading n p ≡ accepted s) × SomeUnwanted n t (graph_of_rows s) (graph_of_rows g)

    beside : {p : List ℕ} {s : List (Row Label)} → reading n p ≡ accepted s → Given n t part p g s
    beside is = record { opens = opens; first = reads; second = is }

    lies : (p : List ℕ) (s : List (Row Label)) → reading n p ≡ accepted s → AnswersBelow n t p part → Below (table_labels n t) (graph_of_rows s) (graph_of_rows g)
    lies p s is = (order-exact n t p part s g (record { opens = opens; first = is; second = reads })).0.0

    one-stops : {p : List ℕ} → WrittenRecord n p × AnswersBelow n t p part → (r : Reply) → difference_of n t part p ≡ stopped r → (NoWantedType ≡ r) × Lacks p
    one-stops {p} (one, below) r e =
        let (is, lacks) = difference-stops n t part p g one.form (beside one.reads) (lies p one.form one.reads below) r e in
        (is, (one.form, one.reads, lacks))

    one-lacks : {p : List ℕ} → WrittenRecord n p × AnswersBelow n t p part → Lacks p → difference_of n t part p ≡ stopped NoWantedType
    one-lacks {p} (_, below) (s, is, lacks) = difference-unwanted n t part p g s (beside is) (lies p s is below) lacks

    differences-stop : (ps : Programs) → Under part ps → (r : Reply) → differences n t part ps ≡ stopped r →
        (NoWantedType ≡ r) × ((v : ℕ) × (p : List ℕ) × (get_or ps v none ≡ some p) × Lacks p)
    unfolding differences
    differences-stop [] under r e = stopped-made (sym e)
    differences-stop (none ∷ ps) under r e =
        let (is, (v, p, at, lacks)) = differences-stop ps (λ v. under (suc v)) r e in
        (is, (suc v, p, at, lacks))
    differences-stop (some q ∷ ps) under r e =
        go (differences-stop ps (λ v. under (suc v)) r)
        (then-stopped (difference_of n t part q) (λ d. and_then (differences n t part ps) λ ds. made (measured d ++ ds)) r e)
      where
        go : (differences n t part ps ≡ stopped r → (NoWantedType ≡ r) × ((v : ℕ) × (p : List ℕ) × (get_or ps v none ≡ some p) × Lacks p)) →
            (difference_of n t part q ≡ stopped r) ⊎
            ((d : List ℕ) × (difference_of n t part q ≡ made d) × (and_then (differences n t part ps) (λ ds. made (measured d ++ ds)) ≡ stopped r)) →
            (NoWantedType ≡ r) × ((v : ℕ) × (p : List ℕ) × (get_or (some q ∷ ps) v none ≡ some p) × Lacks p)
        go more (inl d) = let (is, lacks) = one-stops (under 0 q refl) r d in (is, (0, q, refl, lacks))
        go more (inr (d, _, on)) =
            ⊎_elim (λ s. let (is, (v, p, at, lacks)) = more s in (is, (suc v, p, at, lacks))) (λ (ds, _, end). stopped-made (sym end))
            (then-stopped (differences n t part ps) (λ ds. made (measured d ++ ds)) r on)

    differences-lack : (ps : Programs) → Under part ps → (v : ℕ) (p : List ℕ) → get_or ps v none ≡ some p → Lacks p →
        differences n t part ps ≡ stopped NoWantedType
    unfolding differences
    differences-lack [] under v p at lacks = none-some at
    differences-lack (none ∷ ps) under zero p at lacks = none-some at
    differences-lack (none ∷ ps) under (suc v) p at lacks = differences-lack ps (λ w. under (suc w)) v p at lacks
    differences-lack (some q ∷ ps) under zero p at lacks =
        let i : q ≡ p = cc in
        ap (λ (m : Made). and_then m λ d. and_then (differences n t part ps) λ ds. made (measured d ++ ds))
        (one-lacks (under 0 q refl) (subst Lacks (sym i) lacks))
    differences-lack (some q ∷ ps) under (suc v) p at lacks =
        go (differences-lack ps (λ w. under (suc w)) v p at lacks) (difference_of n t part q) refl
      where
        go : differences n t part ps ≡ stopped NoWantedType → (m : Made) → difference_of n t part q ≡ m →
            (and_then m λ d. and_then (differences n t part ps) λ ds. made (measured d ++ ds)) ≡ stopped NoWantedType
        go more (made d) e = ap (λ (m : Made). and_then m λ ds. made (measured d ++ ds)) more
        go more (stopped r) e = ap stopped (sym (one-stops (under 0 q refl) r e).0)

  -- The common part of the programs behind, if there are any, is a written record above all of them.
  data Above (done : Programs) : Option (List ℕ) → Type 0 where
    nothing : ((v : ℕ) (p : List ℕ) → get_or done v none ≡ some p → ⊥) → Above done none
    above : (part : List ℕ) → WrittenRecord n part → Under part done → Above done (some part)

  above-absent : {done : Programs} {part : Option (List ℕ)} → Above done part → Above (done ++ none ∷ []) part
  above-absent {done} (nothing f) = nothing (λ v p e. ⊎_elim (f v p) (λ d. none-some d) (snoc-at done none v p e))
  above-absent {done} (above part one under) = above part one (λ v p e. ⊎_elim (under v p) (λ d. none-some d) (snoc-at done none v p e))

  above-present : {done : Programs} {part : Option (List ℕ)} → Above done part → (p : List ℕ) → WrittenRecord n p → (c : List ℕ) → joined n t part p ≡ made c →
      WrittenRecord n c × Under c (done ++ some p ∷ [])
  above-present {done} (nothing f) p one c e =
      subst (λ (x : List ℕ). WrittenRecord n x × Under x (done ++ some p ∷ [])) (made-injective e) (
        one,
        λ v q d. ⊎_elim (λ s. absurd (f v q s)) (λ s. let i : p ≡ q = cc in subst (λ (x : List ℕ). WrittenRecord n x × AnswersBelow n t x p) i (one, itself-below one))
            (snoc-at done (some p) v q d),
      )
  above-present {done} (above part whole under) p one c e =
      let common : WrittenRecord n c = common-written n t part p c e in
      let (left, right) = common-above whole one c e in (
        common,
        λ v q d. ⊎_elim (λ s. let (w, b) = under v q s in (w, below_on w whole common b left))
            (λ s. let i : p ≡ q = cc in subst (λ (x : List ℕ). WrittenRecord n x × AnswersBelow n t x c) i (one, right))
            (snoc-at done (some p) v q d),
      )

  passed-above : {room : ℕ} {behind : Programs} {part : Option (List ℕ)} {state : List ℕ} → Passed n t room behind part state →
      ((v : ℕ) (p : List ℕ) → get_or behind v none ≡ some p → WrittenRecord n p) → Above behind part
  passed-above start written = nothing (λ v p d. none-some d)
  passed-above (absent behind part state before) written = above-absent (passed-above before (λ v p e. written v p (snoc-first behind none v p e)))
  passed-above (steps behind part state program c s before is reached) written =
      let here : Above behind part = passed-above before (λ v p e. written v p (snoc-first behind (some program) v p e)) in
      let (one, under) = above-present here program (written (length behind) program (get_or-append_seam behind (some program) [] none)) c is in
      above c one under

  -- A way that stops with a reply has met that number.
  module _ (room : ℕ) (ps : Programs) where
    step-met : (step : Step n t room ps) → Above step.behind step.part → WrittenRecord n step.program → (r : Reply) →
        (joined n t step.part step.program ≡ stopped r) ⊎
        ((c : List ℕ) × (joined n t step.part step.program ≡ made c) × (stored n t room c (programs_of step) ≡ stopped r)) → Met n t room ps r
    unfolding stored
    step-met step here one r (inl e) = go step.part refl here e
      where
        go : (part : Option (List ℕ)) → step.part ≡ part → Above step.behind part → joined n t part step.program ≡ stopped r → Met n t room ps r
        go none q _ d = stopped-made (sym d)
        go (some p) q (above part whole under) d =
            let (is, large) = common-stops n t part step.program whole.form one.form (both whole one) r d in
            subst (Met n t room ps) is (too_large step part whole.form one.form q whole.reads one.reads large)
    step-met step here one r (inr (c, is, e)) =
        let (common, under) = above-present here step.program one c is in
        ⊎_elim
        (λ d. let (same, (v, p, at, (s, reads, lacks))) = differences-stop c common.form common.reads (programs_of step) under r d in
        subst (Met n t room ps) same (unwanted step c v p common.form s is at common.reads reads lacks))
        (λ (ds, made-is, d). let (same, less) = within-stops room (state_of (programs_of step) c ds) r d in
        subst (Met n t room ps) same (short step c ds is made-is less))
        (then-stopped (differences n t c (programs_of step)) (λ ds. within room (state_of (programs_of step) c ds)) r e)

    from-met : (ahead behind : Programs) (part : Option (List ℕ)) (state : List ℕ) → ps ≡ behind ++ ahead → Passed n t room behind part state →
        Above behind part → ((v : ℕ) (p : List ℕ) → get_or ahead v none ≡ some p → WrittenRecord n p) →
        (r : Reply) → way_from n t room behind part state ahead ≡ stopped r → Met n t room ps r
    unfolding way_from
    from-met [] behind part state whole passed here written r e = stopped-made (sym e)
    from-met (none ∷ ahead) behind part state whole passed here written r e =
        from-met ahead (behind ++ none ∷ []) part state (whole ∙ sym (append_snoc behind none ahead)) (absent behind part state passed) (above-absent here)
        (λ v. written (suc v)) r e
    from-met (some p ∷ ahead) behind part state whole passed here written r e =
        first
        (λ c s is reached next. from-met ahead (behind ++ some p ∷ []) (some c) s (whole ∙ sym (append_snoc behind (some p) ahead))
        (steps behind part state p c s passed is reached) next (λ v. written (suc v)) r)
        (then-stopped (joined n t part p) (λ c. and_then (stored n t room c (behind ++ some p ∷ [])) λ s. way_from n t room (behind ++ some p ∷ []) (some c) s ahead) r e)
      where
        step : Step n t room ps
        step = record { behind = behind; program = p; ahead = ahead; whole = whole; part = part; state = state; passed = passed }

        first : ((c s : List ℕ) → joined n t part p ≡ made c → stored n t room c (behind ++ some p ∷ []) ≡ made s → Above (behind ++ some p ∷ []) (some c) →
            way_from n t room (behind ++ some p ∷ []) (some c) s ahead ≡ stopped r → Met n t room ps r) →
            (joined n t part p ≡ stopped r) ⊎
            ((c : List ℕ) × (joined n t part p ≡ made c) ×
            (and_then (stored n t room c (behind ++ some p ∷ [])) (λ s. way_from n t room (behind ++ some p ∷ []) (some c) s ahead) ≡ stopped r)) → Met n t room ps r
        first more (inl d) = step-met step here (written 0 p refl) r (inl d)
        first more (inr (c, is, on)) =
            let (common, under) = above-present here p (written 0 p refl) c is in
            ⊎_elim (λ d. step-met step here (written 0 p refl) r (inr (c, is, d))) (λ (s, reached, end). more c s is reached (above c common under) end)
            (then-stopped (stored n t room c (behind ++ some p ∷ [])) (λ s. way_from n t room (behind ++ some p ∷ []) (some c) s ahead) r on)

    -- A way on which a number is met stops with it.
    module _ (versions : Versions n ps) where
      step-written : (step : Step n t room ps) → ((v : ℕ) (p : List ℕ) → get_or (step.behind ++ some step.program ∷ step.ahead) v none ≡ some p → WrittenRecord n p)
      step-written step v p e = versions.written v p (ap (λ (qs : Programs). get_or qs v none) step.whole ∙ e)

      step-under : (step : Step n t room ps) (c : List ℕ) → joined n t step.part step.program ≡ made c → Under c (programs_of step)
      step-under step c is =
          (above-present (passed-above step.passed (λ v p e. step-written step v p (append-first step.behind (some step.program ∷ step.ahead) v p e)))
          step.program (step-written step (length step.behind) step.program (get_or-append_seam step.behind (some step.program) step.ahead none)) c is).1

      up_to : (step : Step n t room ps) → way n t room ps ≡ way_from n t room step.behind step.part step.state (some step.program ∷ step.ahead)
      up_to step = ap (way n t room) step.whole ∙ passed_on n t step.passed (some step.program ∷ step.ahead)

      met-stops : {r : Reply} → Met n t room ps r → way n t room ps ≡ stopped r
      unfolding stored
      met-stops (too_large step part g h is one other large) =
          up_to step ∙
          way-large n t room step.behind step.ahead step.part step.state step.program TooLarge
          (ap (λ (o : Option (List ℕ)). joined n t o step.program) is ∙
          common-large n t part step.program g h (record { opens = opens; first = one; second = other }) large)
      met-stops (unwanted step c v p g s is at one other lacks) =
          up_to step ∙
          way-halts n t room step.behind step.ahead step.part step.state step.program c NoWantedType is
          (ap (λ (m : Made). and_then m λ ds. within room (state_of (programs_of step) c ds))
          (differences-lack c g one (programs_of step) (step-under step c is) v p at (s, other, lacks)))
      met-stops (short step c ds is made-is less) =
          up_to step ∙
          way-halts n t room step.behind step.ahead step.part step.state step.program c NoStoreRoom is
          (ap (λ (m : Made). and_then m λ ds. within room (state_of (programs_of step) c ds)) made-is ∙
          within-short room (state_of (programs_of step) c ds) less)

      -- Over a table that admits differences 13 is never met.
      pub never_met : admits n t ≡ true → Met n t room ps NoWantedType → ⊥
      unfolding difference_of
      never_met differ (unwanted step c v p g s is at one other lacks) =
          let stops : difference_of n t c p ≡ stopped NoWantedType = one-lacks c g one (step-under step c is v p at) (s, other, lacks) in
          admitted-wanted n t differ c p blank (taken-stopped (differing n t c p blank) NoWantedType stops).0

      pub way-meets : (r : Reply) → (way n t room ps ≡ stopped r) ↔ Met n t room ps r
      unfolding way
      way-meets r = (from-met ps [] none empty_state refl start (nothing (λ v p d. none-some d)) versions.written r, met-stops)

-- A number that is met on a way tells no length.
pub met-silent : {n : ℕ} {t : List ℕ} {room : ℕ} {ps : Programs} {r : Reply} → Met n t room ps r → length_of r ≡ none
met-silent (too_large step part g h is one other large) = refl
met-silent (unwanted step c v p g s is at one other lacks) = refl
met-silent (short step c ds is made-is less) = refl
