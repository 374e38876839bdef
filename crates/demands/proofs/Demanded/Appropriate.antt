-- The calls with a list of types for features (document 02, Paper 9): where neither 17 nor 18 is given they reply as the plain calls, 17 is given
-- exactly where it is due, and the record beside a length obeys the list.
use mathlib.Core.Path.{◌≡◌, refl, sym, ◌∙◌, ap, ap₂, subst}
use mathlib.Core.Bool.{Bool, true, false, cond}
use mathlib.Core.List.{List}
use mathlib.Core.Logic.{◌↔◌, ◌⊎◌, inl, inr, ⊎_elim}
use Prim.Native.Nat.{ℕ}
use native.Mathlib.Omega.{arith}
use lib.Dec.{eqb}
use lib.ListN.{length, take}
use Rattle.std.specs.Prelude.{Ok, Err}
use Rattle.graphs.specs.Rows.{Row, from}
use Rattle.graphs.specs.Number.{canonical}
use Rattle.graphs.specs.Generalize.{generalization}
use Rattle.graphs.specs.Unify.{Unified, cycle, clash, unified, unification}
use Rattle.graphs.specs.OfRows.{same_pair, same_either}
use Rattle.graphs.proofs.Search.{not-true-false}
use Rattle.graphs.proofs.Difference.ByNumber.{by-number-order}
use Rattle.lattice.specs.Label.{Label}
use Rattle.acceptance.specs.Reply.{TableAnswer}
use Rattle.lattice.specs.Labels.{table_labels}
use Rattle.acceptance.specs.Reply as table
use Rattle.acceptance.proofs.Acceptance.{opened-accepted}
use Rattle.encode.specs.declared.Unwritten.TheVariants as unwritten
use Rattle.encode.specs.Encode.{written_out, Writing}
use Rattle.record.specs.declared.GraphFault.TheVariants.{Inappropriate}
use Rattle.record.specs.Read.{Reading, refused, accepted, reading, graph_of_rows}
use Rattle.record.specs.Appropriate.{list_accepted, appropriate, reading_appropriate, Appropriate}
use Rattle.record.proofs.Accepted.{accepted-rules}
use Rattle.record.proofs.Theorems.{accepted-of-any-size}
use Rattle.record.proofs.Allowed.{refused-appropriate, judged-appropriate, accepted-appropriate}
use Rattle.record.proofs.Obeying.{appropriate-exact, appropriate-same, common-obeys, combination-obeys}
use Rattle.replies.specs.declared.Side.TheVariants.{First, Second}
use Rattle.replies.specs.Replies.{Length, Graph, TypeList}
use Rattle.replies.specs.Reply.{Result, refusal, reply_of, refusing}
use Rattle.calls.specs.Calls.{checked, rewriting, generalizing, unifying, differing}
use Rattle.pairs.specs.Pair.{read_both}
use Rattle.engine.specs.Rewriting.{rewritten}
use Rattle.engine.specs.Generalizing.{generalized}
use Rattle.engine.specs.Unifying.{combined, unified_rows}
use Rattle.calls.specs.Appropriate.{rewriting_appropriate, generalizing_appropriate, unifying_appropriate}
use Rattle.demands.specs.Appropriate.{Passes, Breaks, Fits, Obeys}
use Rattle.demands.specs.Demand.{Given, WrittenRecord}
use Rattle.calls.proofs.Tables.{table-accepted}
use Rattle.calls.proofs.Listed.{Checks, table-before-list, list-refused, list-passed, list-exact, rewriting-checked, generalizing-checked, unifying-checked}
use Rattle.demands.proofs.Demanded.Output.{generalizing-leaves, unifying-leaves}
use Rattle.demands.proofs.Demanded.Meaning.{written-again, own-bytes}
use Rattle.demands.proofs.Demanded.CommonPart.{common-part}
use Rattle.demands.proofs.Demanded.Combination.{written-combination}
use Rattle.demands.proofs.Demanded.Difference.{plain-parts}
use Rattle.demands.proofs.Demanded.Difference as Differed

-- Reading one graph with a list gives 18, or what reading without a list gives.
reading-kept : (n : ℕ) (t list bytes : List ℕ) →
    (reading_appropriate n t list bytes ≡ reading n bytes) ⊎ (reading_appropriate n t list bytes ≡ refused Inappropriate)
reading-kept n t list bytes = go (reading n bytes) refl
  where
    test : (rows : List (Row Label)) → reading n bytes ≡ accepted rows → (b : Bool) → appropriate t list rows ≡ b →
        (reading_appropriate n t list bytes ≡ accepted rows) ⊎ (reading_appropriate n t list bytes ≡ refused Inappropriate)
    test rows q true e =
        inl (judged-appropriate n t list bytes rows q ∙ ap (λ (b : Bool). cond b (accepted rows) (refused Inappropriate)) e)
    test rows q false e =
        inr (judged-appropriate n t list bytes rows q ∙ ap (λ (b : Bool). cond b (accepted rows) (refused Inappropriate)) e)

    go : (o : Reading) → reading n bytes ≡ o → (reading_appropriate n t list bytes ≡ o) ⊎ (reading_appropriate n t list bytes ≡ refused Inappropriate)
    go (refused fault) q = inl (refused-appropriate n t list bytes fault q)
    go (accepted rows) q = test rows q (appropriate t list rows) refl

-- After the list, a call that gives neither 17 nor 18 goes on as the plain call.
module _ (out : List ℕ) where
  passes-first : (r : Result) → r ≡ refusing (Graph Inappropriate First) out → Passes r → ⊥
  passes-first r e passes = passes.1 (ap (λ (q : Result). refusal q.reply) e)

  passes-second : (r : Result) → r ≡ refusing (Graph Inappropriate Second) out → Passes r → ⊥
  passes-second r e passes = passes.1 (ap (λ (q : Result). refusal q.reply) e)

  lone-kept : {o p : Reading} → (o ≡ p) ⊎ (o ≡ refused Inappropriate) → Passes (rewritten o out) → rewritten o out ≡ rewritten p out
  lone-kept {o} {p} kept passes =
      ⊎_elim (ap (λ (i : Reading). rewritten i out))
      (λ e. absurd (passes-first (rewritten o out) (ap (λ (i : Reading). rewritten i out) e) passes)) kept

  module _ (next : List (Row Label) → List (Row Label) → Result) where
    abbrev reads : Reading → Reading → Result
    reads o p = read_both (λ r. refusing r out) o p next

    second-kept : (o p q : Reading) → p ≡ refused Inappropriate → Passes (reads o p) → reads o p ≡ reads o q
    second-kept (refused fault) p q e passes = refl
    second-kept (accepted rows) p q e passes =
        absurd (passes-second (reads (accepted rows) p) (ap (λ (i : Reading). reads (accepted rows) i) e) passes)

    both-kept : {o p o' p' : Reading} → (o ≡ o') ⊎ (o ≡ refused Inappropriate) → (p ≡ p') ⊎ (p ≡ refused Inappropriate) → Passes (reads o p) →
        reads o p ≡ reads o' p'
    both-kept {o} {p} {o'} {p'} one two passes =
        ⊎_elim
        (λ (e : o ≡ o').
        ⊎_elim (λ (d : p ≡ p'). ap₂ reads e d)
        (λ (d : p ≡ refused Inappropriate). second-kept o p p' d passes ∙ ap (λ (i : Reading). reads i p') e) two)
        (λ (e : o ≡ refused Inappropriate). absurd (passes-first (reads o p) (ap (λ (i : Reading). reads i p) e) passes)) one

-- A call with a list beside the plain one.
module _ {n : ℕ} {t : List ℕ} {listed : Bool} {out : List ℕ} {call next : Result} (checks : Checks n t listed TypeList out call next) where
  call_kept : (plain : Result) → (Passes next → next ≡ plain) → Passes call →
      call ≡ checked (λ r. refusing r out) (table.opened n t) plain
  call_kept plain kept passes = go (table.opened n t) refl
    where
      list-tested : table.opened n t ≡ Ok tt → (b : Bool) → listed ≡ b → call ≡ plain
      list-tested opens true e =
          let same = list-passed checks opens e in
          sym same ∙ kept (subst Passes (sym same) passes)
      list-tested opens false e =
          absurd (passes.0 (ap (λ (q : Result). refusal q.reply) (sym (list-refused checks opens e))))

      go : (o : TableAnswer) → table.opened n t ≡ o → call ≡ checked (λ r. refusing r out) o plain
      go (Err fault) e = sym (table-before-list checks fault e)
      go (Ok tt) e = list-tested e listed refl

  -- 17 is given exactly where it is due, since what comes after the list never gives it.
  call-list : (next.reply ≡ TypeList → ⊥) → (call.reply ≡ TypeList) ↔ ((table.opened n t ≡ Ok tt) × (listed ≡ false))
  call-list = list-exact checks (λ fault e. let z : ◌≡◌ {A = ℕ} 0 1 = cc in omega arith)

  -- Beside a length, the table and the list are accepted.
  record Behind : Type 0 where
    pub opens : table.opened n t ≡ Ok tt
    pub passed : listed ≡ true
    pub does : next ≡ call

  behind : (l : ℕ) → call.reply ≡ Length l → Behind
  behind l q = go (table.opened n t) refl
    where
      list-tested : table.opened n t ≡ Ok tt → (b : Bool) → listed ≡ b → Behind
      list-tested opens true e = record { opens = opens; passed = e; does = list-passed checks opens e }
      list-tested opens false e =
          let h = ap (λ (r : Result). r.reply) (list-refused checks opens e) ∙ q in
          let z : ◌≡◌ {A = ℕ} 0 1 = cc in absurd (omega arith)

      go : (o : TableAnswer) → table.opened n t ≡ o → Behind
      go (Err fault) e =
          let h = ap (λ (r : Result). r.reply) (table-before-list checks fault e) ∙ q in
          let z : ◌≡◌ {A = ℕ} 0 1 = cc in absurd (omega arith)
      go (Ok tt) e = list-tested e listed refl

-- What follows the list never gives 17.

written-other : (w : Writing) → reply_of w ≡ TypeList → ⊥
written-other (Ok l) e = let z : ◌≡◌ {A = ℕ} 0 1 = cc in omega arith
written-other (Err unwritten.TooLarge) e = let z : ◌≡◌ {A = ℕ} 0 1 = cc in omega arith
written-other (Err unwritten.NoRoom) e = let z : ◌≡◌ {A = ℕ} 0 1 = cc in omega arith

module _ (out : List ℕ) where
  lone-other : (o : Reading) → (rewritten o out).reply ≡ TypeList → ⊥
  lone-other (refused fault) e = let z : ◌≡◌ {A = ℕ} 0 1 = cc in omega arith
  lone-other (accepted rows) e = written-other (written_out (canonical eqb (graph_of_rows rows)) out).answer e

  both-other : (next : List (Row Label) → List (Row Label) → Result) → ((g h : List (Row Label)) → (next g h).reply ≡ TypeList → ⊥) →
      (o p : Reading) → (read_both (λ r. refusing r out) o p next).reply ≡ TypeList → ⊥
  both-other next never (refused fault) p e = let z : ◌≡◌ {A = ℕ} 0 1 = cc in omega arith
  both-other next never (accepted rows) (refused fault) e = let z : ◌≡◌ {A = ℕ} 0 1 = cc in omega arith
  both-other next never (accepted rows) (accepted others) e = never rows others e

  joined-other : (n : ℕ) (t : List ℕ) (g h : List (Row Label)) → (generalized n t out g h).reply ≡ TypeList → ⊥
  unfolding generalized
  joined-other n t g h e =
      written-other
      (written_out (canonical same_pair (generalization (table_labels n t) (graph_of_rows g) (graph_of_rows h))) out).answer e

  combined-other : (u : Unified Label (ℕ ⊎ ℕ)) → (combined u out).reply ≡ TypeList → ⊥
  combined-other cycle e = let z : ◌≡◌ {A = ℕ} 0 1 = cc in omega arith
  combined-other clash e = let z : ◌≡◌ {A = ℕ} 0 1 = cc in omega arith
  combined-other (unified u) e = written-other (written_out (canonical same_either u) out).answer e

  unified-other : (n : ℕ) (t : List ℕ) (g h : List (Row Label)) → (unified_rows n t out g h).reply ≡ TypeList → ⊥
  unfolding unified_rows
  unified-other n t g h e =
      combined-other
      (unification (table_labels n t) eqb eqb (graph_of_rows g) (from 0 (length g)) (graph_of_rows h) (from 0 (length h))) e

module _ (n : ℕ) (t list out : List ℕ) where
  -- Where neither 17 nor 18 is given, reply and output are those of the plain call.
  pub rewriting-kept : (bytes : List ℕ) → Passes (rewriting_appropriate n t list bytes out) →
      rewriting_appropriate n t list bytes out ≡ rewriting n t bytes out
  unfolding rewriting
  rewriting-kept bytes =
      call_kept (rewriting-checked n t list out bytes) (rewritten (reading n bytes) out) (lone-kept out (reading-kept n t list bytes))

  pub generalizing-kept : (a b : List ℕ) → Passes (generalizing_appropriate n t list a b out) →
      generalizing_appropriate n t list a b out ≡ generalizing n t a b out
  unfolding generalizing
  generalizing-kept a b =
      call_kept (generalizing-checked n t list out a b) (read_both (λ r. refusing r out) (reading n a) (reading n b) (generalized n t out))
      (both-kept out (generalized n t out) (reading-kept n t list a) (reading-kept n t list b))

  pub unifying-kept : (a b : List ℕ) → Passes (unifying_appropriate n t list a b out) →
      unifying_appropriate n t list a b out ≡ unifying n t a b out
  unfolding unifying
  unifying-kept a b =
      call_kept (unifying-checked n t list out a b) (read_both (λ r. refusing r out) (reading n a) (reading n b) (unified_rows n t out))
      (both-kept out (unified_rows n t out) (reading-kept n t list a) (reading-kept n t list b))

  -- 17 is given exactly where the table is accepted and the list is not.
  abbrev pub ListFault : Type 0
  ListFault = (table.opened n t ≡ Ok tt) × (list_accepted n list ≡ false)

  pub rewriting-list : (bytes : List ℕ) → ((rewriting_appropriate n t list bytes out).reply ≡ TypeList) ↔ ListFault
  rewriting-list bytes = call-list (rewriting-checked n t list out bytes) (lone-other out (reading_appropriate n t list bytes))

  pub generalizing-list : (a b : List ℕ) → ((generalizing_appropriate n t list a b out).reply ≡ TypeList) ↔ ListFault
  generalizing-list a b =
      call-list (generalizing-checked n t list out a b)
      (both-other out (generalized n t out) (joined-other out n t) (reading_appropriate n t list a) (reading_appropriate n t list b))

  pub unifying-list : (a b : List ℕ) → ((unifying_appropriate n t list a b out).reply ≡ TypeList) ↔ ListFault
  unifying-list a b =
      call-list (unifying-checked n t list out a b)
      (both-other out (unified_rows n t out) (unified-other out n t) (reading_appropriate n t list a) (reading_appropriate n t list b))

-- 18 is given wherever a graph is accepted without the list and has a link that the list forbids.
module _ (n : ℕ) (t list : List ℕ) (opens : table.opened n t ≡ Ok tt) (listed : list_accepted n list ≡ true) where
  judged-by : (bytes : List ℕ) (rows : List (Row Label)) → reading n bytes ≡ accepted rows → (b : Bool) → appropriate t list rows ≡ b →
      reading_appropriate n t list bytes ≡ cond b (accepted rows) (refused Inappropriate)
  judged-by bytes rows reads b e =
      judged-appropriate n t list bytes rows reads ∙ ap (λ (c : Bool). cond c (accepted rows) (refused Inappropriate)) e

  breaks : (bytes : List ℕ) → Breaks n t list bytes → reading_appropriate n t list bytes ≡ refused Inappropriate
  breaks bytes (rows, reads, never) =
      judged-by bytes rows reads false
      (not-true-false (appropriate t list rows) (λ e. never ((appropriate-exact n t list rows (accepted-rules n bytes rows reads)).0 e)))

  fits : (bytes : List ℕ) (good : Fits n t list bytes) → reading_appropriate n t list bytes ≡ accepted good.0
  fits bytes (rows, reads, obeys) = judged-by bytes rows reads true ((appropriate-exact n t list rows (accepted-rules n bytes rows reads)).1 obeys)

  pub rewriting-breaks : (bytes out : List ℕ) → Breaks n t list bytes → rewriting_appropriate n t list bytes out ≡ refusing (Graph Inappropriate First) out
  rewriting-breaks bytes out bad =
      sym (list-passed (rewriting-checked n t list out bytes) opens listed) ∙ ap (λ (o : Reading). rewritten o out) (breaks bytes bad)

  module _ (a b out : List ℕ) (next : List (Row Label) → List (Row Label) → Result) where
    first-breaks : Breaks n t list a →
        read_both (λ r. refusing r out) (reading_appropriate n t list a) (reading_appropriate n t list b) next ≡ refusing (Graph Inappropriate First) out
    first-breaks bad =
        ap (λ (o : Reading). read_both (λ r. refusing r out) o (reading_appropriate n t list b) next) (breaks a bad)

    second-breaks : Fits n t list a → Breaks n t list b →
        read_both (λ r. refusing r out) (reading_appropriate n t list a) (reading_appropriate n t list b) next ≡ refusing (Graph Inappropriate Second) out
    second-breaks good bad = ap₂ (λ (o p : Reading). read_both (λ r. refusing r out) o p next) (fits a good) (breaks b bad)

  module _ (a b out : List ℕ) where
    pub generalizing-first-breaks : Breaks n t list a → generalizing_appropriate n t list a b out ≡ refusing (Graph Inappropriate First) out
    generalizing-first-breaks bad =
        sym (list-passed (generalizing-checked n t list out a b) opens listed) ∙ first-breaks a b out (generalized n t out) bad

    pub generalizing-second-breaks : Fits n t list a → Breaks n t list b → generalizing_appropriate n t list a b out ≡ refusing (Graph Inappropriate Second) out
    generalizing-second-breaks good bad =
        sym (list-passed (generalizing-checked n t list out a b) opens listed) ∙ second-breaks a b out (generalized n t out) good bad

    pub unifying-first-breaks : Breaks n t list a → unifying_appropriate n t list a b out ≡ refusing (Graph Inappropriate First) out
    unifying-first-breaks bad =
        sym (list-passed (unifying-checked n t list out a b) opens listed) ∙ first-breaks a b out (unified_rows n t out) bad

    pub unifying-second-breaks : Fits n t list a → Breaks n t list b → unifying_appropriate n t list a b out ≡ refusing (Graph Inappropriate Second) out
    unifying-second-breaks good bad =
        sym (list-passed (unifying-checked n t list out a b) opens listed) ∙ second-breaks a b out (unified_rows n t out) good bad

-- The record beside a length.

-- A reply that is a length is neither 17 nor 18.
length-passes : (r : Result) (l : ℕ) → r.reply ≡ Length l → Passes r
length-passes r l e = (
  λ q. let z : ◌≡◌ {A = ℕ} 0 1 = cc (ap refusal e, q) in omega arith,
  λ q. let z : ◌≡◌ {A = ℕ} 0 1 = cc (ap refusal e, q) in omega arith,
)

-- a record in written form whose graph obeys the list
module _ (n : ℕ) (t list bytes : List ℕ) (opens : table.opened n t ≡ Ok tt) (listed : list_accepted n list ≡ true) where
  obeys-written : WrittenRecord n bytes → (rows : List (Row Label)) → reading n bytes ≡ accepted rows → Appropriate t list (graph_of_rows rows) →
      Obeys n t list bytes
  unfolding rewriting
  obeys-written one rows reads obeys out =
      let same : reading_appropriate n t list bytes ≡ reading n bytes =
      judged-appropriate n t list bytes rows reads ∙
      ap (λ (b : Bool). cond b (accepted rows) (refused Inappropriate))
      ((appropriate-exact n t list rows (accepted-rules n bytes rows reads)).1 obeys) ∙ sym reads in
      sym (list-passed (rewriting-checked n t list out bytes) opens listed) ∙ ap (λ (o : Reading). rewritten o out) same ∙
      sym (table-accepted (λ r. refusing r out) (rewritten (reading n bytes) out) opens) ∙ own-bytes n t bytes one opens out

-- an accepted record that obeys the list
record Obeying (n : ℕ) (t list bytes : List ℕ) : Type 0 where
  pub rows : List (Row Label)
  pub reads : reading n bytes ≡ accepted rows
  pub obeys : Appropriate t list (graph_of_rows rows)

obeying : (n : ℕ) (t list bytes : List ℕ) (rows : List (Row Label)) → reading_appropriate n t list bytes ≡ accepted rows → Obeying n t list bytes
obeying n t list bytes rows e =
    let (reads, passes) = accepted-appropriate n t list bytes rows e in
    record { rows = rows; reads = reads; obeys = (appropriate-exact n t list rows (accepted-rules n bytes rows reads)).0 passes }

lone-obeying : (n : ℕ) (t list bytes out : List ℕ) (l : ℕ) → (rewritten (reading_appropriate n t list bytes) out).reply ≡ Length l →
    Obeying n t list bytes
lone-obeying n t list bytes out l q = go (reading_appropriate n t list bytes) refl
  where
    go : (o : Reading) → reading_appropriate n t list bytes ≡ o → Obeying n t list bytes
    go (refused fault) e =
        let h = ap (λ (o : Reading). (rewritten o out).reply) (sym e) ∙ q in
        let z : ◌≡◌ {A = ℕ} 0 1 = cc in absurd (omega arith)
    go (accepted rows) e = obeying n t list bytes rows e

both-obeying : (n : ℕ) (t list a b out : List ℕ) (next : List (Row Label) → List (Row Label) → Result) (l : ℕ) →
    (read_both (λ r. refusing r out) (reading_appropriate n t list a) (reading_appropriate n t list b) next).reply ≡ Length l →
    Obeying n t list a × Obeying n t list b
both-obeying n t list a b out next l q = go (reading_appropriate n t list a) (reading_appropriate n t list b) refl refl
  where
    go : (o p : Reading) → reading_appropriate n t list a ≡ o → reading_appropriate n t list b ≡ p → Obeying n t list a × Obeying n t list b
    go (refused fault) p e d =
        let h = ap₂ (λ (o p : Reading). (read_both (λ r. refusing r out) o p next).reply) (sym e) (sym d) ∙ q in
        let z : ◌≡◌ {A = ℕ} 0 1 = cc in absurd (omega arith)
    go (accepted rows) (refused fault) e d =
        let h = ap₂ (λ (o p : Reading). (read_both (λ r. refusing r out) o p next).reply) (sym e) (sym d) ∙ q in
        let z : ◌≡◌ {A = ℕ} 0 1 = cc in absurd (omega arith)
    go (accepted rows) (accepted others) e d = (obeying n t list a rows e, obeying n t list b others d)

module _ (n : ℕ) (t list out : List ℕ) where
  -- What rewriting writes obeys the list, because it means the same as the record.
  pub rewriting-obeys : (bytes : List ℕ) (l : ℕ) → (rewriting_appropriate n t list bytes out).reply ≡ Length l →
      Obeys n t list (take l (rewriting_appropriate n t list bytes out).output)
  rewriting-obeys bytes l q =
      let same = rewriting-kept n t list out bytes (length-passes (rewriting_appropriate n t list bytes out) l q) in
      let record { opens = opens; passed = listed; does = does } = behind (rewriting-checked n t list out bytes) l q in
      let one = lone-obeying n t list bytes out l (ap (λ (r : Result). r.reply) does ∙ q) in
      let wrote = written-again n t bytes one.rows opens one.reads out l (ap (λ (r : Result). r.reply) (sym same) ∙ q) in
      subst (λ (r : Result). Obeys n t list (take l r.output)) (sym same)
      (obeys-written n t list (take l (rewriting n t bytes out).output) opens listed wrote.is-record.is-written wrote.is-record.is-written.form wrote.is-record.is-written.reads
      (appropriate-same n t list (graph_of_rows one.rows) (graph_of_rows wrote.is-record.is-written.form) wrote.is-record.means one.obeys))

  module _ (a b : List ℕ) (l : ℕ) where
    -- The common part obeys the list, because its paths are paths of both.
    pub generalizing-obeys : (generalizing_appropriate n t list a b out).reply ≡ Length l →
        Obeys n t list (take l (generalizing_appropriate n t list a b out).output)
    generalizing-obeys q =
        let same = generalizing-kept n t list out a b (length-passes (generalizing_appropriate n t list a b out) l q) in
        let record { opens = opens; passed = listed; does = does } = behind (generalizing-checked n t list out a b) l q in
        let (one, other) = both-obeying n t list a b out (generalized n t out) l (ap (λ (r : Result). r.reply) does ∙ q) in
        let e = ap (λ (r : Result). r.reply) (sym same) ∙ q in
        let given : Given n t a b one.rows other.rows = record { opens = opens; first = one.reads; second = other.reads } in
        let common = common-part n t a b one.rows other.rows given out l e in
        subst (λ (r : Result). Obeys n t list (take l r.output)) (sym same)
        (obeys-written n t list (take l (generalizing n t a b out).output) opens listed ((generalizing-leaves n t out a b).holds l e) common.form
        common.reads
        (common-obeys n t (opened-accepted n t (table.opened n t) refl opens) list listed (graph_of_rows one.rows) (graph_of_rows other.rows)
        (accepted-of-any-size n a one.rows one.reads t) (accepted-of-any-size n b other.rows other.reads t) one.obeys other.obeys
        (graph_of_rows common.form) common.paths))

    -- The combination obeys the list, because its classes have the features of their members.
    pub unifying-obeys : (unifying_appropriate n t list a b out).reply ≡ Length l →
        Obeys n t list (take l (unifying_appropriate n t list a b out).output)
    unifying-obeys q =
        let same = unifying-kept n t list out a b (length-passes (unifying_appropriate n t list a b out) l q) in
        let record { opens = opens; passed = listed; does = does } = behind (unifying-checked n t list out a b) l q in
        let (one, other) = both-obeying n t list a b out (unified_rows n t out) l (ap (λ (r : Result). r.reply) does ∙ q) in
        let e = ap (λ (r : Result). r.reply) (sym same) ∙ q in
        let given : Given n t a b one.rows other.rows = record { opens = opens; first = one.reads; second = other.reads } in
        let whole = written-combination n t a b one.rows other.rows given out l e in
        subst (λ (r : Result). Obeys n t list (take l r.output)) (sym same)
        (obeys-written n t list (take l (unifying n t a b out).output) opens listed ((unifying-leaves n t out a b).holds l e) whole.form
        whole.reads
        (combination-obeys n t (opened-accepted n t (table.opened n t) refl opens) list listed (graph_of_rows one.rows) (graph_of_rows other.rows)
        (accepted-of-any-size n a one.rows one.reads t) (accepted-of-any-size n b other.rows other.reads t) one.obeys other.obeys
        (graph_of_rows whole.form) whole.classes))

-- The difference of a and b, combined with a through the plain call, gives b; where b obeys the list, it gives what rewriting b with the list
-- gives.
module _ (n : ℕ) (t a b : List ℕ) (g s : List (Row Label)) (given : Given n t a b g s) (list out room : List ℕ) (l : ℕ)
    (e : (differing n t a b out).reply ≡ Length l) (passes : Passes (rewriting_appropriate n t list b room)) where
  abbrev record_of_lem : List ℕ
  record_of_lem = take l (differing n t a b out).output

  pub restored-first : unifying n t record_of_lem a room ≡ rewriting_appropriate n t list b room
  restored-first = (Differed.written-difference n t a b g s given by-number-order (plain-parts n t a b given out) l e).combined-first room ∙ sym (rewriting-kept n t list room b passes)

  pub restored-second : unifying n t a record_of_lem room ≡ rewriting_appropriate n t list b room
  restored-second = (Differed.written-difference n t a b g s given by-number-order (plain-parts n t a b given out) l e).combined-second room ∙ sym (rewriting-kept n t list room b passes)
