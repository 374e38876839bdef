-- The calls with a list of types for features (document 02, Paper 9): what they leave in the output, whatever is handed in. 18 is given exactly
-- where it is due, and tells which graph.
use mathlib.Core.Path.{◌≡◌, refl, sym, ◌∙◌, ap, subst}
use mathlib.Core.Bool.{Bool, true, false, cond}
use mathlib.Core.List.{List}
use mathlib.Core.Logic.{◌↔◌, ◌⊎◌}
use mathlib.Core.Option.{Option, none, some}
use Prim.Native.Nat.{ℕ}
use native.Mathlib.Omega.{arith}
use lib.Dec.{eqb}
use lib.ListN.{length}
use Rattle.graphs.specs.Rows.{Row, from}
use Rattle.graphs.specs.Number.{canonical}
use Rattle.graphs.specs.Generalize.{generalization}
use Rattle.graphs.specs.Unify.{Unified, cycle, clash, unified, unification}
use Rattle.graphs.specs.OfRows.{same_pair, same_either}
use Rattle.graphs.proofs.Search.{true-false}
use Rattle.lattice.specs.Label.{Label}
use Rattle.acceptance.specs.Reply.{TableAnswer}
use Rattle.std.specs.Prelude.{Ok, Err}
use Rattle.lattice.specs.Labels.{table_labels}
use Rattle.acceptance.specs.Reply as table
use Rattle.encode.specs.Encode.{written_out}
use Rattle.decode.specs.Decode.{decoded}
use Rattle.record.specs.declared.GraphFault.{GraphFault}
use Rattle.record.specs.declared.GraphFault.TheVariants.{OutOfRange, Cyclic, Unreached, Inappropriate}
use Rattle.record.specs.Read.{Reading, refused, accepted, in_range, cyclic, reaches_all, judged, reading, graph_number, graph_of_rows}
use Rattle.record.specs.Appropriate.{list_accepted, appropriate, reading_appropriate}
use Rattle.record.proofs.Accepted.{accepted-rules}
use Rattle.record.proofs.Allowed.{refused-appropriate, judged-appropriate}
use Rattle.record.proofs.Obeying.{appropriate-exact}
use Rattle.replies.specs.declared.Side.{Side}
use Rattle.replies.specs.declared.Side.TheVariants.{First, Second}
use Rattle.replies.specs.Replies.{Reply}
use Rattle.replies.specs.Replies.{Graph, Table, TypeList}
use Rattle.replies.specs.Reply.{Result, refusal, refusing}
use Rattle.calls.specs.Calls.{rewriting, generalizing, unifying}
use Rattle.calls.specs.Appropriate.{rewriting_appropriate, generalizing_appropriate, unifying_appropriate}
use Rattle.calls.proofs.Tables.{table-accepted}
use Rattle.calls.proofs.Listed.{Checks, table-before-list, list-refused, list-passed, rewriting-checked, generalizing-checked, unifying-checked}
use Rattle.pairs.specs.Pair.{read_both}
use Rattle.engine.specs.Rewriting.{rewritten}
use Rattle.engine.specs.Generalizing.{generalized}
use Rattle.engine.specs.Unifying.{combined, unified_rows}
use Rattle.demands.specs.Appropriate.{Breaks, Fits}
use Rattle.demands.specs.Demand.{Leaves}
use Rattle.demands.proofs.Demanded.Output.{refusing-leaves, rewriting-leaves, generalizing-leaves, unifying-leaves}
use Rattle.demands.proofs.Demanded.Combination.{other-refusal}
use Rattle.demands.proofs.Demanded.Appropriate as Listing

-- reading without a list never gives 18
reading-other : (n : ℕ) (bytes : List ℕ) → reading n bytes ≡ refused Inappropriate → ⊥
unfolding reading
reading-other n bytes = judged-other (decoded bytes)
  where
    tested : (rows : List (Row Label)) (x y z : Bool) →
        cond x (cond y (refused Cyclic) (cond z (accepted rows) (refused Unreached))) (refused OutOfRange) ≡ refused Inappropriate → ⊥
    tested rows false y z e = let q : ◌≡◌ {A = ℕ} 0 1 = cc in omega arith
    tested rows true true z e = let q : ◌≡◌ {A = ℕ} 0 1 = cc in omega arith
    tested rows true false true e = let q : ◌≡◌ {A = ℕ} 0 1 = cc in omega arith
    tested rows true false false e = let q : ◌≡◌ {A = ℕ} 0 1 = cc in omega arith

    judged-other : (o : Option (List (Row Label))) → judged n o ≡ refused Inappropriate → ⊥
    judged-other none e = let q : ◌≡◌ {A = ℕ} 0 1 = cc in omega arith
    judged-other (some rows) e = tested rows (in_range n rows) (cyclic rows) (reaches_all rows) e

-- A graph beside a list is refused as without the list, refused by 18, or accepted.
data Reads (n : ℕ) (t list bytes : List ℕ) : Reading → Type 0 where
  other : (fault : GraphFault) → (fault ≡ Inappropriate → ⊥) → reading n bytes ≡ refused fault → Reads n t list bytes (refused fault)
  broken : Breaks n t list bytes → Reads n t list bytes (refused Inappropriate)
  fitting : (rows : List (Row Label)) → reading n bytes ≡ accepted rows → Fits n t list bytes → Reads n t list bytes (accepted rows)

reads-beside : (n : ℕ) (t list bytes : List ℕ) → Reads n t list bytes (reading_appropriate n t list bytes)
reads-beside n t list bytes = go (reading n bytes) refl
  where
    test : (rows : List (Row Label)) → reading n bytes ≡ accepted rows → (b : Bool) → appropriate t list rows ≡ b →
        Reads n t list bytes (reading_appropriate n t list bytes)
    test rows q true e =
        subst (Reads n t list bytes)
        (sym (judged-appropriate n t list bytes rows q ∙ ap (λ (b : Bool). cond b (accepted rows) (refused Inappropriate)) e))
        (fitting rows q (rows, q, (appropriate-exact n t list rows (accepted-rules n bytes rows q)).0 e))
    test rows q false e =
        subst (Reads n t list bytes)
        (sym (judged-appropriate n t list bytes rows q ∙ ap (λ (b : Bool). cond b (accepted rows) (refused Inappropriate)) e))
        (broken (rows, q, λ obeys. true-false ((appropriate-exact n t list rows (accepted-rules n bytes rows q)).1 obeys) e))

    go : (o : Reading) → reading n bytes ≡ o → Reads n t list bytes (reading_appropriate n t list bytes)
    go (refused fault) q =
        subst (Reads n t list bytes) (sym (refused-appropriate n t list bytes fault q))
        (other fault (λ e. reading-other n bytes (q ∙ ap refused e)) q)
    go (accepted rows) q = test rows q (appropriate t list rows) refl

-- What comes after the list is a refusal of a graph, or what the plain call comes to.
data Comes (out : List ℕ) (plain : Result) : Result → Type 0 where
  refuses : (fault : GraphFault) (side : Side) → Comes out plain (refusing (Graph fault side) out)
  plainly : Comes out plain plain

lone-comes : (n : ℕ) (t list bytes out : List ℕ) → Comes out (rewritten (reading n bytes) out) (rewritten (reading_appropriate n t list bytes) out)
lone-comes n t list bytes out = go (reading_appropriate n t list bytes) (reads-beside n t list bytes)
  where
    go : (o : Reading) → Reads n t list bytes o → Comes out (rewritten (reading n bytes) out) (rewritten o out)
    go o (other fault _ _) = refuses fault First
    go o (broken _) = refuses Inappropriate First
    go o (fitting rows q _) = subst (λ (o : Reading). Comes out (rewritten o out) (rewritten (accepted rows) out)) (sym q) plainly

both-comes : (n : ℕ) (t list a b out : List ℕ) (next : List (Row Label) → List (Row Label) → Result) →
    Comes out (read_both (λ r. refusing r out) (reading n a) (reading n b) next)
    (read_both (λ r. refusing r out) (reading_appropriate n t list a) (reading_appropriate n t list b) next)
both-comes n t list a b out next =
    go (reading_appropriate n t list a) (reading_appropriate n t list b) (reads-beside n t list a) (reads-beside n t list b)
  where
    go : (o p : Reading) → Reads n t list a o → Reads n t list b p →
        Comes out (read_both (λ r. refusing r out) (reading n a) (reading n b) next) (read_both (λ r. refusing r out) o p next)
    go o p (other fault _ _) second = refuses fault First
    go o p (broken _) second = refuses Inappropriate First
    go o p (fitting rows q _) (other fault _ _) = refuses fault Second
    go o p (fitting rows q _) (broken _) = refuses Inappropriate Second
    go o p (fitting rows q _) (fitting others d _) =
        subst (λ (o : Reading). Comes out (read_both (λ r. refusing r out) o (reading n b) next) (next rows others)) (sym q)
        (subst (λ (p : Reading). Comes out (read_both (λ r. refusing r out) (accepted rows) p next) (next rows others)) (sym d) plainly)

-- What a call with a list leaves in the output.
module _ {n : ℕ} {t : List ℕ} {listed : Bool} {out : List ℕ} {call next : Result} (checks : Checks n t listed TypeList out call next) where
  call-leaves : {plain : Result} → Comes out plain next → (table.opened n t ≡ Ok tt → Leaves n out plain) → Leaves n out call
  call-leaves {plain} comes leaves = go (table.opened n t) refl
    where
      after : table.opened n t ≡ Ok tt → {r : Result} → Comes out plain r → Leaves n out r
      after opens (refuses fault side) = refusing-leaves n out (Graph fault side) (graph_number fault) refl
      after opens plainly = leaves opens

      list-tested : table.opened n t ≡ Ok tt → (b : Bool) → listed ≡ b → Leaves n out call
      list-tested opens true e = subst (Leaves n out) (list-passed checks opens e) (after opens comes)
      list-tested opens false e = subst (Leaves n out) (list-refused checks opens e) (refusing-leaves n out TypeList 17 refl)

      go : (o : TableAnswer) → table.opened n t ≡ o → Leaves n out call
      go (Err fault) e =
          subst (Leaves n out) (table-before-list checks fault e) (refusing-leaves n out (Table fault) (table.table_number fault) refl)
      go (Ok tt) e = list-tested e listed refl

  -- 18 comes from what follows the list, over an accepted table and an accepted list.
  call-forbids : (side : Side) → call.reply ≡ Graph Inappropriate side →
      (table.opened n t ≡ Ok tt) × (listed ≡ true) × (next.reply ≡ Graph Inappropriate side)
  call-forbids side q = go (table.opened n t) refl
    where
      list-tested : table.opened n t ≡ Ok tt → (b : Bool) → listed ≡ b →
          (table.opened n t ≡ Ok tt) × (listed ≡ true) × (next.reply ≡ Graph Inappropriate side)
      list-tested opens true e = (opens, e, ap (λ (r : Result). r.reply) (list-passed checks opens e) ∙ q)
      list-tested opens false e =
          let h = ap (λ (r : Result). r.reply) (list-refused checks opens e) ∙ q in
          let z : ◌≡◌ {A = ℕ} 0 1 = cc in absurd (omega arith)

      go : (o : TableAnswer) → table.opened n t ≡ o →
          (table.opened n t ≡ Ok tt) × (listed ≡ true) × (next.reply ≡ Graph Inappropriate side)
      go (Err fault) e =
          let h = ap (λ (r : Result). r.reply) (table-before-list checks fault e) ∙ q in
          let z : ◌≡◌ {A = ℕ} 0 1 = cc in absurd (omega arith)
      go (Ok tt) e = list-tested e listed refl

-- The operations themselves never answer 18.
module _ (out : List ℕ) where
  abbrev NoGraph : Result → Type 0
  NoGraph r = (side : Side) → r.reply ≡ Graph Inappropriate side → ⊥

  rewritten-no : (rows : List (Row Label)) → NoGraph (rewritten (accepted rows) out)
  rewritten-no rows side e =
      other-refusal (written_out (canonical eqb (graph_of_rows rows)) out).answer 18 (ap refusal e) (λ z. omega arith) (λ z. omega arith)

  generalized-no : (n : ℕ) (t : List ℕ) (g h : List (Row Label)) → NoGraph (generalized n t out g h)
  unfolding generalized
  generalized-no n t g h side e =
      other-refusal (written_out (canonical same_pair (generalization (table_labels n t) (graph_of_rows g) (graph_of_rows h))) out).answer 18 (ap refusal e)
      (λ z. omega arith) (λ z. omega arith)

  combined-no : (u : Unified Label (ℕ ⊎ ℕ)) → NoGraph (combined u out)
  combined-no cycle side e = let z : ◌≡◌ {A = ℕ} 0 1 = cc in omega arith
  combined-no clash side e = let z : ◌≡◌ {A = ℕ} 0 1 = cc in omega arith
  combined-no (unified u) side e =
      other-refusal (written_out (canonical same_either u) out).answer 18 (ap refusal e) (λ z. omega arith) (λ z. omega arith)

  unified-no : (n : ℕ) (t : List ℕ) (g h : List (Row Label)) → NoGraph (unified_rows n t out g h)
  unfolding unified_rows
  unified-no n t g h =
      combined-no (unification (table_labels n t) eqb eqb (graph_of_rows g) (from 0 (length g)) (graph_of_rows h) (from 0 (length h)))

  fault-of : {fault : GraphFault} {side other : Side} → ◌≡◌ {A = Reply} (Graph fault side) (Graph Inappropriate other) → fault ≡ Inappropriate
  fault-of e = cc

  module _ (n : ℕ) (t list : List ℕ) where
    lone-breaks : (bytes : List ℕ) → (rewritten (reading_appropriate n t list bytes) out).reply ≡ Graph Inappropriate First → Breaks n t list bytes
    lone-breaks bytes = go (reading_appropriate n t list bytes) (reads-beside n t list bytes)
      where
        go : (o : Reading) → Reads n t list bytes o → (rewritten o out).reply ≡ Graph Inappropriate First → Breaks n t list bytes
        go o (other fault unlike _) e = absurd (unlike (fault-of e))
        go o (broken bad) e = bad
        go o (fitting rows _ _) e = absurd (rewritten-no rows First e)

    module _ (a b : List ℕ) (next : List (Row Label) → List (Row Label) → Result) (never : (g h : List (Row Label)) → NoGraph (next g h)) where
      abbrev both : Result
      both = read_both (λ r. refusing r out) (reading_appropriate n t list a) (reading_appropriate n t list b) next

      first-breaks : both.reply ≡ Graph Inappropriate First → Breaks n t list a
      first-breaks = go (reading_appropriate n t list a) (reading_appropriate n t list b) (reads-beside n t list a) (reads-beside n t list b)
        where
          go : (o p : Reading) → Reads n t list a o → Reads n t list b p →
              (read_both (λ r. refusing r out) o p next).reply ≡ Graph Inappropriate First → Breaks n t list a
          go o p (other fault unlike _) second e = absurd (unlike (fault-of e))
          go o p (broken bad) second e = bad
          go o p (fitting rows _ _) (other fault unlike _) e = absurd (unlike (fault-of e))
          go o p (fitting rows _ _) (broken _) e = let z : ◌≡◌ {A = ℕ} 0 1 = cc in absurd (omega arith)
          go o p (fitting rows _ _) (fitting others _ _) e = absurd (never rows others First e)

      second-breaks : both.reply ≡ Graph Inappropriate Second → Fits n t list a × Breaks n t list b
      second-breaks = go (reading_appropriate n t list a) (reading_appropriate n t list b) (reads-beside n t list a) (reads-beside n t list b)
        where
          go : (o p : Reading) → Reads n t list a o → Reads n t list b p →
              (read_both (λ r. refusing r out) o p next).reply ≡ Graph Inappropriate Second → Fits n t list a × Breaks n t list b
          go o p (other fault unlike _) second e = absurd (unlike (fault-of e))
          go o p (broken bad) second e = let z : ◌≡◌ {A = ℕ} 0 1 = cc in absurd (omega arith)
          go o p (fitting rows _ good) (other fault unlike _) e = absurd (unlike (fault-of e))
          go o p (fitting rows _ good) (broken bad) e = (good, bad)
          go o p (fitting rows _ _) (fitting others _ _) e = absurd (never rows others Second e)

module _ (n : ℕ) (t list out : List ℕ) where
  -- What the calls leave in the output.
  pub rewriting-beside-leaves : (a : List ℕ) → Leaves n out (rewriting_appropriate n t list a out)
  unfolding rewriting
  rewriting-beside-leaves a =
      call-leaves (rewriting-checked n t list out a) (lone-comes n t list a out)
      (λ opens. subst (Leaves n out) (table-accepted (λ r. refusing r out) (rewritten (reading n a) out) opens) (rewriting-leaves n t out a))

  module _ (a b : List ℕ) where
    pub generalizing-beside-leaves : Leaves n out (generalizing_appropriate n t list a b out)
    unfolding generalizing
    generalizing-beside-leaves =
        call-leaves (generalizing-checked n t list out a b) (both-comes n t list a b out (generalized n t out))
        (λ opens.
        subst (Leaves n out)
        (table-accepted (λ r. refusing r out) (read_both (λ r. refusing r out) (reading n a) (reading n b) (generalized n t out)) opens)
        (generalizing-leaves n t out a b))

    pub unifying-beside-leaves : Leaves n out (unifying_appropriate n t list a b out)
    unfolding unifying
    unifying-beside-leaves =
        call-leaves (unifying-checked n t list out a b) (both-comes n t list a b out (unified_rows n t out))
        (λ opens.
        subst (Leaves n out)
        (table-accepted (λ r. refusing r out) (read_both (λ r. refusing r out) (reading n a) (reading n b) (unified_rows n t out)) opens)
        (unifying-leaves n t out a b))

  -- 18 is given exactly where it is due.
  pub rewriting-forbids : (a : List ℕ) → ((rewriting_appropriate n t list a out).reply ≡ Graph Inappropriate First) ↔
      ((table.opened n t ≡ Ok tt) × (list_accepted n list ≡ true) × Breaks n t list a)
  rewriting-forbids a = (
    λ q. let (opens, listed, e) = call-forbids (rewriting-checked n t list out a) First q in (opens, listed, lone-breaks out n t list a e),
    λ (opens, listed, bad). ap (λ (r : Result). r.reply) (Listing.rewriting-breaks n t list opens listed a out bad),
  )

  module _ (a b : List ℕ) where
    pub generalizing-forbids-first : ((generalizing_appropriate n t list a b out).reply ≡ Graph Inappropriate First) ↔
        ((table.opened n t ≡ Ok tt) × (list_accepted n list ≡ true) × Breaks n t list a)
    generalizing-forbids-first = (
      λ q.
          let (opens, listed, e) = call-forbids (generalizing-checked n t list out a b) First q in
          (opens, listed, first-breaks out n t list a b (generalized n t out) (generalized-no out n t) e),
      λ (opens, listed, bad). ap (λ (r : Result). r.reply) (Listing.generalizing-first-breaks n t list opens listed a b out bad),
    )

    pub generalizing-forbids-second : ((generalizing_appropriate n t list a b out).reply ≡ Graph Inappropriate Second) ↔
        ((table.opened n t ≡ Ok tt) × (list_accepted n list ≡ true) × Fits n t list a × Breaks n t list b)
    generalizing-forbids-second = (
      λ q.
          let (opens, listed, e) = call-forbids (generalizing-checked n t list out a b) Second q in
          let (good, bad) = second-breaks out n t list a b (generalized n t out) (generalized-no out n t) e in
          (opens, listed, good, bad),
      λ (opens, listed, good, bad). ap (λ (r : Result). r.reply) (Listing.generalizing-second-breaks n t list opens listed a b out good bad),
    )

    pub unifying-forbids-first : ((unifying_appropriate n t list a b out).reply ≡ Graph Inappropriate First) ↔
        ((table.opened n t ≡ Ok tt) × (list_accepted n list ≡ true) × Breaks n t list a)
    unifying-forbids-first = (
      λ q.
          let (opens, listed, e) = call-forbids (unifying-checked n t list out a b) First q in
          (opens, listed, first-breaks out n t list a b (unified_rows n t out) (unified-no out n t) e),
      λ (opens, listed, bad). ap (λ (r : Result). r.reply) (Listing.unifying-first-breaks n t list opens listed a b out bad),
    )

    pub unifying-forbids-second : ((unifying_appropriate n t list a b out).reply ≡ Graph Inappropriate Second) ↔
        ((table.opened n t ≡ Ok tt) × (list_accepted n list ≡ true) × Fits n t list a × Breaks n t list b)
    unifying-forbids-second = (
      λ q.
          let (opens, listed, e) = call-forbids (unifying-checked n t list out a b) Second q in
          let (good, bad) = second-breaks out n t list a b (unified_rows n t out) (unified-no out n t) e in
          (opens, listed, good, bad),
      λ (opens, listed, good, bad). ap (λ (r : Result). r.reply) (Listing.unifying-second-breaks n t list opens listed a b out good bad),
    )
