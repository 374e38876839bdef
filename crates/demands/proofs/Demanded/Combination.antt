-- The combination is the greatest graph of any size below both, and 9 or 10 is replied exactly where there is none. What is written is read again
-- as that graph, and the order agrees.
use mathlib.Core.Path.{◌≡◌, refl, sym, ◌∙◌, ap, ap₂, subst}
use mathlib.Core.Bool.{Bool, true}
use mathlib.Core.List.{List}
use mathlib.Core.Logic.Iff
use mathlib.Core.Logic.{◌↔◌, ◌⊎◌, inl, inr, ⊎_elim}
use mathlib.Core.Option.{some}
use Prim.Native.Nat.{ℕ}
use native.Mathlib.Omega.{arith}
use lib.Dec.{eqb}
use lib.ListN.{take}
use Rattle.std.specs.Prelude.{Ok, Err}
use Rattle.graphs.specs.Graph.{Graph, TellsApart}
use Rattle.graphs.specs.Rows.{Row}
use Rattle.graphs.specs.Number.{Canonical, canonical}
use Rattle.graphs.specs.Unify.{Cycle, Unified, cycle, clash, unified, unification}
use Rattle.graphs.specs.OfRows.{same_either}
use Rattle.graphs.proofs.Lists.{tells-eqb}
use Rattle.graphs.proofs.Below.{same_refl}
use Rattle.graphs.proofs.Form.Invariant.{same-canonical}
use Rattle.graphs.proofs.Unification.Beside.{same_beside_lem}
use Rattle.lattice.specs.Label.{Label}
use Rattle.lattice.specs.Table as table
use Rattle.acceptance.specs.Reply.{opened}
use Rattle.lattice.specs.Labels.{table_labels, OfAnySize, GreatestOfAnySize, IsCombination, LabelClash}
use Rattle.acceptance.proofs.Acceptance.{opened-accepted}
use Rattle.lattice.proofs.AnySize.{
  answer,
  unification-combination,
  unification-greatest,
  unification-cycle,
  unification-clash,
  unification-none,
  unification-exists,
  greatest-unique,
  same-greatest,
  combination-greatest,
  same-combination,
}
use Rattle.encode.specs.declared.Unwritten.TheVariants as unwritten
use Rattle.encode.specs.Encode.{written_out, Writing}
use Rattle.record.specs.Read.{reading, accepted, graph_of_rows}
use Rattle.record.proofs.Theorems.{accepted-of-any-size, accepted-nodes}
use Rattle.replies.specs.Replies as replies
use Rattle.replies.specs.Reply.{Result, refusal, refusing, reply_of, result_of}
use Rattle.engine.specs.Unifying.{combined, unified_rows}
use Rattle.calls.specs.Calls.{unifying}
use Rattle.demands.specs.Demand.{Given, NoneBelow, Combination}
use Rattle.demands.proofs.Results.{Writes, result_for, result-writes, seven-bits}
use Rattle.demands.proofs.Demanded.Order.{order-exact}

pub tells-either : TellsApart same_either
tells-either = same_beside_lem eqb eqb tells-eqb tells-eqb

-- writing a graph refuses by 8 and 11 alone
written-refusal : (w : Writing) (k : ℕ) → refusal (reply_of w) ≡ some k → (k ≡ 8) ⊎ (k ≡ 11)
written-refusal (Ok l) k e = let z : ◌≡◌ {A = ℕ} 0 1 = cc in absurd (omega arith)
written-refusal (Err unwritten.TooLarge) k e = inr cc
written-refusal (Err unwritten.NoRoom) k e = inl cc

-- Writing a graph refuses by no number other than 8 and 11.
pub other-refusal : (w : Writing) (k : ℕ) → refusal (reply_of w) ≡ some k → (k ≡ 8 → ⊥) → (k ≡ 11 → ⊥) → ⊥
other-refusal w k e not-room not-large = ⊎_elim not-room not-large (written-refusal w k e)

module _ (out : List ℕ) where
  combined-cycle : (o : Unified Label (ℕ ⊎ ℕ)) → ((combined o out).reply ≡ replies.Cycle) ↔ (o ≡ cycle)
  combined-cycle cycle = (λ _. refl, λ _. refl)
  combined-cycle clash = (λ q. let z : ◌≡◌ {A = ℕ} 0 1 = cc in absurd (omega arith), λ q. ap (λ o. (combined o out).reply) q)
  combined-cycle (unified u) = (
    λ q. absurd (other-refusal (written_out (canonical same_either u) out).answer 9 (ap refusal q) (λ z. omega arith) (λ z. omega arith)),
    λ q. ap (λ o. (combined o out).reply) q,
  )

  combined-clash : (o : Unified Label (ℕ ⊎ ℕ)) → ((combined o out).reply ≡ replies.Clash) ↔ (o ≡ clash)
  combined-clash cycle = (λ q. let z : ◌≡◌ {A = ℕ} 0 1 = cc in absurd (omega arith), λ q. ap (λ o. (combined o out).reply) q)
  combined-clash clash = (λ _. refl, λ _. refl)
  combined-clash (unified u) = (
    λ q. absurd (other-refusal (written_out (canonical same_either u) out).answer 10 (ap refusal q) (λ z. omega arith) (λ z. omega arith)),
    λ q. ap (λ o. (combined o out).reply) q,
  )

module _ (n : ℕ) (t a b : List ℕ) (g h : List (Row Label)) (given : Given n t a b g h) where
  accepts : table.accepted n t ≡ true
  accepts = opened-accepted n t (opened n t) refl given.opens

  first-size : OfAnySize n t (graph_of_rows g)
  first-size = accepted-of-any-size n a g given.first t

  second-size : OfAnySize n t (graph_of_rows h)
  second-size = accepted-of-any-size n b h given.second t

  abbrev joint : Unified Label (ℕ ⊎ ℕ)
  joint = answer n t accepts eqb eqb tells-eqb tells-eqb (graph_of_rows g) (graph_of_rows h) first-size second-size

  module _ (out : List ℕ) where
    unifying-is : unifying n t a b out ≡ combined joint out
    unfolding unifying unified_rows first-size second-size
    unifying-is =
        rw (given.opens, given.first, given.second)
        (sym
        (ap₂ (λ (gs hs : List ℕ). combined (unification (table_labels n t) eqb eqb (graph_of_rows g) gs (graph_of_rows h) hs) out)
        (accepted-nodes n a g given.first t) (accepted-nodes n b h given.second t)))

    reply-cycle : ((unifying n t a b out).reply ≡ replies.Cycle) ↔ (joint ≡ cycle)
    reply-cycle =
        subst (λ (r : Result). (r.reply ≡ replies.Cycle) ↔ (joint ≡ cycle)) (sym unifying-is) (combined-cycle out joint)

    -- 9 is replied exactly where a class reaches itself.
    pub cycle-exact : ((unifying n t a b out).reply ≡ replies.Cycle) ↔ Cycle (table_labels n t) (graph_of_rows g) (graph_of_rows h)
    cycle-exact =
        Iff.trans reply-cycle
        (unification-cycle n t accepts eqb eqb tells-eqb tells-eqb (graph_of_rows g) (graph_of_rows h) first-size second-size)

    reply-clash : ((unifying n t a b out).reply ≡ replies.Clash) ↔ (joint ≡ clash)
    reply-clash =
        subst (λ (r : Result). (r.reply ≡ replies.Clash) ↔ (joint ≡ clash)) (sym unifying-is) (combined-clash out joint)

    -- 10 is replied exactly where no class reaches itself and the meet of some class is a contradiction: type 0, or an empty range.
    pub clash-exact : ((unifying n t a b out).reply ≡ replies.Clash) ↔
        ((Cycle (table_labels n t) (graph_of_rows g) (graph_of_rows h) → ⊥) × LabelClash n t (graph_of_rows g) (graph_of_rows h))
    clash-exact =
        Iff.trans reply-clash
        (unification-clash n t accepts eqb eqb tells-eqb tells-eqb (graph_of_rows g) (graph_of_rows h) first-size second-size)

    -- 9 or 10 is replied exactly where no graph of any size lies below both.
    pub none-exact : (((unifying n t a b out).reply ≡ replies.Cycle) ⊎ ((unifying n t a b out).reply ≡ replies.Clash)) ↔ NoneBelow n t g h
    none-exact =
        let (there, back) =
        unification-none n t accepts eqb eqb tells-eqb tells-eqb (graph_of_rows g) (graph_of_rows h) first-size second-size in (
          λ q. there (⊎_elim (λ e. inl (reply-cycle.0 e)) (λ e. inr (reply-clash.0 e)) q),
          λ none. ⊎_elim (λ e. inl (reply-cycle.1 e)) (λ e. inr (reply-clash.1 e)) (back none),
        )

    -- The three results: 9, 10, or the graph that the classes give, which is the greatest below both, as the call writes it.
    pub data Told : Type 1 where
      refused-cycle : unifying n t a b out ≡ refusing replies.Cycle out → Told
      refused-clash : unifying n t a b out ≡ refusing replies.Clash out → Told
      written : (u : Graph Label (ℕ ⊎ ℕ)) → IsCombination n t (graph_of_rows g) (graph_of_rows h) u →
          GreatestOfAnySize n t (graph_of_rows g) (graph_of_rows h) u → unifying n t a b out ≡ result_for same_either u out → Told

    pub combination-told : Told
    combination-told = go joint refl
      where
        go : (o : Unified Label (ℕ ⊎ ℕ)) → joint ≡ o → Told
        go cycle q = refused-cycle (unifying-is ∙ ap (λ (o : Unified Label (ℕ ⊎ ℕ)). combined o out) q)
        go clash q = refused-clash (unifying-is ∙ ap (λ (o : Unified Label (ℕ ⊎ ℕ)). combined o out) q)
        go (unified u) q =
            let (size, is) =
            unification-combination n t accepts eqb eqb tells-eqb tells-eqb (graph_of_rows g) (graph_of_rows h) first-size second-size u q in
            written u is (combination-greatest n t accepts (graph_of_rows g) (graph_of_rows h) first-size second-size u size is)
            (unifying-is ∙ ap (λ (o : Unified Label (ℕ ⊎ ℕ)). combined o out) q)

    -- where 9 and 10 are not replied, the combination exists
    pub exists : (((unifying n t a b out).reply ≡ replies.Cycle) ⊎ ((unifying n t a b out).reply ≡ replies.Clash) → ⊥) →
        (u : Graph Label (ℕ ⊎ ℕ)) × IsCombination n t (graph_of_rows g) (graph_of_rows h) u × GreatestOfAnySize n t (graph_of_rows g) (graph_of_rows h) u
    exists other = go combination-told
      where
        go : Told → (u : Graph Label (ℕ ⊎ ℕ)) × IsCombination n t (graph_of_rows g) (graph_of_rows h) u × GreatestOfAnySize n t (graph_of_rows g) (graph_of_rows h) u
        go (refused-cycle e) = absurd (other (inl (ap (λ (r : Result). r.reply) e)))
        go (refused-clash e) = absurd (other (inr (ap (λ (r : Result). r.reply) e)))
        go (written u is best e) = (u, is, best)

    -- Every graph that is the greatest of any size below both is what the call writes.
    module _ {C : Type 0} (same : C → C → Bool) (tells : TellsApart same) (u : Graph Label C)
        (best : GreatestOfAnySize n t (graph_of_rows g) (graph_of_rows h) u) where
      pub greatest-result : unifying n t a b out ≡ result_for same u out
      greatest-result =
          let (w, e) =
          unification-exists n t accepts eqb eqb tells-eqb tells-eqb (graph_of_rows g) (graph_of_rows h) first-size second-size u
          best.of-any-size best.left best.right in
          let other =
          unification-greatest n t accepts eqb eqb tells-eqb tells-eqb (graph_of_rows g) (graph_of_rows h) first-size second-size w e in
          unifying-is ∙ ap (λ (o : Unified Label (ℕ ⊎ ℕ)). combined o out) e ∙
          ap (λ (c : Canonical Label). result_of (written_out c out))
          (same-canonical (table_labels n t) same_either same tells-either tells w u
          (greatest-unique n t accepts (graph_of_rows g) (graph_of_rows h) w u other best))

      pub greatest-writes : Writes n t same u out (unifying n t a b out)
      greatest-writes = subst (Writes n t same u out) (sym greatest-result)
          (result-writes n t same tells u best.of-any-size (seven-bits n t accepts u best.of-any-size) out)

    -- A reply that is a length is neither 9 nor 10.
    length-other : (l : ℕ) → (unifying n t a b out).reply ≡ replies.Length l →
        ((unifying n t a b out).reply ≡ replies.Cycle) ⊎ ((unifying n t a b out).reply ≡ replies.Clash) → ⊥
    length-other l q bad =
        ⊎_elim
        (λ (e : (unifying n t a b out).reply ≡ replies.Cycle). let z : ◌≡◌ {A = ℕ} 0 1 = cc in omega arith)
        (λ (e : (unifying n t a b out).reply ≡ replies.Clash). let z : ◌≡◌ {A = ℕ} 0 1 = cc in omega arith) bad

    -- What is written is the greatest graph below both, and the order agrees.
    pub written-combination : (l : ℕ) → (unifying n t a b out).reply ≡ replies.Length l →
        Combination n t a b g h (take l (unifying n t a b out).output)
    written-combination l q =
        let (u, is, best) = exists (length-other l q) in
        let wrote = (greatest-writes same_either tells-either u best).wrote l q in
        let bytes : List ℕ = take l (unifying n t a b out).output in
        let form : List (Row Label) = wrote.form in
        let reads : reading n bytes ≡ accepted form = wrote.reads in
        let greatest : GreatestOfAnySize n t (graph_of_rows g) (graph_of_rows h) (graph_of_rows form) =
        same-greatest n t accepts (graph_of_rows g) (graph_of_rows h) u (graph_of_rows g) (graph_of_rows form) (same_refl (graph_of_rows g)) wrote.means best in
        record {
          form = form;
          reads = reads;
          classes = same-combination n t accepts (graph_of_rows g) (graph_of_rows h) first-size second-size u (graph_of_rows form) wrote.means is;
          greatest = greatest;
          below-first = (order-exact n t bytes a form g (record { opens = given.opens; first = reads; second = given.first })).0.1
              greatest.left;
          below-second = (order-exact n t bytes b form h (record { opens = given.opens; first = reads; second = given.second })).0.1
              greatest.right;
          above_lower = λ c m lower x y.
              (order-exact n t c bytes m form (record { opens = given.opens; first = lower; second = reads })).0.1
              (greatest.greatest (graph_of_rows m) (accepted-of-any-size n c m lower t)
              ((order-exact n t c a m g (record { opens = given.opens; first = lower; second = given.first })).0.0 x)
              ((order-exact n t c b m h (record { opens = given.opens; first = lower; second = given.second })).0.0 y));
        }
