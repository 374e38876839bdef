-- Each reply that two accepted graphs give is given exactly where it is due.
use mathlib.Core.Path.{◌≡◌, refl, sym, ◌∙◌, ap, subst}
use mathlib.Core.Bool.{Bool, true, false}
use mathlib.Core.List.{List}
use mathlib.Core.Logic.{◌↔◌, ◌⊎◌, inl, inr}
use Prim.Native.Nat.{ℕ}
use native.Mathlib.Omega.{arith}
use lib.Dec.{eqb}
use lib.ListN.{length}
use Rattle.graphs.specs.Graph.{Graph}
use Rattle.graphs.specs.Rows.{Row}
use Rattle.graphs.specs.Difference.{Link, StrictOrder}
use Rattle.graphs.specs.OfRows.{same_pair, same_either}
use Rattle.graphs.proofs.Lists.{tells-eqb}
use Rattle.lattice.specs.Label.{Label}
use Rattle.lattice.specs.Labels.{OfAnySize}
use Rattle.lattice.proofs.AnySize.{combination-greatest}
use Rattle.std.specs.Prelude.{Ok}
use Rattle.acceptance.specs.Reply.{opened}
use Rattle.acceptance.proofs.Acceptance.{opened-accepted}
use Rattle.record.specs.Read.{reading, accepted, graph_of_rows}
use Rattle.record.proofs.Theorems.{accepted-of-any-size, accepted-fits}
use Rattle.generalize.proofs.Sides.{tells-pair}
use Rattle.replies.specs.Replies.{Reply}
use Rattle.replies.specs.Replies as replies
use Rattle.replies.specs.Reply.{Result}
use Rattle.subsume.specs.Promise.{rows_below}
use Rattle.orders.specs.Ordering.{compared, ordered}
use Rattle.engine.specs.Rewriting.{rewritten_rows}
use Rattle.engine.specs.Generalizing.{generalized}
use Rattle.engine.specs.Unifying.{unified_rows}
use Rattle.difference.specs.Difference.{differed_rows}
use Rattle.calls.specs.Calls.{ordering, generalizing, unifying}
use Rattle.demands.specs.Demand.{Given, Large, record_of, writing, common, remainder}
use Rattle.demands.specs.Wanted.{SomeUnwanted}
use Rattle.demands.specs.Due.{RowsBelow, RoomDue, CompareDue, CommonDue, CombinationOf, CombineDue, DifferDue}
use Rattle.demands.specs.Due as due
use Rattle.demands.proofs.Results.{result-record}
use Rattle.demands.proofs.Demanded.Recorded.{record-none}
use Rattle.demands.proofs.Demanded.Order.{same-exact, under-exact, above-exact, neither-exact}
use Rattle.demands.proofs.Demanded.CommonPart as Common
use Rattle.demands.proofs.Demanded.Combination.{tells-either}
use Rattle.demands.proofs.Demanded.Combination as Combined
use Rattle.demands.proofs.Demanded.Difference as Differed
use Rattle.demands.proofs.Demanded.DueWriting.{WriteDue, write-due, large-replies, room-replies}
use Rattle.demands.proofs.Demanded.DueWriting as write

-- Rewriting: an accepted record is not too large.
module _ (n : ℕ) (t bytes : List ℕ) (rows : List (Row Label)) (opens : opened n t ≡ Ok tt) (reads : reading n bytes ≡ accepted rows)
    (out : List ℕ) where
  small : Large (graph_of_rows rows) → ⊥
  small large =
      let none = (record-none n t opens eqb tells-eqb (graph_of_rows rows) (accepted-of-any-size n bytes rows reads t)).1 large in
      let (form, e) = accepted-fits n bytes rows reads in
      let z : ◌≡◌ {A = ℕ} 0 1 = cc in omega arith

  rows-size : OfAnySize n t (graph_of_rows rows)
  rows-size = accepted-of-any-size n bytes rows reads t

  only-room : {r : Reply} → WriteDue n t opens eqb tells-eqb (graph_of_rows rows) rows-size out r → RoomDue n t (graph_of_rows rows) (length out) r
  only-room (write.too_large large) = absurd (small large)
  only-room (write.written d) = d

  pub rewritten-exact : (r : Reply) → ((rewritten_rows out rows).reply ≡ r) ↔ RoomDue n t (graph_of_rows rows) (length out) r
  rewritten-exact r =
      let is : rewritten_rows out rows ≡ writing (record_of eqb (graph_of_rows rows)) out = result-record eqb (graph_of_rows rows) out in (
        λ e. subst (RoomDue n t (graph_of_rows rows) (length out)) (ap (λ (x : Result). x.reply) (sym is) ∙ e)
            (only-room (write-due n t opens eqb tells-eqb (graph_of_rows rows) rows-size out)),
        λ d. ap (λ (x : Result). x.reply) is ∙ room-replies n t opens eqb tells-eqb (graph_of_rows rows) rows-size out d,
      )

module _ (n : ℕ) (t a b : List ℕ) where
  -- Order.
  module _ (s g : List (Row Label)) (given : Given n t a b s g) where
    ordering-is : ordering n t a b ≡ ordered n t s g
    unfolding ordering
    ordering-is = rw (given.opens, given.first, given.second)

    compare-due : (x y : Bool) → ordering n t a b ≡ compared x y → CompareDue n t s g (compared x y)
    compare-due true true e = let (x, y) = (same-exact n t a b s g given).0 e in due.same x y
    compare-due true false e = let (x, y) = (under-exact n t a b s g given).0 e in due.under x y
    compare-due false true e = let (y, x) = (above-exact n t a b s g given).0 e in due.above x y
    compare-due false false e = let (x, y) = (neither-exact n t a b s g given).0 e in due.neither x y

    compare-replies : {r : Reply} → CompareDue n t s g r → ordering n t a b ≡ r
    compare-replies (due.same x y) = (same-exact n t a b s g given).1 (x, y)
    compare-replies (due.under x y) = (under-exact n t a b s g given).1 (x, y)
    compare-replies (due.above x y) = (above-exact n t a b s g given).1 (y, x)
    compare-replies (due.neither x y) = (neither-exact n t a b s g given).1 (x, y)

    pub compare_exact : (r : Reply) → (ordered n t s g ≡ r) ↔ CompareDue n t s g r
    unfolding ordered
    compare_exact r = (
      λ e. subst (CompareDue n t s g) e (compare-due (rows_below n t s g) (rows_below n t g s) ordering-is),
      λ d. sym ordering-is ∙ compare-replies d,
    )

  -- Common part.
  module _ (g h : List (Row Label)) (given : Given n t a b g h) (out : List ℕ) where
    common-size : OfAnySize n t (common n t g h)
    common-size = (Common.common-part-exists n t a b g h given).of-any-size

    generalized-is : generalized n t out g h ≡ writing (record_of same_pair (common n t g h)) out
    unfolding generalizing
    generalized-is =
        let plain : generalizing n t a b out ≡ generalized n t out g h = rw (given.opens, given.first, given.second) in
        sym plain ∙ Common.common-part-result n t a b g h given out ∙ result-record same_pair (common n t g h) out

    pub common-exact : (r : Reply) → ((generalized n t out g h).reply ≡ r) ↔ CommonDue n t (length out) g h r
    common-exact r = (
      λ e. subst (CommonDue n t (length out) g h) (ap (λ (x : Result). x.reply) (sym generalized-is) ∙ e)
          (from (write-due n t given.opens same_pair tells-pair (common n t g h) common-size out)),
      λ d. ap (λ (x : Result). x.reply) generalized-is ∙ back d,
    )
      where
        from : {r : Reply} → WriteDue n t given.opens same_pair tells-pair (common n t g h) common-size out r → CommonDue n t (length out) g h r
        from (write.too_large large) = due.too_large large
        from (write.written d) = due.written d

        back : {r : Reply} → CommonDue n t (length out) g h r → (writing (record_of same_pair (common n t g h)) out).reply ≡ r
        back (due.too_large large) = large-replies n t given.opens same_pair tells-pair (common n t g h) common-size out large
        back (due.written d) = room-replies n t given.opens same_pair tells-pair (common n t g h) common-size out d

  -- Combination.
  module _ (g h : List (Row Label)) (given : Given n t a b g h) (out : List ℕ) where
    unified-is : unifying n t a b out ≡ unified_rows n t out g h
    unfolding unifying
    unified-is = rw (given.opens, given.first, given.second)

    -- The call writes the combination.
    module _ (u : Graph Label (ℕ ⊎ ℕ)) (combines : CombinationOf n t g h u) where
      combined-is : unifying n t a b out ≡ writing (record_of same_either u) out
      combined-is =
          Combined.greatest-result n t a b g h given out same_either tells-either u
          (combination-greatest n t (opened-accepted n t (opened n t) refl given.opens) (graph_of_rows g) (graph_of_rows h)
          (accepted-of-any-size n a g given.first t) (accepted-of-any-size n b h given.second t) u combines.of-any-size combines.classes) ∙
          result-record same_either u out

      combined-due : {r : Reply} → WriteDue n t given.opens same_either tells-either u combines.of-any-size out r → CombineDue n t (length out) g h r
      combined-due (write.too_large large) = due.too_large u combines large
      combined-due (write.written d) = due.written u combines d

    combine-due : CombineDue n t (length out) g h (unifying n t a b out).reply
    combine-due = go (Combined.combination-told n t a b g h given out)
      where
        go : Combined.Told n t a b g h given out → CombineDue n t (length out) g h (unifying n t a b out).reply
        go (Combined.refused-cycle e) =
            subst (λ (x : Result). CombineDue n t (length out) g h x.reply) (sym e)
            (due.cycle ((Combined.cycle-exact n t a b g h given out).0 (ap (λ (x : Result). x.reply) e)))
        go (Combined.refused-clash e) =
            let (none, some) = (Combined.clash-exact n t a b g h given out).0 (ap (λ (x : Result). x.reply) e) in
            subst (λ (x : Result). CombineDue n t (length out) g h x.reply) (sym e) (due.clash none some)
        go (Combined.written u is best e) =
            let combines : CombinationOf n t g h u = record { of-any-size = best.of-any-size; classes = is } in
            subst (λ (x : Result). CombineDue n t (length out) g h x.reply) (sym (combined-is u combines))
            (combined-due u combines (write-due n t given.opens same_either tells-either u combines.of-any-size out))

    combine-replies : {r : Reply} → CombineDue n t (length out) g h r → (unifying n t a b out).reply ≡ r
    combine-replies (due.cycle c) = (Combined.cycle-exact n t a b g h given out).1 c
    combine-replies (due.clash none c) = (Combined.clash-exact n t a b g h given out).1 (none, c)
    combine-replies (due.too_large u combines large) =
        ap (λ (x : Result). x.reply) (combined-is u combines) ∙
        large-replies n t given.opens same_either tells-either u combines.of-any-size out large
    combine-replies (due.written u combines d) =
        ap (λ (x : Result). x.reply) (combined-is u combines) ∙
        room-replies n t given.opens same_either tells-either u combines.of-any-size out d

    pub combine-exact : (r : Reply) → ((unified_rows n t out g h).reply ≡ r) ↔ CombineDue n t (length out) g h r
    combine-exact r = (
      λ e. subst (CombineDue n t (length out) g h) (ap (λ (x : Result). x.reply) unified-is ∙ e) combine-due,
      λ d. ap (λ (x : Result). x.reply) (sym unified-is) ∙ combine-replies d,
    )

    -- 11 is given exactly where the combination exists and is too large.
    pub large-exact : ((unifying n t a b out).reply ≡ replies.TooLarge) ↔ ((u : Graph Label (ℕ ⊎ ℕ)) × CombinationOf n t g h u × Large u)
    large-exact = (
      λ e. large replies.TooLarge refl (subst (CombineDue n t (length out) g h) e combine-due),
      λ (u, combines, many). combine-replies (due.too_large u combines many),
    )
      where
        large : (r : Reply) → r ≡ replies.TooLarge → CombineDue n t (length out) g h r → (u : Graph Label (ℕ ⊎ ℕ)) × CombinationOf n t g h u × Large u
        large _ e (due.cycle c) = let z : ◌≡◌ {A = ℕ} 0 1 = cc in absurd (omega arith)
        large _ e (due.clash none c) = let z : ◌≡◌ {A = ℕ} 0 1 = cc in absurd (omega arith)
        large _ e (due.too_large u combines many) = (u, combines, many)
        large _ e (due.written u combines (due.no_room new is less)) = let z : ◌≡◌ {A = ℕ} 0 1 = cc in absurd (omega arith)
        large _ e (due.written u combines (due.fits new is fit)) = let z : ◌≡◌ {A = ℕ} 0 1 = cc in absurd (omega arith)

  -- Difference.
  module _ {earlier : Link ℕ → Link ℕ → Bool} (strict : StrictOrder earlier) (g s : List (Row Label)) (given : Given n t a b g s) (out : List ℕ) where
    abbrev parted : Result
    parted = differed_rows earlier n t out g s

    parts : Differed.Parts earlier n t out g s parted
    parts = record { is = refl }

    -- Where neither 12 nor 13 is due, the difference is written.
    module _ (below : RowsBelow n t s g) (all : SomeUnwanted n t (graph_of_rows s) (graph_of_rows g) → ⊥) where
      remainder-size : OfAnySize n t (remainder earlier n t g s)
      remainder-size = (Differed.remainder-restores n t a b g s given strict below (Differed.all_wanted_lem n t a b g s given below all)).of-any-size

      remainder-small : Large (remainder earlier n t g s) → ⊥
      remainder-small = Differed.remainder-small n t a b g s given strict below (Differed.all_wanted_lem n t a b g s given below all)

      parted-is : parted ≡ writing (record_of eqb (remainder earlier n t g s)) out
      parted-is = Differed.remainder-written n t a b g s given strict parts below (Differed.all_wanted_lem n t a b g s given below all)

      parted-due : {r : Reply} → WriteDue n t given.opens eqb tells-eqb (remainder earlier n t g s) remainder-size out r →
          DifferDue n t earlier (length out) g s r
      parted-due (write.too_large large) = absurd (remainder-small large)
      parted-due (write.written d) = due.written below all d

    differ-due : DifferDue n t earlier (length out) g s parted.reply
    differ-due = go (Differed.difference-told n t a b g s given strict parts)
      where
        -- A call that writes does not give 13.
        other : parted.reply ≡ replies.NoWantedType →
            (parted.reply ≡ replies.TooLarge) ⊎ (parted.reply ≡ replies.NoRoom) ⊎ ((l : ℕ) × (parted.reply ≡ replies.Length l)) → ⊥
        other e (inl d) = let z : ◌≡◌ {A = ℕ} 0 1 = cc in omega arith
        other e (inr (inl d)) = let z : ◌≡◌ {A = ℕ} 0 1 = cc in omega arith
        other e (inr (inr (l, d))) = let z : ◌≡◌ {A = ℕ} 0 1 = cc in omega arith

        go : Differed.Told n t a b g s given strict parts → DifferDue n t earlier (length out) g s parted.reply
        go (Differed.not-below e) =
            subst (λ (x : Result). DifferDue n t earlier (length out) g s x.reply) (sym e)
            (due.not-below ((Differed.not-below-exact n t a b g s given strict parts).0 (ap (λ (x : Result). x.reply) e)))
        go (Differed.not-wanted below none e) =
            let (under, some) = (Differed.unwanted-reply-exact n t a b g s given strict parts).0 (ap (λ (x : Result). x.reply) e) in
            subst (λ (x : Result). DifferDue n t earlier (length out) g s x.reply) (sym e) (due.not-wanted under some)
        go (Differed.differs below wants) =
            let all : SomeUnwanted n t (graph_of_rows s) (graph_of_rows g) → ⊥ = λ some.
            other ((Differed.unwanted-reply-exact n t a b g s given strict parts).1 (below, some))
            (Differed.remainder-writes n t a b g s given strict parts below wants).replies in
            subst (λ (x : Result). DifferDue n t earlier (length out) g s x.reply) (sym (parted-is below all))
            (parted-due below all (write-due n t given.opens eqb tells-eqb (remainder earlier n t g s) (remainder-size below all) out))

    differ-replies : {r : Reply} → DifferDue n t earlier (length out) g s r → parted.reply ≡ r
    differ-replies (due.not-below none) = (Differed.not-below-exact n t a b g s given strict parts).1 none
    differ-replies (due.not-wanted below some) = (Differed.unwanted-reply-exact n t a b g s given strict parts).1 (below, some)
    differ-replies (due.written below all d) =
        ap (λ (x : Result). x.reply) (parted-is below all) ∙
        room-replies n t given.opens eqb tells-eqb (remainder earlier n t g s) (remainder-size below all) out d

    pub differ-exact : (r : Reply) → ((differed_rows earlier n t out g s).reply ≡ r) ↔ DifferDue n t earlier (length out) g s r
    differ-exact r = (λ e. subst (DifferDue n t earlier (length out) g s) e differ-due, differ-replies)
