-- The difference: 12 and 13 are given exactly where they are due, and 11 never. What is written, combined with the general record, restores the
-- specific record byte for byte, and nothing more general does.
use mathlib.Core.Path.{◌≡◌, refl, sym, ◌∙◌, ap, ap₂, subst}
use mathlib.Core.Bool.{Bool, true, false, cond}
use mathlib.Core.List.{List}
use mathlib.Core.Logic.{◌↔◌, ◌⊎◌, inl, inr}
use Prim.Native.Nat.{ℕ}
use native.Mathlib.Omega.{arith}
use lib.Dec.{eqb}
use lib.ListN.{length, take}
use Rattle.graphs.specs.Graph.{Graph, Below, SameMeaning}
use Rattle.graphs.specs.Rows.{Row}
use Rattle.graphs.specs.Number.{canonical, written}
use Rattle.graphs.specs.Order.{subsumes}
use Rattle.graphs.specs.Difference.{Link, StrictOrder, by_number, by_reading}
use Rattle.graphs.proofs.Lists.{tells-eqb}
use Rattle.graphs.proofs.Search.{true-false, not-true-false}
use Rattle.graphs.proofs.Below.{same_refl, same-sym}
use Rattle.lattice.specs.Label.{Label}
use Rattle.lattice.specs.Table as table
use Rattle.acceptance.specs.Reply.{opened}
use Rattle.lattice.specs.Labels.{table_labels}
use Rattle.lattice.proofs.Every.{not-false-true}
use Rattle.acceptance.proofs.Acceptance.{opened-accepted}
use Rattle.lattice.proofs.Relabel.{same-below-left, same-below-right}
use Rattle.lattice.proofs.Transfer.{same-of-any-size}
use Rattle.lattice.proofs.AnySize.{same-greatest, greatest-sides}
use Rattle.encoder.specs.Encode.{encoded}
use Rattle.encode.specs.Encode.{Outcome, written_out}
use Rattle.record.specs.Read.{reading, accepted, graph_of_rows}
use Rattle.record.proofs.Accepted.{Rules, accepted-rules}
use Rattle.record.proofs.Theorems.{accepted-of-any-size, accepted-fits, written-accepted}
use Rattle.link_orders.specs.LinkOrders.{is_reading_order}
use Rattle.replies.specs.Replies as replies
use Rattle.replies.specs.Reply.{Result, refusal, refusing, result_of}
use Rattle.calls.specs.Calls.{unifying, differing, differing_by}
use Rattle.difference.specs.Difference.{all_wanted, numbered, difference_rows, differed, differed_rows}
use Rattle.demands.specs.Wanted.{SomeUnwanted}
use Rattle.demands.specs.Demand.{Given, Large, record_of, writing, MoreGeneral, remainder, Restores, Difference}
use Rattle.record.proofs.Ordered.{order-test}
use Rattle.demands.proofs.Results.{Writes, result_for, result-record, rewriting-is, result-writes, seven-bits}
use Rattle.demands.proofs.Demanded.Order.{order-exact, above-exact}
use Rattle.demands.proofs.Demanded.Combination.{other-refusal, greatest-result, written-combination}
use Rattle.demands.proofs.Demanded.Wanted.{unwanted-types, same-unwanted}
use Rattle.demands.proofs.Demanded.Remainder.{rows-small, rows-restore}

-- 12 where the first test fails, else 13 where the second fails, else the outcome of writing.
abbrev chosen : Bool → Bool → Outcome → List ℕ → Result
chosen lies all o out =
    cond lies (cond all (result_of o) (refusing replies.NoWantedType out)) (refusing replies.NotBelow out)

module _ (o : Outcome) (out : List ℕ) where
  chosen-below : (x y : Bool) → ((chosen x y o out).reply ≡ replies.NotBelow) ↔ (x ≡ false)
  chosen-below false y = (λ _. refl, λ _. refl)
  chosen-below true false = (λ q. let z : ◌≡◌ {A = ℕ} 0 1 = cc in absurd (omega arith), λ q. true-false refl q)
  chosen-below true true = (
    λ q. absurd (other-refusal o.answer 12 (ap refusal q) (λ z. omega arith) (λ z. omega arith)),
    λ q. true-false refl q,
  )

  chosen-wanted : (x y : Bool) → ((chosen x y o out).reply ≡ replies.NoWantedType) ↔ ((x ≡ true) × (y ≡ false))
  chosen-wanted false y = (λ q. let z : ◌≡◌ {A = ℕ} 0 1 = cc in absurd (omega arith), λ (q, _). true-false q refl)
  chosen-wanted true false = (λ _. (refl, refl), λ _. refl)
  chosen-wanted true true = (
    λ q. absurd (other-refusal o.answer 13 (ap refusal q) (λ z. omega arith) (λ z. omega arith)),
    λ (_, q). true-false refl q,
  )

-- The call comes to the difference by an order of links.
pub record Parts (earlier : Link ℕ → Link ℕ → Bool) (n : ℕ) (t out : List ℕ) (g s : List (Row Label)) (call : Result) : Type 0 where
  pub is : call ≡ differed_rows earlier n t out g s

-- The call without a list and the call with an accepted list come to the difference by their orders of links.
pub plain-parts : (n : ℕ) (t a b : List ℕ) {g s : List (Row Label)} → Given n t a b g s → (out : List ℕ) →
    Parts by_number n t out g s (differing n t a b out)
unfolding differing
plain-parts n t a b given out = record { is = rw (given.opens, given.first, given.second) }

pub listed-parts : (n : ℕ) (t list a b : List ℕ) {g s : List (Row Label)} → Given n t a b g s → is_reading_order list ≡ true →
    (out : List ℕ) → Parts (by_reading list) n t out g s (differing_by n t list a b out)
unfolding differing_by
listed-parts n t list a b given listed out = record { is = rw (given.opens, listed, given.first, given.second) }

module _ (n : ℕ) (t a b : List ℕ) (g s : List (Row Label)) (given : Given n t a b g s) where
  pub accepts : table.accepted n t ≡ true
  accepts = opened-accepted n t (opened n t) refl given.opens

  pub general-rules : Rules n g
  general-rules = accepted-rules n a g given.first

  -- s in written form
  abbrev pub form : List (Row Label)
  form = (accepted-fits n b s given.second).0

  pub form-is : canonical eqb (graph_of_rows s) ≡ written form
  form-is = (accepted-fits n b s given.second).1

  form-reads : (reading n (encoded form) ≡ accepted form) ×
      (canonical eqb (graph_of_rows form) ≡ written form) ×
      SameMeaning (table_labels n t) (graph_of_rows s) (graph_of_rows form)
  form-reads = written-accepted n t b s given.second form form-is

  means : SameMeaning (table_labels n t) (graph_of_rows s) (graph_of_rows form)
  means = form-reads.2

  -- whether s, numbered as written, is below g
  abbrev lies : Bool
  lies = subsumes (table_labels n t) eqb eqb (graph_of_rows (numbered (canonical eqb (graph_of_rows s)))) (graph_of_rows g) (length g)

  lies-exact : (lies ≡ true) ↔ Below (table_labels n t) (graph_of_rows s) (graph_of_rows g)
  lies-exact =
      subst
      (λ (rows : List (Row Label)). (subsumes (table_labels n t) eqb eqb (graph_of_rows rows) (graph_of_rows g) (length g) ≡ true) ↔
      Below (table_labels n t) (graph_of_rows s) (graph_of_rows g))
      (sym (ap numbered form-is)) (
        λ q. same-below-left (same-sym means) ((order-test n t form g general-rules).0 q),
        λ x. (order-test n t form g general-rules).1 (same-below-left means x),
      )

  -- whether every node of s has a wanted type
  abbrev all : Bool
  all = all_wanted n t (numbered (canonical eqb (graph_of_rows s))) g

  module _ (below : Below (table_labels n t) (graph_of_rows s) (graph_of_rows g)) where
    pub form-below : Below (table_labels n t) (graph_of_rows form) (graph_of_rows g)
    form-below = same-below-left means below

    pub form-rules : Rules n form
    form-rules = accepted-rules n (encoded form) form form-reads.0

    all-exact : (all ≡ false) ↔ SomeUnwanted n t (graph_of_rows s) (graph_of_rows g)
    all-exact =
        let (there, back) = unwanted-types n t accepts g form general-rules form-rules form-below in
        subst (λ (rows : List (Row Label)). (all_wanted n t rows g ≡ false) ↔ SomeUnwanted n t (graph_of_rows s) (graph_of_rows g))
        (sym (ap numbered form-is)) (
          λ e. same-unwanted n t (graph_of_rows form) (graph_of_rows s) (graph_of_rows g) (same-sym means) (there e),
          λ u. back (same-unwanted n t (graph_of_rows s) (graph_of_rows form) (graph_of_rows g) means u),
        )

    pub all_wanted_lem : (SomeUnwanted n t (graph_of_rows s) (graph_of_rows g) → ⊥) → all ≡ true
    all_wanted_lem none = not-false-true all (λ e. none (all-exact.0 e))

  module _ {earlier : Link ℕ → Link ℕ → Bool} (strict : StrictOrder earlier) where
    remainder_is : remainder earlier n t g s ≡ difference_rows earlier n t g form
    remainder_is = ap (λ c. difference_rows earlier n t g (numbered c)) form-is

    -- Where every node of s has a wanted type, the difference restores s, and nothing more general does.
    module _ (below : Below (table_labels n t) (graph_of_rows s) (graph_of_rows g)) (wants : all ≡ true) where
      form-wanted : all_wanted n t form g ≡ true
      form-wanted = ap (λ c. all_wanted n t (numbered c) g) (sym form-is) ∙ wants

      pub remainder-small : Large (remainder earlier n t g s) → ⊥
      remainder-small =
          subst (λ (k : Graph Label ℕ). Large k → ⊥) (sym remainder_is)
          (rows-small n t accepts g form general-rules (form-rules below) (form-below below) form-wanted strict)

      pub remainder-restores : Restores n t (remainder earlier n t g s) (graph_of_rows g) (graph_of_rows s)
      remainder-restores =
          let made = rows-restore n t accepts g form general-rules (form-rules below) (form-below below) form-wanted strict in
          subst (λ (k : Graph Label ℕ). Restores n t k (graph_of_rows g) (graph_of_rows s)) (sym remainder_is)
          (record {
            of-any-size = made.of-any-size;
            restores =
                same-greatest n t accepts (difference_rows earlier n t g form) (graph_of_rows g) (graph_of_rows form) (difference_rows earlier n t g form) (graph_of_rows s)
                (same_refl (difference_rows earlier n t g form)) (same-sym means) made.restores;
            most-general = λ e c more u best.
                let (x, y) = made.most-general e c more u best in
                (same-below-left (same-sym means) x, λ z. y (same-below-right means z));
            combines = made.combines;
            not_none = made.not_none;
          })

  -- A graph that means the same as one that restores s restores s too.
  restores-again : (d : Graph Label ℕ) (again : List (Row Label)) → SameMeaning (table_labels n t) d (graph_of_rows again) →
      Restores n t d (graph_of_rows g) (graph_of_rows s) → Restores n t (graph_of_rows again) (graph_of_rows g) (graph_of_rows s)
  restores-again d again same made =
      record {
        of-any-size = same-of-any-size n t accepts d (graph_of_rows again) same made.of-any-size;
        restores = same-greatest n t accepts d (graph_of_rows g) (graph_of_rows s) (graph_of_rows again) (graph_of_rows s) same (same_refl (graph_of_rows s))
            made.restores;
        most-general = λ e c more. made.most-general e c (as-general e more);
        combines = λ test tells e c more. made.combines test tells e c (as-general e more);
        not_none = λ e c more. made.not_none e c (as-general e more);
      }
    where
      as-general : {E : Type 0} (e : Graph Label E) → MoreGeneral n t e (graph_of_rows again) → MoreGeneral n t e d
      as-general e (above, strict) = (same-below-left (same-sym same) above, λ z. strict (same-below-right same z))

  -- The three results of a call that comes to the difference by an order of links.
  module _ {earlier : Link ℕ → Link ℕ → Bool} (strict : StrictOrder earlier) {out : List ℕ} {call : Result}
      (parts : Parts earlier n t out g s call) where
    call-is : call ≡ chosen lies all (written_out (canonical eqb (remainder earlier n t g s)) out) out
    unfolding differed_rows differed
    call-is = parts.is

    -- 12 is replied exactly where s is not below g.
    pub not-below-exact : (call.reply ≡ replies.NotBelow) ↔
        (Below (table_labels n t) (graph_of_rows s) (graph_of_rows g) → ⊥)
    not-below-exact =
        let (there, back) =
        subst (λ (r : Result). (r.reply ≡ replies.NotBelow) ↔ (lies ≡ false)) (sym call-is)
        (chosen-below (written_out (canonical eqb (remainder earlier n t g s)) out) out lies all) in (
          λ q z. true-false (lies-exact.1 z) (there q),
          λ y. back (not-true-false lies (λ z. y (lies-exact.0 z))),
        )

    -- 13 is replied exactly where s is below g and some node of s has no wanted type.
    pub unwanted-reply-exact : (call.reply ≡ replies.NoWantedType) ↔
        (Below (table_labels n t) (graph_of_rows s) (graph_of_rows g) × SomeUnwanted n t (graph_of_rows s) (graph_of_rows g))
    unwanted-reply-exact =
        let (there, back) =
        subst (λ (r : Result). (r.reply ≡ replies.NoWantedType) ↔ ((lies ≡ true) × (all ≡ false))) (sym call-is)
        (chosen-wanted (written_out (canonical eqb (remainder earlier n t g s)) out) out lies all) in (
          λ q.
              let (x, y) = there q in
              let below = lies-exact.0 x in
              (below, (all-exact below).0 y),
          λ (below, some). back (lies-exact.1 below, (all-exact below).1 some),
        )

    -- the three results: 12, 13, or what is written where neither is due
    pub data Told : Type 0 where
      not-below : call ≡ refusing replies.NotBelow out → Told
      not-wanted : Below (table_labels n t) (graph_of_rows s) (graph_of_rows g) → all ≡ false →
          call ≡ refusing replies.NoWantedType out → Told
      differs : Below (table_labels n t) (graph_of_rows s) (graph_of_rows g) → all ≡ true → Told

    pub difference-told : Told
    difference-told = go lies all refl refl
      where
        go : (x y : Bool) → lies ≡ x → all ≡ y → Told
        go false y p q = not-below (call-is ∙ ap (λ (z : Bool). chosen z all (written_out (canonical eqb (remainder earlier n t g s)) out) out) p)
        go true false p q =
            not-wanted (lies-exact.0 p) q
            (call-is ∙ ap₂ (λ (z w : Bool). chosen z w (written_out (canonical eqb (remainder earlier n t g s)) out) out) p q)
        go true true p q = differs (lies-exact.0 p) q

    module _ (below : Below (table_labels n t) (graph_of_rows s) (graph_of_rows g)) (wants : all ≡ true) where
      -- Where s is below g and every node of s has a wanted type, the call writes the difference.
      pub remainder-result : call ≡ result_for eqb (remainder earlier n t g s) out
      remainder-result =
          call-is ∙
          ap₂ (λ (x y : Bool). chosen x y (written_out (canonical eqb (remainder earlier n t g s)) out) out) (lies-exact.1 below) wants

      pub remainder-written : call ≡ writing (record_of eqb (remainder earlier n t g s)) out
      remainder-written = remainder-result ∙ result-record eqb (remainder earlier n t g s) out

      pub remainder-writes : Writes n t eqb (remainder earlier n t g s) out call
      remainder-writes =
          subst (Writes n t eqb (remainder earlier n t g s) out) (sym remainder-result)
          (result-writes n t eqb tells-eqb (remainder earlier n t g s) (remainder-restores strict below wants).of-any-size
          (seven-bits n t accepts (remainder earlier n t g s) (remainder-restores strict below wants).of-any-size) out)

    -- Where s is below g, either 13 is replied because some node of s has no wanted type, or the difference restores and is most general.
    pub unwanted-or-restored : Below (table_labels n t) (graph_of_rows s) (graph_of_rows g) →
        ((call.reply ≡ replies.NoWantedType) × SomeUnwanted n t (graph_of_rows s) (graph_of_rows g)) ⊎
        (Restores n t (remainder earlier n t g s) (graph_of_rows g) (graph_of_rows s) × (call ≡ writing (record_of eqb (remainder earlier n t g s)) out))
    unwanted-or-restored below = go all refl
      where
        go : (x : Bool) → all ≡ x →
            ((call.reply ≡ replies.NoWantedType) × SomeUnwanted n t (graph_of_rows s) (graph_of_rows g)) ⊎
            (Restores n t (remainder earlier n t g s) (graph_of_rows g) (graph_of_rows s) × (call ≡ writing (record_of eqb (remainder earlier n t g s)) out))
        go false q = let some = (all-exact below).0 q in inl (unwanted-reply-exact.1 (below, some), some)
        go true q = inr (remainder-restores strict below q, remainder-written below q)

    -- What is written, combined with a, restores b byte for byte, and nothing more general does.
    pub written-difference : (l : ℕ) → call.reply ≡ replies.Length l →
        Difference n t a b g s (take l call.output)
    written-difference l q = go difference-told
      where
        go : Told → Difference n t a b g s (take l call.output)
        go (not-wanted _ _ e) = let z : ◌≡◌ {A = ℕ} 0 1 = cc (q, ap (λ (r : Result). r.reply) e) in absurd (omega arith)
        go (not-below e) = let z : ◌≡◌ {A = ℕ} 0 1 = cc (q, ap (λ (r : Result). r.reply) e) in absurd (omega arith)
        go (differs below wants) =
            let wrote = (remainder-writes below wants).wrote l q in
            let bytes : List ℕ = take l call.output in
            let again : List (Row Label) = wrote.form in
            let reads : reading n bytes ≡ accepted again = wrote.reads in
            let restores : Restores n t (graph_of_rows again) (graph_of_rows g) (graph_of_rows s) =
            restores-again (remainder earlier n t g s) again wrote.means (remainder-restores strict below wants) in
            record {
              form = again;
              reads = reads;
              restores = restores;
              combined-first = λ room.
                  greatest-result n t bytes a again g (record { opens = given.opens; first = reads; second = given.first }) room eqb tells-eqb
                  (graph_of_rows s) restores.restores ∙
                  sym (rewriting-is n t b s given.opens given.second room);
              combined-second = λ room.
                  greatest-result n t a bytes g again (record { opens = given.opens; first = given.first; second = reads }) room eqb tells-eqb
                  (graph_of_rows s) (greatest-sides n t accepts (graph_of_rows again) (graph_of_rows g) (graph_of_rows s) restores.restores) ∙
                  sym (rewriting-is n t b s given.opens given.second room);
              second_below = (order-exact n t b bytes s again (record { opens = given.opens; first = given.second; second = reads })).0.1
                  restores.restores.left;
              more-general = λ c m read x room k w.
                  let higher = (above-exact n t c bytes m again (record { opens = given.opens; first = read; second = reads })).0 x in
                  let found = written-combination n t c a m g (record { opens = given.opens; first = read; second = given.first }) room k w in
                  (above-exact n t (take k (unifying n t c a room).output) b found.form s
                  (record { opens = given.opens; first = found.reads; second = given.second })).1
                  (restores.most-general (graph_of_rows m) (accepted-of-any-size n c m read t) higher (graph_of_rows found.form)
                  found.greatest);
            }
