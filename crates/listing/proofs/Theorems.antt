-- The proofs of Paper 14, sentence by sentence, about `stepping`, which the call is proved equal to.
use mathlib.Core.Path.{◌≡◌, refl, sym, ◌∙◌, ap}
use mathlib.Core.Bool.{Bool, true, false, cond, ◌||◌}
use mathlib.Core.List.{List, [], ◌∷◌, ◌++◌, Memᴰ}
use mathlib.Core.Logic.{◌↔◌, ◌⊎◌, inl, inr, ⊎_elim}
use mathlib.Core.Option.{Option, none, some, bind}
use Prim.Native.Nat.{ℕ, suc, ◌+◌, ◌*◌, ◌-◌, ◌≤◌, ◌<◌}
use native.Mathlib.Omega.{arith}
use borrow.Author.Tests.{eq-eqb, le-leb}
use lib.Dec.{eqb, leb}
use lib.ListN.{length, drop}
use Rattle.std.specs.Prelude.{Ok, Err}
use Rattle.graphs.specs.Graph.{Graph as GraphOn, TellsApart, Reached, SameMeaning}
use Rattle.graphs.specs.Rows.{Row}
use Rattle.graphs.specs.Number.{canonical, written}
use Rattle.acceptance.specs.declared.TableFault.{TableFault}
use Rattle.acceptance.specs.Reply.{TableAnswer}
use Rattle.lattice.specs.Label.{Label, is_full}
use Rattle.lattice.specs.Labels.{table_labels, OfAnySize}
use Rattle.acceptance.specs.Reply as table
use Rattle.lattice.proofs.Laws.{accepted-size}
use Rattle.acceptance.proofs.Acceptance.{opened-accepted}
use Rattle.encoder.specs.Encode.{encoded}
use Rattle.encode.specs.declared.Unwritten.TheVariants as unwritten
use Rattle.encode.specs.Encode.{yielding, fitted}
use Rattle.record.specs.declared.GraphFault.{GraphFault}
use Rattle.record.specs.Read as graph
use Rattle.record.proofs.Theorems.{accepted-fits, written-accepted}
use Rattle.record.proofs.Accepted.{accepted-injective}
use Rattle.replies.specs.declared.Side.TheVariants.{First}
use Rattle.replies.specs.Replies.{Reply}
use Rattle.replies.specs.Replies.{Length, End, Table, Graph, NoRoom, FeatureCount, NotListed}
use Rattle.replies.specs.Reply.{Result, resulting, result_of, refusing}
use Rattle.listed.specs.Listing.{precedes, Listed, LeastAbove, features_below, unranged_rows, stated_rows, listing, is_listed, following, calls}
use Rattle.listed.proofs.Order.{false-true}
use Rattle.listed.proofs.Stated.{Counts}
use Rattle.listed.proofs.Lengths.{listed-short}
use Rattle.listed.proofs.Theorems as list
use Rattle.listed.proofs.Calls as list-calls
use Rattle.listed.proofs.Amounts as amounts
use Rattle.listed.proofs.Few.{few-written}
use Rattle.listed.proofs.Meaning as meaning
use Rattle.listing.specs.Call.{begins, delivered, continued, counted, after_reading, after_record, after_table, stepped, stepping}
use Rattle.listing.proofs.Continued.{counts-told, counted-on, counted-off}

-- A record is listed exactly where it is accepted, its bytes are its own written form, and it has at most 3 nodes, features below F and no
-- range.
pub listed-exactly : (n F : ℕ) (t bytes : List ℕ) → Listed n F bytes ↔
    ((rows : List (Row Label)) × (graph.reading n bytes ≡ graph.accepted rows) ×
    ((form : List (Row Label)) × (canonical eqb (graph.graph_of_rows rows) ≡ written form) × (bytes ≡ encoded form)) × (length rows ≤ 3) ×
    (features_below F rows ≡ true) × (unranged_rows rows ≡ true))
listed-exactly n F t bytes = (
  λ l. (l.form, l.reads, (l.form, l.own, l.bytes-are), l.few, l.features, l.unranged),
  λ (rows, reads, (form, own, bytes-are), few, features, unranged).
      let again = (written-accepted n t bytes rows reads form own).0 in
      let same : form ≡ rows = accepted-injective (sym again ∙ ap (graph.reading n) (sym bytes-are) ∙ reads) in
      record {
        form = rows;
        reads = reads;
        own = own ∙ ap written same;
        bytes-are = bytes-are ∙ ap encoded same;
        few = few;
        features = features;
        unranged = unranged;
      },
)

-- The call has no bytes, or a record that is accepted.
abbrev pub Read : ℕ → List ℕ → Type 0
Read n bytes = (bytes ≡ []) ⊎ ((rows : List (Row Label)) × (graph.reading n bytes ≡ graph.accepted rows))

-- The call has no bytes, or a listed record.
abbrev pub Begun : ℕ → ℕ → List ℕ → Type 0
Begun n F bytes = (bytes ≡ []) ⊎ Listed n F bytes

counts-true : (F : ℕ) → Counts F → (eqb F 1 || eqb F 2) ≡ true
counts-true F (inl e) = ap (λ (b : Bool). b || eqb F 2) (eq-eqb F 1 e)
counts-true F (inr e) = go (eqb F 1) (eq-eqb F 2 e)
  where
    go : (b : Bool) → eqb F 2 ≡ true → (b || eqb F 2) ≡ true
    go true q = refl
    go false q = q

counts-false : (F : ℕ) → (Counts F → ⊥) → (eqb F 1 || eqb F 2) ≡ false
counts-false F h = go (eqb F 1 || eqb F 2) refl
  where
    go : (b : Bool) → (eqb F 1 || eqb F 2) ≡ b → b ≡ false
    go true e = absurd (h (counts-told F e))
    go false e = refl

module _ (n : ℕ) (t : List ℕ) (F : ℕ) (bytes out : List ℕ) where
  -- The refusals in their order. The table's 1 to 3 come first.

  pub table-refused : (fault : TableFault) → table.opened n t ≡ Err fault → stepping n t F bytes out ≡ refusing (Table fault) out
  unfolding stepping
  table-refused fault e = ap (λ (o : TableAnswer). after_table o out (stepped n F bytes out)) e

  module _ (ok : table.opened n t ≡ Ok tt) where
    over : stepping n t F bytes out ≡ stepped n F bytes out
    unfolding stepping
    over = ap (λ (o : TableAnswer). after_table o out (stepped n F bytes out)) ok

    low : 2 ≤ n
    low = (accepted-size n t (opened-accepted n t (Ok tt) (sym ok) refl)).0

    small : n ≤ 64
    small = (accepted-size n t (opened-accepted n t (Ok tt) (sym ok) refl)).1

    -- The record's own 4 to 7, as the first graph, come next.
    pub record-refused : (fault : GraphFault) → (bytes ≡ [] → ⊥) → graph.reading n bytes ≡ graph.refused fault →
        stepping n t F bytes out ≡ refusing (Graph fault First) out
    unfolding stepped
    record-refused fault h e = over ∙ go bytes h e (counted F (continued n F bytes out) out)
      where
        go : (l : List ℕ) → (l ≡ [] → ⊥) → graph.reading n l ≡ graph.refused fault → (next : Result) → after_record n l out next ≡ refusing (Graph fault First) out
        go [] p q next = absurd (p refl)
        go (b ∷ bs) p q next = ap (λ (r : graph.Reading). after_reading r out next) q

    read-on : Read n bytes → stepping n t F bytes out ≡ counted F (continued n F bytes out) out
    unfolding stepped
    read-on r = over ∙ go bytes r (counted F (continued n F bytes out) out)
      where
        go : (l : List ℕ) → Read n l → (next : Result) → after_record n l out next ≡ next
        go [] p next = refl
        go (b ∷ bs) (inl p) next = let z : ◌≡◌ {A = ℕ} 0 1 = cc in absurd (omega arith)
        go (b ∷ bs) (inr (rows, q)) next = ap (λ (r : graph.Reading). after_reading r out next) q

    -- "F outside 1 and 2 is 23", after the record.
    pub count-refused : Read n bytes → (Counts F → ⊥) → stepping n t F bytes out ≡ refusing FeatureCount out
    count-refused r h = read-on r ∙ counted-off F (continued n F bytes out) out (counts-false F h)

    module _ (f : Counts F) where
      on : Read n bytes → stepping n t F bytes out ≡ continued n F bytes out
      on r = read-on r ∙ counted-on F (continued n F bytes out) out (counts-true F f)

      unlisted : (Listed n F bytes → ⊥) → is_listed n F bytes ≡ false
      unlisted h = go (is_listed n F bytes) refl
        where
          go : (b : Bool) → is_listed n F bytes ≡ b → b ≡ false
          go true e = absurd (h ((list-calls.is-listed n F low small f bytes).0 e))
          go false e = refl

      -- "a record that is read but not listed is 24"
      pub unlisted-refused : (rows : List (Row Label)) → graph.reading n bytes ≡ graph.accepted rows → (bytes ≡ [] → ⊥) → (Listed n F bytes → ⊥) →
          stepping n t F bytes out ≡ refusing NotListed out
      unfolding continued
      unlisted-refused rows e some_byte h = on (inr (rows, e)) ∙ go bytes some_byte (unlisted h) (following n F bytes)
        where
          go : (l : List ℕ) → (l ≡ [] → ⊥) → is_listed n F l ≡ false → (o : Option (List ℕ)) →
              cond (begins n F l) (delivered o out) (refusing NotListed out) ≡ refusing NotListed out
          go [] p q o = absurd (p refl)
          go (b ∷ bs) p q o = ap (λ (x : Bool). cond x (delivered o out) (refusing NotListed out)) q

      begun-read : Begun n F bytes → Read n bytes
      begun-read (inl e) = inl e
      begun-read (inr l) = inr (l.form, l.reads)

      -- With no bytes or a listed record, the call gives what follows.
      pub delivers : Begun n F bytes → stepping n t F bytes out ≡ delivered (following n F bytes) out
      unfolding continued
      delivers b = on (begun-read b) ∙ go bytes b (following n F bytes)
        where
          go : (l : List ℕ) → Begun n F l → (o : Option (List ℕ)) → cond (begins n F l) (delivered o out) (refusing NotListed out) ≡ delivered o out
          go [] p o = refl
          go (x ∷ xs) (inl p) o = let z : ◌≡◌ {A = ℕ} 0 1 = cc in absurd (omega arith)
          go (x ∷ xs) (inr p) o = ap (λ (c : Bool). cond c (delivered o out) (refusing NotListed out)) ((list-calls.is-listed n F low small f (x ∷ xs)).1 p)

      -- "with a listed record the next": the call gives the least listed record above the given one, or 8 where the output is shorter.
      pub next-given : Begun n F bytes → (r : List ℕ) → LeastAbove n F bytes r → stepping n t F bytes out ≡ result_of (fitted r out)
      next-given b r l = delivers b ∙ ap (λ (o : Option (List ℕ)). delivered o out) ((list.following-least n F low small f bytes r).1 l)

      -- "or the end, the output then unchanged".
      pub end-given : Begun n F bytes → ((s : List ℕ) → Listed n F s → precedes bytes s ≡ true → ⊥) → stepping n t F bytes out ≡ refusing End out
      end-given b h = delivers b ∙ ap (λ (o : Option (List ℕ)). delivered o out) ((list.following-end n F low small f bytes).1 h)

-- Every case of a call, and what it gives there.
pub data Told (n : ℕ) (t : List ℕ) (F : ℕ) (bytes out : List ℕ) : Type 0 where
  bad-table : (fault : TableFault) → table.opened n t ≡ Err fault → stepping n t F bytes out ≡ refusing (Table fault) out → Told n t F bytes out
  bad-record : (fault : GraphFault) → table.opened n t ≡ Ok tt → (bytes ≡ [] → ⊥) → graph.reading n bytes ≡ graph.refused fault →
      stepping n t F bytes out ≡ refusing (Graph fault First) out → Told n t F bytes out
  bad-count : table.opened n t ≡ Ok tt → Read n bytes → (Counts F → ⊥) → stepping n t F bytes out ≡ refusing FeatureCount out → Told n t F bytes out
  not_listed : (rows : List (Row Label)) → table.opened n t ≡ Ok tt → Counts F → (bytes ≡ [] → ⊥) → graph.reading n bytes ≡ graph.accepted rows →
      (Listed n F bytes → ⊥) → stepping n t F bytes out ≡ refusing NotListed out → Told n t F bytes out
  at-end : table.opened n t ≡ Ok tt → Counts F → Begun n F bytes → following n F bytes ≡ none → stepping n t F bytes out ≡ refusing End out →
      Told n t F bytes out
  at-record : (r : List ℕ) → table.opened n t ≡ Ok tt → Counts F → Begun n F bytes → following n F bytes ≡ some r →
      stepping n t F bytes out ≡ result_of (fitted r out) → Told n t F bytes out

pub told : (n : ℕ) (t : List ℕ) (F : ℕ) (bytes out : List ℕ) → Told n t F bytes out
told n t F bytes out = tabled (table.opened n t) refl
  where
    begun : table.opened n t ≡ Ok tt → Counts F → Begun n F bytes → (o : Option (List ℕ)) → following n F bytes ≡ o → Told n t F bytes out
    begun ok f b none e = at-end ok f b e (delivers n t F bytes out ok f b ∙ ap (λ (o : Option (List ℕ)). delivered o out) e)
    begun ok f b (some r) e = at-record r ok f b e (delivers n t F bytes out ok f b ∙ ap (λ (o : Option (List ℕ)). delivered o out) e)

    listed : table.opened n t ≡ Ok tt → Counts F → (bytes ≡ [] → ⊥) → (rows : List (Row Label)) → graph.reading n bytes ≡ graph.accepted rows →
        (b : Bool) → is_listed n F bytes ≡ b → Told n t F bytes out
    listed ok f h rows e true q =
        begun ok f (inr ((list-calls.is-listed n F (low n t F bytes out ok) (small n t F bytes out ok) f bytes).0 q)) (following n F bytes) refl
    listed ok f h rows e false q =
        let no : Listed n F bytes → ⊥ =
        λ l. false-true (sym q ∙ (list-calls.is-listed n F (low n t F bytes out ok) (small n t F bytes out ok) f bytes).1 l) in
        not_listed rows ok f h e no (unlisted-refused n t F bytes out ok f rows e h no)

    count : table.opened n t ≡ Ok tt → Read n bytes → (Counts F → Told n t F bytes out) → (b : Bool) → (eqb F 1 || eqb F 2) ≡ b → Told n t F bytes out
    count ok r next true e = next (counts-told F e)
    count ok r next false e =
        let no : Counts F → ⊥ = λ f. false-true (sym e ∙ counts-true F f) in bad-count ok r no (count-refused n t F bytes out ok r no)

    rowed : table.opened n t ≡ Ok tt → (bytes ≡ [] → ⊥) → (o : graph.Reading) → graph.reading n bytes ≡ o → Told n t F bytes out
    rowed ok h (graph.refused fault) e = bad-record fault ok h e (record-refused n t F bytes out ok fault h e)
    rowed ok h (graph.accepted rows) e =
        count ok (inr (rows, e)) (λ f. listed ok f h rows e (is_listed n F bytes) refl) (eqb F 1 || eqb F 2) refl

    byted : table.opened n t ≡ Ok tt → (l : List ℕ) → bytes ≡ l → Told n t F bytes out
    byted ok [] e = count ok (inl e) (λ f. begun ok f (inl e) (following n F bytes) refl) (eqb F 1 || eqb F 2) refl
    byted ok (b ∷ bs) e =
        rowed ok (λ q. let s : b ∷ bs ≡ [] = sym e ∙ q in let z : ◌≡◌ {A = ℕ} 0 1 = cc s in absurd (omega arith)) (graph.reading n bytes) refl

    tabled : (o : TableAnswer) → table.opened n t ≡ o → Told n t F bytes out
    tabled (Err fault) e = bad-table fault e (table-refused n t F bytes out fault e)
    tabled (Ok tt) e = byted e bytes refl

-- What is exact.

-- The reply for a record that is delivered is its length or 8.
fitted-reply : (r out : List ℕ) (x : Reply) → x ≡ (result_of (fitted r out)).reply → (x ≡ Length (length r)) ⊎ (x ≡ NoRoom)
unfolding fitted
fitted-reply r out x = go (leb (length r) (length out))
  where
    go : (b : Bool) → x ≡ (result_of (cond b (yielding (Ok (length r)) (r ++ drop (length r) out)) (yielding (Err unwritten.NoRoom) out))).reply →
        (x ≡ Length (length r)) ⊎ (x ≡ NoRoom)
    go true e = inl e
    go false e = inr e

fitted-kept : (r out : List ℕ) → ((result_of (fitted r out)).reply ≡ Length (length r) → ⊥) → (result_of (fitted r out)).output ≡ out
unfolding fitted
fitted-kept r out = go (leb (length r) (length out))
  where
    go : (b : Bool) →
        ((result_of (cond b (yielding (Ok (length r)) (r ++ drop (length r) out)) (yielding (Err unwritten.NoRoom) out))).reply ≡ Length (length r) → ⊥) →
        (result_of (cond b (yielding (Ok (length r)) (r ++ drop (length r) out)) (yielding (Err unwritten.NoRoom) out))).output ≡ out
    go true h = absurd (h refl)
    go false h = refl

module _ (n : ℕ) (t : List ℕ) (F : ℕ) (bytes out : List ℕ) where
  abbrev replied : Reply
  replied = (stepping n t F bytes out).reply

  by : {x : Result} → stepping n t F bytes out ≡ x → replied ≡ x.reply
  by e = ap (λ (y : Result). y.reply) e

  -- 24 is given exactly for records that are accepted and not listed.
  pub unlisted-exactly : (replied ≡ NotListed) ↔
      ((rows : List (Row Label)) × (table.opened n t ≡ Ok tt) × Counts F × (bytes ≡ [] → ⊥) × (graph.reading n bytes ≡ graph.accepted rows) × (Listed n F bytes → ⊥))
  unlisted-exactly = (λ e. go e (told n t F bytes out), λ (rows, ok, f, h, q, l). by (unlisted-refused n t F bytes out ok f rows q h l))
    where
      go : replied ≡ NotListed → Told n t F bytes out →
          (rows : List (Row Label)) × (table.opened n t ≡ Ok tt) × Counts F × (bytes ≡ [] → ⊥) × (graph.reading n bytes ≡ graph.accepted rows) × (Listed n F bytes → ⊥)
      go e (bad-table fault ok q) = let s = sym e ∙ by q in let z : ◌≡◌ {A = ℕ} 0 1 = cc s in absurd (omega arith)
      go e (bad-record fault ok h r q) = let s = sym e ∙ by q in let z : ◌≡◌ {A = ℕ} 0 1 = cc s in absurd (omega arith)
      go e (bad-count ok r f q) = let s = sym e ∙ by q in let z : ◌≡◌ {A = ℕ} 0 1 = cc s in absurd (omega arith)
      go e (not_listed rows ok f h r l q) = (rows, ok, f, h, r, l)
      go e (at-end ok f b o q) = let s = sym e ∙ by q in let z : ◌≡◌ {A = ℕ} 0 1 = cc s in absurd (omega arith)
      go e (at-record r ok f b o q) =
          absurd
          (⊎_elim (λ (k : NotListed ≡ Length (length r)). let z : ◌≡◌ {A = ℕ} 0 1 = cc k in omega arith)
          (λ (k : NotListed ≡ NoRoom). let z : ◌≡◌ {A = ℕ} 0 1 = cc k in omega arith) (fitted-reply r out NotListed (sym e ∙ by q)))

  -- 23 is given exactly where F is neither 1 nor 2, over an accepted table, with no record or an accepted one.
  pub count-exactly : (replied ≡ FeatureCount) ↔ ((table.opened n t ≡ Ok tt) × Read n bytes × (Counts F → ⊥))
  count-exactly = (λ e. go e (told n t F bytes out), λ (ok, r, f). by (count-refused n t F bytes out ok r f))
    where
      go : replied ≡ FeatureCount → Told n t F bytes out → (table.opened n t ≡ Ok tt) × Read n bytes × (Counts F → ⊥)
      go e (bad-table fault ok q) = let s = sym e ∙ by q in let z : ◌≡◌ {A = ℕ} 0 1 = cc s in absurd (omega arith)
      go e (bad-record fault ok h r q) = let s = sym e ∙ by q in let z : ◌≡◌ {A = ℕ} 0 1 = cc s in absurd (omega arith)
      go e (bad-count ok r f q) = (ok, r, f)
      go e (not_listed rows ok f h r l q) = let s = sym e ∙ by q in let z : ◌≡◌ {A = ℕ} 0 1 = cc s in absurd (omega arith)
      go e (at-end ok f b o q) = let s = sym e ∙ by q in let z : ◌≡◌ {A = ℕ} 0 1 = cc s in absurd (omega arith)
      go e (at-record r ok f b o q) =
          absurd
          (⊎_elim (λ (k : FeatureCount ≡ Length (length r)). let z : ◌≡◌ {A = ℕ} 0 1 = cc k in omega arith)
          (λ (k : FeatureCount ≡ NoRoom). let z : ◌≡◌ {A = ℕ} 0 1 = cc k in omega arith) (fitted-reply r out FeatureCount (sym e ∙ by q)))

  -- The end is given exactly where no listed record is above the given one.
  pub end-exactly : (replied ≡ End) ↔
      ((table.opened n t ≡ Ok tt) × Counts F × Begun n F bytes × ((s : List ℕ) → Listed n F s → precedes bytes s ≡ true → ⊥))
  end-exactly = (λ e. go e (told n t F bytes out), λ (ok, f, b, h). by (end-given n t F bytes out ok f b h))
    where
      go : replied ≡ End → Told n t F bytes out →
          (table.opened n t ≡ Ok tt) × Counts F × Begun n F bytes × ((s : List ℕ) → Listed n F s → precedes bytes s ≡ true → ⊥)
      go e (bad-table fault ok q) = let s = sym e ∙ by q in let z : ◌≡◌ {A = ℕ} 0 1 = cc s in absurd (omega arith)
      go e (bad-record fault ok h r q) = let s = sym e ∙ by q in let z : ◌≡◌ {A = ℕ} 0 1 = cc s in absurd (omega arith)
      go e (bad-count ok r f q) = let s = sym e ∙ by q in let z : ◌≡◌ {A = ℕ} 0 1 = cc s in absurd (omega arith)
      go e (not_listed rows ok f h r l q) = let s = sym e ∙ by q in let z : ◌≡◌ {A = ℕ} 0 1 = cc s in absurd (omega arith)
      go e (at-end ok f b o q) = (ok, f, b, (list.following-end n F (low n t F bytes out ok) (small n t F bytes out ok) f bytes).0 o)
      go e (at-record r ok f b o q) =
          absurd
          (⊎_elim (λ (k : End ≡ Length (length r)). let z : ◌≡◌ {A = ℕ} 0 1 = cc k in omega arith)
          (λ (k : End ≡ NoRoom). let z : ◌≡◌ {A = ℕ} 0 1 = cc k in omega arith) (fitted-reply r out End (sym e ∙ by q)))

  -- "the output then unchanged": where no record is delivered, the output stays as it was.
  pub output-kept : ((l : ℕ) → replied ≡ Length l → ⊥) → (stepping n t F bytes out).output ≡ out
  output-kept h = go (told n t F bytes out)
    where
      left : {x : Result} → stepping n t F bytes out ≡ x → (stepping n t F bytes out).output ≡ x.output
      left e = ap (λ (y : Result). y.output) e

      go : Told n t F bytes out → (stepping n t F bytes out).output ≡ out
      go (bad-table fault ok q) = left q
      go (bad-record fault ok g r q) = left q
      go (bad-count ok r f q) = left q
      go (not_listed rows ok f g r l q) = left q
      go (at-end ok f b o q) = left q
      go (at-record r ok f b o q) = left q ∙ fitted-kept r out (λ k. h (length r) (by q ∙ k))

-- Where there is room for 32 bytes, there is room for every listed record.

room_for : (F n : ℕ) (r out : List ℕ) → Counts F → Listed n F r → 32 ≤ length out → result_of (fitted r out) ≡ resulting (Length (length r)) (r ++ drop (length r) out)
unfolding fitted
room_for F n r out f l room =
    let short = listed-short n F f r l in
    ap (λ (b : Bool). result_of (cond b (yielding (Ok (length r)) (r ++ drop (length r) out)) (yielding (Err unwritten.NoRoom) out)))
    (le-leb (length r) (length out) (omega arith))

module _ (n : ℕ) (t : List ℕ) (F : ℕ) (out : List ℕ) (ok : table.opened n t ≡ Ok tt) (f : Counts F) where
  -- "A call with no record, that is one of no bytes, gives the first": the least listed record
  pub first-given : (r : List ℕ) → Listed n F r → ((s : List ℕ) → Listed n F s → (s ≡ r) ⊎ (precedes r s ≡ true)) →
      stepping n t F [] out ≡ result_of (fitted r out)
  first-given r l least =
      next-given n t F [] out ok f (inl refl) r
      (record { listed = l; above = list.listed-bytes n F (low n t F [] out ok) (small n t F [] out ok) f r l; least = λ s i h. least s i })

  -- The next record stands in the first bytes of the output, and the other bytes are unchanged.
  pub next-written : 32 ≤ length out → (bytes : List ℕ) → Begun n F bytes → (r : List ℕ) → LeastAbove n F bytes r →
      stepping n t F bytes out ≡ resulting (Length (length r)) (r ++ drop (length r) out)
  next-written room bytes b r l = next-given n t F bytes out ok f b r l ∙ room_for F n r out f l.listed room

  -- Going on from the first: `calls n F k` is the record that the k-th call gives.

  pub call-first : stepping n t F [] out ≡ delivered (calls n F 0) out
  unfolding calls
  call-first = delivers n t F [] out ok f (inl refl)

  pub call_next : (k : ℕ) (bytes : List ℕ) → calls n F k ≡ some bytes → stepping n t F bytes out ≡ delivered (calls n F (suc k)) out
  unfolding calls bind
  call_next k bytes e =
      delivers n t F bytes out ok f (inr (list.comes-up n F (low n t F bytes out ok) (small n t F bytes out ok) f k bytes e))
      ∙ ap (λ (o : Option (List ℕ)). delivered (bind o (λ b. following n F b)) out) (sym e)

  -- Every call that gives a record gives a listed one.
  pub calls-listed : (k : ℕ) (bytes : List ℕ) → calls n F k ≡ some bytes → Listed n F bytes
  calls-listed = list.comes-up n F (low n t F [] out ok) (small n t F [] out ok) f

  -- "Every such graph comes up once": each listed record comes up at one call and no other.
  pub calls-once : (bytes : List ℕ) → Listed n F bytes → (k : ℕ) × (calls n F k ≡ some bytes) × ((j : ℕ) → calls n F j ≡ some bytes → j ≡ k)
  calls-once = list.once n F (low n t F [] out ok) (small n t F [] out ok) f

  -- As many calls as there are listed records give a record, and the next call gives none.
  pub calls-end : (calls n F (length (listing n F)) ≡ none) × ((j : ℕ) → j < length (listing n F) → (bytes : List ℕ) × (calls n F j ≡ some bytes))
  calls-end = list.calls-end n F (low n t F [] out ok) (small n t F [] out ok) f

-- Each small graph is the meaning of one listed record and no other.

-- One listed record, and no other, means what the graph means.
pub record OneListed (n F : ℕ) (t : List ℕ) {A : Type 0} (g : GraphOn Label A) : Type 0 where
  pub bytes : List ℕ
  pub listed : Listed n F bytes
  pub means : SameMeaning (table_labels n t) g (graph.graph_of_rows listed.form)
  pub alone : (other : List ℕ) (also : Listed n F other) → SameMeaning (table_labels n t) g (graph.graph_of_rows also.form) → other ≡ bytes

-- An accepted record with at most three nodes, features below F and no range has the meaning of one listed record and no other.
pub record-once : (n F : ℕ) (t bytes : List ℕ) (rows : List (Row Label)) → graph.reading n bytes ≡ graph.accepted rows → length rows ≤ 3 →
    features_below F rows ≡ true → unranged_rows rows ≡ true → OneListed n F t (graph.graph_of_rows rows)
record-once n F t bytes rows ok few below full =
    let (form, e) = accepted-fits n bytes rows ok in
    let (l, m) = meaning.graph-listed n F t bytes rows ok few below full form e in
    record { bytes = encoded form; listed = l; means = m; alone = meaning.graph-once n F t bytes rows ok few below full form e }

-- A graph of any size, on nodes of any type, has the meaning of one listed record and no other, if some list of at most three nodes has all its
-- reached nodes, each link of a reached node has a feature below F, and no reached node has a range.
pub graph-once : (n F : ℕ) (t : List ℕ) {A : Type 0} (same : A → A → Bool) → TellsApart same → (g : GraphOn Label A) → OfAnySize n t g → n ≤ 64 →
    (nodes : List A) → ((v : A) → Reached g v → Memᴰ v nodes) → length nodes ≤ 3 →
    ((v w : A) (f : ℕ) → Reached g v → g.link v f ≡ some w → f < F) → ((v : A) → Reached g v → is_full (g.label v) ≡ true) → OneListed n F t g
graph-once n F t same tells g size small nodes all few low full =
    let (form, e, short) = few-written g size.any-size.features nodes all few same tells in
    let (l, m) = meaning.any-listed n F t same tells g size small form e short low full in
    record {
      bytes = encoded form;
      listed = l;
      means = m;
      alone = meaning.any-once n F t same tells g size small form e short low full;
    }

-- "Over a two-type table with F of 1 the list has three records: chains of one, two and three nodes."

pub three-chains : listing 2 1 ≡
    encoded (stated_rows (1 ∷ 1 ∷ 0 ∷ 0 ∷ 0 ∷ 0 ∷ 0 ∷ [])) ∷ encoded (stated_rows (2 ∷ 1 ∷ 1 ∷ 1 ∷ 0 ∷ 0 ∷ 0 ∷ [])) ∷
    encoded (stated_rows (3 ∷ 1 ∷ 1 ∷ 1 ∷ 1 ∷ 1 ∷ 0 ∷ [])) ∷ []
three-chains = list-calls.three

-- With m types besides the contradiction there are m + m² + m³ listed records for F of 1.
pub amount-one : (n : ℕ) → 2 ≤ n → length (listing n 1) ≡ (n - 1) + ((n - 1) * (n - 1) + (n - 1) * ((n - 1) * (n - 1)))
amount-one = amounts.amount-one

-- With m types besides the contradiction there are m + 3 m² + 16 m³ listed records for F of 2.
pub amount-two : (n : ℕ) → 2 ≤ n → length (listing n 2) ≡ (n - 1) + (3 * ((n - 1) * (n - 1)) + 16 * ((n - 1) * ((n - 1) * (n - 1))))
amount-two = amounts.amount-two
