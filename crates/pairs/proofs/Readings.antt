-- What reading one record or two says: the words hold the rows of an accepted graph, and a call goes on with these rows or gives the first
-- refusal.
use mathlib.Core.Path.{◌≡◌, refl, sym, ◌∙◌, ap, ap₂, subst}
use mathlib.Core.Bool.{Bool, true, false, cond}
use mathlib.Core.List.{List}
use Prim.Native.Nat.{ℕ}
use native.Mathlib.Omega.{arith}
use borrow.Author.Tests.{eq-eqb, ne_eqb}
use lib.Dec.{eqb}
use lib.ListN.{length}
use Rattle.std.specs.Prelude.{Ok, Err}
use Rattle.graphs.specs.Rows.{Row}
use Rattle.graphs.proofs.Search.{true-false}
use Rattle.lattice.specs.Label.{Label}
use Rattle.layout.specs.Layout.{rows_of}
use Rattle.record.specs.declared.GraphFault.{GraphFault}
use Rattle.record.specs.Read.{Reading, refused, accepted, reading}
use Rattle.record.specs.Reads.{Holds, Loaded, ReadsAs, Verdict, verdict_of}
use Rattle.record.specs.Appropriate.{list_accepted, reading_appropriate}
use Rattle.record.proofs.Accepted.{Rules, accepted-rules}
use Rattle.record.proofs.Rewritten.{rules-read}
use Rattle.record.proofs.Allowed.{accepted-appropriate, list-long}
use Rattle.replies.specs.declared.Side.TheVariants.{First, Second}
use Rattle.replies.specs.declared.Refusal.{Refusal}
use Rattle.replies.specs.declared.Refusal.TheVariants as refusal
use Rattle.replies.specs.Replies.{Reply}
use Rattle.pairs.specs.Pair.{Optional, PairVerdict, ReadsBoth, ReadsBeside, read_both, reading_beside, joint_verdict}

-- Reading with a list or without one.

module _ (n : ℕ) (t list bytes : List ℕ) where
  -- An empty list stands for no list.
  pub reading-plain : eqb (length list) 0 ≡ true → reading_beside n t list bytes ≡ reading n bytes
  unfolding reading_beside
  reading-plain e = ap (λ (b : Bool). cond b (reading n bytes) (reading_appropriate n t list bytes)) e

  pub reading-listed : eqb (length list) 0 ≡ false → reading_beside n t list bytes ≡ reading_appropriate n t list bytes
  unfolding reading_beside
  reading-listed e = ap (λ (b : Bool). cond b (reading n bytes) (reading_appropriate n t list bytes)) e

  -- A record that is accepted, with a list or without, is an accepted record.
  pub accepted-beside : (rows : List (Row Label)) → reading_beside n t list bytes ≡ accepted rows → reading n bytes ≡ accepted rows
  accepted-beside rows is = go (eqb (length list) 0) refl
    where
      go : (b : Bool) → eqb (length list) 0 ≡ b → reading n bytes ≡ accepted rows
      go true e = sym (reading-plain e) ∙ is
      go false e = (accepted-appropriate n t list bytes rows (sym (reading-listed e) ∙ is)).0

-- an accepted list is not empty
pub accepted-long : (n : ℕ) (list : List ℕ) → list_accepted n list ≡ true → eqb (length list) 0 ≡ false
accepted-long n list e = ap (λ (k : ℕ). eqb k 0) (list-long n list e)

-- Reading with an empty list, and with a list that is not empty.
module _ (n : ℕ) (t list bytes : List ℕ) {v : Verdict} {ws : List ℕ} where
  pub tells-plain : length list ≡ 0 → ReadsAs n (reading n bytes) v ws → ReadsAs n (reading_beside n t list bytes) v ws
  tells-plain none = subst (λ (o : Reading). ReadsAs n o v ws) (sym (reading-plain n t list bytes (eq-eqb (length list) 0 none)))

  pub tells-listed : (length list ≡ 0 → ⊥) → ReadsAs n (reading_appropriate n t list bytes) v ws → ReadsAs n (reading_beside n t list bytes) v ws
  tells-listed some = subst (λ (o : Reading). ReadsAs n o v ws) (sym (reading-listed n t list bytes (ne_eqb (length list) 0 some)))

-- The words hold the rows that a reading accepts.
pub record Told (n : ℕ) (o : Reading) (ws : List ℕ) : Type 0 where
  pub is : o ≡ accepted (rows_of ws)
  pub holds : Holds n (rows_of ws) ws

told-held : {n : ℕ} {o : Reading} {ws : List ℕ} {rows : List (Row Label)} → o ≡ accepted rows → Holds n rows ws → Told n o ws
told-held {n} {ws = ws} e held =
    record { is = e ∙ ap accepted (sym held.rows_are); holds = subst (λ (rs : List (Row Label)). Holds n rs ws) (sym held.rows_are) held }

-- Words that hold the rows that a reading accepts are `Loaded`.
pub told-loaded : (n : ℕ) (t list bytes : List ℕ) {ws : List ℕ} → Told n (reading_beside n t list bytes) ws → Loaded n ws
told-loaded n t list bytes {ws} told =
    let held = told.holds in
    record {
      acceptable = rules-read n (rows_of ws) (accepted-rules n bytes (rows_of ws) (accepted-beside n t list bytes (rows_of ws) told.is));
      sound = held.sound;
      small = held.small;
      typed = held.typed;
    }

-- One record.

module _ {n : ℕ} {ws : List ℕ} {v : Verdict} where
  pub told-refused : {o : Reading} → ReadsAs n o v ws → (fault : GraphFault) → v ≡ Err fault → o ≡ refused fault
  told-refused {o = refused other} tells fault e =
      let same : other ≡ fault = cc (tells.verdict, e) in
      ap refused same
  told-refused {o = accepted rows} tells fault e = let z : ◌≡◌ {A = ℕ} 0 1 = cc (tells.verdict, e) in absurd (omega arith)

  pub told-accepted : {o : Reading} → ReadsAs n o v ws → v ≡ Ok tt → Told n o ws
  told-accepted {o = refused fault} tells e = let z : ◌≡◌ {A = ℕ} 0 1 = cc tells.verdict in absurd (omega arith)
  told-accepted {o = accepted rows} tells e = told-held refl (tells.graph rows refl)

-- Two records.

module _ {n : ℕ} {o p : Reading} {v : PairVerdict} {ws ws₂ : List ℕ} (reads : ReadsBoth n o p v ws ws₂) where
  joint : {w : PairVerdict} {i j : Reading} → v ≡ w → o ≡ i → p ≡ j → joint_verdict (verdict_of i) (verdict_of j) ≡ w
  joint e d c = sym (reads.verdict ∙ ap₂ (λ (i j : Reading). joint_verdict (verdict_of i) (verdict_of j)) d c) ∙ e

  pub both_told : v ≡ Ok tt → Told n o ws × Told n p ws₂
  both_told e = go o p refl refl
    where
      go : (i j : Reading) → o ≡ i → p ≡ j → Told n o ws × Told n p ws₂
      go (refused fault) j d c = let z : ◌≡◌ {A = ℕ} 0 1 = cc (joint e d c) in absurd (omega arith)
      go (accepted rows) (refused fault) d c = let z : ◌≡◌ {A = ℕ} 0 1 = cc (joint e d c) in absurd (omega arith)
      go (accepted rows) (accepted others) d c = (told-held d (reads.one rows d), told-held c (reads.other e others c))

  module _ {X : Type 0} (refuse : Reply → X) (next : List (Row Label) → List (Row Label) → X) where
    -- A refusal, and which graph is refused.
    pub both-refused : (why : Refusal) → v ≡ Err why → read_both refuse o p next ≡ refuse (Err why)
    both-refused why e = go o p refl refl
      where
        same : {other : Refusal} → ◌≡◌ {A = PairVerdict} (Err other) (Err why) → refuse (Err other) ≡ refuse (Err why)
        same {other} q =
            let r : other ≡ why = cc q in
            ap (λ (x : Refusal). refuse (Err x)) r

        go : (i j : Reading) → o ≡ i → p ≡ j → read_both refuse i j next ≡ refuse (Err why)
        go (refused other) j d c = same (joint e d c)
        go (accepted rows) (refused other) d c = same (joint e d c)
        go (accepted rows) (accepted others) d c = let z : ◌≡◌ {A = ℕ} 0 1 = cc (joint e d c) in absurd (omega arith)

    -- Where both are accepted, the call goes on with the rows that the words hold.
    pub both-next : v ≡ Ok tt → read_both refuse o p next ≡ next (rows_of ws) (rows_of ws₂)
    both-next e =
        let (one, other) = both_told e in
        ap₂ (λ (i j : Reading). read_both refuse i j next) one.is other.is

-- What reading one record after the other gives.
module _ {n : ℕ} {o : Reading} {v : Verdict} {ws : List ℕ} (one : ReadsAs n o v ws) where
  pub reads-first-refused : {p : Reading} {ws₂ : List ℕ} {fault : GraphFault} → v ≡ Err fault →
      ReadsBoth n o p (Err (refusal.Graph fault First)) ws ws₂
  reads-first-refused {p} e =
      record {
        verdict = ap (λ (w : Verdict). joint_verdict w (verdict_of p)) (sym e ∙ one.verdict);
        one = one.graph;
        other = λ q. let z : ◌≡◌ {A = ℕ} 0 1 = cc q in absurd (omega arith);
      }

  module _ (passes : v ≡ Ok tt) {p : Reading} {w : Verdict} {ws₂ : List ℕ} (two : ReadsAs n p w ws₂) where
    reads_second : ReadsBoth n o p (joint_verdict (Ok tt) w) ws ws₂
    reads_second =
        record {
          verdict = ap₂ joint_verdict (sym passes ∙ one.verdict) two.verdict;
          one = one.graph;
          other = λ _. two.graph;
        }

    pub reads-second-refused : {fault : GraphFault} → w ≡ Err fault → ReadsBoth n o p (Err (refusal.Graph fault Second)) ws ws₂
    reads-second-refused e = subst (λ (u : Verdict). ReadsBoth n o p (joint_verdict (Ok tt) u) ws ws₂) e reads_second

    pub reads-accepted : w ≡ Ok tt → ReadsBoth n o p (Ok tt) ws ws₂
    reads-accepted e = subst (λ (u : Verdict). ReadsBoth n o p (joint_verdict (Ok tt) u) ws ws₂) e reads_second

-- The words of both accepted records are `Loaded`.
pub both-loaded : (n : ℕ) (t list a b : List ℕ) {v : PairVerdict} {ws ws₂ : List ℕ} → ReadsBeside n t list a b v ws ws₂ → v ≡ Ok tt →
    Loaded n ws × Loaded n ws₂
both-loaded n t list a b reads e = let (one, other) = both_told reads e in (told-loaded n t list a one, told-loaded n t list b other)

-- Without a list.

pub optional-none : (n : ℕ) (list : List ℕ) → length list ≡ 0 → Optional n list
optional-none n list none e = true-false (eq-eqb (length list) 0 none) e

pub reads_plain : (n : ℕ) (t list a b : List ℕ) {v : PairVerdict} {ws ws₂ : List ℕ} → length list ≡ 0 → ReadsBeside n t list a b v ws ws₂ →
    ReadsBoth n (reading n a) (reading n b) v ws ws₂
reads_plain n t list a b {v} {ws} {ws₂} none reads =
    let e = eq-eqb (length list) 0 none in
    subst (λ (o : Reading). ReadsBoth n o (reading n b) v ws ws₂) (reading-plain n t list a e)
    (subst (λ (p : Reading). ReadsBoth n (reading_beside n t list a) p v ws ws₂) (reading-plain n t list b e) reads)

-- The rows that a reading accepts keep the rules.
abbrev pub Ruled : ℕ → Reading → Type 0
Ruled n o = (rows : List (Row Label)) → o ≡ accepted rows → Rules n rows

-- Two calls that agree on accepted records agree on all records.
pub both-same : {n : ℕ} {o p : Reading} → Ruled n o → Ruled n p → {X : Type 0} (refuse : Reply → X) (next other : List (Row Label) → List (Row Label) → X) →
    ((g h : List (Row Label)) → Rules n g → Rules n h → next g h ≡ other g h) → read_both refuse o p next ≡ read_both refuse o p other
both-same {o = refused fault} one two refuse next other same = refl
both-same {o = accepted rows} {p = refused fault} one two refuse next other same = refl
both-same {o = accepted rows} {p = accepted others} one two refuse next other same = same rows others (one rows refl) (two others refl)
