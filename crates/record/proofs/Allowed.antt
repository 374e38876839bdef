-- The tests of the module `appropriate` decide what the definitions say about a list, a row, a graph and a reading.
use mathlib.Core.Path.{◌≡◌, refl, sym, ◌∙◌, ap, subst}
use mathlib.Core.Bool.{Bool, true, false, cond}
use mathlib.Core.List.{List}
use Prim.Native.Nat.{ℕ, suc, ◌+◌, ◌-◌, ◌≤◌, ◌<◌}
use native.Mathlib.Omega.{arith}
use native.Mathlib.Decide.{ℕ_discrete}
use borrow.Author.Tests.{leb-true, le-leb, eqb-true, eq-eqb}
use lib.Dec.{eqb, leb}
use lib.ListN.{length, get_or}
use Rattle.std.specs.Prelude.{Ok, Err}
use Rattle.graphs.specs.Rows.{Row}
use Rattle.graphs.proofs.Search.{both_true, true-both, true-false, not-true-false}
use Rattle.graphs.proofs.Order.{all_of-true, true-all_of}
use Rattle.lattice.specs.Label.{Label}
use Rattle.lattice.specs.Table.{every}
use Rattle.lattice.proofs.Every.{every-at, every-all}
use Rattle.lattice.proofs.Lawful.{known_more}
use Rattle.layout.specs.Layout.{size, links_from, row_end, label_at, links_at, feature_at, rows_of}
use Rattle.layout.proofs.Rows.{rows-member, rows-source}
use Rattle.layout.proofs.Spans.{links-at, links-member}
use Rattle.record.specs.declared.GraphFault.{GraphFault}
use Rattle.record.specs.declared.GraphFault.TheVariants.{Inappropriate}
use Rattle.record.specs.Read.{Reading, refused, accepted, reading}
use Rattle.record.specs.Reads.{Holds, Reads, ReadsAs, verdict_of, Verdict}
use Rattle.record.specs.Appropriate.{list_accepted, allowed, row_appropriate, appropriate, judged_appropriate, reading_appropriate, Listed, Typed}

-- The list.

module _ (n : ℕ) (list : List ℕ) where
  pub list-accepted : length list ≡ 64 → ((f : ℕ) → f < 64 → get_or list f 0 < n) → list_accepted n list ≡ true
  unfolding list_accepted
  list-accepted long small =
      true-both (eqb (length list) 64) (every 64 λ f. leb (suc (get_or list f 0)) n) (eq-eqb (length list) 64 long)
      (every-all (λ f. leb (suc (get_or list f 0)) n) 64 (λ f h. le-leb (suc (get_or list f 0)) n (small f h)))

  module _ (ok : list_accepted n list ≡ true) where
    pub list-long : length list ≡ 64
    unfolding list_accepted
    list-long = eqb-true (length list) 64 (both_true (eqb (length list) 64) (every 64 λ f. leb (suc (get_or list f 0)) n) ok).0

    pub list-entry : (f : ℕ) → f < 64 → get_or list f 0 < n
    unfolding list_accepted
    list-entry f h =
        leb-true (suc (get_or list f 0)) n
        (every-at (λ f. leb (suc (get_or list f 0)) n) 64 f
        (both_true (eqb (length list) 64) (every 64 λ f. leb (suc (get_or list f 0)) n) ok).1 h)

    pub list-listed : n ≤ 64 → Listed list
    list-listed few = record { long = list-long; small = λ f h. omega (arith, list-entry f h) }

  pub list-short : (length list ≡ 64 → ⊥) → false ≡ list_accepted n list
  list-short other = sym (not-true-false (list_accepted n list) (λ e. other (list-long e)))

  pub list_over : (f : ℕ) → f < 64 → n ≤ get_or list f 0 → false ≡ list_accepted n list
  list_over f h over = sym (not-true-false (list_accepted n list) (λ e. omega (arith, list-entry e f h)))

-- The entries before f are types.
pub record Entries (n : ℕ) (list : List ℕ) (f : ℕ) : Type 0 where
  pub long : length list ≡ 64
  pub high : f ≤ 64
  pub small : (k : ℕ) → k < f → get_or list k 0 < n

pub entries_none : {n : ℕ} {list : List ℕ} → length list ≡ 64 → Entries n list 0
entries_none long = record { long = long; high = omega arith; small = λ k h. absurd (omega arith) }

pub entries-more : {n : ℕ} {list : List ℕ} {f : ℕ} → Entries n list f → f < 64 → get_or list f 0 < n → Entries n list (f + 1)
entries-more {n} {list} {f} before inside here =
    record { long = before.long; high = omega arith; small = λ k h. go k h (ℕ_discrete k f) }
  where
    go : (k : ℕ) → k < f + 1 → Dec (k ≡ f) → get_or list k 0 < n
    go k h (yes e) = subst (λ (i : ℕ). get_or list i 0 < n) (sym e) here
    go k h (no d) = before.small k (omega arith)

pub entries-all : {n : ℕ} {list : List ℕ} {f : ℕ} → Entries n list f → 64 ≤ f → true ≡ list_accepted n list
entries-all {n} {list} before end = sym (list-accepted n list before.long (λ k h. before.small k (omega (arith, before.high))))

-- The links of node v before place k are allowed.
pub record RowAllowed (t list ws : List ℕ) (v kind k : ℕ) : Type 0 where
  pub listed : Listed list
  pub typed : Typed ws
  pub inside : v < size ws
  pub kind-is : kind ≡ (label_at ws v).type
  pub low : links_from ws v ≤ k
  pub high : k ≤ row_end ws v
  pub all : (j : ℕ) → links_from ws v ≤ j → j < k → allowed t list kind (feature_at ws j) ≡ true

module _ {t list ws : List ℕ} {v kind : ℕ} where
  pub row-start : Listed list → Typed ws → v < size ws → kind ≡ (label_at ws v).type → RowAllowed t list ws v kind (links_from ws v)
  row-start listed typed inside is =
      record {
        listed = listed;
        typed = typed;
        inside = inside;
        kind-is = is;
        low = omega arith;
        high = (typed.sound.shaped.node v inside).begun;
        all = λ j a b. absurd (omega arith);
      }

  module _ {k : ℕ} (before : RowAllowed t list ws v kind k) where
    pub row-kind : kind < 64
    row-kind = subst (λ (i : ℕ). i < 64) (sym before.kind-is) (before.typed.typed v before.inside).type

    module _ (more : k < row_end ws v) where
      pub row-feature : feature_at ws k < 64
      row-feature = before.typed.sound.shaped.known v k before.inside before.low more

      pub row-entry : get_or list (feature_at ws k) 0 < 64
      row-entry = before.listed.small (feature_at ws k) row-feature

      pub row_next : allowed t list kind (feature_at ws k) ≡ true → RowAllowed t list ws v kind (k + 1)
      row_next here =
          record {
            listed = before.listed;
            typed = before.typed;
            inside = before.inside;
            kind-is = before.kind-is;
            low = omega (arith, before.low);
            high = omega arith;
            all = λ j a b. go j a b (ℕ_discrete j k);
          }
        where
          go : (j : ℕ) → links_from ws v ≤ j → j < k + 1 → Dec (j ≡ k) → allowed t list kind (feature_at ws j) ≡ true
          go j a b (yes e) = subst (λ (i : ℕ). allowed t list kind (feature_at ws i) ≡ true) (sym e) here
          go j a b (no d) = before.all j a (omega arith)

      pub row_out : allowed t list kind (feature_at ws k) ≡ false → false ≡ row_appropriate t list (label_at ws v, links_at ws v)
      unfolding row_appropriate
      row_out never =
          sym
          (not-true-false (row_appropriate t list (label_at ws v, links_at ws v)) λ e.
          true-false
          (ap (λ (i : ℕ). allowed t list i (feature_at ws k)) before.kind-is ∙
          all_of-true (links_at ws v) (λ l. allowed t list (label_at ws v).type l.0) e _
          (links-at ws (row_end ws v) (before.typed.sound.shaped.node v before.inside).ended
          (row_end ws v - links_from ws v) (links_from ws v) (omega (arith, before.low)) k before.low more))
          never)

    pub row-all : row_end ws v ≤ k → true ≡ row_appropriate t list (label_at ws v, links_at ws v)
    unfolding row_appropriate
    row-all end =
        sym
        (true-all_of (links_at ws v) (λ l. allowed t list (label_at ws v).type l.0) λ l m.
        let node = before.typed.sound.shaped.node v before.inside in
        let (j, low, high, f, _) =
        links-member ws (row_end ws v) node.ended (row_end ws v - links_from ws v) (links_from ws v) (omega (arith, node.begun)) l m in
        ap (λ (i : ℕ). allowed t list (label_at ws v).type i) f ∙
        ap (λ (i : ℕ). allowed t list i (feature_at ws j)) (sym before.kind-is) ∙ before.all j low (omega arith))

-- The rows before v are allowed.
pub record RowsAllowed (t list ws : List ℕ) (v : ℕ) : Type 0 where
  pub high : v ≤ size ws
  pub all : (u : ℕ) → u < v → row_appropriate t list (label_at ws u, links_at ws u) ≡ true

module _ {t list ws : List ℕ} where
  pub rows_none : RowsAllowed t list ws 0
  rows_none = record { high = omega arith; all = λ u h. absurd (omega arith) }

  module _ {v : ℕ} (before : RowsAllowed t list ws v) where
    pub rows_more : v < size ws → row_appropriate t list (label_at ws v, links_at ws v) ≡ true → RowsAllowed t list ws (v + 1)
    rows_more inside here = record { high = omega arith; all = λ u h. go u h (ℕ_discrete u v) }
      where
        go : (u : ℕ) → u < v + 1 → Dec (u ≡ v) → row_appropriate t list (label_at ws u, links_at ws u) ≡ true
        go u h (yes e) = subst (λ (i : ℕ). row_appropriate t list (label_at ws i, links_at ws i) ≡ true) (sym e) here
        go u h (no d) = before.all u (omega arith)

    pub rows_all : size ws ≤ v → true ≡ appropriate t list (rows_of ws)
    unfolding appropriate
    rows_all end =
        sym
        (true-all_of (rows_of ws) (row_appropriate t list) λ r m.
        let (u, h, e) = rows-source ws (size ws) 0 r m in
        ap (row_appropriate t list) e ∙ before.all u (omega arith))

pub rows_out : (t list ws : List ℕ) (v : ℕ) → v < size ws → row_appropriate t list (label_at ws v, links_at ws v) ≡ false →
    false ≡ appropriate t list (rows_of ws)
unfolding appropriate
rows_out t list ws v inside never =
    sym
    (not-true-false (appropriate t list (rows_of ws)) λ e.
    true-false
    (all_of-true (rows_of ws) (row_appropriate t list) e _ (rows-member ws (size ws) 0 v v (omega arith) inside))
    never)

-- Reading.

module _ (n : ℕ) (t list bytes : List ℕ) where
  -- the refusals of reading stay
  pub refused-appropriate : (fault : GraphFault) → reading n bytes ≡ refused fault → reading_appropriate n t list bytes ≡ refused fault
  unfolding reading_appropriate
  refused-appropriate fault e = ap (judged_appropriate t list) e

  pub judged-appropriate : (rows : List (Row Label)) → reading n bytes ≡ accepted rows →
      reading_appropriate n t list bytes ≡ cond (appropriate t list rows) (accepted rows) (refused Inappropriate)
  unfolding reading_appropriate
  judged-appropriate rows e = ap (judged_appropriate t list) e

  -- what is accepted beside the list is accepted, and obeys the list
  pub accepted-appropriate : (rows : List (Row Label)) → reading_appropriate n t list bytes ≡ accepted rows →
      (reading n bytes ≡ accepted rows) × (appropriate t list rows ≡ true)
  accepted-appropriate rows e = go (reading n bytes) refl
    where
      both : (others : List (Row Label)) → reading n bytes ≡ accepted others → (b : Bool) → appropriate t list others ≡ b →
          cond b (accepted others) (refused Inappropriate) ≡ accepted rows → (reading n bytes ≡ accepted rows) × (appropriate t list rows ≡ true)
      both others q true a d =
          let same : others ≡ rows = cc in
          (q ∙ ap accepted same, subst (λ (rs : List (Row Label)). appropriate t list rs ≡ true) same a)
      both others q false a d = let z : ◌≡◌ {A = ℕ} 0 1 = cc in absurd (omega arith)

      go : (o : Reading) → reading n bytes ≡ o → (reading n bytes ≡ accepted rows) × (appropriate t list rows ≡ true)
      go (refused fault) q =
          let d : refused fault ≡ accepted rows = sym (refused-appropriate fault q) ∙ e in
          let z : ◌≡◌ {A = ℕ} 0 1 = cc in absurd (omega arith)
      go (accepted others) q = both others q (appropriate t list others) refl (sym (judged-appropriate others q) ∙ e)

  module _ {ws : List ℕ} {v : Verdict} (reads : Reads n bytes v ws) where
    tells-refused : (fault : GraphFault) → reading_appropriate n t list bytes ≡ refused fault →
        ReadsAs n (reading_appropriate n t list bytes) (Err fault) ws
    tells-refused fault e =
        record {
          verdict = ap verdict_of (sym e);
          graph = λ rows q.
              let d : refused fault ≡ accepted rows = sym e ∙ q in
              let z : ◌≡◌ {A = ℕ} 0 1 = cc in absurd (omega arith);
        }

    -- 4 to 7
    pub reads-refused : (fault : GraphFault) → v ≡ Err fault → ReadsAs n (reading_appropriate n t list bytes) (Err fault) ws
    reads-refused fault e = tells-refused fault (refused-appropriate fault (go (reading n bytes) refl))
      where
        go : (o : Reading) → reading n bytes ≡ o → reading n bytes ≡ refused fault
        go (refused other) q =
            let h : ◌≡◌ {A = Verdict} (Err other) (Err fault) = sym (reads.verdict ∙ ap verdict_of q) ∙ e in
            let k : other ≡ fault = cc in
            q ∙ ap refused k
        go (accepted rows) q = let z : ◌≡◌ {A = ℕ} 0 1 = cc (reads.verdict, ap verdict_of q) in absurd (omega arith)

    module _ (e : v ≡ Ok tt) where
      -- the words hold the rows that were read
      record Held : Type 0 where
        pub is : reading n bytes ≡ accepted (rows_of ws)
        pub holds : Holds n (rows_of ws) ws

      held : Held
      held = go (reading n bytes) refl
        where
          go : (o : Reading) → reading n bytes ≡ o → Held
          go (refused fault) q = let z : ◌≡◌ {A = ℕ} 0 1 = cc (reads.verdict, ap verdict_of q) in absurd (omega arith)
          go (accepted rows) q =
              let h = reads.graph rows q in
              record {
                is = q ∙ ap accepted (sym h.rows_are);
                holds = record { rows_are = refl; sound = h.sound; small = h.small; typed = h.typed };
              }

      pub reads-typed : n ≤ 64 → Typed ws
      reads-typed few = record { sound = held.holds.sound; typed = λ u h. known_more few (held.holds.typed u h) }

      -- 18
      pub reads-inappropriate : appropriate t list (rows_of ws) ≡ false → ReadsAs n (reading_appropriate n t list bytes) (Err Inappropriate) ws
      reads-inappropriate never =
          tells-refused Inappropriate
          (judged-appropriate (rows_of ws) held.is ∙ ap (λ (b : Bool). cond b (accepted (rows_of ws)) (refused Inappropriate)) never)

      pub reads-appropriate : appropriate t list (rows_of ws) ≡ true → ReadsAs n (reading_appropriate n t list bytes) (Ok tt) ws
      reads-appropriate obeys =
          let is : reading_appropriate n t list bytes ≡ accepted (rows_of ws) =
          judged-appropriate (rows_of ws) held.is ∙ ap (λ (b : Bool). cond b (accepted (rows_of ws)) (refused Inappropriate)) obeys in
          record {
            verdict = ap verdict_of (sym is);
            graph = λ rows q.
                let same : rows ≡ rows_of ws = cc (sym is ∙ q) in
                subst (λ (rs : List (Row Label)). Holds n rs ws) (sym same) held.holds;
          }
