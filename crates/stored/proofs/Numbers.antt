-- The numbers of the refusals, one by one: each is given exactly where it is due.
use mathlib.Core.Path.{◌≡◌, refl, sym}
use mathlib.Core.List.{List}
use mathlib.Core.Logic.{◌↔◌, ◌⊎◌, inl, inr, ⊎_elim}
use mathlib.Core.Option.{none, some}
use Prim.Native.Nat.{ℕ, ◌≤◌, ◌<◌}
use native.Mathlib.Omega.{arith}
use lib.ListN.{length, get_or, set}
use Rattle.graphs.specs.Rows.{Row}
use Rattle.graphs.proofs.Walk.{some-injective}
use Rattle.lattice.specs.Label.{Label}
use Rattle.acceptance.specs.declared.TableFault.{TableFault}
use Rattle.acceptance.specs.declared.TableFault.TheVariants.{Size, Order, Bounds}
use Rattle.std.specs.Prelude.{Ok, Err}
use Rattle.acceptance.specs.Reply.{table_number, opened}
use Rattle.record.specs.declared.GraphFault.{GraphFault}
use Rattle.record.specs.declared.GraphFault.TheVariants.{Malformed}
use Rattle.record.specs.Read.{refused, accepted, reading}
use Rattle.replies.specs.declared.Side.TheVariants.{First, Second}
use Rattle.replies.specs.Replies.{Reply}
use Rattle.replies.specs.Replies.{Table, Graph, NoRoom, TooLarge, NoWantedType, WrongVersion, NoStoreRoom}
use Rattle.replies.specs.Reply.{refusal}
use Rattle.gathering.proofs.Told.{none-some}
use Rattle.gathered.proofs.Theorems.{reading-number}
use Rattle.versions.specs.State.{Programs}
use Rattle.contents.specs.Contents.{written_record}
use Rattle.store.specs.Calls.{putting, dropping, fetching}
use Rattle.stored.specs.Theorem.{Holds, HoldsNone, Met, too_large, unwanted, short, PutChecked, VersionChecked, PutDue, DropDue, ReadDue}
use Rattle.stored.specs.Theorem as due
use Rattle.stored.proofs.Exact.{put-exact, drop_exact, read-exact}

-- The numbers that are met on a way: 11, 13 and 21.
pub data OnTheWay : Reply → Type 0 where
  eleven : OnTheWay TooLarge
  thirteen : OnTheWay NoWantedType
  twenty-one : OnTheWay NoStoreRoom

table-number : (fault : TableFault) (k : ℕ) → some (table_number fault) ≡ some k → (1 ≤ k) × (k ≤ 3)
table-number Size k e = (omega (arith, some-injective e), omega (arith, some-injective e))
table-number Order k e = (omega (arith, some-injective e), omega (arith, some-injective e))
table-number Bounds k e = (omega (arith, some-injective e), omega (arith, some-injective e))

met-number : {n : ℕ} {t : List ℕ} {room : ℕ} {ps : Programs} {r : Reply} (k : ℕ) → Met n t room ps r → refusal r ≡ some k → (k ≡ 11) ⊎ (k ≡ 13) ⊎ (k ≡ 21)
met-number k (too_large step part g h is one other large) e = inl (sym (some-injective e))
met-number k (unwanted step c v p g s is at one other lacks) e = inr (inl (sym (some-injective e)))
met-number k (short step c ds is made-is less) e = inr (inr (sym (some-injective e)))

module _ (n : ℕ) (t buffer : List ℕ) (version : ℕ) where
  -- Put.
  module _ (bytes : List ℕ) where
    pub put-table : (fault : TableFault) → ((putting n t buffer version bytes).reply ≡ Table fault) ↔ (opened n t ≡ Err fault)
    put-table fault = (
      λ e. go fault ((put-exact n t buffer version bytes (Table fault)).0 e),
      λ e. (put-exact n t buffer version bytes (Table fault)).1 (due.table fault e),
    )
      where
        go : (fault : TableFault) → PutDue n t buffer version bytes (Table fault) → opened n t ≡ Err fault
        go _ (due.table fault e) = e
        go fault (due.met ps rows _ passes meets) = elim meets [ ]

    pub put-stateless : ((putting n t buffer version bytes).reply ≡ Graph Malformed First) ↔ ((opened n t ≡ Ok tt) × HoldsNone n t buffer)
    put-stateless = (
      λ e. go ((put-exact n t buffer version bytes (Graph Malformed First)).0 e),
      λ (opens, nothing). (put-exact n t buffer version bytes (Graph Malformed First)).1 (due.no-state opens nothing),
    )
      where
        go : PutDue n t buffer version bytes (Graph Malformed First) → (opened n t ≡ Ok tt) × HoldsNone n t buffer
        go (due.no-state opens nothing) = (opens, nothing)
        go (due.met ps rows _ passes meets) = elim meets [ ]

    pub put-program : (fault : GraphFault) → ((putting n t buffer version bytes).reply ≡ Graph fault Second) ↔
        ((opened n t ≡ Ok tt) × ((ps : Programs) × Holds n t buffer ps) × (reading n bytes ≡ refused fault))
    put-program fault = (
      λ e. go fault ((put-exact n t buffer version bytes (Graph fault Second)).0 e),
      λ (opens, (ps, holds), reads). (put-exact n t buffer version bytes (Graph fault Second)).1 (due.program ps fault opens holds reads),
    )
      where
        go : (fault : GraphFault) → PutDue n t buffer version bytes (Graph fault Second) →
            (opened n t ≡ Ok tt) × ((ps : Programs) × Holds n t buffer ps) × (reading n bytes ≡ refused fault)
        go _ (due.program ps fault opens holds reads) = (opens, (ps, holds), reads)
        go fault (due.met ps rows _ passes meets) = elim meets [ ]

    pub put-numbered : ((putting n t buffer version bytes).reply ≡ WrongVersion) ↔
        ((opened n t ≡ Ok tt) × ((rows : List (Row Label)) × (reading n bytes ≡ accepted rows)) ×
        ((ps : Programs) × Holds n t buffer ps × ((15 < version) ⊎ ((p : List ℕ) × (get_or ps version none ≡ some p)))))
    put-numbered = (
      λ e. go ((put-exact n t buffer version bytes WrongVersion).0 e),
      λ (opens, (rows, reads), (ps, holds, wrong)). (put-exact n t buffer version bytes WrongVersion).1 (due.numbered ps rows opens holds reads wrong),
    )
      where
        go : PutDue n t buffer version bytes WrongVersion →
            (opened n t ≡ Ok tt) × ((rows : List (Row Label)) × (reading n bytes ≡ accepted rows)) ×
            ((ps : Programs) × Holds n t buffer ps × ((15 < version) ⊎ ((p : List ℕ) × (get_or ps version none ≡ some p))))
        go (due.numbered ps rows opens holds reads wrong) = (opens, (rows, reads), (ps, holds, wrong))
        go (due.met ps rows _ passes meets) = elim meets [ ]

    pub put-met : {r : Reply} → OnTheWay r → ((putting n t buffer version bytes).reply ≡ r) ↔
        ((ps : Programs) × (rows : List (Row Label)) × PutChecked n t buffer version bytes ps rows ×
        Met n t (length buffer) (set ps version (some (written_record rows))) r)
    put-met {r} number = (
      λ e. go number ((put-exact n t buffer version bytes r).0 e),
      λ (ps, rows, passes, meets). (put-exact n t buffer version bytes r).1 (due.met ps rows r passes meets),
    )
      where
        go : {r : Reply} → OnTheWay r → PutDue n t buffer version bytes r →
            (ps : Programs) × (rows : List (Row Label)) × PutChecked n t buffer version bytes ps rows ×
            Met n t (length buffer) (set ps version (some (written_record rows))) r
        go eleven (due.met ps rows _ passes meets) = (ps, rows, passes, meets)
        go thirteen (due.met ps rows _ passes meets) = (ps, rows, passes, meets)
        go twenty-one (due.met ps rows _ passes meets) = (ps, rows, passes, meets)

  -- Drop.
  pub drop-table : (fault : TableFault) → ((dropping n t buffer version).reply ≡ Table fault) ↔ (opened n t ≡ Err fault)
  drop-table fault = (
    λ e. go fault ((drop_exact n t buffer version (Table fault)).0 e),
    λ e. (drop_exact n t buffer version (Table fault)).1 (due.table fault e),
  )
    where
      go : (fault : TableFault) → DropDue n t buffer version (Table fault) → opened n t ≡ Err fault
      go _ (due.table fault e) = e
      go fault (due.met ps p _ passes meets) = elim meets [ ]

  pub drop-stateless : ((dropping n t buffer version).reply ≡ Graph Malformed First) ↔ ((opened n t ≡ Ok tt) × HoldsNone n t buffer)
  drop-stateless = (
    λ e. go ((drop_exact n t buffer version (Graph Malformed First)).0 e),
    λ (opens, nothing). (drop_exact n t buffer version (Graph Malformed First)).1 (due.no-state opens nothing),
  )
    where
      go : DropDue n t buffer version (Graph Malformed First) → (opened n t ≡ Ok tt) × HoldsNone n t buffer
      go (due.no-state opens nothing) = (opens, nothing)
      go (due.met ps p _ passes meets) = elim meets [ ]

  pub drop-numbered : ((dropping n t buffer version).reply ≡ WrongVersion) ↔
      ((opened n t ≡ Ok tt) × ((ps : Programs) × Holds n t buffer ps × ((15 < version) ⊎ (get_or ps version none ≡ none))))
  drop-numbered = (
    λ e. go ((drop_exact n t buffer version WrongVersion).0 e),
    λ (opens, (ps, holds, wrong)). (drop_exact n t buffer version WrongVersion).1 (due.numbered ps opens holds wrong),
  )
    where
      go : DropDue n t buffer version WrongVersion →
          (opened n t ≡ Ok tt) × ((ps : Programs) × Holds n t buffer ps × ((15 < version) ⊎ (get_or ps version none ≡ none)))
      go (due.numbered ps opens holds wrong) = (opens, (ps, holds, wrong))
      go (due.met ps p _ passes meets) = elim meets [ ]

  pub drop-met : {r : Reply} → OnTheWay r → ((dropping n t buffer version).reply ≡ r) ↔
      ((ps : Programs) × (p : List ℕ) × VersionChecked n t buffer version ps p × Met n t (length buffer) (set ps version none) r)
  drop-met {r} number = (
    λ e. go number ((drop_exact n t buffer version r).0 e),
    λ (ps, p, passes, meets). (drop_exact n t buffer version r).1 (due.met ps p r passes meets),
  )
    where
      go : {r : Reply} → OnTheWay r → DropDue n t buffer version r →
          (ps : Programs) × (p : List ℕ) × VersionChecked n t buffer version ps p × Met n t (length buffer) (set ps version none) r
      go eleven (due.met ps p _ passes meets) = (ps, p, passes, meets)
      go thirteen (due.met ps p _ passes meets) = (ps, p, passes, meets)
      go twenty-one (due.met ps p _ passes meets) = (ps, p, passes, meets)

  -- Read.
  module _ (out : List ℕ) where
    pub read_table : (fault : TableFault) → ((fetching n t buffer version out).reply ≡ Table fault) ↔ (opened n t ≡ Err fault)
    read_table fault = (
      λ e. go fault ((read-exact n t buffer version out (Table fault)).0 e),
      λ e. (read-exact n t buffer version out (Table fault)).1 (due.table fault e),
    )
      where
        go : (fault : TableFault) → ReadDue n t buffer version (length out) (Table fault) → opened n t ≡ Err fault
        go _ (due.table fault e) = e

    pub read-stateless : ((fetching n t buffer version out).reply ≡ Graph Malformed First) ↔ ((opened n t ≡ Ok tt) × HoldsNone n t buffer)
    read-stateless = (
      λ e. go ((read-exact n t buffer version out (Graph Malformed First)).0 e),
      λ (opens, nothing). (read-exact n t buffer version out (Graph Malformed First)).1 (due.no-state opens nothing),
    )
      where
        go : ReadDue n t buffer version (length out) (Graph Malformed First) → (opened n t ≡ Ok tt) × HoldsNone n t buffer
        go (due.no-state opens nothing) = (opens, nothing)

    pub read-numbered : ((fetching n t buffer version out).reply ≡ WrongVersion) ↔
        ((opened n t ≡ Ok tt) × ((ps : Programs) × Holds n t buffer ps × ((15 < version) ⊎ (get_or ps version none ≡ none))))
    read-numbered = (
      λ e. go ((read-exact n t buffer version out WrongVersion).0 e),
      λ (opens, (ps, holds, wrong)). (read-exact n t buffer version out WrongVersion).1 (due.numbered ps opens holds wrong),
    )
      where
        go : ReadDue n t buffer version (length out) WrongVersion →
            (opened n t ≡ Ok tt) × ((ps : Programs) × Holds n t buffer ps × ((15 < version) ⊎ (get_or ps version none ≡ none)))
        go (due.numbered ps opens holds wrong) = (opens, (ps, holds, wrong))

    pub read-shorter : ((fetching n t buffer version out).reply ≡ NoRoom) ↔
        ((ps : Programs) × (p : List ℕ) × VersionChecked n t buffer version ps p × (length out < length p))
    read-shorter = (
      λ e. go ((read-exact n t buffer version out NoRoom).0 e),
      λ (ps, p, passes, less). (read-exact n t buffer version out NoRoom).1 (due.shorter ps p passes less),
    )
      where
        go : ReadDue n t buffer version (length out) NoRoom → (ps : Programs) × (p : List ℕ) × VersionChecked n t buffer version ps p × (length out < length p)
        go (due.shorter ps p passes less) = (ps, p, passes, less)

  -- A call is refused by no other numbers.
  module _ (k : ℕ) where
    pub put-numbers : (bytes : List ℕ) → refusal (putting n t buffer version bytes).reply ≡ some k →
        ((1 ≤ k) × (k ≤ 7)) ⊎ (k ≡ 11) ⊎ (k ≡ 13) ⊎ (k ≡ 20) ⊎ (k ≡ 21)
    put-numbers bytes e = go ((put-exact n t buffer version bytes (putting n t buffer version bytes).reply).0 refl) e
      where
        go : {r : Reply} → PutDue n t buffer version bytes r → refusal r ≡ some k → ((1 ≤ k) × (k ≤ 7)) ⊎ (k ≡ 11) ⊎ (k ≡ 13) ⊎ (k ≡ 20) ⊎ (k ≡ 21)
        go (due.table fault is) d = let (low, high) = table-number fault k d in inl (low, omega arith)
        go (due.no-state opens nothing) d = inl (omega (arith, some-injective d), omega (arith, some-injective d))
        go (due.program ps fault opens holds reads) d =
            let (low, high) = reading-number n bytes fault reads in
            inl (omega (arith, some-injective d), omega (arith, some-injective d))
        go (due.numbered ps rows opens holds reads wrong) d = inr (inr (inr (inl (sym (some-injective d)))))
        go (due.met ps rows r passes meets) d = ⊎_elim (λ is. inr (inl is)) (λ is. inr (inr (⊎_elim inl (λ is. inr (inr is)) is))) (met-number k meets d)
        go (due.used ps rows s passes reached) d = none-some d

    pub drop-numbers : refusal (dropping n t buffer version).reply ≡ some k → ((1 ≤ k) × (k ≤ 4)) ⊎ (k ≡ 11) ⊎ (k ≡ 13) ⊎ (k ≡ 20) ⊎ (k ≡ 21)
    drop-numbers e = go ((drop_exact n t buffer version (dropping n t buffer version).reply).0 refl) e
      where
        go : {r : Reply} → DropDue n t buffer version r → refusal r ≡ some k → ((1 ≤ k) × (k ≤ 4)) ⊎ (k ≡ 11) ⊎ (k ≡ 13) ⊎ (k ≡ 20) ⊎ (k ≡ 21)
        go (due.table fault is) d = let (low, high) = table-number fault k d in inl (low, omega arith)
        go (due.no-state opens nothing) d = inl (omega (arith, some-injective d), omega (arith, some-injective d))
        go (due.numbered ps opens holds wrong) d = inr (inr (inr (inl (sym (some-injective d)))))
        go (due.met ps p r passes meets) d = ⊎_elim (λ is. inr (inl is)) (λ is. inr (inr (⊎_elim inl (λ is. inr (inr is)) is))) (met-number k meets d)
        go (due.used ps p s passes reached) d = none-some d

    pub read-numbers : (out : List ℕ) → refusal (fetching n t buffer version out).reply ≡ some k → ((1 ≤ k) × (k ≤ 4)) ⊎ (k ≡ 20) ⊎ (k ≡ 8)
    read-numbers out e = go ((read-exact n t buffer version out (fetching n t buffer version out).reply).0 refl) e
      where
        go : {r : Reply} → ReadDue n t buffer version (length out) r → refusal r ≡ some k → ((1 ≤ k) × (k ≤ 4)) ⊎ (k ≡ 20) ⊎ (k ≡ 8)
        go (due.table fault is) d = let (low, high) = table-number fault k d in inl (low, omega arith)
        go (due.no-state opens nothing) d = inl (omega (arith, some-injective d), omega (arith, some-injective d))
        go (due.numbered ps opens holds wrong) d = inr (inl (sym (some-injective d)))
        go (due.shorter ps p passes less) d = inr (inr (sym (some-injective d)))
        go (due.fits ps p passes fit) d = none-some d
