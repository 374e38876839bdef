-- Each reply of a call is given exactly where it is due.
use mathlib.Core.Path.{◌≡◌, refl, sym, ◌∙◌, ap, ap₂, subst}
use mathlib.Core.Bool.{Bool, true, false, cond, ◌&&◌}
use mathlib.Core.List.{List, ◌++◌}
use mathlib.Core.Logic.{◌↔◌, ◌⊎◌, inl, inr, ⊎_elim}
use mathlib.Core.Option.{Option, none, some}
use Prim.Native.Nat.{ℕ, ◌<◌}
use native.Mathlib.Omega.{arith}
use borrow.Author.Tests.{lt-ltb, le-ltb, ltb-true, ltb-false, le-leb, lt-leb, leb-true, leb-false}
use lib.Dec.{ltb, leb}
use lib.ListN.{length, get_or, set, drop, get_or-eq_default}
use Rattle.std.specs.Prelude.{Ok, Err}
use Rattle.graphs.specs.Rows.{Row}
use Rattle.graphs.proofs.Walk.{some-injective}
use Rattle.lattice.specs.Label.{Label}
use Rattle.acceptance.specs.Reply.{opened, TableAnswer}
use Rattle.encode.specs.declared.Unwritten.TheVariants as unwritten
use Rattle.encode.specs.Encode.{fitted, yielding}
use Rattle.record.specs.Read.{Reading, refused, accepted, reading}
use Rattle.replies.specs.declared.Side.TheVariants.{First}
use Rattle.replies.specs.Replies.{Reply}
use Rattle.replies.specs.Replies.{Graph, WrongVersion}
use Rattle.replies.specs.Reply.{Result, result_of}
use Rattle.record.specs.declared.GraphFault.TheVariants.{Malformed}
use Rattle.calls.specs.Calls.{checked}
use Rattle.demands.specs.Demand.{WrittenRecord}
use Rattle.gathering.proofs.Told.{none-some}
use Rattle.versions.specs.State.{Made, made, stopped, Programs, way, held}
use Rattle.contents.specs.Contents.{on_held, on_program, on_absent, on_present, is_none, written_record, given, put_among, drop_among}
use Rattle.store.specs.Calls.{settled, in_table, putting, dropping, fetching}
use Rattle.stored.specs.Theorem.{Versions, Holds, HoldsNone, PutChecked, VersionChecked, PutDue, DropDue, ReadDue}
use Rattle.stored.specs.Theorem as due
use Rattle.stored.proofs.Records.{program-written}
use Rattle.stored.proofs.Held.{held-sound, held-complete}
use Rattle.stored.proofs.Stops.{way-meets}
use Rattle.stored.proofs.Calls.{set-versions, putting-is, dropping-is, fetching-is}

-- No version above 15 exists.
above-absent : (n : ℕ) (ps : Programs) → Versions n ps → (version : ℕ) → 15 < version → get_or ps version none ≡ none
above-absent n ps versions version h = get_or-eq_default ps none (omega (arith, versions.sixteen))

module _ (n : ℕ) (t : List ℕ) where
  -- After a put, and after a drop, there are 16 versions, and each that exists is a written record.
  pub put-versions : (buffer : List ℕ) (version : ℕ) (bytes : List ℕ) (ps : Programs) (rows : List (Row Label)) → PutChecked n t buffer version bytes ps rows →
      Versions n (set ps version (some (written_record rows)))
  put-versions buffer version bytes ps rows passes =
      set-versions n ps version (some (written_record rows)) passes.holds.versions
      (λ q d. subst (WrittenRecord n) (some-injective d) (program-written n t bytes rows passes.reads))

  pub drop-versions : (buffer : List ℕ) (version : ℕ) (ps : Programs) (p : List ℕ) → VersionChecked n t buffer version ps p → Versions n (set ps version none)
  drop-versions buffer version ps p passes = set-versions n ps version none passes.holds.versions (λ q d. none-some d)

  module _ (buffer : List ℕ) (version : ℕ) where
    -- What a call goes on with, by the table's check and by what the buffer holds.
    table-first : (o : TableAnswer) → opened n t ≡ o → (next : Programs → Made) → in_table n t next buffer ≡ checked stopped o (on_held (held n t buffer) next)
    table-first o e next = ap (λ (x : TableAnswer). checked stopped x (on_held (held n t buffer) next)) e

    none-held : HoldsNone n t buffer → held n t buffer ≡ none
    none-held none-holds = go (held n t buffer) refl
      where
        go : (o : Option Programs) → held n t buffer ≡ o → o ≡ none
        go none e = refl
        go (some ps) e = absurd (none-holds ps (held-sound n t buffer ps e))

    held_none : opened n t ≡ Ok tt → held n t buffer ≡ none → HoldsNone n t buffer
    held_none opens e ps holds = none-some (sym e ∙ held-complete n t opens buffer ps holds)

    stateless : opened n t ≡ Ok tt → HoldsNone n t buffer → (next : Programs → Made) → in_table n t next buffer ≡ stopped (Graph Malformed First)
    stateless opens none-holds next =
        table-first (Ok tt) opens next ∙ ap (λ (h : Option Programs). on_held h next) (none-held none-holds)

    -- Put.
    module _ (bytes : List ℕ) where
      put-due : PutDue n t buffer version bytes (putting n t buffer version bytes).reply
      unfolding putting
      put-due = table (opened n t) refl
        where
          ends : (ps : Programs) (rows : List (Row Label)) → PutChecked n t buffer version bytes ps rows → (m : Made) →
              way n t (length buffer) (set ps version (some (written_record rows))) ≡ m → PutDue n t buffer version bytes (settled buffer m).reply
          ends ps rows passes (made s) e = due.used ps rows s passes e
          ends ps rows passes (stopped r) e =
              due.met ps rows r passes
              ((way-meets n t passes.opens (length buffer) (set ps version (some (written_record rows))) (put-versions buffer version bytes ps rows passes) r).0 e)

          test : (ps : Programs) (rows : List (Row Label)) → opened n t ≡ Ok tt → Holds n t buffer ps → reading n bytes ≡ accepted rows →
              (b : Bool) → ltb version 16 ≡ b → (o : Option (List ℕ)) → get_or ps version none ≡ o →
              PutDue n t buffer version bytes
              (settled buffer (cond (b && is_none o) (way n t (length buffer) (set ps version (some (written_record rows)))) (stopped WrongVersion))).reply
          test ps rows opens holds reads false x o y = due.numbered ps rows opens holds reads (inl (omega (arith, ltb-false version 16 x)))
          test ps rows opens holds reads true x (some p) y = due.numbered ps rows opens holds reads (inr (p, y))
          test ps rows opens holds reads true x none y =
              ends ps rows (record { opens = opens; holds = holds; reads = reads; numbered = ltb-true version 16 x; absent = y })
              (way n t (length buffer) (set ps version (some (written_record rows)))) refl

          read : (ps : Programs) → opened n t ≡ Ok tt → Holds n t buffer ps → (o : Reading) → reading n bytes ≡ o →
              PutDue n t buffer version bytes
              (settled buffer (on_program o λ p. on_absent ps version (way n t (length buffer) (set ps version (some p))))).reply
          read ps opens holds (refused fault) e = due.program ps fault opens holds e
          read ps opens holds (accepted rows) e = test ps rows opens holds e (ltb version 16) refl (get_or ps version none) refl

          state : opened n t ≡ Ok tt → (o : Option Programs) → held n t buffer ≡ o →
              PutDue n t buffer version bytes (settled buffer (on_held o (put_among n t (length buffer) version bytes))).reply
          state opens none e = due.no-state opens (held_none opens e)
          state opens (some ps) e = read ps opens (held-sound n t buffer ps e) (reading n bytes) refl

          table : (o : TableAnswer) → opened n t ≡ o →
              PutDue n t buffer version bytes (settled buffer (checked stopped o (on_held (held n t buffer) (put_among n t (length buffer) version bytes)))).reply
          table (Err fault) e = due.table fault e
          table (Ok tt) e = state e (held n t buffer) refl

      -- A put that passes its checks goes the way of the new programs.
      pub put-goes : (ps : Programs) (rows : List (Row Label)) → PutChecked n t buffer version bytes ps rows →
          putting n t buffer version bytes ≡ settled buffer (way n t (length buffer) (set ps version (some (written_record rows))))
      put-goes ps rows passes =
          putting-is n t passes.opens buffer ps passes.holds version bytes ∙
          ap (settled buffer)
          (ap (λ (o : Reading). on_program o λ p. on_absent ps version (way n t (length buffer) (set ps version (some p)))) passes.reads ∙
          ap₂ (λ (b : Bool) (o : Option (List ℕ)). cond (b && is_none o) (way n t (length buffer) (set ps version (some (written_record rows)))) (stopped WrongVersion))
          (lt-ltb version 16 passes.numbered) passes.absent)

      put-replies : {r : Reply} → PutDue n t buffer version bytes r → (putting n t buffer version bytes).reply ≡ r
      unfolding putting
      put-replies (due.table fault e) =
          ap (λ (m : Made). (settled buffer m).reply) (table-first (Err fault) e (put_among n t (length buffer) version bytes))
      put-replies (due.no-state opens none-holds) =
          ap (λ (m : Made). (settled buffer m).reply) (stateless opens none-holds (put_among n t (length buffer) version bytes))
      put-replies (due.program ps fault opens holds reads) =
          ap (λ (x : Result). x.reply) (putting-is n t opens buffer ps holds version bytes) ∙
          ap (λ (o : Reading). (settled buffer (on_program o λ p. on_absent ps version (way n t (length buffer) (set ps version (some p))))).reply) reads
      put-replies (due.numbered ps rows opens holds reads wrong) =
          ap (λ (x : Result). x.reply) (putting-is n t opens buffer ps holds version bytes) ∙
          ap (λ (o : Reading). (settled buffer (on_program o λ p. on_absent ps version (way n t (length buffer) (set ps version (some p))))).reply) reads ∙
          ap (λ (b : Bool). (settled buffer (cond b (way n t (length buffer) (set ps version (some (written_record rows)))) (stopped WrongVersion))).reply)
          (⊎_elim (λ high. ap (λ (b : Bool). b && is_none (get_or ps version none)) (le-ltb version 16 (omega arith)))
          (λ (p, there). go (ltb version 16) (get_or ps version none) p there) wrong)
        where
          go : (b : Bool) (o : Option (List ℕ)) (p : List ℕ) → o ≡ some p → b && is_none o ≡ false
          go true none p e = none-some e
          go true (some q) p e = refl
          go false o p e = refl
      put-replies (due.met ps rows r passes meets) =
          ap (λ (x : Result). x.reply) (put-goes ps rows passes) ∙
          ap (λ (m : Made). (settled buffer m).reply)
          ((way-meets n t passes.opens (length buffer) (set ps version (some (written_record rows))) (put-versions buffer version bytes ps rows passes) r).1 meets)
      put-replies (due.used ps rows s passes e) =
          ap (λ (x : Result). x.reply) (put-goes ps rows passes) ∙ ap (λ (m : Made). (settled buffer m).reply) e

      pub put-exact : (r : Reply) → ((putting n t buffer version bytes).reply ≡ r) ↔ PutDue n t buffer version bytes r
      put-exact r = (λ e. subst (PutDue n t buffer version bytes) e put-due, put-replies)

    -- A version that a drop or a read refuses by 20 is absent.
    pub wrong-absent : (ps : Programs) → Holds n t buffer ps → (15 < version) ⊎ (get_or ps version none ≡ none) → get_or ps version none ≡ none
    wrong-absent ps holds = ⊎_elim (above-absent n ps holds.versions version) (λ e. e)

    -- Drop.
    drop-due : DropDue n t buffer version (dropping n t buffer version).reply
    unfolding dropping
    drop-due = table (opened n t) refl
      where
        ends : (ps : Programs) (p : List ℕ) → VersionChecked n t buffer version ps p → (m : Made) → way n t (length buffer) (set ps version none) ≡ m →
            DropDue n t buffer version (settled buffer m).reply
        ends ps p passes (made s) e = due.used ps p s passes e
        ends ps p passes (stopped r) e =
            due.met ps p r passes
            ((way-meets n t passes.opens (length buffer) (set ps version none) (drop-versions buffer version ps p passes) r).0 e)

        test : (ps : Programs) → opened n t ≡ Ok tt → Holds n t buffer ps → (o : Option (List ℕ)) → get_or ps version none ≡ o →
            DropDue n t buffer version (settled buffer (on_present o λ p. way n t (length buffer) (set ps version none))).reply
        test ps opens holds none e = due.numbered ps opens holds (inr e)
        test ps opens holds (some p) e =
            ends ps p (record { opens = opens; holds = holds; present = e }) (way n t (length buffer) (set ps version none)) refl

        state : opened n t ≡ Ok tt → (o : Option Programs) → held n t buffer ≡ o →
            DropDue n t buffer version (settled buffer (on_held o (drop_among n t (length buffer) version))).reply
        state opens none e = due.no-state opens (held_none opens e)
        state opens (some ps) e = test ps opens (held-sound n t buffer ps e) (get_or ps version none) refl

        table : (o : TableAnswer) → opened n t ≡ o →
            DropDue n t buffer version (settled buffer (checked stopped o (on_held (held n t buffer) (drop_among n t (length buffer) version)))).reply
        table (Err fault) e = due.table fault e
        table (Ok tt) e = state e (held n t buffer) refl

    -- A drop that passes its checks goes the way of the remaining programs.
    pub drop-goes : (ps : Programs) (p : List ℕ) → VersionChecked n t buffer version ps p →
        dropping n t buffer version ≡ settled buffer (way n t (length buffer) (set ps version none))
    drop-goes ps p passes =
        dropping-is n t passes.opens buffer ps passes.holds version ∙
        ap (λ (o : Option (List ℕ)). settled buffer (on_present o λ p. way n t (length buffer) (set ps version none))) passes.present

    drop-replies : {r : Reply} → DropDue n t buffer version r → (dropping n t buffer version).reply ≡ r
    unfolding dropping
    drop-replies (due.table fault e) =
        ap (λ (m : Made). (settled buffer m).reply) (table-first (Err fault) e (drop_among n t (length buffer) version))
    drop-replies (due.no-state opens none-holds) =
        ap (λ (m : Made). (settled buffer m).reply) (stateless opens none-holds (drop_among n t (length buffer) version))
    drop-replies (due.numbered ps opens holds wrong) =
        ap (λ (x : Result). x.reply) (dropping-is n t opens buffer ps holds version) ∙
        ap (λ (o : Option (List ℕ)). (settled buffer (on_present o λ p. way n t (length buffer) (set ps version none))).reply) (wrong-absent ps holds wrong)
    drop-replies (due.met ps p r passes meets) =
        ap (λ (x : Result). x.reply) (drop-goes ps p passes) ∙
        ap (λ (m : Made). (settled buffer m).reply)
        ((way-meets n t passes.opens (length buffer) (set ps version none) (drop-versions buffer version ps p passes) r).1 meets)
    drop-replies (due.used ps p s passes e) =
        ap (λ (x : Result). x.reply) (drop-goes ps p passes) ∙ ap (λ (m : Made). (settled buffer m).reply) e

    pub drop_exact : (r : Reply) → ((dropping n t buffer version).reply ≡ r) ↔ DropDue n t buffer version r
    drop_exact r = (λ e. subst (DropDue n t buffer version) e drop-due, drop-replies)

    -- Read.
    module _ (out : List ℕ) where
      abbrev back_by : List ℕ → Bool → Result
      back_by p b = result_of (cond b (yielding (Ok (length p)) (p ++ drop (length p) out)) (yielding (Err unwritten.NoRoom) out))

      read-due : ReadDue n t buffer version (length out) (fetching n t buffer version out).reply
      unfolding fetching fitted
      read-due = table (opened n t) refl
        where
          fits : (ps : Programs) (p : List ℕ) → VersionChecked n t buffer version ps p → (b : Bool) → leb (length p) (length out) ≡ b →
              ReadDue n t buffer version (length out) (back_by p b).reply
          fits ps p passes true e = due.fits ps p passes (leb-true (length p) (length out) e)
          fits ps p passes false e = due.shorter ps p passes (leb-false (length p) (length out) e)

          test : (ps : Programs) → opened n t ≡ Ok tt → Holds n t buffer ps → (o : Option (List ℕ)) → get_or ps version none ≡ o →
              ReadDue n t buffer version (length out) (given out (on_present o made)).reply
          test ps opens holds none e = due.numbered ps opens holds (inr e)
          test ps opens holds (some p) e =
              fits ps p (record { opens = opens; holds = holds; present = e }) (leb (length p) (length out)) refl

          state : opened n t ≡ Ok tt → (o : Option Programs) → held n t buffer ≡ o →
              ReadDue n t buffer version (length out) (given out (on_held o λ ps. on_present (get_or ps version none) made)).reply
          state opens none e = due.no-state opens (held_none opens e)
          state opens (some ps) e = test ps opens (held-sound n t buffer ps e) (get_or ps version none) refl

          table : (o : TableAnswer) → opened n t ≡ o →
              ReadDue n t buffer version (length out) (given out (checked stopped o (on_held (held n t buffer) λ ps. on_present (get_or ps version none) made))).reply
          table (Err fault) e = due.table fault e
          table (Ok tt) e = state e (held n t buffer) refl

      -- A read that passes its checks writes the version's record.
      pub read_goes : (ps : Programs) (p : List ℕ) → VersionChecked n t buffer version ps p → fetching n t buffer version out ≡ result_of (fitted p out)
      read_goes ps p passes =
          fetching-is n t passes.opens buffer ps passes.holds version out ∙
          ap (λ (o : Option (List ℕ)). given out (on_present o made)) passes.present

      read-replies : {r : Reply} → ReadDue n t buffer version (length out) r → (fetching n t buffer version out).reply ≡ r
      unfolding fetching fitted
      read-replies (due.table fault e) =
          ap (λ (m : Made). (given out m).reply) (table-first (Err fault) e (λ ps. on_present (get_or ps version none) made))
      read-replies (due.no-state opens none-holds) =
          ap (λ (m : Made). (given out m).reply) (stateless opens none-holds (λ ps. on_present (get_or ps version none) made))
      read-replies (due.numbered ps opens holds wrong) =
          ap (λ (x : Result). x.reply) (fetching-is n t opens buffer ps holds version out) ∙
          ap (λ (o : Option (List ℕ)). (given out (on_present o made)).reply) (wrong-absent ps holds wrong)
      read-replies (due.shorter ps p passes less) =
          ap (λ (x : Result). x.reply) (read_goes ps p passes) ∙ ap (λ (b : Bool). (back_by p b).reply) (lt-leb (length p) (length out) less)
      read-replies (due.fits ps p passes fit) =
          ap (λ (x : Result). x.reply) (read_goes ps p passes) ∙ ap (λ (b : Bool). (back_by p b).reply) (le-leb (length p) (length out) fit)

      pub read-exact : (r : Reply) → ((fetching n t buffer version out).reply ≡ r) ↔ ReadDue n t buffer version (length out) r
      read-exact r = (λ e. subst (ReadDue n t buffer version (length out)) e read-due, read-replies)
