-- A longer buffer that begins with the used bytes holds the same programs; and calls in turn on any buffer that holds programs.
use mathlib.Core.Path.{◌≡◌, refl, sym, ◌∙◌, ap, subst}
use mathlib.Core.Bool.{Bool, true, false, cond}
use mathlib.Core.List.{List, [], ◌∷◌, ◌++◌}
use mathlib.Core.Logic.{◌↔◌, ◌⊎◌, inl, inr, ⊎_elim}
use mathlib.Core.Option.{Option, none, some}
use Prim.Native.Nat.{ℕ, ◌≤◌}
use native.Mathlib.Omega.{arith}
use borrow.Author.Tests.{leb-true, le-leb}
use lib.Dec.{leb}
use lib.ListN.{length, get_or, set, take, drop, take-append-drop}
use lib.Seq.{take-append_seam}
use Rattle.graphs.specs.Rows.{Row}
use Rattle.lattice.specs.Label.{Label}
use Rattle.std.specs.Prelude.{Ok}
use Rattle.acceptance.specs.Reply.{opened}
use Rattle.record.specs.Read.{accepted, reading}
use Rattle.replies.specs.Replies.{Length, NoStoreRoom, WrongVersion}
use Rattle.replies.specs.Reply.{Result}
use Rattle.gathering.proofs.Told.{none-some}
use Rattle.versions.specs.State.{Made, made, stopped, and_then, Programs, empty_state, state_of, differences, within, stored, way}
use Rattle.contents.specs.Contents.{written_record, given, on_present}
use Rattle.store.specs.Calls.{settled, putting, dropping, fetching}
use Rattle.stored.specs.Turns.{Call, buffer_after, written_in, programs_after, puts_from, Drops, Keeps}
use Rattle.stored.specs.Theorem.{Holds, Passed, start, absent, steps, PutChecked, VersionChecked, PutDue, DropDue, ReadDue}
use Rattle.stored.specs.Theorem as due
use Rattle.stored.proofs.Records.{stopped-made}
use Rattle.stored.proofs.Way.{way-passes}
use Rattle.stored.proofs.Calls.{fetching-is, calls-hold}
use Rattle.stored.proofs.Puts.{way-by-puts}
use Rattle.stored.proofs.Exact.{put-goes, drop-goes, wrong-absent, put-exact, drop_exact, read-exact}
use Rattle.stored.proofs.Kept.{kept_on, kept-program, program-kept}
use Rattle.stored.proofs.Theorems.{holds-one}

-- Only the test for 21 depends on the room: what is made in a room is made in a longer one.
module _ (room more : ℕ) (long : room ≤ more) where
  within-longer : (bytes s : List ℕ) → within room bytes ≡ made s → within more bytes ≡ made s
  unfolding within
  within-longer bytes s e = go (leb (length bytes) room) refl e
    where
      go : (b : Bool) → leb (length bytes) room ≡ b → cond b (made bytes) (stopped NoStoreRoom) ≡ made s →
          cond (leb (length bytes) more) (made bytes) (stopped NoStoreRoom) ≡ made s
      go true q d =
          ap (λ (b : Bool). cond b (made bytes) (stopped NoStoreRoom)) (le-leb (length bytes) more (omega (arith, long, leb-true (length bytes) room q))) ∙ d
      go false q d = stopped-made d

  module _ (n : ℕ) (t : List ℕ) where
    stored-longer : (part : List ℕ) (ps : Programs) (s : List ℕ) → stored n t room part ps ≡ made s → stored n t more part ps ≡ made s
    unfolding stored
    stored-longer part ps s = go (differences n t part ps)
      where
        go : (m : Made) → and_then m (λ ds. within room (state_of ps part ds)) ≡ made s → and_then m (λ ds. within more (state_of ps part ds)) ≡ made s
        go (made ds) e = within-longer (state_of ps part ds) s e
        go (stopped r) e = stopped-made e

    -- The way in a longer room goes the same steps.
    pub passed-longer : {behind : Programs} {part : Option (List ℕ)} {state : List ℕ} → Passed n t room behind part state → Passed n t more behind part state
    passed-longer start = start
    passed-longer (absent behind part state before) = absent behind part state (passed-longer before)
    passed-longer (steps behind part state program c s before is reached) =
        steps behind part state program c s (passed-longer before) is (stored-longer c (behind ++ some program ∷ []) s reached)

    pub way-longer : (ps : Programs) (s : List ℕ) → way n t room ps ≡ made s → way n t more ps ≡ made s
    way-longer ps s e =
        let (last, passed) = (way-passes n t room ps s).0 e in
        (way-passes n t more ps s).1 (last, passed-longer passed)

-- A buffer that is at least as long, of at most 16,384 bytes, and begins with the used bytes holds the same programs.
module _ (n : ℕ) (t buffer longer : List ℕ) (ps : Programs) (holds : Holds n t buffer ps) (long : length buffer ≤ length longer)
    (lent : length longer ≤ 16384) (same : take (length holds.state) longer ≡ holds.state) where
  same-used : (s : List ℕ) (x y : Result) → x ≡ settled longer (made s) → y ≡ settled buffer (made s) → take (length s) x.output ≡ take (length s) y.output
  same-used s x y e d =
      ap (λ (z : Result). take (length s) z.output) e ∙ take-append_seam s (drop (length s) longer) ∙
      sym (ap (λ (z : Result). take (length s) z.output) d ∙ take-append_seam s (drop (length s) buffer))

  pub longer-holds : Holds n t longer ps
  longer-holds =
      record {
        versions = holds.versions;
        lent = lent;
        state = holds.state;
        reached = way-longer (length buffer) (length longer) long n t ps holds.state holds.reached;
        first =
            sym (take-append-drop (length holds.state) longer) ∙
            ap (λ (s : List ℕ). s ++ drop (length holds.state) longer) same;
      }

  -- Every version is read from it as before.
  pub longer-reads : opened n t ≡ Ok tt → (version : ℕ) (out : List ℕ) → fetching n t longer version out ≡ fetching n t buffer version out
  longer-reads opens version out =
      fetching-is n t opens longer ps longer-holds version out ∙ sym (fetching-is n t opens buffer ps holds version out)

  -- A put, and a drop, that is answered by a length here is answered by that length there, and leaves the same used bytes.
  pub longer-put : (version : ℕ) (bytes : List ℕ) (l : ℕ) → (putting n t buffer version bytes).reply ≡ Length l →
      ((putting n t longer version bytes).reply ≡ Length l) ×
      (take l (putting n t longer version bytes).output ≡ take l (putting n t buffer version bytes).output)
  longer-put version bytes l e = go l ((put-exact n t buffer version bytes (Length l)).0 e)
    where
      go : (l : ℕ) → PutDue n t buffer version bytes (Length l) →
          ((putting n t longer version bytes).reply ≡ Length l) ×
          (take l (putting n t longer version bytes).output ≡ take l (putting n t buffer version bytes).output)
      go _ (due.used qs rows s passes reached) =
          let passes-there : PutChecked n t longer version bytes qs rows =
          record {
            opens = passes.opens;
            holds = subst (Holds n t longer) (holds-one n t passes.opens buffer ps qs holds passes.holds) longer-holds;
            reads = passes.reads;
            numbered = passes.numbered;
            absent = passes.absent;
          } in
          let here : putting n t buffer version bytes ≡ settled buffer (made s) =
          put-goes n t buffer version bytes qs rows passes ∙ ap (settled buffer) reached in
          let there : putting n t longer version bytes ≡ settled longer (made s) =
          put-goes n t longer version bytes qs rows passes-there ∙
          ap (settled longer) (way-longer (length buffer) (length longer) long n t (set qs version (some (written_record rows))) s reached) in
          (ap (λ (y : Result). y.reply) there, same-used s (putting n t longer version bytes) (putting n t buffer version bytes) there here)
      go m (due.met qs rows _ passes meets) = elim meets [ ]

  pub longer-drop : (version : ℕ) (l : ℕ) → (dropping n t buffer version).reply ≡ Length l →
      ((dropping n t longer version).reply ≡ Length l) × (take l (dropping n t longer version).output ≡ take l (dropping n t buffer version).output)
  longer-drop version l e = go l ((drop_exact n t buffer version (Length l)).0 e)
    where
      go : (l : ℕ) → DropDue n t buffer version (Length l) →
          ((dropping n t longer version).reply ≡ Length l) × (take l (dropping n t longer version).output ≡ take l (dropping n t buffer version).output)
      go _ (due.used qs p s passes reached) =
          let passes-there : VersionChecked n t longer version qs p =
          record {
            opens = passes.opens;
            holds = subst (Holds n t longer) (holds-one n t passes.opens buffer ps qs holds passes.holds) longer-holds;
            present = passes.present;
          } in
          let here : dropping n t buffer version ≡ settled buffer (made s) = drop-goes n t buffer version qs p passes ∙ ap (settled buffer) reached in
          let there : dropping n t longer version ≡ settled longer (made s) =
          drop-goes n t longer version qs p passes-there ∙
          ap (settled longer) (way-longer (length buffer) (length longer) long n t (set qs version none) s reached) in
          (ap (λ (y : Result). y.reply) there, same-used s (dropping n t longer version) (dropping n t buffer version) there here)
      go m (due.met qs p _ passes meets) = elim meets [ ]

-- Calls in turn on a buffer that holds programs.
module _ (n : ℕ) (t : List ℕ) (opens : opened n t ≡ Ok tt) (buffer : List ℕ) (ps : Programs) (holds : Holds n t buffer ps) (cs : List Call) where
  -- The programs after the calls are those that were put and not dropped since, and those that were there before and were not dropped.
  pub kept-exact : (version : ℕ) (p : List ℕ) → (get_or (programs_after n t buffer ps cs) version none ≡ some p) ↔
      (((bytes : List ℕ) × (rows : List (Row Label)) × Keeps n t version bytes buffer cs × (reading n bytes ≡ accepted rows) × (p ≡ written_record rows)) ⊎
      ((get_or ps version none ≡ some p) × (Drops n t version buffer cs → ⊥)))
  kept-exact version p = (
    λ e. ⊎_elim
        (λ (bytes, keeps, is). let (rows, reads, at) = kept-program n t opens version bytes cs buffer ps holds keeps in
        inl (bytes, rows, keeps, reads, is ∙ ap written_in reads))
        inr
        (program-kept n t opens version cs buffer ps holds p e),
    ⊎_elim
        (λ (bytes, rows, keeps, reads, is). let (others, again, at) = kept-program n t opens version bytes cs buffer ps holds keeps in
        let one : others ≡ rows = let q : accepted others ≡ accepted rows = sym again ∙ reads in cc in
        at ∙ ap (λ (r : List (Row Label)). some (written_record r)) one ∙ ap some (sym is))
        (λ (there, kept). kept_on n t opens version cs buffer ps holds p there kept),
  )

  -- A version that was there before and was not dropped is read as before.
  pub read_stays : (version : ℕ) (p : List ℕ) → get_or ps version none ≡ some p → (Drops n t version buffer cs → ⊥) → (out : List ℕ) →
      fetching n t (buffer_after n t buffer cs) version out ≡ fetching n t buffer version out
  read_stays version p there kept out =
      fetching-is n t opens (buffer_after n t buffer cs) (programs_after n t buffer ps cs) (calls-hold n t opens cs buffer ps holds).1 version out ∙
      ap (λ (o : Option (List ℕ)). given out (on_present o made)) (kept_on n t opens version cs buffer ps holds p there kept ∙ sym there) ∙
      sym (fetching-is n t opens buffer ps holds version out)

  -- A read gives 20 exactly where the version was not put and kept, and was not there before and kept.
  pub read-unkept : (version : ℕ) (out : List ℕ) → ((fetching n t (buffer_after n t buffer cs) version out).reply ≡ WrongVersion) ↔
      (((bytes : List ℕ) → Keeps n t version bytes buffer cs → ⊥) × ((p : List ℕ) → get_or ps version none ≡ some p → (Drops n t version buffer cs → ⊥) → ⊥))
  read-unkept version out = (
    λ e. let gone = absent-now ((read-exact n t after version out WrongVersion).0 e) in (
      λ bytes keeps. let (rows, reads, at) = kept-program n t opens version bytes cs buffer ps holds keeps in none-some (sym gone ∙ at),
      λ p there kept. none-some (sym gone ∙ kept_on n t opens version cs buffer ps holds p there kept),
    ),
    λ (unput, unkept). (read-exact n t after version out WrongVersion).1
        (due.numbered now opens after_holds (inr (missing unput unkept (get_or now version none) refl))),
  )
    where
      after : List ℕ
      after = buffer_after n t buffer cs

      now : Programs
      now = programs_after n t buffer ps cs

      after_holds : Holds n t after now
      after_holds = (calls-hold n t opens cs buffer ps holds).1

      absent-now : ReadDue n t after version (length out) WrongVersion → get_or now version none ≡ none
      absent-now (due.numbered qs _ held wrong) =
          ap (λ (rs : Programs). get_or rs version none) (holds-one n t opens after now qs after_holds held) ∙ wrong-absent n t after version qs held wrong

      missing : ((bytes : List ℕ) → Keeps n t version bytes buffer cs → ⊥) → ((p : List ℕ) → get_or ps version none ≡ some p → (Drops n t version buffer cs → ⊥) → ⊥) →
          (o : Option (List ℕ)) → get_or now version none ≡ o → get_or now version none ≡ none
      missing unput unkept none e = e
      missing unput unkept (some p) e =
          ⊎_elim (λ (bytes, _, keeps, _, _). absurd (unput bytes keeps)) (λ (there, kept). absurd (unkept p there kept)) ((kept-exact version p).0 e)

  -- The used bytes are those of an empty store of the same length, with anything behind its two bytes, into which the programs were put in
  -- version order.
  pub used-by-puts : (s : List ℕ) ×
      ((rest : List ℕ) → length (empty_state ++ rest) ≡ length buffer →
      puts_from n t (empty_state ++ rest) empty_state 0 (programs_after n t buffer ps cs) ≡ made s) ×
      (buffer_after n t buffer cs ≡ s ++ drop (length s) (buffer_after n t buffer cs))
  used-by-puts =
      let (long, held) = calls-hold n t opens cs buffer ps holds in (
        held.state,
        λ rest same. way-by-puts n t opens rest (omega (arith, same, holds.lent)) (programs_after n t buffer ps cs) held.versions ∙
            ap (λ (k : ℕ). way n t k (programs_after n t buffer ps cs)) (same ∙ sym long) ∙ held.reached,
        held.first,
      )
