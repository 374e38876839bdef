-- The proofs on the calls of a store: what the calls leave in the buffer, what a read gives, and that bytes past the used ones do not matter.
use mathlib.Core.Path.{◌≡◌, refl, sym, ◌∙◌, ap, ap₂, subst}
use mathlib.Core.Bool.{Bool, true, false, cond, ◌&&◌}
use mathlib.Core.List.{List, [], ◌∷◌, ◌++◌}
use mathlib.Core.Logic.{◌≢◌, ◌↔◌, inr, ⊎_elim}
use mathlib.Core.Option.{Option, none, some}
use Prim.Native.Nat.{ℕ, suc, ◌≤◌, ◌<◌}
use native.Mathlib.Omega.{arith}
use lib.Dec.{eqb, ltb, leb}
use lib.ListN.{length, get_or, set, take, drop, take-append-drop}
use lib.Seq.{get_or-set_same, get_or-set_other, take-append_seam, drop-append_seam}
use Rattle.std.specs.Prelude.{Ok, Err}
use Rattle.graphs.specs.Graph.{SameMeaning}
use Rattle.graphs.specs.Rows.{Row}
use Rattle.graphs.specs.Number.{Canonical, canonical, written}
use Rattle.graphs.proofs.Walk.{some-injective}
use Rattle.lattice.specs.Label.{Label}
use Rattle.lattice.specs.Labels.{table_labels}
use Rattle.lattice.specs.Table.{admits}
use Rattle.acceptance.specs.Reply.{opened}
use Rattle.encoder.specs.Encode.{encoded}
use Rattle.encode.specs.declared.Unwritten.TheVariants as unwritten
use Rattle.encode.specs.Encode.{fitted, yielding, written_out}
use Rattle.record.specs.Read.{Reading, refused, accepted, reading, graph_of_rows}
use Rattle.record.proofs.Theorems.{accepted-fits}
use Rattle.difference.specs.Difference.{numbered}
use Rattle.replies.specs.Replies.{Reply}
use Rattle.replies.specs.Replies.{Length, NoWantedType, WrongVersion}
use Rattle.replies.specs.Reply.{Result, refusing, result_of, refusal}
use Rattle.calls.specs.Calls.{rewriting}
use Rattle.demands.specs.Demand.{WrittenRecord}
use Rattle.demands.proofs.Results.{rewriting-is}
use Rattle.demands.proofs.Demands.{meaning-bytes, meaning-rewriting}
use Rattle.gathering.proofs.Told.{none-some}
use Rattle.versions.specs.State.{Made, made, stopped, Programs, no_programs, empty_state, way, held}
use Rattle.contents.specs.Contents.{on_program, on_absent, on_present, is_none, written_record, given, put_among, drop_among}
use Rattle.store.specs.Calls.{settled, in_table, putting, dropping, fetching}
use Rattle.stored.specs.Turns.{Call, put, remove, fetch, called, buffer_after, replies, written_in, programs_after, puts_from, Keeps}
use Rattle.stored.specs.Theorem.{Versions, Holds, HoldsNone, Changed, Alike, PutChecked, VersionChecked, PutDue, DropDue, ReadDue}
use Rattle.stored.specs.Theorem as due
use Rattle.stored.proofs.Records.{made-injective, stopped-made, program-written}
use Rattle.stored.proofs.Held.{absent-all, held-sound, held-complete, empty-way, empty-held}
use Rattle.stored.proofs.Held as Held
use Rattle.stored.proofs.Stops.{never_met}
use Rattle.stored.proofs.Calls.{set-versions, holds-long, over-length, written_over, putting-is, dropping-is, fetching-is, calls-hold}
use Rattle.stored.proofs.Puts.{way-by-puts}
use Rattle.stored.proofs.Exact.{put-versions, drop-versions, put-goes, drop-goes, read_goes, wrong-absent, put-exact, drop_exact, read-exact}
use Rattle.stored.proofs.Kept.{gone, kept-program, program-kept}

-- The record that is read back is what rewriting the program gives.
written-record : (n : ℕ) (t bytes : List ℕ) (rows : List (Row Label)) → opened n t ≡ Ok tt → reading n bytes ≡ accepted rows → (out : List ℕ) →
    rewriting n t bytes out ≡ result_of (fitted (written_record rows) out)
unfolding written_out
written-record n t bytes rows opens reads out =
    rewriting-is n t bytes rows opens reads out ∙ go (accepted-fits n bytes rows reads)
  where
    go : (form : List (Row Label)) × (canonical eqb (graph_of_rows rows) ≡ written form) →
        result_of (written_out (canonical eqb (graph_of_rows rows)) out) ≡ result_of (fitted (encoded (numbered (canonical eqb (graph_of_rows rows)))) out)
    go (form, e) =
        ap (λ (c : Canonical Label). result_of (written_out c out)) e ∙
        ap (λ (c : Canonical Label). result_of (fitted (encoded (numbered c)) out)) (sym e)

-- A refused call leaves every byte as it was, whatever is handed in.
settled-refused : (buffer : List ℕ) (m : Made) (k : ℕ) → refusal (settled buffer m).reply ≡ some k → (settled buffer m).output ≡ buffer
settled-refused buffer (made state) k e = none-some e
settled-refused buffer (stopped r) k e = refl

given-refused : (out : List ℕ) (m : Made) (k : ℕ) → refusal (given out m).reply ≡ some k → (given out m).output ≡ out
unfolding fitted
given-refused out (made p) k e = go (leb (length p) (length out)) e
  where
    go : (b : Bool) →
        refusal (result_of (cond b (yielding (Ok (length p)) (p ++ drop (length p) out)) (yielding (Err unwritten.NoRoom) out))).reply ≡ some k →
        (result_of (cond b (yielding (Ok (length p)) (p ++ drop (length p) out)) (yielding (Err unwritten.NoRoom) out))).output ≡ out
    go true d = none-some d
    go false d = refl
given-refused out (stopped r) k e = refl

module _ (n : ℕ) (t buffer : List ℕ) (version : ℕ) (k : ℕ) where
  pub put_refused : (bytes : List ℕ) → refusal (putting n t buffer version bytes).reply ≡ some k → (putting n t buffer version bytes).output ≡ buffer
  unfolding putting
  put_refused bytes = settled-refused buffer (in_table n t (put_among n t (length buffer) version bytes) buffer) k

  pub drop-refused : refusal (dropping n t buffer version).reply ≡ some k → (dropping n t buffer version).output ≡ buffer
  unfolding dropping
  drop-refused = settled-refused buffer (in_table n t (drop_among n t (length buffer) version) buffer) k

  pub read-refused : (out : List ℕ) → refusal (fetching n t buffer version out).reply ≡ some k → (fetching n t buffer version out).output ≡ out
  unfolding fetching
  read-refused out = given-refused out (in_table n t (λ ps. on_present (get_or ps version none) made) buffer) k

module _ (n : ℕ) (t : List ℕ) where
  -- A buffer above 16,384 bytes holds no programs, nor does one below 2.
  pub long-none : (buffer : List ℕ) → 16384 < length buffer → HoldsNone n t buffer
  long-none buffer h ps holds = omega (arith, holds.lent)

  pub short_none : (buffer : List ℕ) → length buffer < 2 → HoldsNone n t buffer
  short_none buffer h ps holds = omega (arith, holds-long n t buffer ps holds)

  -- The state of a buffer is the end of its programs' way.
  state-is : (buffer : List ℕ) (ps : Programs) (holds : Holds n t buffer ps) (room : ℕ) → length buffer ≡ room → (s : List ℕ) → way n t room ps ≡ made s →
      holds.state ≡ s
  state-is buffer ps holds room long s e = made-injective (sym holds.reached ∙ ap (λ (k : ℕ). way n t k ps) long ∙ e)

  -- Writing the state of programs over the first bytes leaves a buffer that holds these programs.
  changed-over : (buffer : List ℕ) (ps qs : Programs) → Holds n t buffer ps → Versions n qs → (s : List ℕ) → way n t (length buffer) qs ≡ made s →
      Changed n t buffer (length s) (s ++ drop (length s) buffer) qs
  changed-over buffer ps qs holds versions s reached =
      let long : length (s ++ drop (length s) buffer) ≡ length buffer = over-length n t buffer ps qs holds versions s reached in
      let over : Holds n t (s ++ drop (length s) buffer) qs = written_over n t buffer ps qs holds versions s reached in
      record {
        holds = over;
        used = ap length (state-is (s ++ drop (length s) buffer) qs over (length buffer) long s reached);
        others = drop-append_seam s (drop (length s) buffer);
        long = long;
      }

  -- What a put that is answered by a length leaves.
  pub put-changes : (buffer : List ℕ) (version : ℕ) (bytes : List ℕ) (l : ℕ) → (putting n t buffer version bytes).reply ≡ Length l →
      (ps : Programs) × (rows : List (Row Label)) × PutChecked n t buffer version bytes ps rows ×
      Changed n t buffer l (putting n t buffer version bytes).output (set ps version (some (written_record rows)))
  put-changes buffer version bytes l e = go l ((put-exact n t buffer version bytes (Length l)).0 e)
    where
      go : (l : ℕ) → PutDue n t buffer version bytes (Length l) →
          (ps : Programs) × (rows : List (Row Label)) × PutChecked n t buffer version bytes ps rows ×
          Changed n t buffer l (putting n t buffer version bytes).output (set ps version (some (written_record rows)))
      go _ (due.used ps rows s passes reached) = (
        ps,
        rows,
        passes,
        subst (λ (x : Result). Changed n t buffer (length s) x.output (set ps version (some (written_record rows))))
            (sym (put-goes n t buffer version bytes ps rows passes ∙ ap (settled buffer) reached))
            (changed-over buffer ps (set ps version (some (written_record rows))) passes.holds (put-versions n t buffer version bytes ps rows passes) s reached),
      )
      go m (due.met ps rows _ passes meets) = elim meets [ ]

  -- What a drop that is answered by a length leaves.
  pub drop-changes : (buffer : List ℕ) (version : ℕ) (l : ℕ) → (dropping n t buffer version).reply ≡ Length l →
      (ps : Programs) × (p : List ℕ) × VersionChecked n t buffer version ps p ×
      Changed n t buffer l (dropping n t buffer version).output (set ps version none)
  drop-changes buffer version l e = go l ((drop_exact n t buffer version (Length l)).0 e)
    where
      go : (l : ℕ) → DropDue n t buffer version (Length l) →
          (ps : Programs) × (p : List ℕ) × VersionChecked n t buffer version ps p ×
          Changed n t buffer l (dropping n t buffer version).output (set ps version none)
      go _ (due.used ps p s passes reached) = (
        ps,
        p,
        passes,
        subst (λ (x : Result). Changed n t buffer (length s) x.output (set ps version none))
            (sym (drop-goes n t buffer version ps p passes ∙ ap (settled buffer) reached))
            (changed-over buffer ps (set ps version none) passes.holds (drop-versions n t buffer version ps p passes) s reached),
      )
      go m (due.met ps p _ passes meets) = elim meets [ ]

  -- Straight after a put, a read of the version gives what rewriting the program gives.
  pub read-put : (buffer : List ℕ) (version : ℕ) (bytes : List ℕ) (l : ℕ) → (putting n t buffer version bytes).reply ≡ Length l → (out : List ℕ) →
      fetching n t (putting n t buffer version bytes).output version out ≡ rewriting n t bytes out
  read-put buffer version bytes l e out =
      let (ps, rows, passes, changed) = put-changes buffer version bytes l e in
      read_goes n t (putting n t buffer version bytes).output version out (set ps version (some (written_record rows))) (written_record rows) (record {
        opens = passes.opens;
        holds = changed.holds;
        present = get_or-set_same ps version (some (written_record rows)) none (omega (arith, passes.holds.versions.sixteen, passes.numbered));
      }) ∙
      sym (written-record n t bytes rows passes.opens passes.reads out)

  -- A put leaves the other versions readable as before it.
  pub put-others : (buffer : List ℕ) (version : ℕ) (bytes : List ℕ) (l : ℕ) → (putting n t buffer version bytes).reply ≡ Length l →
      (other : ℕ) → other ≢ version → (out : List ℕ) → fetching n t (putting n t buffer version bytes).output other out ≡ fetching n t buffer other out
  put-others buffer version bytes l e other apart out =
      let (ps, rows, passes, changed) = put-changes buffer version bytes l e in
      fetching-is n t passes.opens (putting n t buffer version bytes).output (set ps version (some (written_record rows))) changed.holds other out ∙
      ap (λ (o : Option (List ℕ)). given out (on_present o made)) (get_or-set_other ps version other (some (written_record rows)) none apart) ∙
      sym (fetching-is n t passes.opens buffer ps passes.holds other out)

  -- Straight after a drop, a read of the version gives 20, and the other versions are read as before the drop.
  pub drop-removes : (buffer : List ℕ) (version : ℕ) (l : ℕ) → (dropping n t buffer version).reply ≡ Length l → (out : List ℕ) →
      fetching n t (dropping n t buffer version).output version out ≡ refusing WrongVersion out
  drop-removes buffer version l e out =
      let (ps, p, passes, changed) = drop-changes buffer version l e in
      fetching-is n t passes.opens (dropping n t buffer version).output (set ps version none) changed.holds version out ∙
      ap (λ (o : Option (List ℕ)). given out (on_present o made)) (gone ps version)

  pub drop-others : (buffer : List ℕ) (version : ℕ) (l : ℕ) → (dropping n t buffer version).reply ≡ Length l →
      (other : ℕ) → other ≢ version → (out : List ℕ) → fetching n t (dropping n t buffer version).output other out ≡ fetching n t buffer other out
  drop-others buffer version l e other apart out =
      let (ps, p, passes, changed) = drop-changes buffer version l e in
      fetching-is n t passes.opens (dropping n t buffer version).output (set ps version none) changed.holds other out ∙
      ap (λ (o : Option (List ℕ)). given out (on_present o made)) (get_or-set_other ps version other none none apart) ∙
      sym (fetching-is n t passes.opens buffer ps passes.holds other out)

  -- Over a table that admits differences, 13 is never given.
  module _ (differ : admits n t ≡ true) (buffer : List ℕ) (version : ℕ) where
    pub put_wanted : (bytes : List ℕ) → (putting n t buffer version bytes).reply ≡ NoWantedType → ⊥
    put_wanted bytes e = go ((put-exact n t buffer version bytes NoWantedType).0 e)
      where
        go : PutDue n t buffer version bytes NoWantedType → ⊥
        go (due.met ps rows _ passes meets) =
            never_met n t passes.opens (length buffer) (set ps version (some (written_record rows))) (put-versions n t buffer version bytes ps rows passes) differ meets

    pub drop-wanted : (dropping n t buffer version).reply ≡ NoWantedType → ⊥
    drop-wanted e = go ((drop_exact n t buffer version NoWantedType).0 e)
      where
        go : DropDue n t buffer version NoWantedType → ⊥
        go (due.met ps p _ passes meets) =
            never_met n t passes.opens (length buffer) (set ps version none) (drop-versions n t buffer version ps p passes) differ meets

  module _ (opens : opened n t ≡ Ok tt) where
    -- A buffer holds one list of programs.
    pub holds-one : (buffer : List ℕ) (ps qs : Programs) → Holds n t buffer ps → Holds n t buffer qs → ps ≡ qs
    holds-one buffer ps qs one other =
        some-injective (sym (held-complete n t opens buffer ps one) ∙ held-complete n t opens buffer qs other)

    -- An empty store is two zero bytes with anything behind them.
    pub empty-exact : (buffer : List ℕ) → (held n t buffer ≡ some no_programs) ↔ ((rest : List ℕ) × (buffer ≡ empty_state ++ rest) × (length rest ≤ 16382))
    empty-exact buffer = (
      λ e. let holds = held-sound n t buffer no_programs e in
          let is : holds.state ≡ empty_state = state-is buffer no_programs holds (length buffer) refl empty_state (empty-way n t (length buffer)) in
          let whole : buffer ≡ empty_state ++ drop 2 buffer =
          holds.first ∙ ap (λ (s : List ℕ). s ++ drop (length s) buffer) is in
          (drop 2 buffer, whole, omega (arith, ap length whole, holds.lent)),
      λ (rest, is, short). ap (held n t) is ∙ held-complete n t opens (empty_state ++ rest) no_programs (empty-held n t rest short),
    )

    -- What is read after a put and other calls.
    module _ (start : List ℕ) (ps : Programs) (begins : Holds n t start ps) (cs : List Call) where
      abbrev now : List ℕ
      now = buffer_after n t start cs

      abbrev programs : Programs
      programs = programs_after n t start ps cs

      now-holds : Holds n t now programs
      now-holds = (calls-hold n t opens cs start ps begins).1

      -- A program that was put under a version and not dropped is read as rewriting gives it.
      pub read_kept : (version : ℕ) (bytes : List ℕ) → Keeps n t version bytes start cs → (out : List ℕ) →
          fetching n t (buffer_after n t start cs) version out ≡ rewriting n t bytes out
      read_kept version bytes keeps out =
          let (rows, reads, at) = kept-program n t opens version bytes cs start ps begins keeps in
          read_goes n t now version out programs (written_record rows) (record { opens = opens; holds = now-holds; present = at }) ∙
          sym (written-record n t bytes rows opens reads out)

      -- Two versions are read with equal reply and output, whatever output is lent, exactly when the programs that were put mean the same.
      pub read_same : (v w : ℕ) (a b : List ℕ) → Keeps n t v a start cs → Keeps n t w b start cs →
          (s g : List (Row Label)) → reading n a ≡ accepted s → reading n b ≡ accepted g →
          SameMeaning (table_labels n t) (graph_of_rows s) (graph_of_rows g) ↔
          ((out : List ℕ) → fetching n t (buffer_after n t start cs) v out ≡ fetching n t (buffer_after n t start cs) w out)
      read_same v w a b one other s g first second =
          let (there, back) = meaning-rewriting n t a b s g (record { opens = opens; first = first; second = second }) in (
            λ same out. read_kept v a one out ∙ there same out ∙ sym (read_kept w b other out),
            λ same. back (λ out. sym (read_kept v a one out) ∙ same out ∙ read_kept w b other out),
          )

      -- Two versions are read as equal bytes exactly when the programs that were put mean the same.
      pub read-meaning : (v w : ℕ) (a b : List ℕ) → Keeps n t v a start cs → Keeps n t w b start cs →
          (s g : List (Row Label)) → reading n a ≡ accepted s → reading n b ≡ accepted g → (out : List ℕ) (l m : ℕ) →
          (fetching n t (buffer_after n t start cs) v out).reply ≡ Length l → (fetching n t (buffer_after n t start cs) w out).reply ≡ Length m →
          SameMeaning (table_labels n t) (graph_of_rows s) (graph_of_rows g) ↔
          (take l (fetching n t (buffer_after n t start cs) v out).output ≡ take m (fetching n t (buffer_after n t start cs) w out).output)
      read-meaning v w a b one other s g first second out l m p q =
          let e = read_kept v a one out in
          let d = read_kept w b other out in
          let (there, back) =
          meaning-bytes n t a b s g (record { opens = opens; first = first; second = second }) out l m
          (ap (λ (x : Result). x.reply) (sym e) ∙ p) (ap (λ (x : Result). x.reply) (sym d) ∙ q) in (
            λ same. ap (λ (x : Result). take l x.output) e ∙ there same ∙ sym (ap (λ (x : Result). take m x.output) d),
            λ same. back (sym (ap (λ (x : Result). take l x.output) e) ∙ same ∙ ap (λ (x : Result). take m x.output) d),
          )

    -- Calls from an empty store on.
    module _ (rest : List ℕ) (short : length rest ≤ 16382) (cs : List Call) where
      abbrev start : List ℕ
      start = empty_state ++ rest

      begins : Holds n t start no_programs
      begins = empty-held n t rest short

      -- The programs are those that were put and not dropped.
      pub put-and-kept : (version : ℕ) (p : List ℕ) → (get_or (programs_after n t (empty_state ++ rest) no_programs cs) version none ≡ some p) ↔
          ((bytes : List ℕ) × (rows : List (Row Label)) × Keeps n t version bytes (empty_state ++ rest) cs × (reading n bytes ≡ accepted rows) × (p ≡ written_record rows))
      put-and-kept version p = (
        λ e. ⊎_elim
            (λ (bytes, keeps, is). let (rows, reads, at) = kept-program n t opens version bytes cs start no_programs begins keeps in
            (bytes, rows, keeps, reads, is ∙ ap written_in reads))
            (λ (there, _). none-some (sym (absent-all 16 version) ∙ there))
            (program-kept n t opens version cs start no_programs begins p e),
        λ (bytes, rows, keeps, reads, is). let (others, again, at) = kept-program n t opens version bytes cs start no_programs begins keeps in
            let same : others ≡ rows = let q : accepted others ≡ accepted rows = sym again ∙ reads in cc in
            at ∙ ap (λ (r : List (Row Label)). some (written_record r)) same ∙ ap some (sym is),
      )

      -- A read gives 20 exactly where no program was put under the version, or the version was dropped since.
      pub read-unkept : (version : ℕ) (out : List ℕ) → ((fetching n t (buffer_after n t (empty_state ++ rest) cs) version out).reply ≡ WrongVersion) ↔
          ((bytes : List ℕ) → Keeps n t version bytes (empty_state ++ rest) cs → ⊥)
      read-unkept version out = (
        λ e bytes keeps.
            let (rows, reads, at) = kept-program n t opens version bytes cs start no_programs begins keeps in
            none-some (sym (absent ((read-exact n t after version out WrongVersion).0 e)) ∙ at),
        λ unkept. (read-exact n t after version out WrongVersion).1
            (due.numbered now opens after_holds (inr (missing unkept (get_or now version none) refl))),
      )
        where
          after : List ℕ
          after = buffer_after n t start cs

          now : Programs
          now = programs_after n t start no_programs cs

          after_holds : Holds n t after now
          after_holds = (calls-hold n t opens cs start no_programs begins).1

          absent : ReadDue n t after version (length out) WrongVersion → get_or now version none ≡ none
          absent (due.numbered ps _ holds wrong) =
              ap (λ (qs : Programs). get_or qs version none) (holds-one after now ps after_holds holds) ∙ wrong-absent n t after version ps holds wrong

          missing : ((bytes : List ℕ) → Keeps n t version bytes start cs → ⊥) → (o : Option (List ℕ)) → get_or now version none ≡ o → get_or now version none ≡ none
          missing unkept none e = e
          missing unkept (some p) e = let (bytes, _, keeps, _, _) = (put-and-kept version p).0 e in absurd (unkept bytes keeps)

      -- The used bytes are those of an empty store of the same length, with anything behind its two bytes, into which the programs were put in
      -- version order.
      pub used-by-puts : (s : List ℕ) ×
          ((other : List ℕ) → length other ≡ length rest →
          puts_from n t (empty_state ++ other) empty_state 0 (programs_after n t (empty_state ++ rest) no_programs cs) ≡ made s) ×
          (buffer_after n t (empty_state ++ rest) cs ≡ s ++ drop (length s) (buffer_after n t (empty_state ++ rest) cs))
      used-by-puts =
          let (long, holds) = calls-hold n t opens cs start no_programs begins in (
            holds.state,
            λ other same. way-by-puts n t opens other (omega arith) (programs_after n t start no_programs cs) holds.versions ∙
                ap (λ (k : ℕ). way n t k (programs_after n t start no_programs cs)) (ap (λ (k : ℕ). suc (suc k)) same ∙ sym long) ∙ holds.reached,
            holds.first,
          )

    -- Two buffers of one length with the same used bytes.
    module _ (buffer other : List ℕ) (alike : Alike n t buffer other) where
      abbrev ps : Programs
      ps = alike.programs

      pub other-holds : Holds n t other alike.programs
      other-holds =
          held-sound n t other ps
          (Held.past-used n t opens buffer other ps alike.holds alike.long
          (sym (take-append-drop (length alike.holds.state) other) ∙
          ap (λ (s : List ℕ). s ++ drop (length alike.holds.state) other) alike.same))

      -- Where a state is the end of a way, settling it in both buffers gives the same reply and leaves the same used bytes.
      settled-alike : (m : Made) → ((s : List ℕ) → m ≡ made s → (qs : Programs) × Versions n qs × (way n t (length buffer) qs ≡ made s)) →
          ((settled other m).reply ≡ (settled buffer m).reply) × Alike n t (settled buffer m).output (settled other m).output
      settled-alike (stopped r) ends = (refl, alike)
      settled-alike (made s) ends =
          let (qs, versions, reached) = ends s refl in
          let there : way n t (length other) qs ≡ made s = ap (λ (k : ℕ). way n t k qs) alike.long ∙ reached in
          let long : length (s ++ drop (length s) buffer) ≡ length buffer = over-length n t buffer ps qs alike.holds versions s reached in
          let over : Holds n t (s ++ drop (length s) buffer) qs = written_over n t buffer ps qs alike.holds versions s reached in
          let is : over.state ≡ s = state-is (s ++ drop (length s) buffer) qs over (length buffer) long s reached in (
            refl,
            record {
              long = over-length n t other ps qs other-holds versions s there ∙ alike.long ∙ sym long;
              programs = qs;
              holds = over;
              same = ap (λ (x : List ℕ). take (length x) (s ++ drop (length s) other)) is ∙ take-append_seam s (drop (length s) other) ∙ sym is;
            },
          )

      -- The state that a put makes is the end of a way.
      put-ends : (version : ℕ) (bytes s : List ℕ) → put_among n t (length buffer) version bytes ps ≡ made s →
          (qs : Programs) × Versions n qs × (way n t (length buffer) qs ≡ made s)
      put-ends version bytes s e = read (reading n bytes) refl e
        where
          test : (rows : List (Row Label)) → reading n bytes ≡ accepted rows → (b : Bool) →
              cond b (way n t (length buffer) (set ps version (some (written_record rows)))) (stopped WrongVersion) ≡ made s →
              (qs : Programs) × Versions n qs × (way n t (length buffer) qs ≡ made s)
          test rows reads true d = (
            set ps version (some (written_record rows)),
            set-versions n ps version (some (written_record rows)) alike.holds.versions
                (λ q i. subst (WrittenRecord n) (some-injective i) (program-written n t bytes rows reads)),
            d,
          )
          test rows reads false d = stopped-made d

          read : (o : Reading) → reading n bytes ≡ o → (on_program o λ p. on_absent ps version (way n t (length buffer) (set ps version (some p)))) ≡ made s →
              (qs : Programs) × Versions n qs × (way n t (length buffer) qs ≡ made s)
          read (refused fault) q d = stopped-made d
          read (accepted rows) q d = test rows q (ltb version 16 && is_none (get_or ps version none)) d

      drop-ends : (version : ℕ) (s : List ℕ) → drop_among n t (length buffer) version ps ≡ made s →
          (qs : Programs) × Versions n qs × (way n t (length buffer) qs ≡ made s)
      drop-ends version s e = go (get_or ps version none) e
        where
          go : (o : Option (List ℕ)) → (on_present o λ p. way n t (length buffer) (set ps version none)) ≡ made s →
              (qs : Programs) × Versions n qs × (way n t (length buffer) qs ≡ made s)
          go none d = stopped-made d
          go (some p) d = (set ps version none, set-versions n ps version none alike.holds.versions (λ q i. none-some i), d)

      -- A put, and a drop, gives both buffers the same reply and leaves them the same used bytes.
      pub put-alike : (version : ℕ) (bytes : List ℕ) → ((putting n t other version bytes).reply ≡ (putting n t buffer version bytes).reply) ×
          Alike n t (putting n t buffer version bytes).output (putting n t other version bytes).output
      put-alike version bytes =
          let m : Made = put_among n t (length buffer) version bytes ps in
          let here : putting n t buffer version bytes ≡ settled buffer m = putting-is n t opens buffer ps alike.holds version bytes in
          let there : putting n t other version bytes ≡ settled other m =
          putting-is n t opens other ps other-holds version bytes ∙ ap (λ (k : ℕ). settled other (put_among n t k version bytes ps)) alike.long in
          let both : ((settled other m).reply ≡ (settled buffer m).reply) × Alike n t (settled buffer m).output (settled other m).output =
          settled-alike m (put-ends version bytes) in
          subst (λ (y : Result). (y.reply ≡ (putting n t buffer version bytes).reply) × Alike n t (putting n t buffer version bytes).output y.output) (sym there)
          (subst (λ (x : Result). ((settled other m).reply ≡ x.reply) × Alike n t x.output (settled other m).output) (sym here) both)

      pub drop-alike : (version : ℕ) → ((dropping n t other version).reply ≡ (dropping n t buffer version).reply) ×
          Alike n t (dropping n t buffer version).output (dropping n t other version).output
      drop-alike version =
          let m : Made = drop_among n t (length buffer) version ps in
          let here : dropping n t buffer version ≡ settled buffer m = dropping-is n t opens buffer ps alike.holds version in
          let there : dropping n t other version ≡ settled other m =
          dropping-is n t opens other ps other-holds version ∙ ap (λ (k : ℕ). settled other (drop_among n t k version ps)) alike.long in
          let both : ((settled other m).reply ≡ (settled buffer m).reply) × Alike n t (settled buffer m).output (settled other m).output =
          settled-alike m (drop-ends version) in
          subst (λ (y : Result). (y.reply ≡ (dropping n t buffer version).reply) × Alike n t (dropping n t buffer version).output y.output) (sym there)
          (subst (λ (x : Result). ((settled other m).reply ≡ x.reply) × Alike n t x.output (settled other m).output) (sym here) both)

      pub read_alike : (version : ℕ) (out : List ℕ) → fetching n t other version out ≡ fetching n t buffer version out
      read_alike version out = fetching-is n t opens other ps other-holds version out ∙ sym (fetching-is n t opens buffer ps alike.holds version out)

    call-alike : (c : Call) (buffer other : List ℕ) → Alike n t buffer other → ((called n t other c).reply ≡ (called n t buffer c).reply) ×
        Alike n t (called n t buffer c).output (called n t other c).output
    call-alike (put version bytes) buffer other alike = put-alike buffer other alike version bytes
    call-alike (remove version) buffer other alike = drop-alike buffer other alike version
    call-alike (fetch version out) buffer other alike = (ap (λ (x : Result). x.reply) (read_alike buffer other alike version out), alike)

    -- Any calls give both buffers the same replies and leave them the same used bytes.
    pub calls-alike : (cs : List Call) (buffer other : List ℕ) → Alike n t buffer other → (replies n t other cs ≡ replies n t buffer cs) ×
        Alike n t (buffer_after n t buffer cs) (buffer_after n t other cs)
    unfolding replies buffer_after
    calls-alike [] buffer other alike = (refl, alike)
    calls-alike (c ∷ cs) buffer other alike =
        let (same, next) = call-alike c buffer other alike in
        let (more, last) = calls-alike cs (called n t buffer c).output (called n t other c).output next in
        (ap₂ (λ (r : Reply) (rs : List Reply). r ∷ rs) same more, last)
