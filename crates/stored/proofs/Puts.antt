-- The way is what its name says: "an empty store into which the remaining programs were put in version order under their numbers". The puts give
-- the same used bytes, or the same first number.
use mathlib.Core.Path.{◌≡◌, refl, sym, ◌∙◌, ap, ap₂, subst}
use mathlib.Core.Bool.{Bool, cond, ◌&&◌}
use mathlib.Core.List.{List, [], ◌∷◌, ◌++◌}
use mathlib.Core.Option.{Option, none, some}
use Prim.Native.Nat.{ℕ, suc, ◌+◌, ◌≤◌, ◌<◌}
use native.Mathlib.Omega.{arith}
use borrow.Author.Tests.{lt-ltb}
use lib.ListN.{length, get_or, set, drop, replicate, length-append}
use lib.Seq.{append_snoc, set-append_seam, get_or-append_seam, take-append_seam}
use Rattle.graphs.specs.Number.{Canonical}
use Rattle.graphs.proofs.Walk.{some-injective}
use Rattle.lattice.specs.Label.{Label}
use Rattle.std.specs.Prelude.{Ok}
use Rattle.acceptance.specs.Reply.{opened}
use Rattle.encoder.specs.Encode.{encoded}
use Rattle.record.specs.Read.{Reading}
use Rattle.difference.specs.Difference.{numbered}
use Rattle.replies.specs.Replies.{Reply}
use Rattle.replies.specs.Replies.{WrongVersion}
use Rattle.replies.specs.Reply.{Result, refusing, length_of}
use Rattle.demands.specs.Demand.{WrittenRecord}
use Rattle.versions.specs.State.{Made, made, stopped, and_then, Programs, empty_state, stored, joined, way_from, way}
use Rattle.versions.proofs.Loops.{way-large, way-halts}
use Rattle.contents.specs.Contents.{on_program, on_absent, is_none, written_record}
use Rattle.store.specs.Calls.{settled, putting}
use Rattle.stored.specs.Turns.{on_length, puts_from}
use Rattle.stored.specs.Theorem.{Versions, Holds, Passed, start, absent, steps}
use Rattle.stored.proofs.Way.{passed_on}
use Rattle.stored.proofs.Held.{empty-held}
use Rattle.stored.proofs.Stops.{way-meets, met-silent}
use Rattle.stored.proofs.Calls.{set-versions, over-length, written_over, putting-is}

-- As many versions, all of them absent.
abbrev emptied : Programs → Programs
emptied [] = []
emptied (p ∷ ps) = none ∷ emptied ps

emptied-none : (ps : Programs) → emptied ps ≡ replicate (length ps) none
emptied-none [] = refl
emptied-none (p ∷ ps) = ap (λ (qs : Programs). none ∷ qs) (emptied-none ps)

-- A written record is the written record of the rows that it is read as.
written-own : (n : ℕ) (p : List ℕ) (one : WrittenRecord n p) → written_record one.form ≡ p
written-own n p one = ap (λ (c : Canonical Label). encoded (numbered c)) one.own ∙ sym one.bytes-are

module _ (n : ℕ) (t : List ℕ) where
  -- On the way, versions that do not exist leave the state as it was.
  from-emptied : (room : ℕ) (ahead behind : Programs) (part : Option (List ℕ)) (state : List ℕ) → way_from n t room behind part state (emptied ahead) ≡ made state
  unfolding way_from
  from-emptied room [] behind part state = refl
  from-emptied room (p ∷ ahead) behind part state = from-emptied room ahead (behind ++ none ∷ []) part state

  module _ (opens : opened n t ≡ Ok tt) where
    -- A put under a number behind all programs goes their way and one step more.
    put_last : (room : ℕ) (ahead behind : Programs) (buffer : List ℕ) (version : ℕ) → length buffer ≡ room → version ≡ length behind → version < 16 →
        Holds n t buffer (behind ++ none ∷ emptied ahead) → (p : List ℕ) → WrittenRecord n p →
        putting n t buffer version p ≡ settled buffer (way n t room (behind ++ some p ∷ emptied ahead))
    put_last room ahead behind buffer version long at few holds p one =
        let qs : Programs = behind ++ none ∷ emptied ahead in
        putting-is n t opens buffer qs holds version p ∙
        ap (settled buffer)
        (ap (λ (o : Reading). on_program o λ p. on_absent qs version (way n t (length buffer) (set qs version (some p)))) one.reads ∙
        ap (λ (x : List ℕ). on_absent qs version (way n t (length buffer) (set qs version (some x)))) (written-own n p one) ∙
        ap₂ (λ (b : Bool) (o : Option (List ℕ)). cond (b && is_none o) (way n t (length buffer) (set qs version (some p))) (stopped WrongVersion))
        (lt-ltb version 16 few) (ap (λ (v : ℕ). get_or qs v none) at ∙ get_or-append_seam behind none (emptied ahead) none) ∙
        ap₂ (λ (k : ℕ) (rs : Programs). way n t k rs) long
        (ap (λ (v : ℕ). set qs v (some p)) at ∙ set-append_seam behind none (emptied ahead) (some p)))

    -- The put of one program, and then the puts of the programs ahead.
    module _ (room : ℕ) (ahead behind : Programs) (part : Option (List ℕ)) (state buffer : List ℕ) (version : ℕ) (long : length buffer ≡ room)
        (p : List ℕ) (one : WrittenRecord n p) (holds : Holds n t buffer (behind ++ none ∷ emptied ahead)) (passed : Passed n t room behind part state) where
      abbrev qs : Programs
      qs = behind ++ some p ∷ emptied ahead

      abbrev onwards : Made → Made
      onwards m = on_length (length_of (settled buffer m).reply) (settled buffer m) λ after used. puts_from n t after used (suc version) ahead

      -- The claim for the programs ahead, once a step is made.
      abbrev Rest : Type 0
      Rest = (c s : List ℕ) → length (s ++ drop (length s) buffer) ≡ room →
          Holds n t (s ++ drop (length s) buffer) ((behind ++ some p ∷ []) ++ emptied ahead) → Passed n t room (behind ++ some p ∷ []) (some c) s →
          puts_from n t (s ++ drop (length s) buffer) s (suc version) ahead ≡ way_from n t room (behind ++ some p ∷ []) (some c) s ahead

      versions : Versions n qs
      versions =
          subst (Versions n) (set-append_seam behind none (emptied ahead) (some p))
          (set-versions n (behind ++ none ∷ emptied ahead) (length behind) (some p) holds.versions
          (λ q i. subst (WrittenRecord n) (some-injective i) one))

      halts : (r : Reply) → way_from n t room behind part state (some p ∷ emptied ahead) ≡ stopped r → onwards (way n t room qs) ≡ stopped r
      halts r e =
          let stops : way n t room qs ≡ stopped r = passed_on n t passed (some p ∷ emptied ahead) ∙ e in
          ap onwards stops ∙
          ap (λ (o : Option ℕ). on_length o (refusing r buffer) λ after used. puts_from n t after used (suc version) ahead) (met-silent ((way-meets n t opens room qs versions r).0 stops))

      second : (c : List ℕ) → joined n t part p ≡ made c → (m : Made) → stored n t room c (behind ++ some p ∷ []) ≡ m → Rest →
          onwards (way n t room qs) ≡ (and_then m λ s. way_from n t room (behind ++ some p ∷ []) (some c) s ahead)
      second c e (stopped r) d rest = halts r (way-halts n t room behind (emptied ahead) part state p c r e d)
      second c e (made s) d rest =
          let next : Passed n t room (behind ++ some p ∷ []) (some c) s = steps behind part state p c s passed e d in
          let reached : way n t room qs ≡ made s =
          ap (way n t room) (sym (append_snoc behind (some p) (emptied ahead))) ∙ passed_on n t next (emptied ahead) ∙
          from-emptied room ahead (behind ++ some p ∷ []) (some c) s in
          let here : way n t (length buffer) qs ≡ made s = ap (λ (k : ℕ). way n t k qs) long ∙ reached in
          ap onwards reached ∙
          ap (λ (u : List ℕ). puts_from n t (s ++ drop (length s) buffer) u (suc version) ahead) (take-append_seam s (drop (length s) buffer)) ∙
          rest c s
          (over-length n t buffer (behind ++ none ∷ emptied ahead) qs holds versions s here ∙ long)
          (subst (Holds n t (s ++ drop (length s) buffer)) (sym (append_snoc behind (some p) (emptied ahead)))
          (written_over n t buffer (behind ++ none ∷ emptied ahead) qs holds versions s here))
          next

      first : (m : Made) → joined n t part p ≡ m → Rest → onwards (way n t room qs) ≡
          (and_then m λ c. and_then (stored n t room c (behind ++ some p ∷ [])) λ s. way_from n t room (behind ++ some p ∷ []) (some c) s ahead)
      first (stopped r) e rest = halts r (way-large n t room behind (emptied ahead) part state p r e)
      first (made c) e rest = second c e (stored n t room c (behind ++ some p ∷ [])) refl rest

    from-puts : (room : ℕ) (ahead behind : Programs) (part : Option (List ℕ)) (state buffer : List ℕ) (version : ℕ) → length buffer ≡ room →
        version ≡ length behind → version + length ahead ≡ 16 → ((v : ℕ) (p : List ℕ) → get_or ahead v none ≡ some p → WrittenRecord n p) →
        Holds n t buffer (behind ++ emptied ahead) → Passed n t room behind part state →
        puts_from n t buffer state version ahead ≡ way_from n t room behind part state ahead
    unfolding puts_from way_from
    from-puts room [] behind part state buffer version long at all written holds passed = refl
    from-puts room (none ∷ ahead) behind part state buffer version long at all written holds passed =
        from-puts room ahead (behind ++ none ∷ []) part state buffer (suc version) long
        (omega (arith, length-append behind (none ∷ []))) (omega arith) (λ v. written (suc v))
        (subst (Holds n t buffer) (sym (append_snoc behind none (emptied ahead))) holds) (absent behind part state passed)
    from-puts room (some p ∷ ahead) behind part state buffer version long at all written holds passed =
        ap (λ (r : Result). on_length (length_of r.reply) r λ after used. puts_from n t after used (suc version) ahead)
        (put_last room ahead behind buffer version long at (omega arith) holds p (written 0 p refl)) ∙
        first room ahead behind part state buffer version long p (written 0 p refl) holds passed (joined n t part p) refl
        (λ c s long₂ holds₂ passed₂. from-puts room ahead (behind ++ some p ∷ []) (some c) s (s ++ drop (length s) buffer) (suc version) long₂
        (omega (arith, length-append behind (some p ∷ []))) (omega arith) (λ v. written (suc v)) holds₂ passed₂)

    -- The way of programs gives what putting them into an empty store gives, in version order under their numbers.
    pub way-by-puts : (rest : List ℕ) → length rest ≤ 16382 → (ps : Programs) → Versions n ps →
        puts_from n t (empty_state ++ rest) empty_state 0 ps ≡ way n t (length (empty_state ++ rest)) ps
    unfolding way
    way-by-puts rest lent ps versions =
        from-puts (length (empty_state ++ rest)) ps [] none empty_state (empty_state ++ rest) 0 refl refl (omega (arith, versions.sixteen)) versions.written
        (subst (Holds n t (empty_state ++ rest)) (sym (emptied-none ps ∙ ap (λ (k : ℕ). replicate k none) versions.sixteen)) (empty-held n t rest lent))
        start
