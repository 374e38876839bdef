-- The way. Where it ends in a state, the programs are read back from that state, and a buffer that begins with the state holds them.
use mathlib.Core.Path.{◌≡◌, refl, sym, ◌∙◌, ap, ap₂, subst}
use mathlib.Core.Bool.{Bool, true, false, cond}
use mathlib.Core.List.{List, [], ◌∷◌, ◌++◌, append-nil}
use mathlib.Core.Logic.{◌↔◌, ◌⊎◌, inl, inr}
use mathlib.Core.Option.{Option, none, some, bind}
use Prim.Native.Nat.{ℕ, zero, suc, ◌≤◌, ◌<◌}
use native.Mathlib.Omega.{arith}
use borrow.Author.Tests.{le-leb, leb-true}
use lib.Dec.{leb}
use lib.ListN.{length, get_or, replicate}
use lib.Seq.{append_snoc, get_or-append_seam}
use Rattle.std.specs.Prelude.{Ok}
use Rattle.acceptance.specs.Reply.{opened}
use Rattle.demands.specs.Demand.{WrittenRecord}
use Rattle.replies.specs.Replies.{NoStoreRoom}
use Rattle.gathering.proofs.Told.{none-some}
use Rattle.versions.specs.State.{
  Made,
  made,
  stopped,
  and_then,
  Programs,
  no_programs,
  empty_state,
  two_bytes,
  map_of,
  measured,
  state_of,
  difference_of,
  differences,
  within,
  stored,
  joined,
  way_from,
  way,
  begins,
  unpacked,
  held,
}
use Rattle.versions.proofs.Loops.{way_step}
use Rattle.stored.specs.Theorem.{Versions, Passed, start, absent, steps}
use Rattle.stored.proofs.Bytes.{starts-append}
use Rattle.stored.proofs.Records.{made-injective, stopped-made, common-written}
use Rattle.stored.proofs.Restoring.{then-made, map-zero, state-unpacked}

-- A version stays where it is when one more version is added behind.
pub snoc-first : (ps : Programs) (o : Option (List ℕ)) (v : ℕ) (p : List ℕ) → get_or ps v none ≡ some p → get_or (ps ++ o ∷ []) v none ≡ some p
snoc-first [] o v p e = none-some e
snoc-first (x ∷ ps) o zero p e = e
snoc-first (x ∷ ps) o (suc v) p e = snoc-first ps o v p e

-- A version that does not exist changes neither map nor differences.

map-absent : (ps : Programs) → map_of (ps ++ none ∷ []) ≡ map_of ps
unfolding map_of
map-absent [] = omega arith
map-absent (p ∷ ps) = omega (arith, map-absent ps)

map-present : (ps : Programs) (p : List ℕ) → 0 < map_of (ps ++ some p ∷ [])
unfolding map_of
map-present [] p = omega arith
map-present (q ∷ ps) p = omega (arith, map-present ps p)

within-made : (room : ℕ) (bytes b : List ℕ) → within room bytes ≡ made b → (bytes ≡ b) × (length bytes ≤ room)
unfolding within
within-made room bytes b e = go (leb (length bytes) room) refl e
  where
    go : (x : Bool) → leb (length bytes) room ≡ x → cond x (made bytes) (stopped NoStoreRoom) ≡ made b → (bytes ≡ b) × (length bytes ≤ room)
    go true q d = (made-injective d, leb-true (length bytes) room q)
    go false q d = stopped-made d

module _ (n : ℕ) (t : List ℕ) where
  differences-absent : (part : List ℕ) (ps : Programs) → differences n t part (ps ++ none ∷ []) ≡ differences n t part ps
  unfolding differences
  differences-absent part [] = refl
  differences-absent part (none ∷ ps) = differences-absent part ps
  differences-absent part (some p ∷ ps) =
      ap (λ (m : Made). and_then (difference_of n t part p) λ d. and_then m λ ds. made (measured d ++ ds)) (differences-absent part ps)

  stored-absent : (room : ℕ) (part : List ℕ) (ps : Programs) → stored n t room part (ps ++ none ∷ []) ≡ stored n t room part ps
  unfolding stored state_of
  stored-absent room part ps =
      ap₂ (λ (m : Made) (x : ℕ). and_then m λ ds. within room (two_bytes x ++ (measured part ++ ds)))
      (differences-absent part ps) (map-absent ps)

  -- Where the way stands: no program is done, or there is the common part of the programs that are done, with their state.
  data At (room : ℕ) (done : Programs) : Option (List ℕ) → List ℕ → Type 0 where
    empty : map_of done ≡ 0 → At room done none empty_state
    storing : (part state : List ℕ) → WrittenRecord n part → 0 < map_of done → stored n t room part done ≡ made state → At room done (some part) state

  at-absent : {room : ℕ} {done : Programs} {part : Option (List ℕ)} {state : List ℕ} → At room done part state → At room (done ++ none ∷ []) part state
  at-absent {done = done} (empty e) = empty (map-absent done ∙ e)
  at-absent {room} {done} (storing part state one there e) =
      storing part state one (omega (arith, map-absent done)) (stored-absent room part done ∙ e)

  -- The common part of the programs that are done and one more is a written record.
  joined-written : {room : ℕ} {done : Programs} {part : Option (List ℕ)} {state : List ℕ} → At room done part state → (p c : List ℕ) → WrittenRecord n p →
      joined n t part p ≡ made c → WrittenRecord n c
  joined-written (empty _) p c one e = subst (WrittenRecord n) (made-injective e) one
  joined-written (storing part state _ _ _) p c one e = common-written n t part p c e

  at-passed : {room : ℕ} {behind : Programs} {part : Option (List ℕ)} {state : List ℕ} → Passed n t room behind part state →
      ((v : ℕ) (p : List ℕ) → get_or behind v none ≡ some p → WrittenRecord n p) → At room behind part state
  unfolding map_of
  at-passed start written = empty refl
  at-passed (absent behind part state before) written = at-absent (at-passed before (λ v p e. written v p (snoc-first behind none v p e)))
  at-passed (steps behind part state program c s before is reached) written =
      storing c s
      (joined-written (at-passed before (λ v p e. written v p (snoc-first behind (some program) v p e))) program c
      (written (length behind) program (get_or-append_seam behind (some program) [] none)) is)
      (map-present behind program) reached

  -- A way that ends in a state has passed all versions.
  from-passed : (room : ℕ) (ahead behind : Programs) (part : Option (List ℕ)) (state b : List ℕ) → Passed n t room behind part state →
      way_from n t room behind part state ahead ≡ made b → (last : Option (List ℕ)) × Passed n t room (behind ++ ahead) last b
  unfolding way_from
  from-passed room [] behind part state b here e =
      (part, subst (λ (ds : Programs). Passed n t room ds part b) (sym (append-nil behind)) (subst (λ (s : List ℕ). Passed n t room behind part s) (made-injective e) here))
  from-passed room (none ∷ ahead) behind part state b here e =
      let (last, there) = from-passed room ahead (behind ++ none ∷ []) part state b (absent behind part state here) e in
      (last, subst (λ (ds : Programs). Passed n t room ds last b) (append_snoc behind none ahead) there)
  from-passed room (some p ∷ ahead) behind part state b here e =
      let (c, is, more) =
      then-made (joined n t part p) (λ c. and_then (stored n t room c (behind ++ some p ∷ [])) λ s. way_from n t room (behind ++ some p ∷ []) (some c) s ahead) b e in
      let (s, state-is, on) =
      then-made (stored n t room c (behind ++ some p ∷ [])) (λ s. way_from n t room (behind ++ some p ∷ []) (some c) s ahead) b more in
      let (last, there) = from-passed room ahead (behind ++ some p ∷ []) (some c) s b (steps behind part state p c s here is state-is) on in
      (last, subst (λ (ds : Programs). Passed n t room ds last b) (append_snoc behind (some p) ahead) there)

  -- Past some versions, the way goes on from their common part and state.
  pub passed_on : {room : ℕ} {behind : Programs} {part : Option (List ℕ)} {state : List ℕ} → Passed n t room behind part state → (ahead : Programs) →
      way n t room (behind ++ ahead) ≡ way_from n t room behind part state ahead
  unfolding way way_from
  passed_on start ahead = refl
  passed_on {room} (absent behind part state before) ahead =
      ap (way n t room) (append_snoc behind none ahead) ∙ passed_on before (none ∷ ahead)
  passed_on {room} (steps behind part state program c s before is reached) ahead =
      ap (way n t room) (append_snoc behind (some program) ahead) ∙ passed_on before (some program ∷ ahead) ∙
      way_step n t room behind ahead part state program c s is reached

  -- The way ends in a state exactly where it passes all versions and comes to that state.
  pub way-passes : (room : ℕ) (ps : Programs) (b : List ℕ) → (way n t room ps ≡ made b) ↔ ((last : Option (List ℕ)) × Passed n t room ps last b)
  unfolding way way_from
  way-passes room ps b = (
    from-passed room ps [] none empty_state b start,
    λ (last, there). ap (way n t room) (sym (append-nil ps)) ∙ passed_on there [],
  )

  way_at : (room : ℕ) (ps : Programs) → Versions n ps → (b : List ℕ) → way n t room ps ≡ made b → (last : Option (List ℕ)) × At room ps last b
  unfolding way-passes
  way_at room ps versions b reached = let (last, there) = (way-passes room ps b).0 reached in (last, at-passed there versions.written)

  -- The bytes of a state: two zero bytes where no version exists, else the map, the common part and the differences.
  pub state-bytes : (room : ℕ) (ps : Programs) → Versions n ps → (b : List ℕ) → way n t room ps ≡ made b →
      ((ps ≡ no_programs) × (b ≡ empty_state)) ⊎
      ((part : List ℕ) × (ds : List ℕ) × Passed n t room ps (some part) b × (differences n t part ps ≡ made ds) × (b ≡ state_of ps part ds))
  unfolding stored way-passes
  state-bytes room ps versions b reached = let (last, there) = (way-passes room ps b).0 reached in go there (at-passed there versions.written)
    where
      go : {last : Option (List ℕ)} {state : List ℕ} → Passed n t room ps last state → At room ps last state →
          ((ps ≡ no_programs) × (state ≡ empty_state)) ⊎
          ((part : List ℕ) × (ds : List ℕ) × Passed n t room ps (some part) state × (differences n t part ps ≡ made ds) × (state ≡ state_of ps part ds))
      go there (empty e) = inl (map-zero ps e ∙ ap (λ (k : ℕ). replicate k none) versions.sixteen, refl)
      go there (storing part state one more e) =
          let (ds, is, last) = then-made (differences n t part ps) (λ ds. within room (state_of ps part ds)) state e in
          inr (part, ds, there, is, sym (within-made room (state_of ps part ds) state last).0)

  at_long : {room : ℕ} {ps : Programs} {last : Option (List ℕ)} {b : List ℕ} → At room ps last b → 2 ≤ length b
  unfolding stored state_of two_bytes
  at_long (empty e) = omega arith
  at_long {room} {ps} (storing part state one there e) =
      let (ds, is, more) = then-made (differences n t part ps) (λ ds. within room (state_of ps part ds)) state e in
      let long : 2 ≤ length (state_of ps part ds) = omega arith in
      omega (arith, ap length (within-made room (state_of ps part ds) state more).0)

  at-fits : {room : ℕ} {ps : Programs} {last : Option (List ℕ)} {b : List ℕ} → At room ps last b → 2 ≤ room → length b ≤ room
  unfolding stored
  at-fits (empty e) h = h
  at-fits {room} {ps} (storing part state one there e) h =
      let (ds, is, more) = then-made (differences n t part ps) (λ ds. within room (state_of ps part ds)) state e in
      let (same, fits) = within-made room (state_of ps part ds) state more in
      omega (arith, ap length same)

  -- A state has two bytes or more.
  pub state-long : (room : ℕ) (ps : Programs) → Versions n ps → (b : List ℕ) → way n t room ps ≡ made b → 2 ≤ length b
  state-long room ps versions b reached = at_long (way_at room ps versions b reached).1

  -- A state is no longer than its room.
  pub state-fits : (room : ℕ) (ps : Programs) → Versions n ps → (b : List ℕ) → way n t room ps ≡ made b → 2 ≤ room → length b ≤ room
  state-fits room ps versions b reached = at-fits (way_at room ps versions b reached).1

  module _ (opens : opened n t ≡ Ok tt) where
    at-unpacked : (room : ℕ) (ps : Programs) (last : Option (List ℕ)) (b rest : List ℕ) → Versions n ps → At room ps last b →
        unpacked n t (b ++ rest) ≡ some ps
    unfolding unpacked stored
    at-unpacked room ps last b rest versions (empty e) =
        ap some (sym (map-zero ps e ∙ ap (λ (k : ℕ). replicate k none) versions.sixteen))
    at-unpacked room ps last b rest versions (storing part state one there e) =
        let (ds, is, more) = then-made (differences n t part ps) (λ ds. within room (state_of ps part ds)) state e in
        ap (λ (x : List ℕ). unpacked n t (x ++ rest)) (sym (within-made room (state_of ps part ds) state more).0) ∙
        state-unpacked n t opens part one ps versions ds rest is there

    module _ (room : ℕ) (ps : Programs) (versions : Versions n ps) (b : List ℕ) (reached : way n t room ps ≡ made b) where
      -- A state that is reached gives its programs, whatever stands behind it.
      reached-unpacked : (rest : List ℕ) → unpacked n t (b ++ rest) ≡ some ps
      reached-unpacked rest = let (last, here) = way_at room ps versions b reached in at-unpacked room ps last b rest versions here

      -- A buffer of the room's length that begins with the state holds these programs.
      pub reached-held : (rest : List ℕ) → length (b ++ rest) ≡ room → room ≤ 16384 → held n t (b ++ rest) ≡ some ps
      unfolding held bind
      reached-held rest long lent =
          ap (λ (x : Bool). cond x (bind (unpacked n t (b ++ rest)) λ ps. cond (begins (way n t (length (b ++ rest)) ps) (b ++ rest)) (some ps) none) none)
          (le-leb (length (b ++ rest)) 16384 (omega arith)) ∙
          ap (λ (o : Option Programs). bind o λ ps. cond (begins (way n t (length (b ++ rest)) ps) (b ++ rest)) (some ps) none) (reached-unpacked rest) ∙
          ap (λ (m : Made). cond (begins m (b ++ rest)) (some ps) none) (ap (λ (k : ℕ). way n t k ps) long ∙ reached) ∙
          ap (λ (x : Bool). cond x (some ps) none) (starts-append b rest)

    -- No two lists of programs have one state, in rooms of whatever length.
    pub one_state : (room other : ℕ) (ps qs : Programs) → Versions n ps → Versions n qs → (b : List ℕ) → way n t room ps ≡ made b → way n t other qs ≡ made b →
        ps ≡ qs
    one_state room other ps qs first second b e d =
        let same : some ps ≡ some qs = sym (reached-unpacked room ps first b e []) ∙ reached-unpacked other qs second b d [] in
        cc
