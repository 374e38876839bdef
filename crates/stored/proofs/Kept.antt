-- After calls in turn the programs are those that were put and not dropped.
use mathlib.Core.Path.{◌≡◌, refl, sym, ◌∙◌, ap, subst}
use mathlib.Core.List.{List, [], ◌∷◌}
use mathlib.Core.Logic.{◌⊎◌, inl, inr, ⊎_elim}
use mathlib.Core.Option.{Option, none, some}
use Prim.Native.Nat.{ℕ, zero, suc}
use native.Mathlib.Omega.{arith}
use native.Mathlib.Decide.{ℕ_discrete}
use lib.ListN.{get_or, set}
use lib.Seq.{get_or-set_same, get_or-set_other}
use Rattle.graphs.specs.Rows.{Row}
use Rattle.graphs.proofs.Walk.{some-injective}
use Rattle.lattice.specs.Label.{Label}
use Rattle.std.specs.Prelude.{Ok}
use Rattle.acceptance.specs.Reply.{opened}
use Rattle.record.specs.Read.{accepted, reading}
use Rattle.replies.specs.Replies.{Length}
use Rattle.replies.specs.Reply.{length_of}
use Rattle.gathering.proofs.Told.{none-some, length-told}
use Rattle.versions.specs.State.{Programs}
use Rattle.contents.specs.Contents.{written_record}
use Rattle.store.specs.Calls.{putting, dropping}
use Rattle.stored.specs.Turns.{Call, put, remove, fetch, called, written_in, done, where_given, programs_after, Drops, Keeps}
use Rattle.stored.specs.Turns as turns
use Rattle.stored.specs.Theorem.{Holds}
use Rattle.stored.proofs.Calls.{called-holds, put-given}

-- a version that is taken out is absent
pub gone : (ps : Programs) (v : ℕ) → get_or (set ps v none) v none ≡ none
gone [] v = refl
gone (x ∷ ps) zero = refl
gone (x ∷ ps) (suc v) = gone ps v

-- Either the first of the calls drops the version, or a later one does.
first-drops : (n : ℕ) (t : List ℕ) (version : ℕ) (buffer : List ℕ) (c : Call) (cs : List Call) → Drops n t version buffer (c ∷ cs) →
    ((c ≡ remove version) × ((l : ℕ) × ((dropping n t buffer version).reply ≡ Length l))) ⊎ Drops n t version (called n t buffer c).output cs
first-drops n t version _ _ _ (turns.here buffer l cs e) = inl (refl, (l, e))
first-drops n t version _ _ _ (turns.later buffer c cs d) = inr d

module _ (n : ℕ) (t : List ℕ) (opens : opened n t ≡ Ok tt) where
  -- the programs after one call
  abbrev after : List ℕ → Programs → Call → Programs
  after buffer ps c = where_given (length_of (called n t buffer c).reply) ps (done n t c ps)

  module _ (version : ℕ) where
    module _ (buffer : List ℕ) (ps : Programs) (holds : Holds n t buffer ps) (cs : List Call) where
      -- A version that exists and is not dropped by the call stays.
      stays : (p : List ℕ) → get_or ps version none ≡ some p → (c : Call) → (Drops n t version buffer (c ∷ cs) → ⊥) → get_or (after buffer ps c) version none ≡ some p
      stays p e (put w bytes) kept = go (length_of (putting n t buffer w bytes).reply) refl
        where
          go : (o : Option ℕ) → length_of (putting n t buffer w bytes).reply ≡ o →
              get_or (where_given o ps (set ps w (some (written_in (reading n bytes))))) version none ≡ some p
          go none q = e
          go (some l) q =
              let (_, free, _) = put-given n t opens buffer ps holds w bytes l q in
              get_or-set_other ps w version (some (written_in (reading n bytes))) none
              (λ same. none-some (sym free ∙ ap (λ (v : ℕ). get_or ps v none) (sym same) ∙ e)) ∙ e
      stays p e (remove w) kept = go (length_of (dropping n t buffer w).reply) refl (ℕ_discrete version w)
        where
          go : (o : Option ℕ) → length_of (dropping n t buffer w).reply ≡ o → Dec (version ≡ w) → get_or (where_given o ps (set ps w none)) version none ≡ some p
          go none q d = e
          go (some l) q (no other) = get_or-set_other ps w version none none other ∙ e
          go (some l) q (yes same) =
              absurd (kept (subst (λ (v : ℕ). Drops n t version buffer (remove v ∷ cs)) same
              (turns.here buffer l cs (ap (λ (v : ℕ). (dropping n t buffer v).reply) same ∙ length-told (dropping n t buffer w).reply l q))))
      stays p e (fetch w out) kept = go (length_of (called n t buffer (fetch w out)).reply)
        where
          go : (o : Option ℕ) → get_or (where_given o ps ps) version none ≡ some p
          go none = e
          go (some l) = e

      -- A version that exists after a call was put by the call, or existed before and was not dropped by it.
      came : (p : List ℕ) (c : Call) → get_or (after buffer ps c) version none ≡ some p →
          ((bytes : List ℕ) × (l : ℕ) × (c ≡ put version bytes) × ((putting n t buffer version bytes).reply ≡ Length l) × (p ≡ written_in (reading n bytes))) ⊎
          ((get_or ps version none ≡ some p) × ((Drops n t version (called n t buffer c).output cs → ⊥) → Drops n t version buffer (c ∷ cs) → ⊥))
      came p (put w bytes) e = go (length_of (putting n t buffer w bytes).reply) refl (ℕ_discrete version w) e
        where
          other : (Drops n t version (putting n t buffer w bytes).output cs → ⊥) → Drops n t version buffer (put w bytes ∷ cs) → ⊥
          other kept d =
              ⊎_elim (λ (is, _). let z : ◌≡◌ {A = ℕ} 0 1 = cc in omega arith) kept (first-drops n t version buffer (put w bytes) cs d)

          go : (o : Option ℕ) → length_of (putting n t buffer w bytes).reply ≡ o → Dec (version ≡ w) →
              get_or (where_given o ps (set ps w (some (written_in (reading n bytes))))) version none ≡ some p →
              ((b : List ℕ) × (l : ℕ) × (put w bytes ≡ put version b) × ((putting n t buffer version b).reply ≡ Length l) × (p ≡ written_in (reading n b))) ⊎
              ((get_or ps version none ≡ some p) ×
              ((Drops n t version (putting n t buffer w bytes).output cs → ⊥) → Drops n t version buffer (put w bytes ∷ cs) → ⊥))
          go none q d i = inr (i, other)
          go (some l) q (no apart) i = inr (sym (get_or-set_other ps w version (some (written_in (reading n bytes))) none apart) ∙ i, other)
          go (some l) q (yes same) i =
              let (few, _, _) = put-given n t opens buffer ps holds w bytes l q in
              let there : some p ≡ some (written_in (reading n bytes)) =
              sym i ∙ ap (λ (v : ℕ). get_or (set ps w (some (written_in (reading n bytes)))) v none) same ∙
              get_or-set_same ps w (some (written_in (reading n bytes))) none (omega (arith, holds.versions.sixteen)) in
              inl (
                bytes,
                l,
                ap (λ (v : ℕ). put v bytes) (sym same),
                ap (λ (v : ℕ). (putting n t buffer v bytes).reply) same ∙ length-told (putting n t buffer w bytes).reply l q,
                some-injective there,
              )
      came p (remove w) e = go (length_of (dropping n t buffer w).reply) refl (ℕ_discrete version w) e
        where
          silent : length_of (dropping n t buffer w).reply ≡ none → (Drops n t version (dropping n t buffer w).output cs → ⊥) → Drops n t version buffer (remove w ∷ cs) → ⊥
          silent q kept d =
              ⊎_elim (λ (is, (l, told)). let same : w ≡ version = cc in none-some (sym q ∙ ap (λ (v : ℕ). length_of (dropping n t buffer v).reply) same ∙ ap length_of told))
              kept (first-drops n t version buffer (remove w) cs d)

          other : (version ≡ w → ⊥) → (Drops n t version (dropping n t buffer w).output cs → ⊥) → Drops n t version buffer (remove w ∷ cs) → ⊥
          other apart kept d =
              ⊎_elim (λ (is, _). let same : w ≡ version = cc in apart (sym same)) kept (first-drops n t version buffer (remove w) cs d)

          go : (o : Option ℕ) → length_of (dropping n t buffer w).reply ≡ o → Dec (version ≡ w) → get_or (where_given o ps (set ps w none)) version none ≡ some p →
              ((b : List ℕ) × (l : ℕ) × (remove w ≡ put version b) × ((putting n t buffer version b).reply ≡ Length l) × (p ≡ written_in (reading n b))) ⊎
              ((get_or ps version none ≡ some p) ×
              ((Drops n t version (dropping n t buffer w).output cs → ⊥) → Drops n t version buffer (remove w ∷ cs) → ⊥))
          go none q d i = inr (i, silent q)
          go (some l) q (no apart) i = inr (sym (get_or-set_other ps w version none none apart) ∙ i, other apart)
          go (some l) q (yes same) i = none-some (sym (gone ps w) ∙ ap (λ (v : ℕ). get_or (set ps w none) v none) (sym same) ∙ i)
      came p (fetch w out) e = inr (go (length_of (called n t buffer (fetch w out)).reply) e, other)
        where
          other : (Drops n t version buffer cs → ⊥) → Drops n t version buffer (fetch w out ∷ cs) → ⊥
          other kept d =
              ⊎_elim (λ (is, _). let z : ◌≡◌ {A = ℕ} 0 1 = cc in omega arith) kept (first-drops n t version buffer (fetch w out) cs d)

          go : (o : Option ℕ) → get_or (where_given o ps ps) version none ≡ some p → get_or ps version none ≡ some p
          go none i = i
          go (some l) i = i

    -- A version that exists is there after any calls that do not drop it.
    pub kept_on : (cs : List Call) (buffer : List ℕ) (ps : Programs) → Holds n t buffer ps → (p : List ℕ) → get_or ps version none ≡ some p →
        (Drops n t version buffer cs → ⊥) → get_or (programs_after n t buffer ps cs) version none ≡ some p
    unfolding programs_after
    kept_on [] buffer ps holds p e kept = e
    kept_on (c ∷ cs) buffer ps holds p e kept =
        kept_on cs (called n t buffer c).output (after buffer ps c) (called-holds n t opens buffer ps holds c).1 p (stays buffer ps holds cs p e c kept)
        (λ d. kept (turns.later buffer c cs d))

    -- A program that is kept is accepted, and its written record is there after the calls.
    pub kept-program : (bytes : List ℕ) (cs : List Call) (buffer : List ℕ) (ps : Programs) → Holds n t buffer ps → Keeps n t version bytes buffer cs →
        (rows : List (Row Label)) × (reading n bytes ≡ accepted rows) × (get_or (programs_after n t buffer ps cs) version none ≡ some (written_record rows))
    unfolding programs_after
    kept-program bytes [] buffer ps holds x'' = elim x'' [ ]
    kept-program bytes (c ∷ cs) buffer ps holds (turns.here _ l _ told kept) =
        let given : length_of (putting n t buffer version bytes).reply ≡ some l = ap length_of told in
        let (few, free, (rows, reads)) = put-given n t opens buffer ps holds version bytes l given in
        let qs : Programs = set ps version (some (written_in (reading n bytes))) in
        let is : after buffer ps (put version bytes) ≡ qs = ap (λ (o : Option ℕ). where_given o ps qs) given in (
          rows,
          reads,
          kept_on cs (putting n t buffer version bytes).output (after buffer ps (put version bytes)) (called-holds n t opens buffer ps holds (put version bytes)).1
              (written_record rows)
              (ap (λ (rs : Programs). get_or rs version none) is ∙
              get_or-set_same ps version (some (written_in (reading n bytes))) none (omega (arith, holds.versions.sixteen)) ∙
              ap (λ o. some (written_in o)) reads)
              kept,
        )
    kept-program bytes (c ∷ cs) buffer ps holds (turns.later _ _ _ more) =
        kept-program bytes cs (called n t buffer c).output (after buffer ps c) (called-holds n t opens buffer ps holds c).1 more

    -- Every program that is there after the calls is kept, or was there before them and is not dropped.
    pub program-kept : (cs : List Call) (buffer : List ℕ) (ps : Programs) → Holds n t buffer ps → (p : List ℕ) →
        get_or (programs_after n t buffer ps cs) version none ≡ some p →
        ((bytes : List ℕ) × Keeps n t version bytes buffer cs × (p ≡ written_in (reading n bytes))) ⊎
        ((get_or ps version none ≡ some p) × (Drops n t version buffer cs → ⊥))
    unfolding programs_after
    program-kept [] buffer ps holds p e = inr (e, λ d. elim d [ ])
    program-kept (c ∷ cs) buffer ps holds p e =
        more (program-kept cs (called n t buffer c).output (after buffer ps c) (called-holds n t opens buffer ps holds c).1 p e)
      where
        this : (Drops n t version (called n t buffer c).output cs → ⊥) →
            ((bytes : List ℕ) × (l : ℕ) × (c ≡ put version bytes) × ((putting n t buffer version bytes).reply ≡ Length l) × (p ≡ written_in (reading n bytes))) ⊎
            ((get_or ps version none ≡ some p) × ((Drops n t version (called n t buffer c).output cs → ⊥) → Drops n t version buffer (c ∷ cs) → ⊥)) →
            ((bytes : List ℕ) × Keeps n t version bytes buffer (c ∷ cs) × (p ≡ written_in (reading n bytes))) ⊎
            ((get_or ps version none ≡ some p) × (Drops n t version buffer (c ∷ cs) → ⊥))
        this kept (inl (bytes, l, is, told, same)) =
            inl (
              bytes,
              subst (λ (x : Call). Keeps n t version bytes buffer (x ∷ cs)) (sym is)
                  (turns.here buffer l cs told (λ d. kept (subst (λ (x : Call). Drops n t version (called n t buffer x).output cs) (sym is) d))),
              same,
            )
        this kept (inr (before, other)) = inr (before, other kept)

        more : ((bytes : List ℕ) × Keeps n t version bytes (called n t buffer c).output cs × (p ≡ written_in (reading n bytes))) ⊎
            ((get_or (after buffer ps c) version none ≡ some p) × (Drops n t version (called n t buffer c).output cs → ⊥)) →
            ((bytes : List ℕ) × Keeps n t version bytes buffer (c ∷ cs) × (p ≡ written_in (reading n bytes))) ⊎
            ((get_or ps version none ≡ some p) × (Drops n t version buffer (c ∷ cs) → ⊥))
        more (inl (bytes, kept, same)) = inl (bytes, turns.later buffer c cs kept, same)
        more (inr (there, kept)) = this kept (came buffer ps holds cs p c there)
