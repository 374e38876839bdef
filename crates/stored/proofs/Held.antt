-- What a buffer holds: the programs whose way in its length ends in its first bytes, and no others. The bytes behind these do not matter.
use mathlib.Core.Path.{◌≡◌, refl, sym, ◌∙◌, ap, subst}
use mathlib.Core.Bool.{Bool, true, false, cond}
use mathlib.Core.List.{List, [], ◌∷◌, ◌++◌}
use mathlib.Core.Logic.{◌↔◌}
use mathlib.Core.Option.{Option, none, some, map, bind, bind-eq-some_iff, map-eq-some_iff}
use Prim.Native.Nat.{ℕ, zero, suc, ◌+◌, ◌*◌, ◌/◌, ◌%◌, ◌≤◌}
use native.Mathlib.Omega.{arith}
use borrow.Author.Tests.{leb-true}
use lib.Dec.{eqb, leb}
use lib.ListN.{length, get_or, drop, replicate}
use Rattle.graphs.proofs.Walk.{some-injective}
use Rattle.std.specs.Prelude.{Ok}
use Rattle.acceptance.specs.Reply.{opened}
use Rattle.demands.specs.Demand.{WrittenRecord}
use Rattle.gathering.proofs.Told.{none-some}
use Rattle.versions.specs.State.{
  Made,
  made,
  stopped,
  record_in,
  Programs,
  no_programs,
  empty_state,
  combination,
  way_from,
  way,
  take_measured,
  begins,
  restored,
  unpacked,
  held,
}
use Rattle.stored.specs.Theorem.{Versions, Holds}
use Rattle.stored.proofs.Bytes.{starts-with}
use Rattle.stored.proofs.Records.{combination-written}
use Rattle.stored.proofs.Way.{reached-held}

record-made : (m : Made) (p : List ℕ) → record_in m ≡ some p → m ≡ made p
record-made (made b) p e = ap made (some-injective e)
record-made (stopped r) p e = none-some e

pub absent-all : (k v : ℕ) → get_or (replicate {A = Option (List ℕ)} k none) v none ≡ none
absent-all zero v = refl
absent-all (suc k) zero = refl
absent-all (suc k) (suc v) = absent-all k v

-- An empty store has 16 versions, all of them absent.
empty-versions : (n : ℕ) → Versions n no_programs
empty-versions n = record { sixteen = refl; written = λ v p e. none-some (sym (absent-all 16 v) ∙ e) }

-- There are `count` versions, and each that exists is a written record.
abbrev Some : ℕ → ℕ → Programs → Type 0
Some n count ps = (length ps ≡ count) × ((v : ℕ) (p : List ℕ) → get_or ps v none ≡ some p → WrittenRecord n p)

some_more : (n count : ℕ) (o : Option (List ℕ)) (qs : Programs) → ((p : List ℕ) → o ≡ some p → WrittenRecord n p) → Some n count qs →
    Some n (suc count) (o ∷ qs)
some_more n count o qs one (long, written) = (ap suc long, go)
  where
    go : (v : ℕ) (p : List ℕ) → get_or (o ∷ qs) v none ≡ some p → WrittenRecord n p
    go zero p e = one p e
    go (suc v) p e = written v p e

module _ (n : ℕ) (t : List ℕ) where
  restored-some : (part : List ℕ) (count bits : ℕ) (bytes : List ℕ) (ps : Programs) → restored n t part count bits bytes ≡ some ps → Some n count ps
  unfolding restored bind-eq-some_iff
  restored-some part zero bits bytes ps e =
      subst (Some n 0) (some-injective e) (refl, λ v p d. none-some d)
  restored-some part (suc count) bits bytes ps e = go (restored-some part count (bits / 2)) (eqb (bits % 2) 1) e
    where
      go : ((bytes : List ℕ) (ps : Programs) → restored n t part count (bits / 2) bytes ≡ some ps → Some n count ps) → (b : Bool) →
          cond b
          (bind (take_measured bytes) λ d.
          bind (record_in (combination n t d.0 part)) λ p.
          map (λ ps. some p ∷ ps) (restored n t part count (bits / 2) d.1))
          (map (λ ps. none ∷ ps) (restored n t part count (bits / 2) bytes)) ≡ some ps → Some n (suc count) ps
      go more true d =
          let (taken, _, on) =
          (bind-eq-some_iff (take_measured bytes) (λ d.
          bind (record_in (combination n t d.0 part)) λ p.
          map (λ ps. some p ∷ ps) (restored n t part count (bits / 2) d.1))).0 d in
          let (p, is, last) =
          (bind-eq-some_iff (record_in (combination n t taken.0 part)) (λ p.
          map (λ ps. some p ∷ ps) (restored n t part count (bits / 2) taken.1))).0 on in
          let (qs, rest, whole) = (map-eq-some_iff (λ ps. some p ∷ ps) (restored n t part count (bits / 2) taken.1)).0 last in
          let one : WrittenRecord n p = combination-written n t taken.0 part p (record-made (combination n t taken.0 part) p is) in
          subst (Some n (suc count)) {x = some p ∷ qs} whole
          (some_more n count (some p) qs (λ q s. subst (WrittenRecord n) (some-injective s) one) (more taken.1 qs rest))
      go more false d =
          let (qs, rest, whole) = (map-eq-some_iff (λ ps. none ∷ ps) (restored n t part count (bits / 2) bytes)).0 d in
          subst (Some n (suc count)) {x = none ∷ qs} whole (some_more n count none qs (λ q s. none-some s) (more bytes qs rest))

  -- What is unpacked has 16 versions, and each that exists is a written record.
  unpacked-versions : (bytes : List ℕ) (ps : Programs) → unpacked n t bytes ≡ some ps → Versions n ps
  unfolding unpacked
  unpacked-versions [] ps e = none-some e
  unpacked-versions (low ∷ []) ps e = none-some e
  unpacked-versions (low ∷ high ∷ rest) ps e = go (eqb (low + 256 * high) 0) e
    where
      go : (b : Bool) → cond b (some no_programs) (bind (take_measured rest) λ part. restored n t part.0 16 (low + 256 * high) part.1) ≡ some ps →
          Versions n ps
      go true d = subst (Versions n) (some-injective d) (empty-versions n)
      go false d =
          let (part, _, on) =
          (bind-eq-some_iff (take_measured rest) (λ part. restored n t part.0 16 (low + 256 * high) part.1)).0 d in
          let (long, written) = restored-some part.0 16 (low + 256 * high) part.1 ps on in
          record { sixteen = long; written = written }

  begins-made : (m : Made) (buffer : List ℕ) → begins m buffer ≡ true →
      (state : List ℕ) × (m ≡ made state) × (buffer ≡ state ++ drop (length state) buffer)
  begins-made (made state) buffer e = (state, refl, starts-with state buffer e)
  begins-made (stopped r) buffer e = let z : ◌≡◌ {A = ℕ} 0 1 = cc in absurd (omega arith)

  -- The programs that `held` gives are programs that the buffer holds.
  pub held-sound : (buffer : List ℕ) (ps : Programs) → held n t buffer ≡ some ps → Holds n t buffer ps
  unfolding held bind-eq-some_iff
  held-sound buffer ps e = go (leb (length buffer) 16384) refl e
    where
      stands : (qs : Programs) → length buffer ≤ 16384 → unpacked n t buffer ≡ some qs → (b : Bool) → begins (way n t (length buffer) qs) buffer ≡ b →
          cond b (some qs) none ≡ some ps → Holds n t buffer ps
      stands qs lent is true begin d =
          let (state, reached, first) = begins-made (way n t (length buffer) qs) buffer begin in
          subst (Holds n t buffer) (some-injective d)
          (record { versions = unpacked-versions buffer qs is; lent = lent; state = state; reached = reached; first = first })
      stands qs lent is false begin d = none-some d

      go : (b : Bool) → leb (length buffer) 16384 ≡ b →
          cond b (bind (unpacked n t buffer) λ ps. cond (begins (way n t (length buffer) ps) buffer) (some ps) none) none ≡ some ps → Holds n t buffer ps
      go true q d =
          let (qs, is, on) =
          (bind-eq-some_iff (unpacked n t buffer) (λ ps. cond (begins (way n t (length buffer) ps) buffer) (some ps) none)).0 d in
          stands qs (leb-true (length buffer) 16384 q) is (begins (way n t (length buffer) qs) buffer) refl on
      go false q d = none-some d

  module _ (opens : opened n t ≡ Ok tt) where
    -- Programs that a buffer holds are given by `held`.
    pub held-complete : (buffer : List ℕ) (ps : Programs) → Holds n t buffer ps → held n t buffer ≡ some ps
    held-complete buffer ps holds =
        ap (held n t) holds.first ∙
        reached-held n t opens (length buffer) ps holds.versions holds.state holds.reached
        (drop (length holds.state) buffer) (ap length (sym holds.first)) holds.lent

    -- `held` decides which programs a buffer holds: it reads the state and goes the way.
    pub held-exact : (buffer : List ℕ) (ps : Programs) → (held n t buffer ≡ some ps) ↔ Holds n t buffer ps
    held-exact buffer ps = (held-sound buffer ps, held-complete buffer ps)

    -- "Bytes past the used ones may hold anything."
    pub past-used : (buffer other : List ℕ) (ps : Programs) (holds : Holds n t buffer ps) → length other ≡ length buffer →
        other ≡ holds.state ++ drop (length holds.state) other → held n t other ≡ some ps
    past-used buffer other ps holds long first =
        held-complete other ps (record {
          versions = holds.versions;
          lent = omega (arith, holds.lent);
          state = holds.state;
          reached = ap (λ (k : ℕ). way n t k ps) long ∙ holds.reached;
          first = first;
        })

  -- The way of no programs ends in two zero bytes, whatever the table and the room.
  pub empty-way : (room : ℕ) → way n t room no_programs ≡ made empty_state
  unfolding way way_from
  empty-way room = refl

  -- A buffer that begins with two zero bytes holds no programs.
  pub empty-held : (rest : List ℕ) → length rest ≤ 16382 → Holds n t (empty_state ++ rest) no_programs
  empty-held rest h =
      record { versions = empty-versions n; lent = omega arith; state = empty_state; reached = empty-way (length (empty_state ++ rest)); first = refl }
