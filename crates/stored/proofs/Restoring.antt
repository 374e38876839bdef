-- A state is read back: its map, its common part and its differences give the programs.
use mathlib.Core.Path.{◌≡◌, refl, sym, ◌∙◌, ap}
use mathlib.Core.Bool.{Bool, cond}
use mathlib.Core.List.{List, [], ◌∷◌, ◌++◌, append_assoc, append-nil}
use mathlib.Core.Option.{Option, none, some, bind, map-eq-some_iff}
use Prim.Native.Nat.{ℕ, suc, ◌+◌, ◌*◌, ◌/◌, ◌^◌, ◌<◌}
use native.Mathlib.Omega.{arith}
use borrow.Author.Tests.{ne_eqb}
use lib.ListN.{length, get_or, replicate}
use lib.Seq.{append_snoc}
use Rattle.std.specs.Prelude.{Ok}
use Rattle.acceptance.specs.Reply.{opened}
use Rattle.gathering.proofs.Spans.{two-bytes-read}
use Rattle.demands.specs.Demand.{WrittenRecord}
use Rattle.versions.specs.State.{
  Made,
  made,
  stopped,
  and_then,
  Programs,
  no_programs,
  two_bytes,
  map_of,
  measured,
  state_of,
  difference_of,
  differences,
  take_measured,
  restored,
  unpacked_by,
  unpacked,
}
use Rattle.versions.proofs.Loops.{restored_on, on-end, on-absent, on-present}
use Rattle.versions.proofs.SlotLaws.{map_below}
use Rattle.stored.specs.Theorem.{Versions}
use Rattle.stored.proofs.Bytes.{measured-taken}
use Rattle.gathered.proofs.Records.{written-short}
use Rattle.stored.proofs.Records.{made-injective, stopped-made, difference-written, difference-restored}

-- If one thing after another is made, the first is made and so is the second.
pub then-made : (m : Made) (next : List ℕ → Made) (b : List ℕ) → and_then m next ≡ made b → (x : List ℕ) × (m ≡ made x) × (next x ≡ made b)
then-made (made x) next b e = (x, refl, e)
then-made (stopped r) next b e = stopped-made e

-- A map of 0 says that no version exists.
pub map-zero : (ps : Programs) → map_of ps ≡ 0 → ps ≡ replicate (length ps) none
unfolding map_of
map-zero [] e = refl
map-zero (none ∷ ps) e = ap (λ (qs : Programs). none ∷ qs) (map-zero ps (omega arith))
map-zero (some p ∷ ps) e = absurd (omega arith)

module _ (n : ℕ) (t : List ℕ) where
  module _ (opens : opened n t ≡ Ok tt) (part : List ℕ) (one : WrittenRecord n part) where
    -- The differences of programs from a common part give these programs, behind those that are restored already.
    restored-behind : (before ps : Programs) → ((v : ℕ) (p : List ℕ) → get_or ps v none ≡ some p → WrittenRecord n p) → (ds rest : List ℕ) →
        differences n t part ps ≡ made ds → restored_on n t before part (length ps) (map_of ps) (ds ++ rest) ≡ some (before ++ ps)
    unfolding differences map_of
    restored-behind before [] written ds rest e = on-end n t before part 0 (ds ++ rest) ∙ ap some (sym (append-nil before))
    restored-behind before (none ∷ ps) written ds rest e =
        let half : (0 + 2 * map_of ps) / 2 ≡ map_of ps = omega arith in
        on-absent n t before part (length ps) (0 + 2 * map_of ps) (ds ++ rest) (λ odd. omega arith) ∙
        ap (λ (x : ℕ). restored_on n t (before ++ none ∷ []) part (length ps) x (ds ++ rest)) half ∙
        restored-behind (before ++ none ∷ []) ps (λ v. written (suc v)) ds rest e ∙ ap some (append_snoc before none ps)
    restored-behind before (some p ∷ ps) written ds rest e =
        let (d, is, more) = then-made (difference_of n t part p) (λ d. and_then (differences n t part ps) λ ds. made (measured d ++ ds)) ds e in
        let (others, rest-is, last) = then-made (differences n t part ps) (λ ds. made (measured d ++ ds)) ds more in
        let half : (1 + 2 * map_of ps) / 2 ≡ map_of ps = omega arith in
        ap (λ (x : List ℕ). restored_on n t before part (suc (length ps)) (1 + 2 * map_of ps) x)
        (ap (λ (x : List ℕ). x ++ rest) (sym (made-injective last)) ∙ append_assoc (measured d) others rest) ∙
        on-present n t before part (length ps) (1 + 2 * map_of ps) (measured d ++ (others ++ rest)) (omega arith) d (others ++ rest)
        (measured-taken d (others ++ rest) (omega (arith, written-short n d (difference-written n t part p d is))))
        p (difference-restored n t part p d opens one (written 0 p refl) is) ∙
        ap (λ (x : ℕ). restored_on n t (before ++ some p ∷ []) part (length ps) x (others ++ rest)) half ∙
        restored-behind (before ++ some p ∷ []) ps (λ v. written (suc v)) others rest rest-is ∙ ap some (append_snoc before (some p) ps)

    differences-restored : (ps : Programs) → ((v : ℕ) (p : List ℕ) → get_or ps v none ≡ some p → WrittenRecord n p) → (ds rest : List ℕ) →
        differences n t part ps ≡ made ds → restored n t part (length ps) (map_of ps) (ds ++ rest) ≡ some ps
    differences-restored ps written ds rest e =
        let (qs, is, same) =
        (map-eq-some_iff (λ (qs : Programs). qs) (restored n t part (length ps) (map_of ps) (ds ++ rest))).0 (restored-behind [] ps written ds rest e) in
        is ∙ ap some same

    -- A state gives its programs, whatever stands behind it.
    pub state-unpacked : (ps : Programs) → Versions n ps → (ds rest : List ℕ) → differences n t part ps ≡ made ds → 0 < map_of ps →
        unpacked n t (state_of ps part ds ++ rest) ≡ some ps
    unfolding unpacked state_of two_bytes bind
    state-unpacked ps versions ds rest e there =
        let small : map_of ps < 65536 = omega (arith, map_below ps, ap (λ (k : ℕ). 2 ^ k) versions.sixteen) in
        ap (λ (x : ℕ). unpacked_by n t x (measured part ++ ds ++ rest)) (two-bytes-read (map_of ps) small) ∙
        ap (λ (b : Bool). cond b (some no_programs) (bind (take_measured (measured part ++ ds ++ rest)) λ part. restored n t part.0 16 (map_of ps) part.1))
        (ne_eqb (map_of ps) 0 (λ z. omega arith)) ∙
        ap (λ (o : Option (List ℕ × List ℕ)). bind o λ part. restored n t part.0 16 (map_of ps) part.1)
        (ap take_measured (append_assoc (measured part) ds rest) ∙
        measured-taken part (ds ++ rest) (omega (arith, written-short n part one))) ∙
        ap (λ (k : ℕ). restored n t part k (map_of ps) (ds ++ rest)) (sym versions.sixteen) ∙
        differences-restored ps versions.written ds rest e
