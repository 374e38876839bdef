-- The bytes of a state are read back: lengths, records behind their lengths, and first bytes.
use mathlib.Core.Path.{◌≡◌, refl, sym, ◌∙◌, ap, ap₂}
use mathlib.Core.Bool.{Bool, true, false, cond, ◌&&◌}
use mathlib.Core.List.{List, [], ◌∷◌, ◌++◌}
use mathlib.Core.Option.{none, some}
use Prim.Native.Nat.{ℕ, ◌<◌}
use native.Mathlib.Omega.{arith}
use borrow.Author.Tests.{le-leb, eq-eqb, eqb-true}
use lib.Dec.{eqb, leb}
use lib.ListN.{length, take, drop, length-append}
use lib.Seq.{take-append_seam, drop-append_seam}
use Rattle.gathering.proofs.Spans.{two-bytes-read}
use Rattle.versions.specs.State.{two_bytes, measured, take_measured, starts_with}

-- A record behind its length is read back.
pub measured-taken : (bytes rest : List ℕ) → length bytes < 65536 → take_measured (measured bytes ++ rest) ≡ some (bytes, rest)
unfolding take_measured measured two_bytes
measured-taken bytes rest h =
    ap (λ (l : ℕ). cond (leb l (length (bytes ++ rest))) (some (take l (bytes ++ rest), drop l (bytes ++ rest))) none) (two-bytes-read (length bytes) h) ∙
    ap (λ b. cond b (some (take (length bytes) (bytes ++ rest), drop (length bytes) (bytes ++ rest))) none)
    (le-leb (length bytes) (length (bytes ++ rest)) (simp length-append (omega arith))) ∙
    ap₂ (λ (x y : List ℕ). some (x, y)) (take-append_seam bytes rest) (drop-append_seam bytes rest)

-- bytes begin with themselves
pub starts-append : (xs rest : List ℕ) → starts_with xs (xs ++ rest) ≡ true
unfolding starts_with
starts-append [] rest = refl
starts-append (x ∷ xs) rest = ap (λ b. b && starts_with xs (xs ++ rest)) (eq-eqb x x refl) ∙ starts-append xs rest

-- A list that begins with some bytes is these bytes and what stands behind them.
pub starts-with : (xs bytes : List ℕ) → starts_with xs bytes ≡ true → bytes ≡ xs ++ drop (length xs) bytes
unfolding starts_with
starts-with [] bytes h = refl
starts-with (x ∷ xs) [] h = let z : ◌≡◌ {A = ℕ} 0 1 = cc in absurd (omega arith)
starts-with (x ∷ xs) (b ∷ bs) h = go (starts-with xs bs) (eqb x b) refl h
  where
    go : (starts_with xs bs ≡ true → bs ≡ xs ++ drop (length xs) bs) → (e : Bool) → eqb x b ≡ e → e && starts_with xs bs ≡ true →
        b ∷ bs ≡ x ∷ (xs ++ drop (length xs) bs)
    go more true e s = ap₂ (λ (y : ℕ) (ys : List ℕ). y ∷ ys) (sym (eqb-true x b e)) (more s)
    go more false e s = let z : ◌≡◌ {A = ℕ} 0 1 = cc in absurd (omega arith)
