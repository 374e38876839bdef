-- Why 18,431 bytes of the input are enough to read: a longer input is bad, and so are its first 18,431 bytes.
use mathlib.Core.Path.{◌≡◌, refl, sym, ◌∙◌, ap, subst}
use mathlib.Core.Bool.{Bool, true, false, cond}
use mathlib.Core.List.{List, [], ◌∷◌}
use mathlib.Core.Option.{none, some}
use Prim.Native.Nat.{ℕ, suc, ◌+◌, ◌*◌, ◌≤◌, ◌<◌}
use native.Mathlib.Decide.{dec_lt}
use native.Mathlib.Omega.{arith}
use borrow.Author.Tests.{leb-true}
use lib.Dec.{leb}
use lib.ListN.{length, get_or, take, drop, length-drop}
use lib.Seq.{get_or-take, length-take-le, take_all}
use Rattle.graphs.proofs.Walk.{some-injective, none-some}
use Rattle.request.specs.Request.{operation_of, take_bytes, take_record, asked_of, requested}
use Rattle.request.specs.Line.{line_for, line_of}
use Rattle.request.proofs.Parsing.{bind-none, end-left}

-- The bytes that are taken, and those that are left.

bytes_count : (k : ℕ) (bytes : List ℕ) (p : List ℕ × List ℕ) → take_bytes k bytes ≡ some p → length bytes ≡ k + length p.1
unfolding take_bytes
bytes_count k bytes p e = go (leb k (length bytes)) refl e
  where
    go : (b : Bool) → leb k (length bytes) ≡ b → cond b (some (take k bytes, drop k bytes)) none ≡ some p → length bytes ≡ k + length p.1
    go true h q =
        let same : (take k bytes, drop k bytes) ≡ p = some-injective q in
        omega (arith, leb-true k (length bytes) h, length-drop k bytes, ap (λ (x : List ℕ × List ℕ). length x.1) same)
    go false h q = absurd (none-some q)

record-count : (bytes : List ℕ) (p : List ℕ × List ℕ) → take_record bytes ≡ some p → length bytes ≤ 8194 + length p.1
unfolding take_record
record-count [] p e = absurd (none-some e)
record-count (low ∷ []) p e = absurd (none-some e)
record-count (low ∷ high ∷ rest) p e = go (leb (low + 256 * high) 8192) refl e
  where
    go : (b : Bool) → leb (low + 256 * high) 8192 ≡ b → cond b (take_bytes (low + 256 * high) rest) none ≡ some p →
        suc (suc (length rest)) ≤ 8194 + length p.1
    go true h q = omega (arith, leb-true (low + 256 * high) 8192 h, bytes_count (low + 256 * high) rest p q)
    go false h q = absurd (none-some q)

-- An input of more than 18,430 bytes is bad, where its second byte, n, is below 256.
long-bad : (input : List ℕ) → get_or input 1 0 < 256 → 18430 < length input → requested input ≡ none
unfolding requested asked_of
long-bad [] small long = refl
long-bad (o ∷ []) small long = bind-none (operation_of o) _ λ operation e. refl
long-bad (o ∷ n ∷ rest) small long =
    bind-none (operation_of o) _ λ operation e.
    bind-none (take_bytes (8 * n) rest) _ λ table t.
    bind-none (take_record table.1) _ λ first f.
    bind-none (take_record first.1) _ λ second s.
    end-left second.1 _ λ none_left.
    omega (
      arith,
      bytes_count (8 * n) rest table t,
      record-count table.1 first f,
      record-count first.1 second s,
    )

-- "or has bytes left": an input has the line of its first 18,431 bytes.
pub line-of-start : (input : List ℕ) → get_or input 1 0 < 256 → line_of (take 18431 input) ≡ line_of input
unfolding line_of
line-of-start input small = go (dec_lt (length input) 18431)
  where
    go : Dec (length input < 18431) → line_for (requested (take 18431 input)) ≡ line_for (requested input)
    go (yes short) = ap (λ (l : List ℕ). line_for (requested l)) (take_all 18431 input (omega arith))
    go (no long) =
        ap line_for
        (long-bad (take 18431 input) (subst (λ (n : ℕ). n < 256) (sym (get_or-take 18431 input 1 0 (omega arith))) small)
        (omega (arith, length-take-le 18431 input (omega arith)))
        ∙ sym (long-bad input small (omega arith)))
