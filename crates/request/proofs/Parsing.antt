-- Laws of parsing: what is read of the input, and when it is bad.
use mathlib.Core.Path.{◌≡◌, refl, sym, ◌∙◌, ap, ap₂}
use mathlib.Core.Bool.{cond}
use mathlib.Core.List.{List, [], ◌∷◌}
use mathlib.Core.Option.{Option, none, some, bind}
use Prim.Native.Nat.{ℕ, ◌+◌, ◌-◌, ◌*◌, ◌≤◌, ◌<◌}
use native.Mathlib.Omega.{arith}
use borrow.Author.Tests.{le-leb, lt-leb, eq-eqb, ne_eqb}
use lib.Dec.{leb}
use lib.ListN.{length, get_or, take, drop}
use lib.Seq.{take_all}
use Rattle.std.specs.Prelude.{MatchOption, ok_or, Some, None, Result, Ok, Err, IsErr, Option as Maybe}
use Rattle.std.specs.Borrow.{Bor}
use Rattle.std.specs.List.{IsSplitAt}
use Rattle.request.specs.declared.parse.Operation.{Operation}
use Rattle.request.specs.declared.parse.Operation.TheVariants.{Generalize, Unify, Difference, Order}
use Rattle.request.specs.declared.parse.Asked.{Asked}
use Rattle.request.specs.declared.parse.BadInput.{BadInput}
use Rattle.request.specs.Request.{Request, operation_of, take_bytes, take_record, at_end, asked_of, requested}
use Rattle.request.specs.Parse.{request_in, taken}

-- the bytes that a split gives, which is none where there are too few
pub taken-is : (count : ℕ) (bytes : List ℕ) (o : Maybe (Bor (List ℕ) × Bor (List ℕ))) (bad : BadInput) →
    MatchOption o (length bytes < count) (λ p. IsSplitAt bytes count p.0.now p.1.now) → taken (ok_or o bad) ≡ take_bytes count bytes
unfolding take_bytes
taken-is count bytes None bad h = sym (ap (λ b. cond b (some (take count bytes, drop count bytes)) none) (lt-leb count (length bytes) h))
taken-is count bytes (Some p) bad h =
    ap₂ (λ (front back : List ℕ). some (front, back)) h.1 h.2
    ∙ sym (ap (λ b. cond b (some (take count bytes, drop count bytes)) none) (le-leb count (length bytes) h.0))

-- The first bytes, and those behind them.

front-one : (bytes : List ℕ) → 1 ≤ length bytes → bytes ≡ get_or bytes 0 0 ∷ take (length bytes - 1) (drop 1 bytes)
front-one [] h = absurd (omega arith)
front-one (b ∷ bytes) h = ap (λ (l : List ℕ). b ∷ l) (sym (take_all (length (b ∷ bytes) - 1) bytes (omega arith)))

front-two : (bytes : List ℕ) → 2 ≤ length bytes → bytes ≡ get_or bytes 0 0 ∷ get_or bytes 1 0 ∷ take (length bytes - 2) (drop 2 bytes)
front-two [] h = absurd (omega arith)
front-two (b ∷ []) h = absurd (omega arith)
front-two (b ∷ d ∷ bytes) h = ap (λ (l : List ℕ). b ∷ d ∷ l) (sym (take_all (length (b ∷ d ∷ bytes) - 2) bytes (omega arith)))

-- Records.

pub record-none : (bytes : List ℕ) → length bytes < 2 → none ≡ take_record bytes
unfolding take_record
record-none [] h = refl
record-none (low ∷ []) h = refl
record-none (low ∷ high ∷ rest) h = absurd (omega arith)

module _ (bytes : List ℕ) (there : 2 ≤ length bytes) where
  abbrev size : ℕ
  size = get_or bytes 0 0 + 256 * get_or bytes 1 0

  abbrev behind : Option (List ℕ × List ℕ)
  behind = take_bytes size (take (length bytes - 2) (drop 2 bytes))

  record-is : take_record bytes ≡ cond (leb size 8192) behind none
  unfolding take_record
  record-is = ap take_record (front-two bytes there)

  pub record-long : 8192 < size → none ≡ take_record bytes
  record-long h = sym (record-is ∙ ap (λ b. cond b behind none) (lt-leb size 8192 h))

  pub record-there : size ≤ 8192 → behind ≡ take_record bytes
  record-there h = sym (record-is ∙ ap (λ b. cond b behind none) (le-leb size 8192 h))

-- What follows the operation byte.

pub end-left : (rest : List ℕ) (request : Request) → (length rest ≡ 0 → ⊥) → at_end rest request ≡ none
end-left rest request h = ap (λ b. cond b (some request) none) (ne_eqb (length rest) 0 h)

end-there : (rest : List ℕ) (request : Request) → length rest ≡ 0 → at_end rest request ≡ some request
end-there rest request h = ap (λ b. cond b (some request) none) (eq-eqb (length rest) 0 h)

abbrev after_second : Operation → ℕ → List ℕ → List ℕ → List ℕ × List ℕ → Option Request
after_second operation n table first second =
    at_end second.1 (record { operation = operation; n = n; table = table; first = first; second = second.0 })

abbrev after_first : Operation → ℕ → List ℕ → List ℕ × List ℕ → Option Request
after_first operation n table first = bind (take_record first.1) (after_second operation n table first.0)

abbrev after_table : Operation → ℕ → List ℕ × List ℕ → Option Request
after_table operation n table = bind (take_record table.1) (after_first operation n table.0)

-- An answer that is an error gives no request.
pub no-request : (answer : Result Asked BadInput) → IsErr answer → request_in answer ≡ none
no-request (Ok asked) h = let z : ⊥ = cc h in absurd z
no-request (Err bad) h = refl

pub asked-none : (operation : Operation) (bytes : List ℕ) → length bytes < 1 → none ≡ asked_of operation bytes
unfolding asked_of
asked-none operation [] h = refl
asked-none operation (n ∷ rest) h = absurd (omega arith)

module _ (operation : Operation) (bytes : List ℕ) (there : 1 ≤ length bytes) where
  abbrev n : ℕ
  n = get_or bytes 0 0

  abbrev rest : List ℕ
  rest = take (length bytes - 1) (drop 1 bytes)

  asked-is : asked_of operation bytes ≡ bind (take_bytes (8 * n) rest) (after_table operation n)
  unfolding asked_of
  asked-is = ap (asked_of operation) (front-one bytes there)

  pub table-bad : none ≡ take_bytes (8 * n) rest → none ≡ asked_of operation bytes
  unfolding bind
  table-bad e = sym (asked-is ∙ ap (λ o. bind o (after_table operation n)) (sym e))

  module _ {table records : List ℕ} (took : some (table, records) ≡ take_bytes (8 * n) rest) where
    first-is : asked_of operation bytes ≡ bind (take_record records) (after_first operation n table)
    unfolding bind
    first-is = asked-is ∙ ap (λ o. bind o (after_table operation n)) (sym took)

    pub first-bad : none ≡ take_record records → none ≡ asked_of operation bytes
    unfolding bind
    first-bad e = sym (first-is ∙ ap (λ o. bind o (after_first operation n table)) (sym e))

    module _ {first more : List ℕ} (one : some (first, more) ≡ take_record records) where
      second-is : asked_of operation bytes ≡ bind (take_record more) (after_second operation n table first)
      unfolding bind
      second-is = first-is ∙ ap (λ o. bind o (after_first operation n table)) (sym one)

      pub second-bad : none ≡ take_record more → none ≡ asked_of operation bytes
      unfolding bind
      second-bad e = sym (second-is ∙ ap (λ o. bind o (after_second operation n table first)) (sym e))

      module _ {second left : List ℕ} (two : some (second, left) ≡ take_record more) where
        end-is : asked_of operation bytes ≡ after_second operation n table first (second, left)
        unfolding bind
        end-is = second-is ∙ ap (λ o. bind o (after_second operation n table first)) (sym two)

        pub bytes_left : (length left ≡ 0 → ⊥) → none ≡ asked_of operation bytes
        bytes_left h = sym (end-is ∙ end-left left _ h)

        pub asked-whole : length left ≡ 0 →
            some (record { operation = operation; n = n; table = table; first = first; second = second }) ≡ asked_of operation bytes
        asked-whole h = sym (end-is ∙ end-there left _ h)

-- If every value gives nothing, a value that may be missing gives nothing.
pub bind-none : {X Y : Type 0} (o : Option X) (next : X → Option Y) → ((x : X) → o ≡ some x → next x ≡ none) → bind o next ≡ none
unfolding bind
bind-none none next h = refl
bind-none (some x) next h = h x refl

-- The operation byte.

pub requested-none : (input : List ℕ) → length input < 1 → none ≡ requested input
unfolding requested
requested-none [] h = refl
requested-none (o ∷ rest) h = absurd (omega arith)

module _ (input : List ℕ) (there : 1 ≤ length input) where
  requested-is : requested input ≡ bind (operation_of (get_or input 0 0)) λ operation. asked_of operation (take (length input - 1) (drop 1 input))
  unfolding requested
  requested-is = ap requested (front-one input there)

  pub operation-bad : none ≡ operation_of (get_or input 0 0) → none ≡ requested input
  unfolding bind
  operation-bad e = sym (requested-is ∙ ap (λ o. bind o λ operation. asked_of operation (take (length input - 1) (drop 1 input))) (sym e))

  pub requested-asked : {operation : Operation} → some operation ≡ operation_of (get_or input 0 0) →
      asked_of operation (take (length input - 1) (drop 1 input)) ≡ requested input
  unfolding bind
  requested-asked e = sym (requested-is ∙ ap (λ o. bind o λ operation. asked_of operation (take (length input - 1) (drop 1 input))) (sym e))

-- The byte of each of the four operations.
abbrev byte_of : Operation → ℕ
byte_of Generalize = 1
byte_of Unify = 2
byte_of Difference = 3
byte_of Order = 4

pub operation-byte : (o : ℕ) (operation : Operation) → o ≡ byte_of operation → some operation ≡ operation_of o
unfolding operation_of
operation-byte o Generalize e = sym (ap operation_of e)
operation-byte o Unify e = sym (ap operation_of e)
operation-byte o Difference e = sym (ap operation_of e)
operation-byte o Order e = sym (ap operation_of e)

pub operation-none : (o : ℕ) → (o ≡ 1 → ⊥) → (o ≡ 2 → ⊥) → (o ≡ 3 → ⊥) → (o ≡ 4 → ⊥) → none ≡ operation_of o
unfolding operation_of
operation-none o a b c d = sym (simp (ne_eqb o 1 a, ne_eqb o 2 b, ne_eqb o 3 c, ne_eqb o 4 d))
