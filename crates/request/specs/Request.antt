-- What the input of `mapcalc` asks for (document 01, "Fittings to check").
use Rattle.std.specs.Prelude.{cond, List, [], ◌∷◌, ℕ, ◌+◌, ◌*◌, eqb, leb, length, take, drop}
use Rattle.std.proofs.Math.Option.{Option, none, some, bind}
use Rattle.request.specs.declared.parse.Operation.{Operation}
use Rattle.request.specs.declared.parse.Operation.TheVariants.{Generalize, Unify, Difference, Order}

-- the parts of an input that is not bad
pub record Request : Type 0 where
  pub operation : Operation
  pub n : ℕ
  pub table : List ℕ
  pub first : List ℕ
  pub second : List ℕ

-- "1 common, 2 combine, 3 difference, 4 order": the operation of an operation byte; none for any other byte.
unfoldable pub operation_of : ℕ → Option Operation
operation_of o =
    cond (eqb o 1) (some Generalize)
    (cond (eqb o 2) (some Unify)
    (cond (eqb o 3) (some Difference)
    (cond (eqb o 4) (some Order) none)))

-- The next k bytes and those behind them; none where "the input ends early".
unfoldable pub take_bytes : ℕ → List ℕ → Option (List ℕ × List ℕ)
take_bytes k bytes = cond (leb k (length bytes)) (some (take k bytes, drop k bytes)) none

-- A record "after a 2-byte length, low byte first"; none where the length is "above 8,192" or "the input ends early".
unfoldable pub take_record : List ℕ → Option (List ℕ × List ℕ)
take_record [] = none
take_record (low ∷ []) = none
take_record (low ∷ high ∷ rest) = cond (leb (low + 256 * high) 8192) (take_bytes (low + 256 * high) rest) none

-- The request; none where the input "has bytes left".
abbrev pub at_end : List ℕ → Request → Option Request
at_end rest request = cond (eqb (length rest) 0) (some request) none

-- What follows the operation byte: "n as one byte, a table of 8 × n bytes for every n, then two records".
unfoldable pub asked_of : Operation → List ℕ → Option Request
asked_of operation [] = none
asked_of operation (n ∷ rest) =
    bind (take_bytes (8 * n) rest) λ table.
    bind (take_record table.1) λ first.
    bind (take_record first.1) λ second.
    at_end second.1 (record { operation = operation; n = n; table = table.0; first = first.0; second = second.0 })

-- The request that the input is; none where the input is bad.
unfoldable pub requested : List ℕ → Option Request
requested [] = none
requested (o ∷ rest) = bind (operation_of o) λ operation. asked_of operation rest
