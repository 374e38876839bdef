-- What parsing promises: the parts of the request that the definitions have.
use Rattle.std.specs.Prelude.{List, ℕ, Result, Ok, Err}
use Rattle.std.specs.Borrow.{Bor}
use Rattle.std.proofs.Math.Option.{Option, none, some}
use Rattle.request.specs.declared.parse.Operation.{Operation}
use Rattle.request.specs.declared.parse.Asked.{Asked}
use Rattle.request.specs.declared.parse.BadInput.{BadInput}
use Rattle.request.specs.Request.{Request}

-- The operation that an answer gives; none where the input is bad.
abbrev pub operation_in : Result Operation BadInput → Option Operation
operation_in (Ok operation) = some operation
operation_in (Err e) = none

-- The bytes that an answer gives and those behind them; none where the input is bad.
abbrev pub taken : Result (Bor (List ℕ) × Bor (List ℕ)) BadInput → Option (List ℕ × List ℕ)
taken (Ok parts) = some (parts.0.now, parts.1.now)
taken (Err e) = none

-- the request that is asked
abbrev pub request_of : Asked → Request
request_of asked = record {
  operation = asked.operation;
  n = asked.n;
  table = asked.table.now;
  first = asked.first.now;
  second = asked.second.now;
}

-- The request that parsing answers; none where the input is bad.
abbrev pub request_in : Result Asked BadInput → Option Request
request_in (Ok asked) = some (request_of asked)
request_in (Err e) = none
