-- `try_from` meets its contract, by the byte.
use Rattle.request.proofs.Parsing.{operation-byte, operation-none}
use Rattle.request.proofs.parse.OperationTryFromU8.try_from.Goals as goal

pub returns-in-1 : goal.returns-in-1
returns-in-1 c = operation-byte _ _ c.in-1.is

pub returns-in-2 : goal.returns-in-2
returns-in-2 c = operation-byte _ _ c.in-2.is

pub returns-in-3 : goal.returns-in-3
returns-in-3 c = operation-byte _ _ c.in-3.is

pub returns-in-4 : goal.returns-in-4
returns-in-4 c = operation-byte _ _ c.in-4.is

pub returns-in_default : goal.returns-in_default
returns-in_default c =
    let other = c.in_default.in_default-own.rest in
    operation-none _ other.0.0.0.1 other.0.0.1 other.0.1 other.1
