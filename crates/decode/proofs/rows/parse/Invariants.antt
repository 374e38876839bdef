-- `rows::parse` meets its contract. The loop's invariant: the rows of the record are those that are stored and those still to be read.
use mathlib.Core.Path.{◌≡◌}
use lib.ListN.{length}
use Rattle.decode.proofs.Reading.{Counted}
use Rattle.decode.proofs.Storing.{Filling}
use Rattle.decode.proofs.rows.parse.Given as goal

abbrev pub invariant-loop-v : goal.invariant-loop-v
invariant-loop-v l =
    record {
      same : l.reader.bytes.now ≡ l.bytes;
      filling : Filling l.bytes l.nodes (length l.initial.graph) l.graph l.at l.limit l.reader.next l.v;
      counted : Counted l.bytes l.nodes l.initial.reader.next;
    }
