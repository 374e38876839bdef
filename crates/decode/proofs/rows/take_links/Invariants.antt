-- `rows::take_links` meets its contract. The loop's invariant: the links to be read are those that are stored and those of the digits left.
use mathlib.Core.Path.{◌≡◌}
use Prim.Native.Nat.{◌-◌}
use lib.ListN.{drop}
use Rattle.decode.specs.Word.{take_word}
use Rattle.decode.proofs.Storing.{Linking}
use Rattle.decode.proofs.rows.take_links.Given as goal

abbrev pub invariant-loop-left : goal.invariant-loop-left
invariant-loop-left l =
    record {
      same : l.reader.bytes.now ≡ l.initial.reader.bytes.now;
      linking : Linking (take_word 64 0 l.map (l.limit - l.at) (drop l.initial.reader.next l.initial.reader.bytes.now)) l.initial.reader.bytes.now
          l.initial.reader.next l.at l.limit l.initial.graph l.graph l.left l.reader.next l.end;
    }

abbrev pub decreases-loop-left : goal.decreases-loop-left
decreases-loop-left l = l.limit - l.end
