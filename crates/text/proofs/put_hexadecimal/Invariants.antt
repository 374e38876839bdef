-- `put_hexadecimal` meets its contract: each turn puts the two digits of the next byte.
use lib.ListN.{drop}
use Rattle.text.specs.Text.{hexadecimal}
use Rattle.text.proofs.Texts.{Putting}
use Rattle.text.proofs.put_hexadecimal.Given as goal

abbrev pub invariant-loop-b : goal.invariant-loop-b
invariant-loop-b l =
    Putting (hexadecimal l.bytes) l.at l.initial.out (hexadecimal (drop l.b-index l.bytes)) l.next l.out
