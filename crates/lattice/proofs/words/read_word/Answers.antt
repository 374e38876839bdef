-- `read_word` meets its contract: the row's bytes are those of the table.
use Prim.Native.Nat.{◌+◌, ◌*◌}
use mathlib.Core.List.{[]}
use mathlib.Core.Path.{sym, ap, ◌∙◌}
use native.Mathlib.Omega.{arith}
use lib.ListN.{get_or, drop, length-drop, get_or-eq_default}
use Rattle.std.proofs.lemmas.List.{get_or-drop, get_or-take, take_all}
use Rattle.lattice.proofs.WordLaws.{word_none}
use Rattle.lattice.proofs.Bits.{row-in, row-end}
use Rattle.lattice.proofs.words.read_word.Goals as goal

pub returns-then-start-table : goal.returns-then-start-table
returns-then-start-table c =
    c.read_row.ensures ∙
    row-in c.args.table.now _ c.args.i λ k l.
    get_or-take _ (drop (8 * c.args.i) c.args.table.now) k 0 (omega arith) ∙ get_or-drop (8 * c.args.i) c.args.table.now k 0

pub returns-then-table-start : goal.returns-then-table-start
returns-then-table-start c =
    row-end [] 0 0 (omega arith) (omega arith) (sym (word_none _)) ∙
    row-in c.args.table.now [] c.args.i λ k l.
    sym (get_or-eq_default c.args.table.now 0 {n = 8 * c.args.i + k} (omega (arith, c.if-table-start.true)))

pub returns : goal.returns
returns c =
    c.read_row-2.ensures ∙
    row-in c.args.table.now _ c.args.i λ k l.
    ap (λ row. get_or row k 0) (take_all _ (drop (8 * c.args.i) c.args.table.now) (omega (arith, length-drop (8 * c.args.i) c.args.table.now))) ∙
    get_or-drop (8 * c.args.i) c.args.table.now k 0
