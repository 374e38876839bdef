-- The exported call answers the code of 512 or of refusal 8, by whether the table was filled, and leaves the output that filling leaves.
use mathlib.Core.Path.{ap, ap₂, sym, ◌∙◌}
use mathlib.Core.Bool.{Bool, cond}
use mathlib.Core.List.{List}
use Prim.Native.Nat.{ℕ}
use Rattle.replies.specs.Replies.{Length, NoRoom}
use Rattle.replies.specs.Reply.{resulting}
use Rattle.record_engine.proofs.Codes.{codes}
use Rattle.record_engine.proofs.record_house_table.Goals as goal

abbrev answer : Bool × List ℕ → Bool
answer filled = filled.0

abbrev output : Bool × List ℕ → List ℕ
output filled = filled.1

pub returns-then-fill_table : goal.returns-then-fill_table
returns-then-fill_table c =
    let filled = c.fill_table.ensures in
    codes c.code.ensures
    (ap₂ resulting (ap (λ (b : Bool). cond b (Length 512) NoRoom) (sym c.if-fill_table.true ∙ ap answer filled)) (ap output filled))

pub returns-else-fill_table : goal.returns-else-fill_table
returns-else-fill_table c =
    let filled = c.fill_table.ensures in
    codes c.code-else-fill_table.ensures
    (ap₂ resulting (ap (λ (b : Bool). cond b (Length 512) NoRoom) (sym c.if-fill_table.false ∙ ap answer filled)) (ap output filled))
