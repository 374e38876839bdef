-- `Combination::of_graphs` meets its contract: the meets that are held are the meets of the table.
use Rattle.engine.proofs.Combinations.{ready-to-combine, unified-as, told-combined}
use Rattle.engine.proofs.unifying.CombinationOperation.of_graphs.Goals as goal

pub unify-requires : goal.unify-requires
unify-requires c =
    let ((t, held), (one, other)) = c.requires in
    let all = ready-to-combine held one other in
    record { n_nonzero = all.0; meeting = all.1.0; operand = all.1.1.0; operand_2 = all.1.1.1 }

pub returns : goal.returns
returns c = λ t held.
    let (one, other) = c.requires.1 in
    unified-as held c.args.out.now one other c.unify.ensures (told-combined _ _ c.map_err.ensures.cases)
