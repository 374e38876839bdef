-- `tell` meets its contract: a cycle or a clash in the graph of the classes is one of the combination.
use mathlib.Core.Path.{sym, ◌∙◌}
use Prim.Native.Nat.{ℕ}
use lib.ListN.{length-replicate}
use Rattle.std.proofs.lemmas.Result.{err_from_is_err_and}
use Rattle.unify.proofs.Result.{answers-cycle, answers-clash, answers-written}
use Rattle.unify.proofs.tell.Goals as goal

pub sort_targets_first-requires : goal.sort_targets_first-requires
sort_targets_first-requires c = (record { sound = c.requires; order_len = length-replicate {A = ℕ} 510 0 })

pub returns-then-sort_targets_first : goal.returns-then-sort_targets_first
returns-then-sort_targets_first c = let l = c.sort_targets_first.ensures.sorts.looped c.if-sort_targets_first.true in λ n meets a b left right m. answers-cycle n meets left right m l.0 l.1 c.args.out.now

pub has_clash-requires : goal.has_clash-requires
has_clash-requires c = c.requires.shaped

pub returns-then-has_clash : goal.returns-then-has_clash
returns-then-has_clash c = λ n meets a b left right m. answers-clash n meets left right m (c.sort_targets_first.ensures.sorts.sorted c.if-sort_targets_first.false).1 (sym c.has_clash.ensures ∙ c.if-has_clash.true) c.args.out.now

pub write-requires : goal.write-requires
write-requires c = c.requires

pub returns-in_err-write : goal.returns-in_err-write
returns-in_err-write c = λ n meets a b left right m.
    let p = err_from_is_err_and c.from_residual.result c.from_residual.ensures.1 in
    rw (p.1, p.2) (answers-written n meets left right m (c.sort_targets_first.ensures.sorts.sorted c.if-sort_targets_first.false).1 (sym c.has_clash.ensures ∙ c.if-has_clash.false) c.args.out.now c.in_err-write.ensures)

pub returns : goal.returns
returns c = λ n meets a b left right m. answers-written n meets left right m (c.sort_targets_first.ensures.sorts.sorted c.if-sort_targets_first.false).1 (sym c.has_clash.ensures ∙ c.if-has_clash.false) c.args.out.now c.in_ok-write.ensures
