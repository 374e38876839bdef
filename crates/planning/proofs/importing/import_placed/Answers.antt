-- `importing::import_placed` meets its contract: the labels are tested, and the words filled and judged; then the graph is written.
use mathlib.Core.Path.{◌≡◌, ◌∙◌, subst}
use Prim.Native.Nat.{ℕ}
use native.Mathlib.Omega.{arith}
use borrow.Author.Rules.{rules}
use Rattle.pairs.proofs.Readings.{told-accepted}
use Rattle.engine.proofs.Written.{rewritten-refused, rewritten-accepted}
use Rattle.rows.specs.Filling.{Labelled}
use Rattle.planning.proofs.Imports.{unstated, fillable, judged-as}
use Rattle.planning.proofs.importing.import_placed.Goals as goal

pub returns-then-not-are_stated : goal.returns-then-not-are_stated
returns-then-not-are_stated c = unstated c.args.n c.args.nodes.now c.args.targets.now c.requires.0 (subst (Labelled c.args.nodes.now) c.if-not-are_stated.true c.are_stated.ensures) c.args.out.now

pub fill-requires : goal.fill-requires
fill-requires c = (record { fillable = fillable c.args.n c.args.nodes.now c.args.targets.now c.requires.1 c.are_stated.ensures c.if-not-are_stated.false; graph_len = search rules })

pub judge-requires : goal.judge-requires
judge-requires c = (record { shaped = (c.fill.ensures.shaped, c.fill.ensures.small); levels_ordered = λ e. let z : ◌≡◌ {A = ℕ} 0 1 = cc in absurd (omega arith) })

pub of_graph-requires : goal.of_graph-requires
of_graph-requires c = (told-accepted c.judge.ensures c.in_default.is).holds.sound

pub returns-in-Err : goal.returns-in-Err
returns-in-Err c = rewritten-refused (judged-as c.args.n c.args.nodes.now c.args.targets.now c.fill.ensures c.judge.ensures) c.args.out.now _ c.in-Err.is

pub returns : goal.returns
returns c = c.of_graph.ensures ∙ rewritten-accepted (judged-as c.args.n c.args.nodes.now c.args.targets.now c.fill.ensures c.judge.ensures) c.args.out.now c.in_default.is
