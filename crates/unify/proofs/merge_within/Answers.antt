-- `merge_within` meets its contract, by the contracts of its parts.
use mathlib.Core.Path.{◌∙◌}
use Prim.Native.Nat.{ℕ}
use native.Mathlib.Omega.{arith}
use lib.ListN.{length-replicate}
use Rattle.lattice.proofs.Lawful.{known_more}
use Rattle.layout.proofs.Order.{directory}
use Rattle.layout.proofs.Sums.{words-few}
use Rattle.merging.proofs.Words.{words_are}
use Rattle.unify.proofs.Laying.{lay, laid-roomy, closed-classed, closed-fillable}
use Rattle.unify.proofs.merge_within.Goals as goal

pub bounds-a-0 : goal.bounds-a-0
bounds-a-0 c = omega (arith, directory c.requires.operand.recorded.sound.shaped)

pub overflow_cast-second : goal.overflow_cast-second
overflow_cast-second c = omega (arith, c.requires.operand.recorded.small)

pub bounds-b-0 : goal.bounds-b-0
bounds-b-0 c = omega (arith, directory c.requires.operand_2.recorded.sound.shaped)

pub overflow_cast-nodes : goal.overflow_cast-nodes
overflow_cast-nodes c = omega (arith, c.requires.operand_2.recorded.small)

pub overflow_add-nodes : goal.overflow_add-nodes
overflow_add-nodes c = omega (arith, c.requires.operand.recorded.small, c.requires.operand_2.recorded.small)

pub copy_words-at-requires : goal.copy_words-at-requires
copy_words-at-requires c = (record { recorded = c.requires.operand.recorded; at_bound = (omega arith, omega arith, omega (arith, c.requires.spacious.0.joins.fits)) })

pub copy_words-used-requires : goal.copy_words-used-requires
copy_words-used-requires c = (record { recorded = c.requires.operand_2.recorded; at_bound = (omega (arith, c.copy_words-at.ensures.counted, words-few c.requires.operand.recorded), c.requires.operand.recorded.small, omega (arith, c.requires.spacious.0.joins.fits, c.copy_words-at.ensures.counted, c.copy_words-at.ensures.long, words_are c.requires.operand.recorded)) })

pub copy_spans-requires : goal.copy_spans-requires
copy_spans-requires c = (record { recorded = c.requires.operand.recorded; at_bound = (omega arith, omega arith, length-replicate {A = ℕ} 510 0, length-replicate {A = ℕ} 510 0) })

pub copy_spans-requires-2 : goal.copy_spans-requires-2
copy_spans-requires-2 c = (record { recorded = c.requires.operand_2.recorded; at_bound = (omega (arith, c.copy_words-at.ensures.counted, words-few c.requires.operand.recorded), c.requires.operand.recorded.small, c.copy_spans.ensures.start-long ∙ length-replicate {A = ℕ} 510 0, c.copy_spans.ensures.end-long ∙ length-replicate {A = ℕ} 510 0) })

pub close-requires : goal.close-requires
close-requires c = let s = lay c.requires.operand.recorded c.requires.operand_2.recorded c.copy_words-at.ensures c.copy_words-used.ensures c.copy_spans.ensures c.copy_spans-2.ensures (c.copy_spans-2.ensures.start-long ∙ c.copy_spans.ensures.start-long ∙ length-replicate {A = ℕ} 510 0) (c.copy_spans-2.ensures.end-long ∙ c.copy_spans.ensures.end-long ∙ length-replicate {A = ℕ} 510 0) in let room = c.requires.spacious.0 in record { rows = s.rows; second_lt_nodes = (omega (arith, c.requires.operand_2.recorded.sound.shaped.nonempty), s.few, length-replicate {A = ℕ} 510 0); end_bound = (s.short, omega (arith, s.links-are, room.pairs)); roomy = laid-roomy s room.joins (c.copy_words-used.ensures.long ∙ c.copy_words-at.ensures.long) }

pub class_labels-labels-requires : goal.class_labels-labels-requires
class_labels-labels-requires c = record { n_nonzero = c.requires.n_nonzero; meeting = c.requires.meeting; operand = c.requires.operand; operand_2 = c.requires.operand_2; by_index = closed-classed c.close.ensures }

pub quotient-requires : goal.quotient-requires
quotient-requires c = let s = lay c.requires.operand.recorded c.requires.operand_2.recorded c.copy_words-at.ensures c.copy_words-used.ensures c.copy_spans.ensures c.copy_spans-2.ensures (c.copy_spans-2.ensures.start-long ∙ c.copy_spans.ensures.start-long ∙ length-replicate {A = ℕ} 510 0) (c.copy_spans-2.ensures.end-long ∙ c.copy_spans.ensures.end-long ∙ length-replicate {A = ℕ} 510 0) in record { graph_len_bound = (c.requires.spacious.1.short, c.class_labels-labels.ensures.below.1, λ x h. known_more (omega (arith, c.requires.n_nonzero.1)) (c.class_labels-labels.ensures.below.0 x h)); fillable = closed-fillable c.close.ensures s.short (omega (arith, s.headed, c.requires.spacious.1.words)) }

pub shape_of-pool : goal.shape_of-pool
shape_of-pool c = c.close.auto.pool ∙ c.copy_words-used.ensures.long ∙ c.copy_words-at.ensures.long

pub returns : goal.returns
returns c = let s = lay c.requires.operand.recorded c.requires.operand_2.recorded c.copy_words-at.ensures c.copy_words-used.ensures c.copy_spans.ensures c.copy_spans-2.ensures (c.copy_spans-2.ensures.start-long ∙ c.copy_spans.ensures.start-long ∙ length-replicate {A = ℕ} 510 0) (c.copy_spans-2.ensures.end-long ∙ c.copy_spans.ensures.end-long ∙ length-replicate {A = ℕ} 510 0) in record { class = _; labels = c.class_labels-labels.result; start = _; end = _; pool = _; start' = _; end' = _; pool' = _; used = _; first = s.first; second = s.second; closed = c.close.ensures; lowers = c.class_labels-labels.ensures.class_labels; below = λ x h. known_more (omega (arith, c.requires.n_nonzero.1)) (c.class_labels-labels.ensures.below.0 x h); built = c.quotient.ensures }
