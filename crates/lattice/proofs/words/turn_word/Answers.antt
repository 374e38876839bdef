use Rattle.lattice.specs.Words.{turned}
use Rattle.lattice.proofs.WordLaws.{turn-begin, turn-done}
use Rattle.lattice.proofs.Bits.{next-turned, turned-fits, twice-fits}
use borrow.Author.Rules.{rules}
use Rattle.lattice.proofs.words.turn_word.Goals as goal

pub loop-j-init : goal.loop-j-init
loop-j-init c = (search rules, turn-begin _ c.args.n)

pub overflow_mul-word : goal.overflow_mul-word
overflow_mul-word c =
    let turn = c.loop-j in
    record {
      fits = twice-fits c.args.words.now c.args.n c.args.i turn.j turn.word c.requires.0 (search rules)
          turn.invariant.1;
    }

pub overflow_add-word : goal.overflow_add-word
overflow_add-word c =
    let turn = c.loop-j in
    record {
      fits = turned-fits c.args.words.now c.args.n c.args.i turn.j turn.word c.requires.0 (search rules)
          turn.invariant.1;
    }

pub loop-j-preserved : goal.loop-j-preserved
loop-j-preserved c =
    let turn = c.loop-j in (
      search rules,
      next-turned c.args.words.now c.args.n c.args.i turn.j turn.word c.requires.0 (search rules)
          turn.invariant.1,
    )

pub returns : goal.returns
unfolding turned
returns c =
    let turn = c.loop-j in
    turn-done _ c.args.n turn.j _ (search rules) turn.invariant.1
