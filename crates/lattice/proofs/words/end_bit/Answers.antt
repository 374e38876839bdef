-- `end_bit` meets its contract: the bit next to the zeros at either end is set.
use mathlib.Core.Path.{refl}
use native.Mathlib.Omega.{arith}
use Rattle.lattice.proofs.Every.{true-not-false}
use Rattle.lattice.proofs.Bits.{lowest-bit, highest-bit}
use Rattle.lattice.proofs.words.end_bit.Goals as goal

pub overflow_cast-result : goal.overflow_cast-result
overflow_cast-result c = omega (arith, (lowest-bit 64 c.args.word c.ranges.word.fits c.requires).0)

pub overflow_sub-result : goal.overflow_sub-result
overflow_sub-result c = omega (arith, (highest-bit c.args.word c.ranges.word.fits c.requires).0)

pub overflow_cast-result-else-low : goal.overflow_cast-result-else-low
overflow_cast-result-else-low c = omega (arith, (highest-bit c.args.word c.ranges.word.fits c.requires).0)

pub returns-then-low : goal.returns-then-low
returns-then-low c =
    let lowest = lowest-bit 64 c.args.word c.ranges.word.fits c.requires in
    (lowest.0, lowest.1, λ e. refl)

pub returns-else-low : goal.returns-else-low
returns-else-low c =
    let highest = highest-bit c.args.word c.ranges.word.fits c.requires in
    (highest.1, highest.2, λ e. absurd (true-not-false _ e c.if-low.false))
