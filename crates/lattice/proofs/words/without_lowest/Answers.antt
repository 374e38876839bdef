-- `without_lowest` meets its contract.
use Rattle.lattice.proofs.Bits.{lowest-cleared}
use Rattle.lattice.proofs.words.without_lowest.Goals as goal

pub returns : goal.returns
returns c = lowest-cleared c.args.word c.ranges.word.fits c.requires
