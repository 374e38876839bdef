-- `difference_by` meets its contract: it is the call with a list and without reasons.
use Rattle.calls.proofs.Differences.{plain-part}
use Rattle.calls.proofs.differing.difference_by.Goals as goal

pub returns : goal.returns
returns c = plain-part c.difference_by_with.ensures
