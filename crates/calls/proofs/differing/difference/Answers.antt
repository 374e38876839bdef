-- `difference` meets its contract: it is the call without a list and without reasons.
use Rattle.calls.proofs.Differences.{plain-part}
use Rattle.calls.proofs.differing.difference.Goals as goal

pub returns : goal.returns
returns c = plain-part c.difference_with.ensures
