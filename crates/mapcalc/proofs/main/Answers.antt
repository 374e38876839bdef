-- `main` keeps every bound: the line is a part of the bytes that `request::line` answers.
use Rattle.request.proofs.Replies.{count_fits}
use Rattle.mapcalc.proofs.main.Goals as goal

pub line-requires : goal.line-requires
line-requires c = count_fits _ c.line-printed.ensures
