-- `importing::is_sized` meets its contract.
use borrow.Author.Rules.{rules}
use Rattle.planning.proofs.Imports.{sized-odd, sized-none, sized-many, sized_rows}
use Rattle.planning.proofs.importing.is_sized.Goals as goal

pub returns-then-length-ne0 : goal.returns-then-length-ne0
returns-then-length-ne0 c = sized-odd c.args.nodes.now c.args.count (search rules)

pub returns-then-length-lt1 : goal.returns-then-length-lt1
returns-then-length-lt1 c = sized-none c.args.nodes.now c.args.count (search rules) (search rules)

pub returns-then-length-gt255 : goal.returns-then-length-gt255
returns-then-length-gt255 c = sized-many c.args.nodes.now c.args.count (search rules) (search rules) (search rules)

pub returns : goal.returns
returns c = sized_rows c.args.nodes.now c.args.count (search rules) (search rules) (search rules)
