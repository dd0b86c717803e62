use Rattle.std.proofs.Common.{rules}
use Rattle.cells.proofs.Counts.{used_last, used_none}
use Rattle.cells.proofs.used.Goals as goal

pub returns-in-Some : goal.returns-in-Some
returns-in-Some c = used_last c.args.g.now c.in-Some.last (search rules) (search rules) (search rules)

pub returns-in-None : goal.returns-in-None
returns-in-None c = used_none c.args.g.now (search rules)
