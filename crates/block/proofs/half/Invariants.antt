use lib.ListN.{drop}
use Rattle.block.proofs.Check.Columns.{Rows}
use Rattle.block.proofs.half.Given as goal

abbrev pub invariant-loop-row : goal.invariant-loop-row
invariant-loop-row l = Rows (drop l.start l.block) l.sums l.runs l.row
