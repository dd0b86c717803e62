use lib.ListN.{drop}
use Rattle.block.specs.Block.{check_at}
use Rattle.block.proofs.Check.Sums.{Running}
use Rattle.block.proofs.own.Given as goal

abbrev pub invariant-loop-b : goal.invariant-loop-b
invariant-loop-b l = Running 255 4 (drop check_at l.block) l.s l.t l.b-index
