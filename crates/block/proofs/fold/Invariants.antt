use lib.ListN.{length}
use Rattle.block.proofs.Check.Columns.{Folding}
use Rattle.block.proofs.fold.Given as goal

abbrev pub invariant-loop-sum : goal.invariant-loop-sum
invariant-loop-sum l = Folding l.fn.sums l.fn.runs l.s l.t l.r (length l.yielded)
