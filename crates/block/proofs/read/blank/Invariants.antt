use Rattle.block.proofs.Reading.Looks.{Summing}
use Rattle.block.proofs.read.blank.Given as goal

abbrev pub invariant-loop-b : goal.invariant-loop-b
invariant-loop-b l = Summing l.b-items l.s l.b-index
