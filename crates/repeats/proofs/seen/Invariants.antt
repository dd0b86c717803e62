use Rattle.repeats.proofs.Walking.{Walking}
use Rattle.repeats.proofs.seen.Given as goal

abbrev pub invariant-loop-j : goal.invariant-loop-j
invariant-loop-j l = Walking l.words l.x l.j

abbrev pub decreases-loop-j : goal.decreases-loop-j
decreases-loop-j l = l.j
