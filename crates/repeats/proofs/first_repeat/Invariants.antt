use Rattle.repeats.proofs.Chaining.{Chaining}
use Rattle.repeats.proofs.first_repeat.Given as goal

abbrev pub invariant-loop-i : goal.invariant-loop-i
invariant-loop-i l = Chaining l.words l.heads l.next l.i
