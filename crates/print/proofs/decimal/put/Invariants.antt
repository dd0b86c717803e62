use Rattle.print.proofs.Writing.Spelling.{Spelling}
use Rattle.print.proofs.decimal.put.Given as goal

abbrev pub invariant-loop-i : goal.invariant-loop-i
invariant-loop-i l = Spelling l.initial.out l.at l.n l.out l.i l.rest
