use Rattle.add.proofs.Moving.Lifting.{Lifting}
use Rattle.add.proofs.row.lift.Given as goal

abbrev pub invariant-loop-n : goal.invariant-loop-n
invariant-loop-n l = Lifting l.seat l.aux l.firsts l.initial.g l.initial.words l.g l.words l.m l.n
