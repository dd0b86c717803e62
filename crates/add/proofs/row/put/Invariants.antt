use Rattle.add.proofs.Moving.Putting.{Putting}
use Rattle.add.proofs.row.put.Given as goal

abbrev pub invariant-loop-n : goal.invariant-loop-n
invariant-loop-n l = Putting l.seat l.aux l.firsts l.d l.initial.g l.g l.n
