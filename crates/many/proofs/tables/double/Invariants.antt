use Rattle.many.proofs.Linear.{Doubling}
use Rattle.many.proofs.tables.double.Given as goal

abbrev pub invariant-loop-m : goal.invariant-loop-m
invariant-loop-m l = Doubling l.span l.image l.initial.table l.table l.m
