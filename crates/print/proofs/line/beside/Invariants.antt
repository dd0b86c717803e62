use Rattle.std.specs.Slice.Iter.{iter_rest}
use Rattle.print.proofs.Writing.Beside.{Besides}
use Rattle.print.proofs.line.beside.Given as goal

abbrev pub invariant-loop-b : goal.invariant-loop-b
invariant-loop-b l = Besides l.text l.numbers l.initial.out l.at l.out l.end l.b-index (iter_rest l.rest)
