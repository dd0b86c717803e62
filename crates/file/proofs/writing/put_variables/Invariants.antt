use Rattle.vectors.specs.Variable.{kinds_of}
use Rattle.file.proofs.Laying.Heads.{Placing}
use Rattle.file.proofs.writing.put_variables.Given as goal

abbrev pub invariant-loop-i : goal.invariant-loop-i
invariant-loop-i l = Placing (kinds_of l.variables) l.initial.head l.head l.i
