use Rattle.fault.proofs.Scanning.Reading.{Reading}
use Rattle.fault.proofs.find.Given as goal

abbrev pub invariant-loop-b : goal.invariant-loop-b
invariant-loop-b l = Reading l.text l.s l.b-index
