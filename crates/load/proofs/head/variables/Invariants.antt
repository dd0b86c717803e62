use Rattle.load.proofs.Naming.{Naming}
use Rattle.load.proofs.head.variables.Given as goal

abbrev pub invariant-loop-i : goal.invariant-loop-i
invariant-loop-i l = Naming l.file.bytes.now l.v-items l.i
