use Rattle.input.proofs.Reading.Bytes.{Going}
use Rattle.input.proofs.count.Given as goal

abbrev pub invariant-loop-b : goal.invariant-loop-b
invariant-loop-b l = Going l.text l.found l.number l.b-index
