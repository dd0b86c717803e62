use lib.ListN.{take}
use Rattle.input.proofs.Reading.Bytes.{Hand}
use Rattle.input.proofs.decimal.value_of.Given as goal

abbrev pub invariant-loop-b : goal.invariant-loop-b
invariant-loop-b l = Hand (take l.b-index l.field) l.number
