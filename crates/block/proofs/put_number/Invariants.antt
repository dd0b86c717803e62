use lib.ListN.{length}
use Rattle.block.proofs.Laying.Putting.{Putting}
use Rattle.block.proofs.put_number.Given as goal

abbrev pub invariant-loop-b : goal.invariant-loop-b
invariant-loop-b l = Putting l.number (length l.initial.place) 0 l.initial.place l.place l.rest l.b-index
