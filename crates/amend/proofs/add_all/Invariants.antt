use Rattle.record.specs.Tables.{lent}
use Rattle.amend.proofs.Adds.{Adding}
use Rattle.amend.proofs.add_all.Given as goal

abbrev pub invariant-loop-x : goal.invariant-loop-x
invariant-loop-x l =
    Adding l.initial.unit (lent l.initial.h l.initial.g l.initial.aux) l.vectors l.x-index l.unit (lent l.h l.g l.aux)
