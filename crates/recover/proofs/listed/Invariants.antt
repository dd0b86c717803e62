use Rattle.record.specs.Tables.{lent}
use Rattle.recover.proofs.Giving.{Giving}
use Rattle.recover.proofs.listed.Given as goal

abbrev pub invariant-loop-i : goal.invariant-loop-i
invariant-loop-i l = Giving l.unit (lent l.h l.g l.aux) l.i
