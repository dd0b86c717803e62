use Rattle.std.proofs.Common.{◌-◌}
use Rattle.lists.proofs.Writing.Storing.{Storing}
use Rattle.record.specs.Tables.{lent}
use Rattle.recover.specs.Every.{list_in}
use Rattle.recover.proofs.recover_all.Given as goal

abbrev pub invariant-loop-number : goal.invariant-loop-number
invariant-loop-number l = Storing (list_in l.unit (lent l.h l.g l.aux)) l.initial.words 1 l.words (l.number - 1)
