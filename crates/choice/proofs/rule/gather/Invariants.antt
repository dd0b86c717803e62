use lib.ListN.{get_or}
use Rattle.choice.proofs.Choosing.Gather.{Gathered}
use Rattle.choice.proofs.rule.gather.Given as goal

abbrev pub invariant-loop-i : goal.invariant-loop-i
invariant-loop-i l = Gathered (λ x. get_or l.vectors x 0) l.order l.initial.words l.words l.i
