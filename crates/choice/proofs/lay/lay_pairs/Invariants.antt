use Rattle.choice.proofs.Laying.Small.{Adding}
use Rattle.choice.proofs.lay.lay_pairs.Given as goal

abbrev pub invariant-loop-size : goal.invariant-loop-size
invariant-loop-size l = Adding l.initial.items l.groups.sizes.now l.groups.words.now l.items l.rests l.left l.b l.w l.from l.size-index
