use Rattle.choice.specs.Inner.Layout.{max_blocks}
use Rattle.choice.proofs.Laying.Whole.{Laying}
use Rattle.choice.proofs.lay.lay_whole.Given as goal

abbrev pub invariant-loop-s : goal.invariant-loop-s
invariant-loop-s l = Laying l.initial.items max_blocks l.groups.sizes.now l.groups.words.now l.items l.ends l.whole l.from l.s-index
