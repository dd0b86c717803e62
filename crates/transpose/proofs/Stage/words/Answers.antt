use mathlib.Core.Path.{refl}
use Rattle.transpose.specs.Stage.{swapped_words}
use Rattle.transpose.proofs.Loop.{words_more}
use Rattle.transpose.proofs.Stage.words.Goals as goal

pub loop-t-init : goal.loop-t-init
unfolding swapped_words
loop-t-init c = refl

pub loop-t-preserved : goal.loop-t-preserved
loop-t-preserved c = words_more _ _ _ c.loop-t.t _ c.loop-t.block _ c.loop-t.invariant c.swap.ensures
