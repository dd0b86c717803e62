use Rattle.std.proofs.Common.{arith, ◌∙◌}
use Rattle.flat.proofs.Ranges.{low_none, low_more, low_end}
use Rattle.flat.proofs.low_variables.Goals as goal

pub loop-i-init : goal.loop-i-init
loop-i-init c = c.blank_variables-v.ensures ∙ low_none

pub loop-i-preserved : goal.loop-i-preserved
loop-i-preserved c = let l = c.loop-i in low_more _ l.v l.i _ _ (omega arith) (omega arith) c.low_variable.ensures l.invariant

pub returns : goal.returns
returns c = let l = c.loop-i in l.invariant ∙ low_end _ l.i (omega arith)
