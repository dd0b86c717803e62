use native.Mathlib.Omega.{arith}
use Rattle.block.proofs.Laying.Putting.{putting_none, putting_more, putting_all}
use Rattle.block.proofs.put_number.Goals as goal

pub loop-b-init : goal.loop-b-init
loop-b-init c = putting_none _ _ _ _

pub loop-b-preserved : goal.loop-b-preserved
loop-b-preserved c = putting_more _ _ _ _ _ _ _ (omega arith) c.loop-b.invariant

pub returns : goal.returns
returns c = putting_all _ _ _ _ _ (omega arith) c.loop-b.invariant
