use native.Mathlib.Omega.{arith}
use Rattle.block.proofs.Reading.Looks.{summing_none, summing_more, summing_end}
use Rattle.block.proofs.read.blank.Goals as goal

pub loop-b-init : goal.loop-b-init
loop-b-init c = summing_none _

pub loop-b-preserved : goal.loop-b-preserved
loop-b-preserved c = summing_more _ _ _ _ c.loop-b-test.true c.from-s.ensures (omega arith) c.loop-b.invariant

pub returns : goal.returns
returns c = summing_end c.args.block.now c.args.at c.min-end.result c.min.result c.min-end.ensures c.min.ensures _ _ c.loop-b-test.false c.loop-b.invariant
