use native.Mathlib.Omega.{arith}
use Rattle.dated.proofs.Lines.{spacing_more, spacing_end}
use Rattle.dated.proofs.space.Goals as goal

pub loop-i-preserved : goal.loop-i-preserved
loop-i-preserved c = spacing_more c.args.line.now c.loop-i.out c.loop-i.i (omega arith) (omega arith) c.loop-i.invariant _ c.exchange.ensures

pub returns : goal.returns
returns c = spacing_end c.args.line.now c.loop-i.out c.loop-i.i (omega arith) (omega arith) c.loop-i.invariant
