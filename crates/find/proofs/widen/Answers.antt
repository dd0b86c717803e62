use native.Mathlib.Omega.{arith}
use mathlib.Core.Path.{refl, sym, ◌∙◌}
use lib.Seq.{take_all}
use Rattle.input.proofs.Reading.Numbers.{written_more}
use Rattle.find.proofs.widen.Goals as goal

pub loop-i-preserved : goal.loop-i-preserved
loop-i-preserved c = written_more c.loop-i.words c.args.narrow.now c.loop-i.i _ _ refl (omega arith) (omega arith) c.loop-i.invariant c.from.ensures

pub returns : goal.returns
returns c = sym (take_all c.loop-i.i c.loop-i.words (omega arith)) ∙ c.loop-i.invariant ∙ take_all c.loop-i.i c.args.narrow.now (omega arith)
