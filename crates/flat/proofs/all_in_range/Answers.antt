use Rattle.std.proofs.Common.{arith, sym, ◌∙◌}
use Rattle.flat.proofs.Ranges.{range_more, range_end}
use Rattle.flat.proofs.all_in_range.Goals as goal

pub loop-word-preserved : goal.loop-word-preserved
loop-word-preserved c = let l = c.loop-word in l.invariant ∙ range_more _ l.word-index l.bits (omega arith)

pub returns : goal.returns
returns c = let l = c.loop-word in sym (l.invariant ∙ range_end _ l.word-index l.bits (omega arith))
