use Rattle.std.proofs.Common.{arith}
use Rattle.record.proofs.Marks.{marking_more}
use Rattle.record.proofs.marked.Goals as goal

pub loop-i-preserved : goal.loop-i-preserved
loop-i-preserved c =
    let v = c.loop-i.invariant in
    (v.0, marking_more _ _ _ c.loop-i.i _ _ (omega (arith, v.0)) (omega arith) c.part_at-part.ensures v.1)
