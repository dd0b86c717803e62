use Rattle.vectors.proofs.Variables.Masking.{numbering_none, numbering_more}
use Rattle.vectors.proofs.number.Goals as goal

pub loop-mask-init : goal.loop-mask-init
loop-mask-init c = rw (c.into_iter-mask-iterator.ensures.into_iter_gives, c.rev-mask-items.ensures.source, c.iter.ensures.rest) (numbering_none _ _)

pub loop-mask-preserved : goal.loop-mask-preserved
loop-mask-preserved c = numbering_more _ _ _ c.in-Some.ensures.steps c.value.ensures c.loop-mask.invariant
