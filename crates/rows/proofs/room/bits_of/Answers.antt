use Rattle.rows.proofs.Taken.Gathering.{gathering_none, gathering_more, gathering_end}
use Rattle.rows.proofs.room.bits_of.Goals as goal

pub loop-word-init : goal.loop-word-init
loop-word-init c = rw (c.into_iter-word-iterator.ensures.into_iter_gives, c.rev-word-items.ensures.source, c.iter.ensures.rest) (gathering_none _)

pub loop-word-preserved : goal.loop-word-preserved
loop-word-preserved c = gathering_more _ _ _ _ _ _ c.in-Some.ensures.steps c.loop-word.invariant c.from.ensures

pub returns : goal.returns
returns c = λ t h. gathering_end _ _ _ c.in-None.ensures.steps.0 c.loop-word.invariant t
