use Rattle.file.proofs.layout.plan.Goals as goal

pub returns : goal.returns
returns c = rw (c.blocks_for-g.ensures.value, c.blocks_for.ensures.value, c.blocks_for-2.ensures.value)
