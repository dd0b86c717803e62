use Prim.Native.Nat.{◌<◌}
use native.Mathlib.Omega.{arith}
use lib.ListN.{length, get_or}
use Rattle.lists.proofs.Entries.Alls.{all_at}
use Rattle.choice.proofs.Choosing.Gather.{gathered_none, gathered_more, gathered_end}
use Rattle.choice.proofs.rule.gather.Goals as goal
use Rattle.choice.proofs.rule.gather.Goals.{In-loop-i}

low : (c : In-loop-i) → get_or c.args.order.now c.loop-i.i 0 < length c.args.vectors.now
low c =
    let a = c.args in
    all_at (λ i. i < length a.vectors.now) a.order.now c.loop-i.i 0 c.requires.0 c.loop-i-test.true

pub loop-i-init : goal.loop-i-init
loop-i-init c = gathered_none _ _ _

pub overflow_cast-words : goal.overflow_cast-words
overflow_cast-words c = omega (arith, low (goal.at.overflow_cast-words c).In-loop-i, c.well_formed.0)

pub offset_bounds-vectors-m : goal.offset_bounds-vectors-m
offset_bounds-vectors-m c = omega (arith, low (goal.at.offset_bounds-vectors-m c).In-loop-i, c.well_formed.0)

pub bounds-vectors-m : goal.bounds-vectors-m
bounds-vectors-m c = low (goal.at.bounds-vectors-m c).In-loop-i

pub loop-i-preserved : goal.loop-i-preserved
loop-i-preserved c =
    gathered_more _ _ _ 0 _ _ c.loop-i-test.true c.requires.1 c.loop-i.invariant

pub returns : goal.returns
returns c = gathered_end _ _ _ _ _ c.loop-i-test.false c.loop-i.invariant
