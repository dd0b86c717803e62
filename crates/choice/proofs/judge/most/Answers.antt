use Prim.Native.Nat.{◌<◌}
use native.Mathlib.Omega.{arith}
use lib.ListN.{get_or}
use Rattle.choice.proofs.Counting.Judging.{most_more, most_all, square_low}
use Rattle.choice.proofs.judge.most.Goals as goal

pub overflow_mul-sum : goal.overflow_mul-sum
overflow_mul-sum c =
    let h : get_or c.args.sizes.now c.loop-s.s-index 0 < 65536 = omega (arith, c.type_inv.sizes c.loop-s.s-index) in
    omega (arith, square_low (get_or c.args.sizes.now c.loop-s.s-index 0) h)

pub overflow_add-sum : goal.overflow_add-sum
overflow_add-sum c = let l = c.loop-s in omega (arith, most_more _ l.sum l.s-index c.loop-s-test.true l.invariant, c.requires)

pub loop-s-preserved : goal.loop-s-preserved
loop-s-preserved c = let l = c.loop-s in most_more _ l.sum l.s-index c.loop-s-test.true l.invariant

pub returns : goal.returns
returns c = let l = c.loop-s in most_all _ l.sum l.s-index c.loop-s-test.false l.invariant
