use native.Mathlib.Omega.{arith}
use Rattle.choice.proofs.Laying.Pairs.{pairing_none, pairing_more, pairing_part, pairing_end}
use Rattle.choice.proofs.lay.pairs.Goals as goal

pub loop-i-init : goal.loop-i-init
loop-i-init c = pairing_none _ _ _

pub xored-requires : goal.xored-requires
xored-requires c =
    pairing_part _ _ _ 0 c.loop-i.out c.loop-i.w c.loop-i.i c.loop-i-test.true c.loop-i.invariant c.requires

pub overflow_add-w : goal.overflow_add-w
overflow_add-w c =
    omega (arith, pairing_part _ _ _ 0 c.loop-i.out c.loop-i.w c.loop-i.i c.loop-i-test.true c.loop-i.invariant c.requires, c.loop-i.invariant.size, c.well_formed.1.0)

pub loop-i-preserved : goal.loop-i-preserved
loop-i-preserved c =
    pairing_more _ _ _ 0 c.loop-i.out c.loop-i.w c.loop-i.i c.loop-i-test.true c.loop-i.invariant _ c.xored.ensures

pub shape_of-out : goal.shape_of-out
shape_of-out c = c.loop-i.invariant.size

pub returns : goal.returns
returns c = pairing_end _ _ _ _ _ _ c.loop-i-test.false c.loop-i.invariant
