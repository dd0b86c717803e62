use native.Mathlib.Omega.{arith}
use Rattle.choice.proofs.Counting.Three.{three}
use Rattle.choice.proofs.judge.ones_of_three.Goals as goal

pub returns : goal.returns
returns c =
    let a = c.args in
    let f = c.ranges in
    omega (arith, three 64 a.x a.y a.z f.x.fits f.y.fits f.z.fits, c.ones.ensures.0, c.ones-2.ensures.0)
