use Rattle.std.proofs.Common.{arith, ◌∙◌, ◌≡◌, length, take, length-take}
use Rattle.vectors.proofs.Variables.Masking.{masking_more, masking_end}
use Rattle.vectors.proofs.masks.Goals as goal

pub loop-i-preserved : goal.loop-i-preserved
loop-i-preserved c = masking_more _ _ c.loop-i.i _ _ (omega (arith, c.min.ensures, length-take c.min.result c.args.variables)) c.loop-i-test.true c.mask.ensures c.loop-i.invariant

pub returns : goal.returns
returns c =
    let size : c.loop-i.i ≡ length (take c.min.result c.args.variables) = omega arith in
    c.loop-i.invariant ∙ masking_end c.args.variables c.args.p c.min.result c.loop-i.i c.well_formed.0.1.0.1 c.min.ensures size
