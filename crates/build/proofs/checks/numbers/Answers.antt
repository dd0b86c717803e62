use native.Mathlib.Omega.{arith}
use mathlib.Core.Path.{◌∙◌}
use Rattle.lists.proofs.Writing.Mapped.{mapped_more}
use Rattle.vectors.proofs.Variables.Masking.{number_fits}
use Rattle.build.proofs.checks.numbers.Goals as goal

pub loop-i-preserved : goal.loop-i-preserved
loop-i-preserved c =
    let l = c.loop-i in
    mapped_more _ _ l.out l.i _ 0 c.loop-i-test.true (omega (arith, c.requires.1)) (c.number.ensures ∙ number_fits _ _ (omega (arith, c.requires.0))) l.invariant
