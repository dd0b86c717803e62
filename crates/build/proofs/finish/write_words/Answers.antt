use native.Mathlib.Omega.{arith}
use mathlib.Core.Path.{sym, ◌∙◌}
use lib.ListN.{length-set}
use Rattle.vectors.proofs.Variables.Masking.{word_fits}
use Rattle.build.proofs.Writing.Filling.{writing_none, writing_more, writing_end}
use Rattle.build.proofs.finish.write_words.Goals as goal

pub loop-i-init : goal.loop-i-init
loop-i-init c = (length-set c.args.aux.now 0 0 ∙ c.requires.0, writing_none _ _ c.args.aux.now c.requires.0)

pub bounds-aux-i : goal.bounds-aux-i
bounds-aux-i c = omega (arith, c.loop-i.invariant.1.size)

pub loop-i-preserved : goal.loop-i-preserved
loop-i-preserved c =
    (c.loop-i.invariant.0, writing_more _ c.loop-i.invariant.0 c.loop-i.invariant.1 c.loop-i-test.true (c.word.ensures ∙ word_fits _ _ _ c.ranges.kept.fits c.requires.1))

pub shape_of-aux : goal.shape_of-aux
shape_of-aux c = c.loop-i.invariant.1.size ∙ sym c.requires.0

pub returns : goal.returns
returns c = writing_end c.loop-i.invariant.0 c.loop-i.invariant.1 c.loop-i-test.false
