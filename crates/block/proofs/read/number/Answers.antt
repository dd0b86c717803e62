use native.Mathlib.Omega.{arith}
use mathlib.Core.Path.{◌∙◌}
use Rattle.block.proofs.Reading.Places.{number_short, number_none}
use Rattle.block.proofs.read.number.Goals as goal

pub returns-then-bytes-at : goal.returns-then-bytes-at
returns-then-bytes-at c = number_none _ _ _ c.if-bytes-at.true

pub returns : goal.returns
returns c = c.word.ensures ∙ number_short _ _ _ _ (omega arith) (omega (arith, c.min.ensures, c.min-2.ensures))
