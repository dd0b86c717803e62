use native.Mathlib.Omega.{arith}
use mathlib.Core.Path.{◌∙◌}
use Rattle.bridge.proofs.Answers.{answered_written, filed_by_lem, length_fits}
use Rattle.bridge.proofs.igu_write.Goals as goal

pub answered-requires : goal.answered-requires
answered-requires c = omega (arith, (answered_written c.write.result).0, length_fits _ _ _ _ _ c.write.ensures)

pub returns : goal.returns
returns c = filed_by_lem _ _ _ _ _ _ _ c.seen.ensures c.write.ensures (c.answered.ensures ∙ (answered_written c.write.result).1)
