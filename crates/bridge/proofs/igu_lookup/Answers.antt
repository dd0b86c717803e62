use native.Mathlib.Omega.{arith}
use mathlib.Core.Path.{◌∙◌}
use Rattle.bridge.proofs.Answers.{answered_found, found_called, index_fits}
use Rattle.bridge.proofs.igu_lookup.Goals as goal

pub answered-requires : goal.answered-requires
answered-requires c = omega (arith, (answered_found c.find.result).0, index_fits _ _ _ _ c.find.ensures)

pub returns : goal.returns
returns c = found_called _ _ _ _ _ c.find.ensures (c.answered.ensures ∙ (answered_found c.find.result).1)
