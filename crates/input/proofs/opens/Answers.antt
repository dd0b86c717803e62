use mathlib.Core.Path.{◌∙◌}
use Rattle.input.proofs.Opening.{opens_is}
use Rattle.input.proofs.opens.Goals as goal

pub returns : goal.returns
returns c = c.starts_with.ensures.value ∙ opens_is _ _
