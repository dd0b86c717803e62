use mathlib.Core.Path.{◌∙◌}
use Rattle.words.proofs.Tests.{says_is}
use Rattle.words.proofs.says.Goals as goal

pub returns : goal.returns
returns c = c.eq.ensures ∙ says_is _ _
