use native.Mathlib.Omega.{arith}
use mathlib.Core.Path.{◌∙◌}
use Rattle.flat.proofs.Ranges.{variable_in, variable_out}
use Rattle.flat.proofs.variable_at.Goals as goal

pub returns-then-word-gt131071 : goal.returns-then-word-gt131071
returns-then-word-gt131071 c = c.low_variable.ensures ∙ variable_out c.args.word (omega arith)

pub returns : goal.returns
returns c = c.low_variable-2.ensures ∙ variable_in c.args.word (omega arith)
