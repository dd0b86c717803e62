use mathlib.Core.Path.{sym, ap, ◌∙◌}
use Rattle.choice.specs.Inner.Ties.{later_of}
use Rattle.choice.proofs.rule.later.Goals as goal

pub returns-in-One : goal.returns-in-One
returns-in-One c = c.mask.ensures ∙ ap later_of (sym c.in-One.is)

pub returns-in-Two : goal.returns-in-Two
returns-in-Two c = c.mask-in-Two.ensures ∙ ap later_of (sym c.in-Two.is)
