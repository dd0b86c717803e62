use mathlib.Core.Path.{sym, ◌∙◌}
use borrow.Author.Tests.{eqb-true}
use Rattle.choice.specs.Inner.Sheets.{gain_of}
use Rattle.choice.proofs.Searching.Best.{better_new, better_old}
use Rattle.choice.proofs.search.better.Goals as goal

pub returns-then-is_tied : goal.returns-then-is_tied
returns-then-is_tied c =
    better_old (gain_of c.args.sheet.now) c.args.best c.args.i c.args.j (c.requires.2 (eqb-true _ 1 (sym c.is_tied.ensures ∙ c.if-is_tied.true)))

pub returns-then-best-gain : goal.returns-then-best-gain
returns-then-best-gain c = better_new (gain_of c.args.sheet.now) c.args.best c.args.i c.args.j _ (c.gain-gain.ensures.above c.if-best-gain.true) c.if-best-gain.true

pub returns-else-best-gain : goal.returns-else-best-gain
returns-else-best-gain c = better_old (gain_of c.args.sheet.now) c.args.best c.args.i c.args.j (c.gain-gain.ensures.below c.if-best-gain.false)
