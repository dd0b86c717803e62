use mathlib.Core.Path.{◌∙◌}
use Rattle.keys.proofs.Powers.{cells_none, cells_asked}
use Rattle.keys.proofs.cells_by.Goals as goal

pub returns-then-cells-eq0 : goal.returns-then-cells-eq0
returns-then-cells-eq0 c = c.cells_for.ensures ∙ cells_none c.args.cells c.args.k c.if-cells-eq0.true

pub returns : goal.returns
returns c = cells_asked c.args.cells c.args.k c.if-cells-eq0.false
