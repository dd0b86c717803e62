use mathlib.Core.Path.{sym, ap, ◌∙◌}
use Rattle.transpose.specs.Turn.{turned}
use Rattle.transpose.proofs.Columns.{turned_in_lem, turned_none}
use Rattle.transpose.proofs.transpose.Goals as goal

pub returns-in-Some : goal.returns-in-Some
returns-in-Some c =
    let whole = c.in-Some.ensures.cases in
    c.turn.ensures ∙ ap turned whole.same ∙ sym (turned_in_lem _ whole.long)

pub returns-in_default : goal.returns-in_default
returns-in_default c = sym (turned_none _ c.in_default.ensures.cases)
