use mathlib.Core.Path.{sym, ◌∙◌}
use Rattle.flat.proofs.Records.{unit_seen_lem}
use Rattle.bridge.proofs.Answers.{found_unread, found_by}
use Rattle.bridge.proofs.find.Goals as goal

pub returns-then-not-readable : goal.returns-then-not-readable
returns-then-not-readable c = found_unread _ _ _ (sym c.readable.ensures ∙ c.if-not-readable.true)

pub returns : goal.returns
returns c =
    let u = c.unit.ensures ∙ unit_seen_lem _ _ c.low_variables-variables.ensures (sym c.readable.ensures ∙ c.if-not-readable.false) in
    found_by _ _ _ _ _ u c.lookup.ensures
