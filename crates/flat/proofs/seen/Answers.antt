use Rattle.std.proofs.Common.{sym, ◌∙◌}
use Rattle.flat.proofs.Records.{unit_seen_lem, seen_unread}
use Rattle.flat.proofs.seen.Goals as goal

pub returns-then-not-readable : goal.returns-then-not-readable
returns-then-not-readable c = seen_unread _ _ (sym c.readable.ensures ∙ c.if-not-readable.true) c.blank.ensures

pub returns : goal.returns
returns c = c.unit.ensures ∙ unit_seen_lem _ _ c.low_variables.ensures (sym c.readable.ensures ∙ c.if-not-readable.false)
