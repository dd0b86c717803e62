use Rattle.rows.proofs.Taken.Search.{fit_in, fit_out}
use Rattle.rows.proofs.room.fit_at.Goals as goal

pub returns-then-c-d : goal.returns-then-c-d
returns-then-c-d c = fit_in _ _ _ c.if-c-d.true

pub returns : goal.returns
returns c = rw c.saturating_sub.ensures (fit_out _ _ _ c.if-c-d.false)
