use Rattle.std.proofs.Common.{ℕ, ◌-◌, get_or, ap, ◌∙◌}
use Rattle.record.specs.Tables.{lent}
use Rattle.recover.specs.Inner.Fixed.{vector_in}
use Rattle.recover.proofs.Recovery.{vector_low, vector_high}
use Rattle.recover.proofs.from_cell.Goals as goal

pub returns-then-cell-d : goal.returns-then-cell-d
returns-then-cell-d c = λ g aux f.
    let a = c.args in
    vector_low a.unit (lent a.h.now g aux) a.word a.cell (rw c.low-row.ensures at c.if-cell-d.true)

pub returns : goal.returns
returns c = λ g aux f.
    let a = c.args in
    c.fixed.ensures ∙ ap (λ (r : ℕ). vector_in a.unit a.word (a.cell - get_or a.h.now r 0)) c.low-row.ensures
    ∙ vector_high a.unit (lent a.h.now g aux) a.word a.cell f (rw c.low-row.ensures at c.if-cell-d.false)
