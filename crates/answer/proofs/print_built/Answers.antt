use mathlib.Core.Path.{◌∙◌}
use Rattle.record.specs.Tables.{lent}
use Rattle.answer.proofs.Answers.{unit_printed, refusal_printed}
use Rattle.answer.proofs.print_built.Goals as goal

pub returns-in-Ok : goal.returns-in-Ok
returns-in-Ok c =
    rw c.in-Ok.is (c.print.ensures ∙ unit_printed (lent c.args.h.now c.args.g.now c.args.aux.now) c.args.out.now c.in-Ok.unit)

pub returns-in-Err : goal.returns-in-Err
returns-in-Err c =
    rw c.in-Err.is (c.refused.ensures ∙ refusal_printed (lent c.args.h.now c.args.g.now c.args.aux.now) c.args.out.now c.in-Err.refused)
