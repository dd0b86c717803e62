use mathlib.Core.Path.{◌∙◌}
use Rattle.record.specs.Tables.{lent}
use Rattle.pack.proofs.Packs.{numbered_packed}
use Rattle.pack.proofs.write_built.Goals as goal

pub returns-in-Ok : goal.returns-in-Ok
returns-in-Ok c = rw c.in-Ok.is c.write_numbered.ensures

pub returns-in-Err : goal.returns-in-Err
returns-in-Err c =
    rw c.in-Err.is
    ((rw (c.number.ensures, c.blank.ensures) at c.write_numbered-in-Err.ensures) ∙ numbered_packed (lent c.args.h.now c.args.g.now c.args.aux.now) c.args.out.now c.in-Err.refused)
