use Rattle.print.proofs.Decimals.Digits.{length_most}
use mathlib.Core.Path.{sym}
use Rattle.print.proofs.decimal.digits.Goals as goal

pub returns : goal.returns
returns c =
    let l = c.ilog10.ensures in
    sym (length_most c.args.n c.ilog10.result (rw c.max.ensures at l.power_le) (rw c.max.ensures at l.next_power_gt))
