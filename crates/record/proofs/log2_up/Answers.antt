use Rattle.record.proofs.Excesses.{log2_next}
use Rattle.record.proofs.log2_up.Goals as goal

pub returns : goal.returns
returns c =
    let n = c.next_power_of_two.ensures in
    let q = c.ilog2.ensures in
    log2_next _ _ _ n.power.0 n.power.1 n.lower_bound n.upper_bound q.power_le q.next_power_gt
