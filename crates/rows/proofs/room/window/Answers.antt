use Rattle.std.proofs.Common.{rules}
use Rattle.rows.proofs.Taken.Bits.{window_bits}
use Rattle.rows.proofs.room.window.Goals as goal

pub returns : goal.returns
returns c = window_bits c.args.taken.now c.args.start (search rules)
