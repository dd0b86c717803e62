use Rattle.std.proofs.Common.{arith, ap, ◌∙◌}
use Rattle.std.proofs.Common.{pos}
use Rattle.record.specs.Record.{log2_up}
use Rattle.record.proofs.Excesses.{excess_word}
use Rattle.record.proofs.excess.Goals as goal

pub returns : goal.returns
returns c =
    let floor = c.from-3.ensures ∙ ap pos (c.log2_up.ensures ∙ ap log2_up c.from-2.ensures) in
    excess_word c.args.p c.args.k c.from.result c.from-3.result (omega arith) (omega arith) c.from.ensures floor
