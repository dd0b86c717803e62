use Rattle.print.proofs.Writing.Pieces.{written_more}
use Rattle.print.proofs.line.field.Goals as goal

pub returns : goal.returns
returns c = written_more c.byte-after.ensures c.put.ensures
