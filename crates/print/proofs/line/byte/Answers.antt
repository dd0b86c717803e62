use native.Mathlib.Omega.{arith}
use mathlib.Core.Path.{refl}
use Rattle.print.proofs.Writing.Pieces.{written_not, written_byte}
use Rattle.print.proofs.line.byte.Goals as goal

pub returns-then-out-at : goal.returns-then-out-at
returns-then-out-at c = written_not _ refl (omega arith)

pub returns : goal.returns
returns c = written_byte _ c.if-out-at.false
